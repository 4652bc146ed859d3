-- `a_at` meets its contract: the place lies in the first third.
use mathlib.Core.Path.{refl}
use Prim.Native.Nat.{◌-◌, ◌/◌}
use native.Mathlib.Omega.{arith}
use lib.ListN.{length}
use mir.Syntax.{w32}
use mir.Facts.{to_z-of_z}
use Rattle.split.specs.ShortRoute.{a}
use borrow.Author.Rules.{rules}
use Rattle.split.proofs.thirds.a_at.Statement.{statement}
use Rattle.split.proofs.thirds.a_at.Tie as tie

sub_result : tie.Need-overflow_sub-result
sub_result c = search rules

sub_result_2 : tie.Need-overflow_sub-result-2
sub_result_2 c = search rules

mul_result : tie.Need-offset_bounds-y-y
mul_result c = search rules

shared_slice_copy_out_result : tie.Need-bounds-y-y
shared_slice_copy_out_result c = search rules

returns : tie.Need-returns
unfolding a
returns c =
    let s = c.before in
    rw (to_z-of_z {w = w32} (record { sfits = c.result-1.given })) (refl, s.requires.1.small (length s.args.y.now / 3 - 1 - s.args.n) (omega arith))

pub a_at_spec : {M : Type 1} → statement M
a_at_spec =
    tie.close (tie.spec sub_result sub_result_2 mul_result shared_slice_copy_out_result returns)
