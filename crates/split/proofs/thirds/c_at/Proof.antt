-- `c_at` meets its contract: the place lies in the last third.
use mathlib.Core.Path.{refl}
use Prim.Native.Nat.{◌-◌}
use native.Mathlib.Omega.{arith}
use lib.ListN.{length}
use mir.Syntax.{w32}
use mir.Facts.{to_z-of_z}
use Rattle.split.specs.ShortRoute.{c}
use borrow.Author.Rules.{rules}
use Rattle.split.proofs.thirds.c_at.Statement.{statement}
use Rattle.split.proofs.thirds.c_at.Tie as tie

sub_result : tie.Need-overflow_sub-result
sub_result c = search rules

sub_result_2 : tie.Need-overflow_sub-result-2
sub_result_2 c = search rules

mul_result : tie.Need-offset_bounds-y-y
mul_result c = search rules

shared_slice_copy_out_result : tie.Need-bounds-y-y
shared_slice_copy_out_result c = search rules

returns : tie.Need-returns
unfolding c
returns c =
    let s = c.before in
    rw (to_z-of_z {w = w32} (record { sfits = c.result-1.given })) (refl, s.requires.1.small (length s.args.y.now - 1 - s.args.n) (omega arith))

pub c_at_spec : {M : Type 1} → statement M
c_at_spec =
    tie.close (tie.spec sub_result sub_result_2 mul_result shared_slice_copy_out_result returns)
