-- `b_at` meets its contract: the place lies in the second third.
use mathlib.Core.Path.{refl}
use Prim.Native.Nat.{◌-◌, ◌*◌, ◌/◌}
use native.Mathlib.Omega.{arith}
use lib.ListN.{length}
use mir.Syntax.{w32}
use mir.Facts.{to_z-of_z}
use Rattle.split.specs.ShortRoute.{b}
use borrow.Author.Rules.{rules}
use Rattle.split.proofs.thirds.b_at.Statement.{statement}
use Rattle.split.proofs.thirds.b_at.Tie as tie

mul_result : tie.Need-overflow_mul-result
mul_result c = search rules

sub_result : tie.Need-overflow_sub-result
sub_result c = search rules

sub_result_2 : tie.Need-overflow_sub-result-2
sub_result_2 c = search rules

mul_result_2 : tie.Need-offset_bounds-y-y
mul_result_2 c = search rules

shared_slice_copy_out_result : tie.Need-bounds-y-y
shared_slice_copy_out_result c = search rules

returns : tie.Need-returns
unfolding b
returns c =
    let s = c.before in
    rw (to_z-of_z {w = w32} (record { sfits = c.result-1.given })) (refl, s.requires.1.small (2 * length s.args.y.now / 3 - 1 - s.args.n) (omega arith))

pub b_at_spec : {M : Type 1} → statement M
b_at_spec =
    tie.close
    (tie.spec mul_result sub_result sub_result_2 mul_result_2 shared_slice_copy_out_result returns)
