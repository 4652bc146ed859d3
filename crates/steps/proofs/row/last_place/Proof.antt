-- `last_place` meets its contract: m - 1 fits 64 bits with a sign.
use Prim.Native.Nat.{◌-◌}
use native.Mathlib.Omega.{arith}
use borrow.Author.Rules.{rules}
use mir.Syntax.{w64}
use mir.Facts.{to_z_pos}
use Rattle.steps.proofs.row.last_place.Statement.{statement}
use Rattle.steps.proofs.row.last_place.Tie as tie

sub_result : tie.Need-overflow_sub-result
sub_result c = search rules

cast_result : tie.Need-overflow_cast-result
cast_result c = search rules

returns : tie.Need-returns
returns c = to_z_pos w64 {n = c.args.m - 1} (omega arith)

pub last_place_spec : {M : Type 1} → statement M
last_place_spec = tie.close (tie.spec sub_result cast_result returns)
