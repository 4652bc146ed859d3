-- `tilt` meets its contract: a shift by 31 leaves the sign.
use mathlib.Core.Path.{◌≡◌, ◌∙◌, ap}
use Prim.Native.Nat.{◌^◌}
use native.Mathlib.Omega.{arith}
use lib.IntN.{ℤ}
use mir.Syntax.{w16, w32}
use mir.Val.{SFits, to_z, of_z}
use mir.Facts.{to_z-of_z}
use Rattle.arithmetic.specs.OrderLaws.{sfits_abs, sfits_shr, abs_sfits}
use Rattle.arithmetic.specs.RoundingLaws.{under_shr}
use Rattle.split.proofs.block.tilt.Statement.{statement}
use Rattle.split.proofs.block.tilt.Tie as tie

module _ (c : tie.Start) where
  abbrev x : ℤ
  x = c.args.x

  fits : SFits w32 x
  fits = sfits_abs x (omega (arith, abs_sfits c.ranges.x))

  -- as the machine has it
  x-is : to_z w32 (of_z w32 (to_z w16 (of_z w16 x))) ≡ x
  x-is = ap (λ (z : ℤ). to_z w32 (of_z w32 z)) (to_z-of_z c.ranges.x) ∙ to_z-of_z fits

cast_result : tie.Need-overflow_cast-result
cast_result c = rw (to_z-of_z c.ranges.x) (fits c)

returns : tie.Need-returns
returns c = rw (x-is c) (to_z-of_z (sfits_shr (x c) (2 ^ 31) (fits c)) ∙ under_shr (x c) (fits c).sfits)

pub tilt_spec : {M : Type 1} → statement M
tilt_spec = tie.close (tie.spec cast_result returns)
