-- `weighted` meets its contract: the product is within 2^62.
use mathlib.Core.Path.{◌≡◌}
use native.Mathlib.Omega.{arith}
use lib.IntN.{◌*ℤ◌}
use mir.Syntax.{w32, w64}
use mir.Val.{SFits, to_z, of_z}
use mir.Facts.{to_z-of_z, sfits_widen}
use Rattle.arithmetic.specs.OrderLaws.{signs, sfits_abs, abs_mul_le}
use Rattle.transform.proofs.unfold.weighted.Statement.{statement}
use Rattle.transform.proofs.unfold.weighted.Tie as tie

cast_result : tie.Need-overflow_cast-result
cast_result c = search signs

-- the product, as the machine has it
module _ (c : tie.Start) where
  product-fits : SFits w64 (c.args.w *ℤ c.args.u)
  product-fits = sfits_abs (c.args.w *ℤ c.args.u) (omega (arith, abs_mul_le c.args.w c.args.u c.requires.0 c.requires.1))

  factor : to_z w64 (of_z w64 (to_z w32 (of_z w32 c.args.w))) ≡ c.args.w
  factor = rw (to_z-of_z c.ranges.w) (to_z-of_z (sfits_widen {w = w32} {w' = w64} tt c.ranges.w))

mul_result : tie.Need-overflow_mul-result
mul_result c = rw (factor c, to_z-of_z c.ranges.u) (product-fits c)

returns : tie.Need-returns
returns c = rw (factor c, to_z-of_z c.ranges.u) (to_z-of_z (product-fits c))

pub weighted_spec : {M : Type 1} → statement M
weighted_spec = tie.close (tie.spec cast_result mul_result returns)
