-- `weighted` meets its contract: the numbers stay below 2^58, and what is left of them is the rounded product.
use mathlib.Core.Path.{◌≡◌, subst, ap, ◌∙◌}
use Prim.Native.Nat.{◌+◌, ◌*◌, ◌^◌, ◌≤◌}
use native.Mathlib.Omega.{arith}
use lib.Dec.{lit<}
use lib.IntN.{ℤ, pos, nat_abs, ◌+ℤ◌, ◌*ℤ◌}
use lib.Signed.{shr_z, yes_non_neg, pos-nat_abs}
use mir.Syntax.{w16, w32, w64}
use mir.Val.{SFits, to_z, of_z}
use mir.Facts.{to_z-of_z}
use Rattle.arithmetic.specs.Rounding.{floor, rnd}
use Rattle.arithmetic.specs.OrderLaws.{sfits_abs, sfits_shr, abs_sfits, abs_add, abs_mul_le}
use Rattle.arithmetic.specs.RoundingLaws.{floor_shr, rnd_le}
use Rattle.transform.specs.HopLaws.{windowed-beside}
use Rattle.transform.proofs.fold.weighted.Statement.{statement}
use Rattle.transform.proofs.fold.weighted.Tie as tie

module _ (c : tie.Start) where
  abbrev w : ℤ
  w = c.args.w

  abbrev x : ℤ
  x = c.args.x

  abbrev large : ℤ
  large = w *ℤ pos 65536

  abbrev beside : ℤ
  beside = large +ℤ pos 1

  abbrev product : ℤ
  product = beside *ℤ x

  abbrev total : ℤ
  total = product +ℤ pos (2 ^ 33)

  large_abs : nat_abs large ≤ 2 ^ 26 * 65536
  large_abs = abs_mul_le w (pos 65536) {B = 65536} c.requires.1 (omega arith)

  beside_abs : nat_abs beside ≤ 2 ^ 42 + 1
  beside_abs = omega (arith, abs_add large (pos 1), large_abs)

  product_abs : nat_abs product ≤ (2 ^ 42 + 1) * 2 ^ 15
  product_abs = abs_mul_le beside x beside_abs (abs_sfits c.ranges.x)

  w_fits : SFits w64 w
  w_fits = sfits_abs w (omega (arith, c.requires.1))

  x_fits : SFits w64 x
  x_fits = sfits_abs x (omega (arith, abs_sfits c.ranges.x))

  large-fits : SFits w64 large
  large-fits = sfits_abs large (omega (arith, large_abs))

  beside-fits : SFits w64 beside
  beside-fits = sfits_abs beside (omega (arith, beside_abs))

  product-fits : SFits w64 product
  product-fits = sfits_abs product (omega (arith, product_abs))

  total-fits : SFits w64 total
  total-fits = sfits_abs total (omega (arith, abs_add product (pos (2 ^ 33)), product_abs))

  -- as the machine has them
  w-is : to_z w64 (of_z w64 (to_z w32 (of_z w32 w))) ≡ w
  w-is = ap (λ (z : ℤ). to_z w64 (of_z w64 z)) (to_z-of_z c.ranges.w) ∙ to_z-of_z w_fits

  x-is : to_z w64 (of_z w64 (to_z w16 (of_z w16 x))) ≡ x
  x-is = ap (λ (z : ℤ). to_z w64 (of_z w64 z)) (to_z-of_z c.ranges.x) ∙ to_z-of_z x_fits

  -- the rounded product
  is : floor total (2 ^ 34) ≡ rnd (w *ℤ x) (2 ^ 18)
  is = subst (λ (v : ℤ). floor ((v *ℤ pos 65536 +ℤ pos 1) *ℤ x +ℤ pos (2 ^ 33)) (2 ^ 34) ≡ rnd (v *ℤ x) (2 ^ 18)) (pos-nat_abs w (yes_non_neg c.requires.0)) (windowed-beside (nat_abs w) x (abs_sfits c.ranges.x))

  small : nat_abs (rnd (w *ℤ x) (2 ^ 18)) ≤ 2 ^ 23
  small = rnd_le (w *ℤ x) {b = 2 ^ 18} {n = 2 ^ 23} (lit< tt) (abs_mul_le w x c.requires.1 (abs_sfits c.ranges.x))

  fits : SFits w32 (rnd (w *ℤ x) (2 ^ 18))
  fits = sfits_abs (rnd (w *ℤ x) (2 ^ 18)) (omega (arith, small))

  shifted : to_z w64 (of_z w64 (shr_z total (2 ^ 34))) ≡ rnd (w *ℤ x) (2 ^ 18)
  shifted = to_z-of_z (sfits_shr total (2 ^ 34) total-fits) ∙ floor_shr total (2 ^ 34) ∙ is

cast_result : tie.Need-overflow_cast-result
cast_result c = rw (to_z-of_z c.ranges.w) (w_fits c)

mul_result : tie.Need-overflow_mul-result
mul_result c = rw (w-is c) (large-fits c)

add_result : tie.Need-overflow_add-result
add_result c = rw (w-is c, to_z-of_z (large-fits c)) (beside-fits c)

cast_result_2 : tie.Need-overflow_cast-result-2
cast_result_2 c = rw (to_z-of_z c.ranges.x) (x_fits c)

mul_result_2 : tie.Need-overflow_mul-result-2
mul_result_2 c = rw (w-is c, to_z-of_z (large-fits c), to_z-of_z (beside-fits c), x-is c) (product-fits c)

add_result_2 : tie.Need-overflow_add-result-2
add_result_2 c = rw (w-is c, to_z-of_z (large-fits c), to_z-of_z (beside-fits c), x-is c, to_z-of_z (product-fits c)) (total-fits c)

cast_result_3 : tie.Need-overflow_cast-result-3
cast_result_3 c = rw (w-is c, to_z-of_z (large-fits c), to_z-of_z (beside-fits c), x-is c, to_z-of_z (product-fits c), to_z-of_z (total-fits c), shifted c) (fits c)

returns : tie.Need-returns
returns c =
    rw (w-is c, to_z-of_z (large-fits c), to_z-of_z (beside-fits c), x-is c, to_z-of_z (product-fits c), to_z-of_z (total-fits c), shifted c)
    (to_z-of_z (fits c), rw (to_z-of_z (fits c)) (small c))

pub weighted_spec : {M : Type 1} → statement M
weighted_spec = tie.close (tie.spec cast_result mul_result add_result cast_result_2 mul_result_2 add_result_2 cast_result_3 returns)
