-- `weighted` meets its contract: the products stay below 2^28, and their floors make the rounded product.
use mathlib.Core.Path.{◌≡◌, ap, ◌∙◌}
use Prim.Native.Nat.{ℕ, ◌+◌, ◌*◌, ◌/◌, ◌%◌, ◌^◌, ◌≤◌}
use native.Mathlib.Omega.{arith}
use borrow.Author.Rules.{rules}
use lib.Dec.{lit<}
use lib.IntN.{ℤ, pos, nat_abs, ◌+ℤ◌, ◌*ℤ◌}
use lib.Signed.{yes_non_neg, pos-nat_abs}
use mir.Syntax.{w16, w32}
use mir.Val.{SFits, to_z, of_z}
use mir.Facts.{to_z-of_z, to_z_pos}
use Rattle.arithmetic.specs.Rounding.{floor, rnd}
use Rattle.arithmetic.specs.OrderLaws.{sfits_abs, abs_sfits, abs_add, abs_mul_le}
use Rattle.arithmetic.specs.RoundingLaws.{floor_shr, floor_abs, under, under_abs, rnd_le}
use Rattle.split.specs.WindowLaws.{windowed-parts}
use Rattle.split.proofs.block.weighted.Statement.{statement}
use Rattle.split.proofs.block.weighted.Tie as tie

module _ (c : tie.Start) where
  abbrev x : ℤ
  x = c.args.x

  abbrev u : ℕ
  u = nat_abs c.args.w

  abbrev hi : ℤ
  hi = x *ℤ pos (u / 8192)

  abbrev low : ℤ
  low = x *ℤ pos (u % 8192)

  -- one less below zero
  abbrev lo : ℤ
  lo = low +ℤ under x

  hi_abs : nat_abs hi ≤ 2 ^ 15 * 2 ^ 13
  hi_abs = abs_mul_le x (pos (u / 8192)) {B = 2 ^ 13} (abs_sfits c.ranges.x) (omega (arith, c.requires.1))

  low_abs : nat_abs low ≤ 2 ^ 15 * 2 ^ 13
  low_abs = abs_mul_le x (pos (u % 8192)) {B = 2 ^ 13} (abs_sfits c.ranges.x) (omega arith)

  lo_abs : nat_abs lo ≤ 2 ^ 15 * 2 ^ 13 + 1
  lo_abs = omega (arith, abs_add low (under x), low_abs, under_abs x)

  sum_abs : nat_abs (hi +ℤ floor lo 8192) ≤ 2 ^ 29 + 1
  sum_abs = omega (arith, abs_add hi (floor lo 8192), floor_abs lo 8192, hi_abs, lo_abs)

  total_abs : nat_abs (hi +ℤ floor lo 8192 +ℤ pos 16) ≤ 2 ^ 30
  total_abs = omega (arith, abs_add (hi +ℤ floor lo 8192) (pos 16), sum_abs)

  x_fits : SFits w32 x
  x_fits = sfits_abs x (omega (arith, abs_sfits c.ranges.x))

  hi-fits : SFits w32 hi
  hi-fits = sfits_abs hi (omega (arith, hi_abs))

  low_fits : SFits w32 low
  low_fits = sfits_abs low (omega (arith, low_abs))

  lo-fits : SFits w32 lo
  lo-fits = sfits_abs lo (omega (arith, lo_abs))

  floor-fits : SFits w32 (floor lo 8192)
  floor-fits = sfits_abs (floor lo 8192) (omega (arith, floor_abs lo 8192, lo_abs))

  sum_fits : SFits w32 (hi +ℤ floor lo 8192)
  sum_fits = sfits_abs (hi +ℤ floor lo 8192) (omega (arith, sum_abs))

  total-fits : SFits w32 (hi +ℤ floor lo 8192 +ℤ pos 16)
  total-fits = sfits_abs (hi +ℤ floor lo 8192 +ℤ pos 16) (omega (arith, total_abs))

  -- as the machine has them
  x-is : to_z w32 (of_z w32 (to_z w16 (of_z w16 x))) ≡ x
  x-is = ap (λ (z : ℤ). to_z w32 (of_z w32 z)) (to_z-of_z c.ranges.x) ∙ to_z-of_z x_fits

  u-is : to_z w32 (of_z w32 c.args.w) ≡ c.args.w
  u-is = to_z-of_z c.ranges.w

  hi-part : to_z w32 (u / 8192 % 16384) ≡ pos (u / 8192)
  hi-part =
      let e : u / 8192 % 16384 ≡ u / 8192 = omega (arith, c.requires.1) in
      rw e (to_z_pos w32 {n = u / 8192} (omega (arith, c.requires.1)))

  lo-part : to_z w32 (u % 8192) ≡ pos (u % 8192)
  lo-part = to_z_pos w32 {n = u % 8192} (omega arith)

  is : floor (hi +ℤ floor lo 8192 +ℤ pos 16) 32 ≡ rnd (c.args.w *ℤ x) (2 ^ 18)
  is = windowed-parts x u ∙ rw (pos-nat_abs c.args.w (yes_non_neg c.requires.0))

cast_a : tie.Need-overflow_cast-a
cast_a c = rw (to_z-of_z c.ranges.x) (x_fits c)

cast_u : tie.Need-overflow_cast-u
cast_u c = rw (u-is c) (yes_non_neg c.requires.0, record { fits = omega (arith, c.requires.1) })

cast_hi : tie.Need-overflow_cast-hi
cast_hi c = search rules

cast_lo : tie.Need-overflow_cast-lo
cast_lo c = search rules

mul_result : tie.Need-overflow_mul-result
mul_result c = rw (x-is c, u-is c, hi-part c) (hi-fits c)

mul_result_2 : tie.Need-overflow_mul-result-2
mul_result_2 c = rw (x-is c, u-is c, lo-part c) (low_fits c)

tilt_requires : tie.Need-tilt-requires
tilt_requires c κs = search rules

-- what `tilt` gave, as the machine has it
tilt_is : (c : tie.After-tilt) → to_z w32 (of_z w32 c.tilt.result) ≡ under (x c.before)
tilt_is c = to_z-of_z {w = w32} {z = c.tilt.result} (record { sfits = c.tilt.type_inv }) ∙ c.tilt.ensures ∙ ap under (to_z-of_z c.before.ranges.x)

add_result : tie.Need-overflow_add-result
add_result c = let s = c.before in rw (tilt_is c, x-is s, u-is s, lo-part s, to_z-of_z (low_fits s)) (lo-fits s)

add_result_2 : tie.Need-overflow_add-result-2
add_result_2 c =
    let s = c.before in
    rw (tilt_is c, x-is s, u-is s, hi-part s, lo-part s, to_z-of_z (hi-fits s), to_z-of_z (low_fits s), to_z-of_z (lo-fits s), floor_shr (lo s) 8192, to_z-of_z (floor-fits s)) (sum_fits s)

add_result_3 : tie.Need-overflow_add-result-3
add_result_3 c =
    let s = c.before in
    rw (
      tilt_is c,
      x-is s,
      u-is s,
      hi-part s,
      lo-part s,
      to_z-of_z (hi-fits s),
      to_z-of_z (low_fits s),
      to_z-of_z (lo-fits s),
      floor_shr (lo s) 8192,
      to_z-of_z (floor-fits s),
      to_z-of_z (sum_fits s),
    )
    (total-fits s)

returns : tie.Need-returns
returns t =
    let c = t.before in
    let z = hi c +ℤ floor (lo c) 8192 +ℤ pos 16 in
    let small : nat_abs (rnd (c.args.w *ℤ x c) (2 ^ 18)) ≤ 2 ^ 23 =
    rnd_le (c.args.w *ℤ x c) {b = 2 ^ 18} {n = 2 ^ 23} (lit< tt) (abs_mul_le c.args.w (x c) c.requires.1 (abs_sfits c.ranges.x)) in
    let fits : SFits w32 (rnd (c.args.w *ℤ x c) (2 ^ 18)) = sfits_abs (rnd (c.args.w *ℤ x c) (2 ^ 18)) (omega arith) in
    rw (
      tilt_is t,
      x-is c,
      u-is c,
      hi-part c,
      lo-part c,
      to_z-of_z (hi-fits c),
      to_z-of_z (low_fits c),
      to_z-of_z (lo-fits c),
      floor_shr (lo c) 8192,
      to_z-of_z (floor-fits c),
      to_z-of_z (sum_fits c),
      to_z-of_z (total-fits c),
      floor_shr z 32,
      is c,
    )
    (to_z-of_z fits, rw (to_z-of_z fits) small)

pub weighted_spec : {M : Type 1} → statement M
weighted_spec =
    tie.close
    (tie.spec
    cast_a
    cast_u
    cast_hi
    cast_lo
    mul_result
    mul_result_2
    tilt_requires
    add_result
    add_result_2
    add_result_3
    returns)
