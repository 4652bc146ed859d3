-- `sample` meets its contract: the half of n × 2^30 is n × 2^29, and a floor by 2^32 and then one by n / 4 is the floor by n × 2^30.
use mathlib.Core.Path.{◌≡◌, ◌∙◌, ap}
use Prim.Native.Nat.{ℕ, ◌*◌, ◌/◌, ◌^◌, ◌<◌}
use native.Mathlib.Omega.{arith}
use borrow.Author.Rules.{rules}
use lib.Dec.{lit<}
use lib.IntN.{ℤ, pos, ◌+ℤ◌}
use mir.Syntax.{w16, w32, w64}
use mir.Val.{SFits, to_z, of_z}
use mir.Facts.{to_z-of_z, to_z_pos}
use Rattle.arithmetic.specs.Rounding.{floor, rnd, clamp}
use Rattle.arithmetic.specs.OrderLaws.{sfits_abs, abs_add}
use Rattle.arithmetic.specs.RoundingLaws.{under, under_abs, under_self, rnd-parts}
use Rattle.arithmetic.specs.QuotientLaws.{quarters-few, splits-few, splits_four}
use Rattle.arithmetic.proofs.sample.Statement.{statement}
use Rattle.arithmetic.proofs.sample.Tie as tie

module _ (c : tie.Start) where
  abbrev a : ℤ
  a = c.args.a

  abbrev n : ℕ
  n = c.args.n

  few : n < 217
  few = (splits-few n c.requires.0).1

  -- the half, and the sum with it
  abbrev half : ℕ
  half = 536870912 * n

  half_is : to_z w64 half ≡ pos half
  half_is = to_z_pos w64 (omega (arith, few))

  abbrev tilted : ℤ
  tilted = a +ℤ under a

  tilted-fits : SFits w64 tilted
  tilted-fits = sfits_abs tilted (omega (arith, abs_add a (under a), under_abs a, few, c.requires.1))

  abbrev b : ℤ
  b = tilted +ℤ pos half

  b-fits : SFits w64 b
  b-fits = sfits_abs b (omega (arith, abs_add tilted (pos half), abs_add a (under a), under_abs a, few, c.requires.1))

  -- the two floors
  whole : 2 ^ 32 * (n / 4) ≡ n * 2 ^ 30
  whole = omega (arith, (splits_four n c.requires.0).0)

  parts : floor (floor b (2 ^ 32)) (n / 4) ≡ rnd a (n * 2 ^ 30)
  parts = rw (← whole) (rnd-parts a (under a) half {b = 2 ^ 32} (lit< tt) (quarters-few (n / 4) (splits_four n c.requires.0).1).0 (omega (arith, whole)) (under_self a))

tilt_requires : tie.Need-tilt-requires
tilt_requires c κs = search rules

-- what `tilt` gave, and the sums, as the machine has them
module _ (c : tie.After-tilt) where
  abbrev s₀ : tie.Start
  s₀ = c.before

  tilt_is : to_z w64 (of_z w64 c.tilt.result) ≡ under (a s₀)
  tilt_is = to_z-of_z {w = w64} {z = c.tilt.result} (record { sfits = c.tilt.type_inv }) ∙ c.tilt.ensures ∙ ap under (to_z-of_z s₀.ranges.a)

  tilted-is : to_z w64 (of_z w64 (to_z w64 (of_z w64 (a s₀)) +ℤ to_z w64 (of_z w64 c.tilt.result))) ≡ tilted s₀
  tilted-is = rw (tilt_is, to_z-of_z s₀.ranges.a) (to_z-of_z (tilted-fits s₀))

  b_is : to_z w64 (of_z w64 (to_z w64 (of_z w64 (to_z w64 (of_z w64 (a s₀)) +ℤ to_z w64 (of_z w64 c.tilt.result))) +ℤ to_z w64 (half s₀))) ≡ b s₀
  b_is = rw (tilted-is, half_is s₀) (to_z-of_z (b-fits s₀))

add_upper : tie.Need-overflow_add-a
add_upper c = rw (tilt_is c, to_z-of_z c.before.ranges.a) (tilted-fits c.before)

mul_upper : tie.Need-overflow_mul-n
mul_upper c = omega (arith, few c.before)

cast_upper : tie.Need-overflow_cast-n
cast_upper c = record { sfits = omega (arith, few c.before) }

add_upper_2 : tie.Need-overflow_add-a-2
add_upper_2 c = rw (tilted-is c, half_is c.before) (b-fits c.before)

upper_requires : tie.Need-upper-requires
upper_requires c κs = search rules

clamped_requires : tie.Need-clamped-requires
clamped_requires c κs = let s = c.before.before in (splits_four (n s) s.requires.0).1

returns : tie.Need-returns
returns c =
    let u = c.before in
    let s = u.before.before in
    to_z-of_z {w = w16} (record { sfits = c.clamped.type_inv })
    ∙ c.clamped.ensures
    ∙ ap (λ (z : ℤ). clamp (floor z (n s / 4))) (to_z-of_z {w = w32} (record { sfits = u.upper.type_inv }) ∙ u.upper.ensures ∙ ap (λ (z : ℤ). floor z (2 ^ 32)) (b_is u.before))
    ∙ ap clamp (parts s)

pub sample_spec : {M : Type 1} → statement M
sample_spec = tie.close (tie.spec tilt_requires add_upper mul_upper cast_upper add_upper_2 upper_requires clamped_requires returns)
