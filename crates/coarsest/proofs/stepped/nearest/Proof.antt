-- `nearest` meets its contract: the quotient by a product is the quotient, and its multiple of the step is no larger than what was divided.
use mathlib.Core.Path.{◌≡◌, refl, ap, ◌∙◌}
use Prim.Native.Nat.{ℕ, ◌+◌, ◌*◌, ◌/◌, ◌^◌, ◌≤◌}
use native.Mathlib.Omega.{arith}
use borrow.Author.Rules.{rules}
use Rattle.coarsest.specs.SteppedLaws.{Tried, product-fits, quotient_is, quotient_most, multiple-most}
use Rattle.coarsest.proofs.stepped.nearest.Statement.{statement}
use Rattle.coarsest.proofs.stepped.nearest.Tie as tie

module _ (s : tie.Start) where
  abbrev step : ℕ
  step = s.args.step

  abbrev tried : Tried step
  tried = s.requires.1.0

  abbrev raised : ℕ
  raised = s.args.size + step / 2

  few : raised ≤ 216 * 2 ^ 21 + 512
  few = omega (arith, s.requires.0, tried.most)

  -- the quotient
  count-is : raised * s.args.inverse / 2 ^ 39 ≡ raised / step
  count-is = ap (λ (k : ℕ). raised * k / 2 ^ 39) s.requires.1.1 ∙ quotient_is step tried raised few

  count-few : raised / step ≤ 2 ^ 29
  count-few = omega (arith, quotient_most step tried raised few, few)

  multiple-few : raised / step * step ≤ 2 ^ 29
  multiple-few = omega (arith, multiple-most step tried raised few, few)

add_raised : tie.Need-overflow_add-raised
add_raised c = search rules

cast_count : tie.Need-overflow_cast-count
cast_count c = search rules

mul_count : tie.Need-overflow_mul-count
mul_count c = rw c.requires.1.1 (record { fits = product-fits (step c) (tried c) (raised c) (few c) })

cast_result : tie.Need-overflow_cast-result
cast_result c = rw (count-is c) (record { fits = omega (arith, count-few c) })

mul_result : tie.Need-overflow_mul-result
mul_result c = rw (count-is c) (record { fits = omega (arith, multiple-few c) })

returns : tie.Need-returns
returns c = rw (count-is c) (refl, multiple-few c)

pub nearest_spec : {M : Type 1} → statement M
nearest_spec = tie.close (tie.spec add_raised cast_count mul_count cast_result mul_result returns)
