-- `f_at` meets its contract: the sum of two inputs is small.
use mathlib.Core.Path.{◌≡◌, ap₂}
use native.Mathlib.Omega.{arith}
use lib.IntN.{ℤ, ◌+ℤ◌}
use mir.Syntax.{w32}
use mir.Val.{SFits, to_z, of_z}
use mir.Facts.{to_z-of_z}
use Rattle.arithmetic.specs.OrderLaws.{sfits_abs, abs_add}
use Rattle.split.specs.ShortRoute.{c, f}
use borrow.Author.Rules.{rules}
use Rattle.split.proofs.thirds.f_at.Statement.{statement}
use Rattle.split.proofs.thirds.f_at.Tie as tie

a_at_requires : tie.Need-a_at-requires
a_at_requires c κs = search rules

b_at_requires : tie.Need-b_at-requires
b_at_requires c κs = search rules

module _ (k : tie.After-b_at) where
  sum_fits : SFits w32 (k.before.a_at.result +ℤ k.b_at.result)
  sum_fits = sfits_abs (k.before.a_at.result +ℤ k.b_at.result) (omega (arith, abs_add k.before.a_at.result k.b_at.result, k.before.a_at.ensures.1, k.b_at.ensures.1))

  -- as the machine has them
  first_is : to_z w32 (of_z w32 k.before.a_at.result) ≡ k.before.a_at.result
  first_is = to_z-of_z {w = w32} {z = k.before.a_at.result} (record { sfits = k.before.a_at.type_inv })

  second_is : to_z w32 (of_z w32 k.b_at.result) ≡ k.b_at.result
  second_is = to_z-of_z {w = w32} {z = k.b_at.result} (record { sfits = k.b_at.type_inv })

add_result : tie.Need-overflow_add-result
add_result k = rw (first_is k, second_is k) (sum_fits k)

returns : tie.Need-returns
unfolding f
returns k = rw (first_is k, second_is k, to_z-of_z (sum_fits k)) (ap₂ (λ (u v : ℤ). u +ℤ v) k.before.a_at.ensures.0 k.b_at.ensures.0)

pub f_at_spec : {M : Type 1} → statement M
f_at_spec = tie.close (tie.spec a_at_requires b_at_requires add_result returns)
