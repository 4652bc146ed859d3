-- `middle_at` meets its contract: a - b + c is small.
use mathlib.Core.Path.{◌≡◌, ap₂}
use Prim.Native.Nat.{◌*◌, ◌^◌, ◌≤◌}
use native.Mathlib.Omega.{arith}
use lib.IntN.{ℤ, nat_abs, ◌+ℤ◌, ◌-ℤ◌}
use mir.Syntax.{w32}
use mir.Val.{SFits, to_z, of_z}
use mir.Facts.{to_z-of_z}
use Rattle.arithmetic.specs.OrderLaws.{sfits_abs, abs_add, abs_sub}
use Rattle.split.specs.ShortRoute.{c}
use borrow.Author.Rules.{rules}
use Rattle.split.proofs.thirds.middle_at.Statement.{statement}
use Rattle.split.proofs.thirds.middle_at.Tie as tie

a_at_requires : tie.Need-a_at-requires
a_at_requires c κs = search rules

b_at_requires : tie.Need-b_at-requires
b_at_requires c κs = search rules

module _ (k : tie.After-b_at) where
  less_abs : nat_abs (k.before.a_at.result -ℤ k.b_at.result) ≤ 2 * 2 ^ 26
  less_abs = omega (arith, abs_sub k.before.a_at.result k.b_at.result, k.before.a_at.ensures.1, k.b_at.ensures.1)

  less-fits : SFits w32 (k.before.a_at.result -ℤ k.b_at.result)
  less-fits = sfits_abs (k.before.a_at.result -ℤ k.b_at.result) (omega (arith, less_abs))

  -- as the machine has them
  a_is : to_z w32 (of_z w32 k.before.a_at.result) ≡ k.before.a_at.result
  a_is = to_z-of_z {w = w32} {z = k.before.a_at.result} (record { sfits = k.before.a_at.type_inv })

  b_is : to_z w32 (of_z w32 k.b_at.result) ≡ k.b_at.result
  b_is = to_z-of_z {w = w32} {z = k.b_at.result} (record { sfits = k.b_at.type_inv })

module _ (k : tie.After-c_at) where
  sum_fits : SFits w32 (k.before.before.a_at.result -ℤ k.before.b_at.result +ℤ k.c_at.result)
  sum_fits =
      let z = k.before.before.a_at.result -ℤ k.before.b_at.result in
      sfits_abs (z +ℤ k.c_at.result) (omega (arith, abs_add z k.c_at.result, less_abs k.before, k.c_at.ensures.1))

  c_is : to_z w32 (of_z w32 k.c_at.result) ≡ k.c_at.result
  c_is = to_z-of_z {w = w32} {z = k.c_at.result} (record { sfits = k.c_at.type_inv })

sub_result : tie.Need-overflow_sub-result
sub_result k = rw (a_is k, b_is k) (less-fits k)

c_at_requires : tie.Need-c_at-requires
c_at_requires c κs = search rules

add_result : tie.Need-overflow_add-result
add_result k = rw (a_is k.before, b_is k.before, to_z-of_z (less-fits k.before), c_is k) (sum_fits k)

returns : tie.Need-returns
returns k =
    rw (a_is k.before, b_is k.before, to_z-of_z (less-fits k.before), c_is k, to_z-of_z (sum_fits k))
    (ap₂ (λ (u v : ℤ). u +ℤ v) (ap₂ (λ (u v : ℤ). u -ℤ v) k.before.before.a_at.ensures.0 k.before.b_at.ensures.0) k.c_at.ensures.0)

pub middle_at_spec : {M : Type 1} → statement M
middle_at_spec =
    tie.close (tie.spec a_at_requires b_at_requires sub_result c_at_requires add_result returns)
