-- `e_at` meets its contract: 2c - a + b is small.
use mathlib.Core.Path.{◌≡◌, ap₂}
use Prim.Native.Nat.{◌*◌, ◌^◌, ◌≤◌}
use native.Mathlib.Omega.{arith}
use lib.IntN.{ℤ, pos, nat_abs, ◌+ℤ◌, ◌-ℤ◌, ◌*ℤ◌}
use mir.Syntax.{w32}
use mir.Val.{SFits, to_z, of_z}
use mir.Facts.{to_z-of_z}
use Rattle.arithmetic.specs.OrderLaws.{sfits_abs, abs_add, abs_sub, abs_mul}
use Rattle.split.specs.ShortRoute.{c, e}
use borrow.Author.Rules.{rules}
use Rattle.split.proofs.thirds.e_at.Statement.{statement}
use Rattle.split.proofs.thirds.e_at.Tie as tie

c_at_requires : tie.Need-c_at-requires
c_at_requires c κs = search rules

-- the values on the way: 2c, 2c - a, 2c - a + b
module _ (k : tie.After-c_at) where
  abbrev twice : ℤ
  twice = pos 2 *ℤ k.c_at.result

  twice_abs : nat_abs twice ≤ 2 * 2 ^ 26
  twice_abs = omega (arith, abs_mul (pos 2) k.c_at.result, k.c_at.ensures.1)

  twice-fits : SFits w32 twice
  twice-fits = sfits_abs twice (omega (arith, twice_abs))

  c_is : to_z w32 (of_z w32 k.c_at.result) ≡ k.c_at.result
  c_is = to_z-of_z {w = w32} {z = k.c_at.result} (record { sfits = k.c_at.type_inv })

module _ (k : tie.After-a_at) where
  abbrev less : ℤ
  less = twice k.before -ℤ k.a_at.result

  less_abs : nat_abs less ≤ 3 * 2 ^ 26
  less_abs = omega (arith, abs_sub (twice k.before) k.a_at.result, twice_abs k.before, k.a_at.ensures.1)

  less-fits : SFits w32 less
  less-fits = sfits_abs less (omega (arith, less_abs))

  a_is : to_z w32 (of_z w32 k.a_at.result) ≡ k.a_at.result
  a_is = to_z-of_z {w = w32} {z = k.a_at.result} (record { sfits = k.a_at.type_inv })

module _ (k : tie.After-b_at) where
  sum_fits : SFits w32 (less k.before +ℤ k.b_at.result)
  sum_fits = sfits_abs (less k.before +ℤ k.b_at.result) (omega (arith, abs_add (less k.before) k.b_at.result, less_abs k.before, k.b_at.ensures.1))

  b_is : to_z w32 (of_z w32 k.b_at.result) ≡ k.b_at.result
  b_is = to_z-of_z {w = w32} {z = k.b_at.result} (record { sfits = k.b_at.type_inv })

mul_result : tie.Need-overflow_mul-result
mul_result k = rw (c_is k) (twice-fits k)

a_at_requires : tie.Need-a_at-requires
a_at_requires c κs = search rules

sub_result : tie.Need-overflow_sub-result
sub_result k = rw (c_is k.before, to_z-of_z (twice-fits k.before), a_is k) (less-fits k)

b_at_requires : tie.Need-b_at-requires
b_at_requires c κs = search rules

add_result : tie.Need-overflow_add-result
add_result k = rw (c_is k.before.before, to_z-of_z (twice-fits k.before.before), a_is k.before, to_z-of_z (less-fits k.before), b_is k) (sum_fits k)

returns : tie.Need-returns
unfolding e
returns k =
    rw (c_is k.before.before, to_z-of_z (twice-fits k.before.before), a_is k.before, to_z-of_z (less-fits k.before), b_is k, to_z-of_z (sum_fits k))
    (ap₂ (λ (u v : ℤ). u +ℤ v) (ap₂ (λ (u v : ℤ). pos 2 *ℤ u -ℤ v) k.before.before.c_at.ensures.0 k.before.a_at.ensures.0) k.b_at.ensures.0)

pub e_at_spec : {M : Type 1} → statement M
e_at_spec =
    tie.close
    (tie.spec c_at_requires mul_result a_at_requires sub_result b_at_requires add_result returns)
