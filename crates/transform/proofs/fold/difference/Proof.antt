-- `difference` meets its contract: a sample and its mirrored one with the sign changed make their difference, which is small.
use mathlib.Core.Path.{◌≡◌, ap₂}
use Prim.Native.Nat.{◌^◌, ◌≤◌}
use native.Mathlib.Omega.{arith}
use lib.Dec.{lit≤}
use lib.IntN.{ℤ, negsuc, nat_abs, ◌+ℤ◌, ◌-ℤ◌, ◌*ℤ◌}
use mir.Syntax.{w32}
use mir.Val.{SFits, to_z, of_z}
use mir.Facts.{to_z-of_z}
use Rattle.arithmetic.specs.IntegerLaws.{ints}
use Rattle.arithmetic.specs.OrderLaws.{sfits_abs, abs_add, abs_sub, abs_mul_le}
use borrow.Author.Rules.{rules}
use Rattle.transform.proofs.fold.difference.Statement.{statement}
use Rattle.transform.proofs.fold.difference.Tie as tie

-- src/fold.rt:33:5
windowed_requires : tie.Need-windowed-requires
windowed_requires c κs = search rules

-- src/fold.rt:33:42
windowed_requires_2 : tie.Need-windowed-requires-2
windowed_requires_2 c κs = search rules

-- src/fold.rt:33:31
module _ (c : tie.After-windowed-2) where
  abbrev a : ℤ
  a = c.before.windowed.result

  abbrev b : ℤ
  b = c.windowed-2.result

  a_is : to_z w32 (of_z w32 a) ≡ a
  a_is = to_z-of_z {w = w32} {z = a} (record { sfits = c.before.windowed.type_inv })

  b_is : to_z w32 (of_z w32 b) ≡ b
  b_is = to_z-of_z {w = w32} {z = b} (record { sfits = c.windowed-2.type_inv })

  -- a sign's product with b fits, and so does its sum with a
  signed-fits : (s : ℤ) → nat_abs s ≤ 1 → SFits w32 (s *ℤ b)
  signed-fits s p = sfits_abs (s *ℤ b) (omega (arith, abs_mul_le s b p c.windowed-2.ensures.1))

  sum_fits : (s : ℤ) → nat_abs s ≤ 1 → SFits w32 (a +ℤ s *ℤ b)
  sum_fits s p = sfits_abs (a +ℤ s *ℤ b) (omega (arith, abs_add a (s *ℤ b), abs_mul_le s b p c.windowed-2.ensures.1, c.before.windowed.ensures.1))

  -- with the sign changed, the sum is the difference
  less : a +ℤ negsuc 0 *ℤ b ≡ a -ℤ b
  less = simp ints (omega arith)

  less_abs : nat_abs (a -ℤ b) ≤ 2 ^ 24
  less_abs = omega (arith, abs_sub a b, c.before.windowed.ensures.1, c.windowed-2.ensures.1)

mul_result : tie.Need-overflow_mul-result
mul_result c = rw (b_is c) (signed-fits c (negsuc 0) (lit≤ tt))

-- src/fold.rt:33:5
add_result : tie.Need-overflow_add-result
add_result c = rw (a_is c, b_is c, to_z-of_z (signed-fits c (negsuc 0) (lit≤ tt))) (sum_fits c (negsuc 0) (lit≤ tt))

-- src/fold.rt:29:1
returns : tie.Need-returns
returns c =
    rw (a_is c, b_is c, to_z-of_z (signed-fits c (negsuc 0) (lit≤ tt)), to_z-of_z (sum_fits c (negsuc 0) (lit≤ tt)), less c)
    (ap₂ (λ (a b : ℤ). a -ℤ b) c.before.windowed.ensures.0 c.windowed-2.ensures.0, less_abs c)

pub difference_spec : {M : Type 1} → statement M
difference_spec =
    tie.close (tie.spec windowed_requires windowed_requires_2 mul_result add_result returns)
