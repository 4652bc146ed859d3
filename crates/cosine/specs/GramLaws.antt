-- Laws of the folded kernel's rows: each is orthogonal to the others, and the sum of its squares is (M/2) × 2^52, all up to N × 2^27.
use Rattle.std.specs.Prelude.{◌≡◌, Bool, T, ℤ, pos, negsuc, nat_abs}
use Prim.Native.Nat.{ℕ, suc, ◌+◌, ◌-◌, ◌*◌, ◌/◌, ◌^◌, ◌≤◌, ◌<◌}
use native.Mathlib.Omega.{arith}
use Rattle.std.proofs.Common.{lit<}
use Rattle.arithmetic.specs.Sums.{sum_ℕ}
use Rattle.arithmetic.specs.Lists.{every}
use Rattle.arithmetic.specs.IntegerLaws.{◌⊖◌, ⊖_is}
use Rattle.cosine.specs.Cosine.{reduced, to_half, to_turn, continued}
use Rattle.cosine.specs.Kernels.{lengths, tabled, d, F}
use Rattle.cosine.specs.TableLaws.{numbers}
use Rattle.cosine.specs.CosineLaws.{table_c, C-table}
use Rattle.cosine.specs.LengthLaws.{tabled_length, of_tabled}
use Rattle.cosine.specs.KernelLaws.{F-size}
use Rattle.cosine.specs.PackLaws.{passes, defect, law}

-- z + O, where z is not below -O
shifted : ℕ → ℤ → ℕ
shifted O (pos m) = O + m
shifted O (negsuc m) = O - suc m

module _ (O : ℕ) where
  shifted-is : (z : ℤ) → nat_abs z ≤ O → z ≡ shifted O z ⊖ O
  unfolding shifted
  shifted-is (pos m) h = ⊖_is (pos m) (O + m) O (omega arith)
  shifted-is (negsuc m) h = ⊖_is (negsuc m) (O - suc m) O (omega arith)

  shifted_le : (z : ℤ) → nat_abs z ≤ O → shifted O z ≤ O + O
  unfolding shifted
  shifted_le (pos m) h = omega arith
  shifted_le (negsuc m) h = omega arith

-- F read from the table, made positive
entry : ℕ → ℕ → ℕ → ℕ
entry N j k = shifted (2 ^ 26) (table_c (pos (d N * (2 * j + 1) * (2 * k + 1))))

entry-is : (N j k : ℕ) → entry N j k ≡ shifted (2 ^ 26) (F N j k)
unfolding entry F
entry-is N j k = rw (C-table (pos (d N * (2 * j + 1) * (2 * k + 1))))

passed : ℕ → Bool
passed N = passes (2 ^ 64) (2 ^ 26) (N / 2) (entry N) (N / 4 * 2 ^ 52) (N * 2 ^ 27)

test : T (every passed lengths)
unfolding every lengths passed sum_ℕ entry shifted table_c continued to_turn to_half reduced numbers
test = tt

-- for every i below M: Σj |Σk F(i,k) F(j,k) - [i = j] (M/2) 2^52| ≤ N 2^27
pub gram : (N : ℕ) → T (tabled N) → (i : ℕ) → i < N / 2 → defect (N / 2) (F N) (N / 4 * 2 ^ 52) i ≤ N * 2 ^ 27
gram N t = law (2 ^ 64) (2 ^ 26) (N / 2) (entry N) (F N) (N / 4 * 2 ^ 52) (N * 2 ^ 27) (2 ^ 26 + 2 ^ 26) (lit< tt)
    (λ j k. rw (entry-is N j k) (shifted_le (2 ^ 26) (F N j k) (F-size N j k)))
    room
    (λ j k. rw (entry-is N j k) (shifted-is (2 ^ 26) (F N j k) (F-size N j k)))
    (unfold passed in of_tabled passed test N t)
  where
    room : N / 2 * ((2 ^ 26 + 2 ^ 26) * (2 ^ 26 + 2 ^ 26)) < 2 ^ 64
    room = omega (arith, (tabled_length N t).most)
