-- Lists of lifted numbers: the numbers of a kernel with a power of two added, so that none is negative, and the sums that take it off again.
use Rattle.std.specs.Prelude.{◌≡◌, List, ℕ, ◌+◌, ◌*◌, ◌/◌, ◌%◌, ◌^◌, ◌≤◌, ◌<◌, ℤ, nat_abs, ◌+ℤ◌, ◌-ℤ◌, ◌≤ℤ◌}
use Rattle.std.proofs.Common.{sym, ◌∙◌, mul-le-mul_right, arith}
use Rattle.std.proofs.Math.Path.{ap}
use Rattle.std.proofs.Math.Nat.{mul-add-div_right, div-eq_of_lt, mul-add-mod_self_right, mod-eq_of_lt}
use Rattle.std.proofs.Math.ListN.{length}
use Rattle.std.proofs.Math.IntN.{pos}
use Rattle.arithmetic.specs.Sums.{sum}
use Rattle.arithmetic.specs.Lists.{at, table}
use Rattle.arithmetic.specs.SumLaws.{sum_ext}
use Rattle.arithmetic.specs.IntegerLaws.{ints, zarith}
use Rattle.arithmetic.specs.OrderLaws.{bounds}
use Rattle.arithmetic.specs.ListLaws.{length-table, get_d_table, table_ext}
use Rattle.cosine.specs.Kernels.{d, F}
use Rattle.cosine.specs.CosineLaws.{table_c, C-table}
use Rattle.cosine.specs.KernelLaws.{F-size}

-- no entry is negative or above B
pub record Lifted (xs : List ℤ) (B : ℕ) : Type 0 where
  pub sign : (i : ℕ) → i < length xs → pos 0 ≤ℤ at xs i
  pub size : (i : ℕ) → i < length xs → nat_abs (at xs i) ≤ B

-- a number between -B and B, once B is added
pub sign_up : (z : ℤ) (B : ℕ) → nat_abs z ≤ B → pos 0 ≤ℤ (z +ℤ pos B)
sign_up z B h = let k = simp bounds at h in simp ints (omega zarith)

pub size-up : (z : ℤ) (B : ℕ) → nat_abs z ≤ B → nat_abs (z +ℤ pos B) ≤ 2 * B
size-up z B h = let k = simp bounds at h in simp bounds (omega zarith)

-- and the other way: a number of 0 .. 2 B, once B is taken off
pub size-down : (z : ℤ) (B : ℕ) → pos 0 ≤ℤ z → nat_abs z ≤ 2 * B → nat_abs (z -ℤ pos B) ≤ B
size-down z B p h = let k = simp bounds at h in simp bounds (omega (arith, simp ints at p))

-- ---- a kernel f of m × m, lifted by 2^26: entry j m + k is f(k,j) + 2^26, and the sum over j of f(k,j)
unfoldable pub lift_of : ℕ → (ℕ → ℕ → ℤ) → List ℤ
lift_of m f = table (m * m) (λ i. f (i % m) (i / m) +ℤ pos (2 ^ 26))

unfoldable pub base_of : ℕ → (ℕ → ℕ → ℤ) → List ℤ
base_of m f = table m (λ k. sum m (λ j. f k j))

pub place : (m j k : ℕ) → j < m → k < m → j * m + k < m * m
place m j k p q = omega (arith, mul-le-mul_right m p)

module _ (m : ℕ) (f : ℕ → ℕ → ℤ) where
  -- the same read from another kernel with the same numbers, as one that computes
  pub lift-same : (g : ℕ → ℕ → ℤ) → ((k j : ℕ) → f k j ≡ g k j) → lift_of m f ≡ lift_of m g
  unfolding lift_of
  lift-same g e =
      table_ext (m * m) (λ i. f (i % m) (i / m) +ℤ pos (2 ^ 26)) (λ i. g (i % m) (i / m) +ℤ pos (2 ^ 26)) (λ i p. ap (λ (z : ℤ). z +ℤ pos (2 ^ 26)) (e (i % m) (i / m)))

  pub base_same : (g : ℕ → ℕ → ℤ) → ((k j : ℕ) → f k j ≡ g k j) → base_of m f ≡ base_of m g
  unfolding base_of
  base_same g e = table_ext m (λ k. sum m (λ j. f k j)) (λ k. sum m (λ j. g k j)) (λ k p. sum_ext m (λ j. f k j) (λ j. g k j) (λ j q. e k j))

  pub lift_of_length : length (lift_of m f) ≡ m * m
  unfolding lift_of
  lift_of_length = length-table (λ i. f (i % m) (i / m) +ℤ pos (2 ^ 26)) (m * m)

  pub base_of-length : length (base_of m f) ≡ m
  unfolding base_of
  base_of-length = length-table (λ k. sum m (λ j. f k j)) m

  pub lift_of_at : (j k : ℕ) → j < m → k < m → at (lift_of m f) (j * m + k) ≡ f k j +ℤ pos (2 ^ 26)
  unfolding lift_of
  lift_of_at j k p q =
      let quot : (j * m + k) / m ≡ j = mul-add-div_right {m = m} (omega arith) j k ∙ omega (arith, div-eq_of_lt q) in
      let rem : (j * m + k) % m ≡ k = mul-add-mod_self_right j m k ∙ mod-eq_of_lt q in
      get_d_table (λ i. f (i % m) (i / m) +ℤ pos (2 ^ 26)) (pos 0) (m * m) (j * m + k) (place m j k p q) ∙ rw (quot, rem)

  pub base_of-at : (k : ℕ) → k < m → at (base_of m f) k ≡ sum m (λ j. f k j)
  unfolding base_of
  base_of-at k p = get_d_table (λ k. sum m (λ j. f k j)) (pos 0) m k p

  pub lift_of_is : ((k j : ℕ) → nat_abs (f k j) ≤ 2 ^ 26) → Lifted (lift_of m f) (2 ^ 27)
  unfolding lift_of
  lift_of_is small =
      let e : (i : ℕ) → i < length (lift_of m f) → at (lift_of m f) i ≡ f (i % m) (i / m) +ℤ pos (2 ^ 26) =
      λ i p. get_d_table (λ i. f (i % m) (i / m) +ℤ pos (2 ^ 26)) (pos 0) (m * m) i (omega (arith, lift_of_length))
      in
      record {
        sign = λ i p. rw (e i p) (sign_up (f (i % m) (i / m)) (2 ^ 26) (small (i % m) (i / m)));
        size = λ i p. rw (e i p) (size-up (f (i % m) (i / m)) (2 ^ 26) (small (i % m) (i / m)));
      }

-- ---- the folded kernel
unfoldable pub lift_list : ℕ → List ℤ
lift_list N = lift_of (N / 2) (F N)

unfoldable pub base_list : ℕ → List ℤ
base_list N = base_of (N / 2) (F N)

-- the same read from the table of 217 numbers, which computes
abbrev table_f : ℕ → ℕ → ℕ → ℤ
table_f N j k = table_c (pos (d N * (2 * j + 1) * (2 * k + 1)))

unfoldable pub lift_numbers : ℕ → List ℤ
lift_numbers N = lift_of (N / 2) (table_f N)

unfoldable pub base_numbers : ℕ → List ℤ
base_numbers N = base_of (N / 2) (table_f N)

table_is : (N j k : ℕ) → table_f N j k ≡ F N j k
unfolding F
table_is N j k = sym (C-table (pos (d N * (2 * j + 1) * (2 * k + 1))))

pub lift_numbers_are : (N : ℕ) → lift_numbers N ≡ lift_list N
unfolding lift_numbers lift_list
lift_numbers_are N = lift-same (N / 2) (table_f N) (F N) (table_is N)

pub base_numbers_are : (N : ℕ) → base_numbers N ≡ base_list N
unfolding base_numbers base_list
base_numbers_are N = base_same (N / 2) (table_f N) (F N) (table_is N)

pub lift-length : (N : ℕ) → length (lift_list N) ≡ N / 2 * (N / 2)
unfolding lift_list
lift-length N = lift_of_length (N / 2) (F N)

pub base-length : (N : ℕ) → length (base_list N) ≡ N / 2
unfolding base_list
base-length N = base_of-length (N / 2) (F N)

pub lift-is : (N : ℕ) → Lifted (lift_list N) (2 ^ 27)
unfolding lift_list
lift-is N = lift_of_is (N / 2) (F N) (F-size N)
