-- Laws of size: how large the numbers of one block get, with N as a parameter. What analysis gives is always taken by synthesis, and what
-- synthesis leaves for the next hop is within the limit of a stream's tail.
use Rattle.std.specs.Prelude.{◌≡◌, List, ℕ, ◌-◌, ◌*◌, ◌/◌, ◌^◌, ◌≤◌, ◌<◌, ℤ, nat_abs, ◌*ℤ◌}
use Rattle.std.proofs.Math.Nat.{le_trans}
use Rattle.std.proofs.Common.{arith, lit<}
use Rattle.std.proofs.Math.Decide.{dec_lt}
use Rattle.arithmetic.specs.Sums.{sum}
use Rattle.arithmetic.specs.Lists.{at}
use Rattle.arithmetic.specs.OrderLaws.{abs_mul_le}
use Rattle.arithmetic.specs.RoundingLaws.{rnd_le}
use Rattle.arithmetic.specs.SumLaws.{sum_abs}
use Rattle.arithmetic.specs.TestLaws.{cond_lt, cond_ge}
use Rattle.cosine.specs.Kernels.{K}
use Rattle.cosine.specs.LengthLaws.{Length, Part}
use Rattle.cosine.specs.KernelLaws.{K-size}
use Rattle.transform.specs.Analysis.{window, y, S, X}
use Rattle.transform.specs.Synthesis.{U, V'}

-- with |y| ≤ 2^23
module _ (N : ℕ) (y : ℕ → ℤ) (y≤ : (n : ℕ) → n < N → nat_abs (y n) ≤ 2 ^ 23) where
  pub S-size : (k : ℕ) → nat_abs (S N y k) ≤ N * 2 ^ 49
  unfolding S
  S-size k = sum_abs N (λ n. y n *ℤ K N n k) (2 ^ 23 * 2 ^ 26) (λ n p. abs_mul_le (y n) (K N n k) (y≤ n p) (K-size N n k))

  pub X-size : (k : ℕ) → nat_abs (X N y k) ≤ N * 2 ^ 21
  unfolding X
  X-size k = rnd_le (S N y k) {b = 2 ^ 28} (lit< tt) (omega (arith, S-size k))

  -- so synthesis takes it
  pub X-taken : Length N → (k : ℕ) → nat_abs (X N y k) ≤ 2 ^ 29
  X-taken len k = omega (arith, X-size k, len.most)

-- with |X| ≤ 2^29, the limit that synthesis sets
module _ (N : ℕ) (X : List ℤ) (X≤ : (k : ℕ) → k < N / 2 → nat_abs (at X k) ≤ 2 ^ 29) where
  -- the sum that U rounds
  pub inverse_size : (n : ℕ) → nat_abs (sum (N / 2) (λ k. at X k *ℤ K N n k)) ≤ N / 2 * 2 ^ 55
  inverse_size n = sum_abs (N / 2) (λ k. at X k *ℤ K N n k) (2 ^ 29 * 2 ^ 26) (λ k p. abs_mul_le (at X k) (K N n k) (X≤ k p) (K-size N n k))

  pub U-size : (n : ℕ) → nat_abs (U N X n) ≤ N / 2 * 2 ^ 29
  unfolding U
  U-size n = rnd_le (sum (N / 2) (λ k. at X k *ℤ K N n k)) {b = 2 ^ 26} (lit< tt) (omega (arith, inverse_size n))

module _ (N : ℕ) (left right : ℕ → ℤ) where
  -- the window on the first hop, and on the second
  pub window-left : (n : ℕ) → n < N / 2 → window N left right n ≡ left n
  unfolding window
  window-left n p = cond_lt n (N / 2) (left n) (right (n - N / 2)) p

  pub window-right : (n : ℕ) → N / 2 ≤ n → window N left right n ≡ right (n - N / 2)
  unfolding window
  window-right n p = cond_ge n (N / 2) (left n) (right (n - N / 2)) p

  -- with both halves within 2^26
  module _ (len : Part N) (left≤ : (n : ℕ) → n < N / 2 → nat_abs (left n) ≤ 2 ^ 26) (right≤ : (n : ℕ) → n < N / 2 → nat_abs (right n) ≤ 2 ^ 26) where
    pub window-size : (n : ℕ) → n < N → nat_abs (window N left right n) ≤ 2 ^ 26
    window-size n p = go (dec_lt n (N / 2))
      where
        go : Dec (n < N / 2) → nat_abs (window N left right n) ≤ 2 ^ 26
        go (yes q) = rw (window-left n q) (left≤ n q)
        go (no q) = rw (window-right n (omega arith)) (right≤ (n - N / 2) (omega (arith, len.four)))

    -- a sample is within 2^15
    pub y-size : (x : List ℤ) → ((n : ℕ) → n < N → nat_abs (at x n) ≤ 32768) → (n : ℕ) → n < N → nat_abs (y N left right x n) ≤ 2 ^ 23
    unfolding y
    y-size x x≤ n p = rnd_le (window N left right n *ℤ at x n) {b = 2 ^ 18} (lit< tt) (abs_mul_le (window N left right n) (at x n) (window-size n p) (x≤ n p))

    pub V_size : (X : List ℤ) → ((k : ℕ) → k < N / 2 → nat_abs (at X k) ≤ 2 ^ 29) → (n : ℕ) → n < N → nat_abs (V' N left right X n) ≤ N / 2 * 2 ^ 55
    unfolding V'
    V_size X X≤ n p = le_trans (abs_mul_le (window N left right n) (U N X n) (window-size n p) (U-size N X X≤ n)) (omega arith)
