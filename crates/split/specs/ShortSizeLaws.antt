-- Laws of size: how large the numbers of a split grow, Q being the size of its inputs, and the sums of the short route, whose inputs are windowed: at most 2^23.
use Rattle.std.specs.Prelude.{ℕ, ◌-◌, ◌*◌, ◌/◌, ◌^◌, ◌≤◌, ◌<◌, ℤ, nat_abs, ◌+ℤ◌, ◌-ℤ◌, ◌*ℤ◌}
use Rattle.std.proofs.Common.{arith, lit<}
use Rattle.std.proofs.Math.IntN.{pos}
use Rattle.arithmetic.specs.OrderLaws.{abs_add, abs_sub, abs_mul, abs_mul_le}
use Rattle.arithmetic.specs.RoundingLaws.{rnd_le}
use Rattle.arithmetic.specs.SumLaws.{sum_abs}
use Rattle.cosine.specs.Cosine.{quarter, third, sixth, twelfth, C}
use Rattle.cosine.specs.Kernels.{L, s, e_b, f_b, e_c, f_c, turned}
use Rattle.cosine.specs.CosineLaws.{C-size}
use Rattle.cosine.specs.KernelLaws.{L-size}
use Rattle.cosine.specs.SplitLaws.{turned_abs}
use Rattle.split.specs.ShortRoute.{a, b, c, e, f, r_b, r_c, A, B, G, D}

-- the cosines beside e and f
module _ (N n : ℕ) where
  pub e_b_size : nat_abs (e_b N n) ≤ 2 ^ 26
  unfolding e_b
  e_b_size = C-size (pos quarter -ℤ pos (s N n))

  pub f_b_size : nat_abs (f_b N n) ≤ 2 ^ 27
  unfolding f_b
  f_b_size =
      let u = pos (s N n) -ℤ pos twelfth in
      let v = pos (s N n) +ℤ pos twelfth in
      omega (arith, abs_add (C u) (C v), C-size u, C-size v)

  pub e_c_size : nat_abs (e_c N n) ≤ 2 ^ 26
  unfolding e_c
  e_c_size = C-size (pos (s N n))

  pub f_c_size : nat_abs (f_c N n) ≤ 2 ^ 27
  unfolding f_c
  f_c_size =
      let u = pos sixth -ℤ pos (s N n) in
      let v = pos third -ℤ pos (s N n) in
      omega (arith, abs_add (C u) (C v), C-size u, C-size v)

-- the numbers at place n, below N/3
module _ (N : ℕ) (y : ℕ → ℤ) (Q : ℕ) (y≤ : (n : ℕ) → n < N → nat_abs (y n) ≤ Q) (n : ℕ) (p : n < N / 3) where
  pub a-size : nat_abs (a N y n) ≤ Q
  unfolding a
  a-size = y≤ (N / 3 - 1 - n) (omega arith)

  pub b-size : nat_abs (b N y n) ≤ Q
  unfolding b
  b-size = y≤ (2 * N / 3 - 1 - n) (omega arith)

  pub c-size : nat_abs (c N y n) ≤ Q
  unfolding c
  c-size = y≤ (N - 1 - n) (omega arith)

  pub middle-size : nat_abs (a N y n -ℤ b N y n +ℤ c N y n) ≤ 3 * Q
  middle-size = omega (arith, abs_add (a N y n -ℤ b N y n) (c N y n), abs_sub (a N y n) (b N y n), a-size, b-size, c-size)

  pub e-size : nat_abs (e N y n) ≤ 4 * Q
  unfolding e
  e-size = omega (arith, abs_add (pos 2 *ℤ c N y n -ℤ a N y n) (b N y n), abs_sub (pos 2 *ℤ c N y n) (a N y n), abs_mul (pos 2) (c N y n), a-size, b-size, c-size)

  pub f-size : nat_abs (f N y n) ≤ 2 * Q
  unfolding f
  f-size = omega (arith, abs_add (a N y n) (b N y n), a-size, b-size)

  pub r_b_size : nat_abs (r_b N y n) ≤ 8 * Q
  unfolding r_b
  r_b_size =
      let u = e N y n *ℤ e_b N n in
      let v = f N y n *ℤ f_b N n in
      rnd_le (u -ℤ v) {b = 2 ^ 26} {n = 8 * Q} (lit< tt)
      (omega (arith, abs_sub u v, abs_mul_le (e N y n) (e_b N n) e-size (e_b_size N n), abs_mul_le (f N y n) (f_b N n) f-size (f_b_size N n)))

  pub r_c_size : nat_abs (r_c N y n) ≤ 8 * Q
  unfolding r_c
  r_c_size =
      let u = e N y n *ℤ e_c N n in
      let v = f N y n *ℤ f_c N n in
      rnd_le (u +ℤ v) {b = 2 ^ 26} {n = 8 * Q} (lit< tt)
      (omega (arith, abs_add u v, abs_mul_le (e N y n) (e_c N n) e-size (e_c_size N n), abs_mul_le (f N y n) (f_c N n) f-size (f_c_size N n)))

  pub turned-size : nat_abs (turned N n (r_c N y n)) ≤ 8 * Q
  turned-size = rw (turned_abs N n (r_c N y n)) r_c_size

-- the sums of the short route
module _ (N : ℕ) (y : ℕ → ℤ) (y≤ : (n : ℕ) → n < N → nat_abs (y n) ≤ 2 ^ 23) where
  module _ (k : ℕ) where
    pub A-size : nat_abs (A N y k) ≤ N / 3 * (3 * 2 ^ 49)
    unfolding A
    A-size = sum_abs (N / 3) (λ n. L N n k *ℤ (a N y n -ℤ b N y n +ℤ c N y n)) (3 * 2 ^ 49) (λ n p. abs_mul_le (L N n k) (a N y n -ℤ b N y n +ℤ c N y n) (L-size N n k) (middle-size N y (2 ^ 23) y≤ n p))

    pub B-size : nat_abs (B N y k) ≤ N / 3 * 2 ^ 52
    unfolding B
    B-size = sum_abs (N / 3) (λ n. L N n k *ℤ r_b N y n) (2 ^ 52) (λ n p. abs_mul_le (L N n k) (r_b N y n) (L-size N n k) (r_b_size N y (2 ^ 23) y≤ n p))

    pub G-size : nat_abs (G N y k) ≤ N / 3 * 2 ^ 52
    unfolding G
    G-size = sum_abs (N / 3) (λ n. L N n k *ℤ turned N n (r_c N y n)) (2 ^ 52) (λ n p. abs_mul_le (L N n k) (turned N n (r_c N y n)) (L-size N n k) (turned-size N y (2 ^ 23) y≤ n p))

  module _ (k : ℕ) where
    pub D-size : nat_abs (D N y k) ≤ N / 3 * 2 ^ 52
    unfolding D
    D-size = G-size (N / 6 - 1 - k)

    pub plus-size : nat_abs (B N y k +ℤ D N y k) ≤ N / 3 * 2 ^ 53
    plus-size = omega (arith, abs_add (B N y k) (D N y k), B-size k, D-size)

    pub minus-size : nat_abs (B N y k -ℤ D N y k) ≤ N / 3 * 2 ^ 53
    minus-size = omega (arith, abs_sub (B N y k) (D N y k), B-size k, D-size)
