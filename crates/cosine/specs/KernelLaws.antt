-- Laws of the window and the kernels, with N as a parameter over `Part`: range, symmetry, and the fold of source 003, equation (41).
use Rattle.std.specs.Prelude.{◌≡◌, Bool, ℕ, ◌+◌, ◌-◌, ◌*◌, ◌/◌, ◌^◌, ◌≤◌, ◌<◌, eqb, nat_abs, ◌-ℤ◌, ◌*ℤ◌, ◌≤ℤ◌}
use Rattle.std.proofs.Math.Path.{refl, ap}
use Rattle.std.proofs.Common.{◌∙◌, mul-le-mul_left, div-mul-le_self, ltb→lt}
use Rattle.std.proofs.Math.Bool.{true, false, cond}
use native.Mathlib.Omega.{arith}
use borrow.Author.Tests.{lt-ltb, le-ltb}
use Rattle.std.proofs.Math.Dec.{ltb}
use Rattle.std.proofs.Math.IntN.{pos, neg_ℤ}
use Rattle.std.specs.Int.Signed.{le_z_yes}
use Rattle.arithmetic.specs.IntegerLaws.{posints}
use Rattle.cosine.specs.Cosine.{turn, half_turn, quarter, eighth, first_quarter, C}
use Rattle.cosine.specs.Kernels.{d, W, short_rise, rising, falling, K, F, L}
use Rattle.cosine.specs.TableLaws.{low}
use Rattle.cosine.specs.CosineLaws.{C_mirror, C-less, C-more, C-same, C-low, C-size}
use Rattle.cosine.specs.LengthLaws.{Part}

-- ---- sizes, at any place
pub W-size : (N n : ℕ) → nat_abs (W N n) ≤ 2 ^ 26
unfolding W
W-size N n = C-size (pos (d N) *ℤ (pos N -ℤ pos (2 * n + 1)))

short-size : (N n : ℕ) → nat_abs (short_rise N n) ≤ 2 ^ 26
unfolding short_rise
short-size N n = go (ltb n (N / 6)) (ltb n (2 * (N / 6)))
  where
    go : (zero one : Bool) → nat_abs (cond zero (pos 0) (cond one (C (pos quarter -ℤ pos (eighth / (N / 6) * (2 * (n - N / 6) + 1)))) (pos (2 ^ 26)))) ≤ 2 ^ 26
    go true one = omega arith
    go false true = C-size (pos quarter -ℤ pos (eighth / (N / 6) * (2 * (n - N / 6) + 1)))
    go false false = omega arith

pub rising-size : (shape N n : ℕ) → nat_abs (rising shape N n) ≤ 2 ^ 26
unfolding rising
rising-size shape N n = go (eqb shape 0)
  where
    go : (long : Bool) → nat_abs (cond long (W N n) (short_rise N n)) ≤ 2 ^ 26
    go true = W-size N n
    go false = short-size N n

pub falling-size : (shape N n : ℕ) → nat_abs (falling shape N n) ≤ 2 ^ 26
unfolding falling
falling-size shape N n = go (eqb shape 0)
  where
    go : (long : Bool) → nat_abs (cond long (W N (N / 2 + n)) (short_rise N (N / 2 - 1 - n))) ≤ 2 ^ 26
    go true = W-size N (N / 2 + n)
    go false = short-size N (N / 2 - 1 - n)

pub K-size : (N n k : ℕ) → nat_abs (K N n k) ≤ 2 ^ 26
unfolding K
K-size N n k = C-size (pos (d N * (2 * n + 1 + N / 2) * (2 * k + 1)))

pub F-size : (N j k : ℕ) → nat_abs (F N j k) ≤ 2 ^ 26
unfolding F
F-size N j k = C-size (pos (d N * (2 * j + 1) * (2 * k + 1)))

pub L-size : (N n k : ℕ) → nat_abs (L N n k) ≤ 2 ^ 26
unfolding L
L-size N n k = C-size (pos (3 * d N * (2 * n + 1 + N / 6) * (2 * k + 1)))

-- ---- the three parts of a short rising half, its rise going in steps of 3d
module _ (N n : ℕ) where
  pub short-zero : n < N / 6 → short_rise N n ≡ pos 0
  unfolding short_rise
  short-zero h = rw (lt-ltb n (N / 6) h)

  pub short-one : 2 * (N / 6) ≤ n → short_rise N n ≡ pos (2 ^ 26)
  unfolding short_rise
  short-one h = let g : N / 6 ≤ n = omega arith in rw (le-ltb n (N / 6) g, le-ltb n (2 * (N / 6)) h)

  module _ (steps : eighth / (N / 6) ≡ 3 * d N) where
    pub short-angle : n < 2 * (N / 6) → 3 * d N * (2 * (n - N / 6) + 1) ≤ quarter
    short-angle h =
        let p : 2 * (n - N / 6) + 1 ≤ 2 * (N / 6) = omega arith in
        let q : 3 * d N * (N / 6) ≤ eighth = rw steps at (div-mul-le_self eighth (N / 6)) in
        go (3 * d N) (N / 6) (2 * (n - N / 6) + 1) p q
      where
        go : (e R b : ℕ) → b ≤ 2 * R → e * R ≤ eighth → e * b ≤ quarter
        go e R b p q = omega (arith, mul-le-mul_left e p)

    pub short-middle : N / 6 ≤ n → n < 2 * (N / 6) → short_rise N n ≡ C (pos (quarter - 3 * d N * (2 * (n - N / 6) + 1)))
    unfolding short_rise
    short-middle g h = rw (le-ltb n (N / 6) g, lt-ltb n (2 * (N / 6)) h, steps) (ap C (arg (3 * d N * (2 * (n - N / 6) + 1)) (short-angle h)))
      where
        arg : (b : ℕ) → b ≤ quarter → pos quarter -ℤ pos b ≡ pos (quarter - b)
        arg b h = simp posints (omega arith)

-- ---- the folded kernel is symmetric
pub F_symmetric : (N j k : ℕ) → F N j k ≡ F N k j
unfolding F
F_symmetric N j k = ap (λ (t : ℕ). C (pos t)) (swap (d N) (2 * j + 1) (2 * k + 1))
  where
    swap : (d a b : ℕ) → d * a * b ≡ d * b * a
    swap d a b = omega arith

module _ (N : ℕ) (len : Part N) where
  -- two numbers of parts that make two blocks: their angles make an odd number of half turns
  meet : (a b k : ℕ) → a + b ≡ 2 * N → d N * a * (2 * k + 1) + d N * b * (2 * k + 1) ≡ half_turn + turn * k
  meet a b k e =
      let p : d N * (a + b) ≡ half_turn = rw e (double (d N) N len.parts) in
      go (d N) a b k p
    where
      double : (d n : ℕ) → d * n ≡ quarter → d * (2 * n) ≡ half_turn
      double d n h = omega arith

      go : (d a b k : ℕ) → d * (a + b) ≡ half_turn → d * a * (2 * k + 1) + d * b * (2 * k + 1) ≡ half_turn + turn * k
      go d a b k h = omega (arith, ap (λ (x : ℕ). x * (2 * k + 1)) h)

  -- ---- the folded kernel at places that make a block, and a block further on: its sign changes
  pub F-less : (i j k : ℕ) → i + j + 1 ≡ N → F N i k ≡ neg_ℤ (F N j k)
  unfolding F
  F-less i j k e = C-less (pos (d N * (2 * i + 1) * (2 * k + 1))) (pos (d N * (2 * j + 1) * (2 * k + 1))) (pos k) (ap pos (meet (2 * i + 1) (2 * j + 1) k (omega (arith, e))))

  pub F-more : (i j k : ℕ) → i ≡ j + N → F N i k ≡ neg_ℤ (F N j k)
  unfolding F
  F-more i j k e =
      let f : 2 * i + 1 ≡ 2 * j + 1 + 2 * N = omega (arith, e) in
      C-more (pos (d N * (2 * i + 1) * (2 * k + 1))) (pos (d N * (2 * j + 1) * (2 * k + 1))) (pos k) (ap pos (rw f (go (d N) N (2 * j + 1) k len.parts)))
    where
      go : (d N b k : ℕ) → d * N ≡ quarter → d * (b + 2 * N) * (2 * k + 1) ≡ d * b * (2 * k + 1) + half_turn + turn * k
      go d N b k h = omega (arith, ap (λ (x : ℕ). x * (2 * k + 1)) h)

  -- ---- the fold: N/4 is M/2
  K-is : (n k : ℕ) → K N n k ≡ F N (n + N / 4) k
  unfolding K F
  K-is n k = ap (λ (t : ℕ). C (pos (d N * t * (2 * k + 1)))) (omega (arith, len.four))

  pub fold_first : (n k : ℕ) → n < N / 4 → K N n k ≡ F N (n + N / 4) k
  fold_first n k p = K-is n k

  pub fold_middle : (n k : ℕ) → N / 4 ≤ n → n < 3 * (N / 4) → K N n k ≡ neg_ℤ (F N (3 * (N / 4) - 1 - n) k)
  fold_middle n k p q = K-is n k ∙ F-less (n + N / 4) (3 * (N / 4) - 1 - n) k (omega (arith, len.four))

  pub fold_last : (n k : ℕ) → 3 * (N / 4) ≤ n → K N n k ≡ neg_ℤ (F N (n - 3 * (N / 4)) k)
  fold_last n k p = K-is n k ∙ F-more (n + N / 4) (n - 3 * (N / 4)) k (omega (arith, len.four))

  -- the kernel's mirrors: odd on the first hop, even on the second
  pub K_first_hop : (n k : ℕ) → n < N / 2 → K N (N / 2 - 1 - n) k ≡ neg_ℤ (K N n k)
  unfolding K
  K_first_hop n k p =
      C-less (pos (d N * (2 * (N / 2 - 1 - n) + 1 + N / 2) * (2 * k + 1))) (pos (d N * (2 * n + 1 + N / 2) * (2 * k + 1))) (pos k)
      (ap pos (meet (2 * (N / 2 - 1 - n) + 1 + N / 2) (2 * n + 1 + N / 2) k (omega (arith, len.four))))

  pub K_second_hop : (n k : ℕ) → N / 2 ≤ n → n < N → K N (3 * (N / 2) - 1 - n) k ≡ K N n k
  unfolding K
  K_second_hop n k p q =
      C-same (pos (d N * (2 * (3 * (N / 2) - 1 - n) + 1 + N / 2) * (2 * k + 1))) (pos (d N * (2 * n + 1 + N / 2) * (2 * k + 1))) (pos (2 * k + 1))
      (ap pos (go (d N) (2 * (3 * (N / 2) - 1 - n) + 1 + N / 2) (2 * n + 1 + N / 2) N (2 * k + 1) len.parts (omega (arith, len.four))))
    where
      go : (d a b n o : ℕ) → d * n ≡ quarter → a + b ≡ 4 * n → d * a * o + d * b * o ≡ turn * o
      go d a b n o h e = omega (arith, ap (λ (x : ℕ). x * o) h, ap (λ (x : ℕ). d * x * o) e)

  -- ---- the window
  -- d times at most N parts lie in the first quarter
  part≤ : (a : ℕ) → a ≤ N → d N * a ≤ quarter
  part≤ a p = omega (arith, mul-le-mul_left (d N) p, len.parts)

  -- W on the first hop and on the second
  W-first : (n : ℕ) → n < N / 2 → W N n ≡ first_quarter (d N * (N - (2 * n + 1)))
  unfolding W
  W-first n p = rw (arg (d N) N (2 * n + 1) (omega arith)) (C-low (d N * (N - (2 * n + 1))) (part≤ (N - (2 * n + 1)) (omega arith)))
    where
      arg : (d a b : ℕ) → b ≤ a → pos d *ℤ (pos a -ℤ pos b) ≡ pos (d * (a - b))
      arg d a b p = let e : a - b + b ≡ a = omega arith in simp posints (omega (arith, ap (λ (x : ℕ). d * x) e))

  pub W_symmetric : (n : ℕ) → n < N → W N (N - 1 - n) ≡ W N n
  unfolding W
  W_symmetric n p =
      let e : pos (d N) *ℤ (pos N -ℤ pos (2 * (N - 1 - n) + 1)) ≡ neg_ℤ (pos (d N) *ℤ (pos N -ℤ pos (2 * n + 1))) = turned (d N) N (2 * (N - 1 - n) + 1) (2 * n + 1) (omega arith) in
      rw e (C_mirror (pos (d N) *ℤ (pos N -ℤ pos (2 * n + 1))))
    where
      turned : (d N a b : ℕ) → a + b ≡ N + N → pos d *ℤ (pos N -ℤ pos a) ≡ neg_ℤ (pos d *ℤ (pos N -ℤ pos b))
      turned d N a b h = simp posints (omega (arith, ap (λ (x : ℕ). d * x) h))

  W_rises : (n : ℕ) → n < N / 2 → pos 0 ≤ℤ W N n
  W_rises n p = rw (W-first n p) (low (d N * (N - (2 * n + 1))) (part≤ (N - (2 * n + 1)) (omega arith)))

  -- ---- the halves of a joint, of either shape
  -- the sine rise lies in the first quarter
  rise_low : (n : ℕ) → n < 2 * (N / 6) → pos 0 ≤ℤ C (pos quarter -ℤ pos (eighth / (N / 6) * (2 * (n - N / 6) + 1)))
  rise_low n p =
      let R = N / 6 in
      let b = eighth / R * (2 * (n - R) + 1) in
      let h : b ≤ quarter = omega (arith, mul-le-mul_left (eighth / R) (less R n p), div-mul-le_self eighth R) in
      rw (arg b h) (rw (C-low (quarter - b) (omega arith)) (low (quarter - b) (omega arith)))
    where
      less : (R n : ℕ) → n < 2 * R → 2 * (n - R) + 1 ≤ 2 * R
      less R n p = omega arith

      arg : (b : ℕ) → b ≤ quarter → pos quarter -ℤ pos b ≡ pos (quarter - b)
      arg b h = simp posints (omega arith)

  short-low : (n : ℕ) → n < N / 2 → pos 0 ≤ℤ short_rise N n
  unfolding short_rise
  short-low n p = go (ltb n (N / 6)) (ltb n (2 * (N / 6))) refl
    where
      go : (zero one : Bool) → ltb n (2 * (N / 6)) ≡ one →
          pos 0 ≤ℤ cond zero (pos 0) (cond one (C (pos quarter -ℤ pos (eighth / (N / 6) * (2 * (n - N / 6) + 1)))) (pos (2 ^ 26)))
      go true one e = le_z_yes tt
      go false true e = rise_low n (ltb→lt n (2 * (N / 6)) (rw e tt))
      go false false e = le_z_yes tt

  pub rising-low : (shape n : ℕ) → n < N / 2 → pos 0 ≤ℤ rising shape N n
  unfolding rising
  rising-low shape n p = go (eqb shape 0)
    where
      go : (long : Bool) → pos 0 ≤ℤ cond long (W N n) (short_rise N n)
      go true = W_rises n p
      go false = short-low n p

  -- the falling half is the mirror of the rising one
  pub falling_mirror : (shape n : ℕ) → n < N / 2 → falling shape N n ≡ rising shape N (N / 2 - 1 - n)
  unfolding falling rising
  falling_mirror shape n p = go (eqb shape 0)
    where
      go : (long : Bool) → cond long (W N (N / 2 + n)) (short_rise N (N / 2 - 1 - n)) ≡ cond long (W N (N / 2 - 1 - n)) (short_rise N (N / 2 - 1 - n))
      go true =
          let e : N - 1 - (N / 2 - 1 - n) ≡ N / 2 + n = omega (arith, len.four) in
          rw e at (W_symmetric (N / 2 - 1 - n) (omega arith))
      go false = refl

  pub falling-low : (shape n : ℕ) → n < N / 2 → pos 0 ≤ℤ falling shape N n
  falling-low shape n p = rw (falling_mirror shape n p) (rising-low shape (N / 2 - 1 - n) (omega arith))
