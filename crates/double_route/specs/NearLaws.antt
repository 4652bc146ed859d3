-- Laws of the double route against the direct one: a split's deviation from that of its parts, and the theorem of document 02's P12, within 32 units.
use Rattle.std.specs.Prelude.{◌≡◌, refl, ℕ, zero, suc, ◌+◌, ◌-◌, ◌*◌, ◌/◌, ◌%◌, ◌^◌, ◌≤◌, ◌<◌, T, ℤ, pos, nat_abs, ◌+ℤ◌, ◌-ℤ◌, ◌*ℤ◌}
use Rattle.std.proofs.Math.Path.{sym}
use Rattle.std.proofs.Common.{◌∙◌, le_refl, le_trans, le-add_right, mod-lt, arith, lit<}
use Rattle.arithmetic.specs.Lists.{every}
use Rattle.arithmetic.specs.Rounding.{rnd}
use Rattle.arithmetic.specs.IntegerLaws.{posints}
use Rattle.arithmetic.specs.OrderLaws.{bounds, posbounds, abs_add, abs_sub, abs_mul, abs_mul_le}
use Rattle.arithmetic.specs.RoundingLaws.{rnd_near}
use Rattle.cosine.specs.Kernels.{short_lengths, short_tabled}
use Rattle.cosine.specs.LengthLaws.{Length, third-part}
use Rattle.transform.specs.Analysis.{S, X}
use Rattle.split.specs.ShortRoute as R
use Rattle.split.specs.ShortRoute.{r_b, A, B, G, D}
use Rattle.split.specs.Parts.{middle, turned_c}
use Rattle.split.specs.ShortFoldLaws.{third-sum}
use Rattle.split.specs.ShortLaws.{A-is, plus-near, minus-near}
use Rattle.double_route.specs.Double.{offered, joined, scaled, double_x, units}
use Rattle.double_route.specs.DoubleLaws.{scaled-split, scaled-plain, joined-first, joined-middle, joined-last}
use Rattle.double_route.specs.PieceLaws.{short-length, either}
use Rattle.double_route.specs.DoubleSizeLaws.{middle-size, r_b_size, turned_c_size}

-- the scaled sums of N inputs of size Q lie within e Q of P times the plain ones
abbrev pub Near : (N P : ℕ) → (ℕ → ℕ) → Type 0
Near N P e = (v : ℕ → ℤ) (Q : ℕ) → ((i : ℕ) → i < N → nat_abs (v i) ≤ Q) → (k : ℕ) → k < N / 2 → nat_abs (scaled N v k -ℤ pos P *ℤ S N v k) ≤ e Q

-- a part that is not split: exactly
pub near-plain : (N : ℕ) → ¬ (N % 12 ≡ 0) → Near N 1 (λ Q. 0)
near-plain N h v Q v≤ k p = rw (scaled-plain N v h k) (none (S N v k))
  where
    none : (z : ℤ) → nat_abs (z -ℤ pos 1 *ℤ z) ≤ 0
    none z = simp bounds (omega arith)

-- ---- sums of deviations
twice : (x z : ℤ) (P m : ℕ) → nat_abs (x -ℤ pos P *ℤ z) ≤ m → nat_abs (pos 2 *ℤ x -ℤ pos (2 * P) *ℤ z) ≤ 2 * m
twice x z P m h = rw (alg x z P) (omega (arith, abs_mul (pos 2) (x -ℤ pos P *ℤ z), h))
  where
    alg : (x z : ℤ) (P : ℕ) → pos 2 *ℤ x -ℤ pos (2 * P) *ℤ z ≡ pos 2 *ℤ (x -ℤ pos P *ℤ z)
    alg x z P = simp posints (omega arith)

sum_near : (x u X U S : ℤ) (P m r : ℕ) → nat_abs (x -ℤ pos P *ℤ X) ≤ m → nat_abs (u -ℤ pos P *ℤ U) ≤ m → nat_abs (X +ℤ U -ℤ pos 2 *ℤ S) ≤ r → nat_abs (x +ℤ u -ℤ pos (2 * P) *ℤ S) ≤ 2 * m + P * r
sum_near x u X U S P m r p q h =
    rw (alg x u X U S P)
    (omega (arith, abs_add (x -ℤ pos P *ℤ X +ℤ (u -ℤ pos P *ℤ U)) (pos P *ℤ (X +ℤ U -ℤ pos 2 *ℤ S)), abs_add (x -ℤ pos P *ℤ X) (u -ℤ pos P *ℤ U), p, q, abs_mul_le (pos P) (X +ℤ U -ℤ pos 2 *ℤ S) {A = P} (le_refl P) h))
  where
    alg : (x u X U S : ℤ) (P : ℕ) → x +ℤ u -ℤ pos (2 * P) *ℤ S ≡ x -ℤ pos P *ℤ X +ℤ (u -ℤ pos P *ℤ U) +ℤ pos P *ℤ (X +ℤ U -ℤ pos 2 *ℤ S)
    alg x u X U S P = simp posints (omega arith)

difference_near : (x u X U S : ℤ) (P m r : ℕ) → nat_abs (x -ℤ pos P *ℤ X) ≤ m → nat_abs (u -ℤ pos P *ℤ U) ≤ m → nat_abs (X -ℤ U -ℤ pos 2 *ℤ S) ≤ r → nat_abs (x -ℤ u -ℤ pos (2 * P) *ℤ S) ≤ 2 * m + P * r
difference_near x u X U S P m r p q h =
    rw (alg x u X U S P)
    (omega (arith, abs_add (x -ℤ pos P *ℤ X -ℤ (u -ℤ pos P *ℤ U)) (pos P *ℤ (X -ℤ U -ℤ pos 2 *ℤ S)), abs_sub (x -ℤ pos P *ℤ X) (u -ℤ pos P *ℤ U), p, q, abs_mul_le (pos P) (X -ℤ U -ℤ pos 2 *ℤ S) {A = P} (le_refl P) h))
  where
    alg : (x u X U S : ℤ) (P : ℕ) → x -ℤ u -ℤ pos (2 * P) *ℤ S ≡ x -ℤ pos P *ℤ X -ℤ (u -ℤ pos P *ℤ U) +ℤ pos P *ℤ (X -ℤ U -ℤ pos 2 *ℤ S)
    alg x u X U S P = simp posints (omega arith)

-- ---- one split: twice the deviation of a part at five times the size, and that of the split itself
module _ (N : ℕ) (t : T (short_tabled N)) (P : ℕ) (e : ℕ → ℕ) (near : Near (N / 3) P e) where
  l : Length N
  l = short-length N t

  taken : T (R.offered N)
  unfolding R.offered
  taken = t

  module _ (y : ℕ → ℤ) (Q : ℕ) (y≤ : (i : ℕ) → i < N → nat_abs (y i) ≤ Q) (k : ℕ) (q : k < N / 6) where
    abbrev bound : ℕ
    bound = 2 * e (5 * Q) + P * (N / 3 * (2 ^ 26 + 9 * Q))

    in_third : k < N / 3 / 2
    in_third = omega arith

    back-third : N / 6 - 1 - k < N / 3 / 2
    back-third = omega arith

    -- the plain sums of the three parts
    A-third : S (N / 3) (middle N y) k ≡ S N y (3 * k + 1)
    unfolding A
    A-third = sym (third-sum N l (third-part N l) (middle N y) k) ∙ A-is N taken y k

    B-third : S (N / 3) (r_b N y) k ≡ B N y k
    unfolding B
    B-third = sym (third-sum N l (third-part N l) (r_b N y) k)

    D-third : S (N / 3) (turned_c N y) (N / 6 - 1 - k) ≡ D N y k
    unfolding D G
    D-third = sym (third-sum N l (third-part N l) (turned_c N y) (N / 6 - 1 - k))

    a_near : nat_abs (scaled (N / 3) (middle N y) k -ℤ pos P *ℤ S (N / 3) (middle N y) k) ≤ e (5 * Q)
    a_near = near (middle N y) (5 * Q) (middle-size N t y Q y≤) k in_third

    b_near : nat_abs (scaled (N / 3) (r_b N y) k -ℤ pos P *ℤ S (N / 3) (r_b N y) k) ≤ e (5 * Q)
    b_near = near (r_b N y) (5 * Q) (r_b_size N t y Q y≤) k in_third

    g-near : nat_abs (scaled (N / 3) (turned_c N y) (N / 6 - 1 - k) -ℤ pos P *ℤ S (N / 3) (turned_c N y) (N / 6 - 1 - k)) ≤ e (5 * Q)
    g-near = near (turned_c N y) (5 * Q) (turned_c_size N t y Q y≤) (N / 6 - 1 - k) back-third

    abbrev s_a : ℕ → ℤ
    s_a = scaled (N / 3) (middle N y)

    abbrev s_b : ℕ → ℤ
    s_b = scaled (N / 3) (r_b N y)

    abbrev s_g : ℕ → ℤ
    s_g = scaled (N / 3) (turned_c N y)

    splits : (i : ℕ) → scaled N y i ≡ joined N s_a s_b s_g i
    splits i = scaled-split N y l.some (omega (arith, l.twelve)) i

    first : nat_abs (scaled N y (3 * k) -ℤ pos (2 * P) *ℤ S N y (3 * k)) ≤ bound
    first =
        rw (splits (3 * k), joined-first N s_a s_b s_g k)
        (sum_near (s_b k) (s_g (N / 6 - 1 - k)) (B N y k) (D N y k) (S N y (3 * k)) P (e (5 * Q)) (N / 3 * (2 ^ 26 + 9 * Q)) (rw B-third at b_near) (rw D-third at g-near) (plus-near N taken y Q y≤ k q))

    mid : nat_abs (scaled N y (3 * k + 1) -ℤ pos (2 * P) *ℤ S N y (3 * k + 1)) ≤ bound
    mid =
        rw (splits (3 * k + 1), joined-middle N s_a s_b s_g k)
        (le_trans (twice (s_a k) (S N y (3 * k + 1)) P (e (5 * Q)) (rw A-third at a_near)) (le-add_right (2 * e (5 * Q)) (P * (N / 3 * (2 ^ 26 + 9 * Q)))))

    last : nat_abs (scaled N y (3 * k + 2) -ℤ pos (2 * P) *ℤ S N y (3 * k + 2)) ≤ bound
    last =
        rw (splits (3 * k + 2), joined-last N s_a s_b s_g k)
        (difference_near (s_b k) (s_g (N / 6 - 1 - k)) (B N y k) (D N y k) (S N y (3 * k + 2)) P (e (5 * Q)) (N / 3 * (2 ^ 26 + 9 * Q)) (rw B-third at b_near) (rw D-third at g-near) (minus-near N taken y Q y≤ k q))

  pub near-split : Near N (2 * P) (λ Q. 2 * e (5 * Q) + P * (N / 3 * (2 ^ 26 + 9 * Q)))
  near-split y Q y≤ i p = go (i % 3) refl (mod-lt i {m = 3} (lit< tt))
    where
      q : i / 3 < N / 6
      q = omega (arith, l.twelve)

      go : (r : ℕ) → i % 3 ≡ r → r < 3 → nat_abs (scaled N y i -ℤ pos (2 * P) *ℤ S N y i) ≤ 2 * e (5 * Q) + P * (N / 3 * (2 ^ 26 + 9 * Q))
      go zero m r = let f : i ≡ 3 * (i / 3) = omega arith in rw f (first y Q y≤ (i / 3) q)
      go (suc zero) m r = let f : i ≡ 3 * (i / 3) + 1 = omega arith in rw f (mid y Q y≤ (i / 3) q)
      go (suc (suc zero)) m r = let f : i ≡ 3 * (i / 3) + 2 = omega arith in rw f (last y Q y≤ (i / 3) q)
      go (suc (suc (suc j))) m r = absurd (omega arith)

-- ---- two splits deep, at 36 and 72
short_12 : T (short_tabled 12)
unfolding short_tabled every short_lengths
short_12 = tt

short_24 : T (short_tabled 24)
unfolding short_tabled every short_lengths
short_24 = tt

short_36 : T (short_tabled 36)
unfolding short_tabled every short_lengths
short_36 = tt

short_72 : T (short_tabled 72)
unfolding short_tabled every short_lengths
short_72 = tt

pub near_36 : Near 36 4 (λ Q. 2 * (4 * (2 ^ 26 + 9 * (5 * Q))) + 2 * (12 * (2 ^ 26 + 9 * Q)))
near_36 y Q y≤ k p = omega (arith, near-split 36 short_36 2 (λ Q. 2 * 0 + 1 * (12 / 3 * (2 ^ 26 + 9 * Q))) (near-split 12 short_12 1 (λ Q. 0) (near-plain 4 (λ e. omega arith))) y Q y≤ k p)

pub near_72 : Near 72 4 (λ Q. 2 * (8 * (2 ^ 26 + 9 * (5 * Q))) + 2 * (24 * (2 ^ 26 + 9 * Q)))
near_72 y Q y≤ k p = omega (arith, near-split 72 short_72 2 (λ Q. 2 * 0 + 1 * (24 / 3 * (2 ^ 26 + 9 * Q))) (near-split 24 short_24 1 (λ Q. 0) (near-plain 8 (λ e. omega arith))) y Q y≤ k p)

-- rounded: 832 and 1,664 × 2^23 of 2^30 are 6.5 and 13 units, and the two roundings add at most a half each
module _ (S E X Z : ℤ) (x : nat_abs (pos (2 ^ 28) *ℤ X -ℤ S) ≤ 2 ^ 27) (z : nat_abs (pos (2 ^ 30) *ℤ Z -ℤ E) ≤ 2 ^ 29) where
  less : nat_abs (E -ℤ pos 4 *ℤ S) ≤ 832 * 2 ^ 23 → nat_abs (Z -ℤ X) ≤ 7
  less h = simp posbounds (omega (arith, simp posbounds at h, simp posbounds at x, simp posbounds at z))

  more : nat_abs (E -ℤ pos 4 *ℤ S) ≤ 1664 * 2 ^ 23 → nat_abs (Z -ℤ X) ≤ 14
  more h = simp posbounds (omega (arith, simp posbounds at h, simp posbounds at x, simp posbounds at z))

pub within_7_36 : (y : ℕ → ℤ) → ((i : ℕ) → i < 36 → nat_abs (y i) ≤ 2 ^ 23) → (k : ℕ) → k < 18 → nat_abs (double_x 36 y k -ℤ X 36 y k) ≤ 7
unfolding double_x X
within_7_36 y y≤ k p =
    less (S 36 y k) (scaled 36 y k) (rnd (S 36 y k) (2 ^ 28)) (rnd (scaled 36 y k) (2 ^ 30)) (rnd_near (S 36 y k) {b = 2 ^ 28} (lit< tt)) (rnd_near (scaled 36 y k) {b = 2 ^ 30} (lit< tt))
    (omega (arith, near_36 y (2 ^ 23) y≤ k p))

pub within_14_72 : (y : ℕ → ℤ) → ((i : ℕ) → i < 72 → nat_abs (y i) ≤ 2 ^ 23) → (k : ℕ) → k < 36 → nat_abs (double_x 72 y k -ℤ X 72 y k) ≤ 14
unfolding double_x X
within_14_72 y y≤ k p =
    more (S 72 y k) (scaled 72 y k) (rnd (S 72 y k) (2 ^ 28)) (rnd (scaled 72 y k) (2 ^ 30)) (rnd_near (S 72 y k) {b = 2 ^ 28} (lit< tt)) (rnd_near (scaled 72 y k) {b = 2 ^ 30} (lit< tt))
    (omega (arith, near_72 y (2 ^ 23) y≤ k p))

-- at each length at which the route is offered
pub within_14 : (N : ℕ) → T (offered N) → (y : ℕ → ℤ) → ((i : ℕ) → i < N → nat_abs (y i) ≤ 2 ^ 23) → (k : ℕ) → k < N / 2 → nat_abs (double_x N y k -ℤ X N y k) ≤ 14
within_14 N o y =
    either N o (λ n. ((i : ℕ) → i < n → nat_abs (y i) ≤ 2 ^ 23) → (k : ℕ) → k < n / 2 → nat_abs (double_x n y k -ℤ X n y k) ≤ 14)
    (λ y≤ k p. omega (arith, within_7_36 y y≤ k p))
    (λ y≤ k p. within_14_72 y y≤ k p)

-- document 02's distance. The bounds above leave room
pub within_32 : (N : ℕ) → T (offered N) → (y : ℕ → ℤ) → ((i : ℕ) → i < N → nat_abs (y i) ≤ 2 ^ 23) → (k : ℕ) → k < N / 2 → nat_abs (double_x N y k -ℤ X N y k) ≤ units
within_32 N o y y≤ k p = omega (arith, within_14 N o y y≤ k p)
