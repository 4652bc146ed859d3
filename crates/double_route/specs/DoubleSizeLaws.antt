-- Laws of size, with the part's length N and the size Q of its inputs as parameters: a split makes inputs of at most 5 Q, and the sums of N inputs that
-- have room are at most N × 2^54, at every depth.
use Rattle.std.specs.Prelude.{◌≡◌, refl, Bool, cond, ℕ, zero, suc, ◌+◌, ◌-◌, ◌*◌, ◌/◌, ◌%◌, ◌^◌, ◌≤◌, ◌<◌, T, eqb, leb, ℤ, pos, neg_ℤ, ◌+ℤ◌, ◌-ℤ◌, ◌*ℤ◌}
use Rattle.std.proofs.Math.Path.{fun_ext}
use Rattle.std.proofs.Math.Bool.{true, false}
use Rattle.std.proofs.Common.{le_refl, le_trans, mul-le-mul_left, arith, lit<, eqb→eq}
use Rattle.std.proofs.Math.Dec.{leb→le}
use Rattle.std.proofs.Math.IntN.{nat_abs}
use Rattle.arithmetic.specs.Lists.{all, every}
use Rattle.arithmetic.specs.IntegerLaws.{posints}
use Rattle.arithmetic.specs.RingLaws.{*ℤ_neg_ℤ}
use Rattle.arithmetic.specs.OrderLaws.{abs_add, abs_sub, abs_mul, abs_mul_le}
use Rattle.arithmetic.specs.RoundingLaws.{rnd_le}
use Rattle.arithmetic.specs.SumLaws.{sum_abs}
use Rattle.arithmetic.specs.TestLaws.{all-at, both_left, both_right}
use Rattle.cosine.specs.Cosine.{quarter, third, sixth, twelfth, reduced, to_half, to_turn, continued, C}
use Rattle.cosine.specs.Kernels.{short_lengths, short_tabled, K, s, e_b, f_b, e_c, f_c}
use Rattle.cosine.specs.TableLaws.{numbers}
use Rattle.cosine.specs.CosineLaws.{table_c, C-table}
use Rattle.cosine.specs.KernelLaws.{K-size}
use Rattle.cosine.specs.LengthLaws.{of_short}
use Rattle.cosine.specs.SplitLaws.{turned_abs}
use Rattle.transform.specs.Analysis.{S}
use Rattle.split.specs.ShortRoute.{a, b, c, e, f, r_b, r_c}
use Rattle.split.specs.Parts.{middle, turned_c}
use Rattle.split.specs.ShortSizeLaws as sizes
use Rattle.split.specs.ShortSizeLaws.{a-size, b-size, c-size}
use Rattle.split.specs.PartLaws.{place}
use Rattle.double_route.specs.Double.{splits, joined, scaled_in, scaled}
use Rattle.double_route.specs.PieceLaws.{piece, room, split-short, third-piece, room-third, room_most}

-- ---- what stands beside a, b and c in rB and rC, in all: at most 5 × 2^26, by one computed test
abbrev weight : ℤ → ℤ → ℕ
weight u v = nat_abs (v -ℤ u) + nat_abs (u +ℤ v) + 2 * nat_abs u

-- with a rule c for C
module _ (c : ℤ → ℤ) (N : ℕ) where
  abbrev light : ℕ → Bool
  light n =
      cond (leb (weight (c (pos quarter -ℤ pos (s N n))) (neg_ℤ (c (pos (s N n) -ℤ pos twelfth) +ℤ c (pos (s N n) +ℤ pos twelfth)))) (5 * 2 ^ 26))
      (leb (weight (c (pos (s N n))) (c (pos sixth -ℤ pos (s N n)) +ℤ c (pos third -ℤ pos (s N n)))) (5 * 2 ^ 26)) false

  right : Bool
  right = all (N / 3) light

test : T (every (right table_c) short_lengths)
unfolding every short_lengths right all s table_c continued to_turn to_half reduced numbers
test = tt

module _ (N : ℕ) (t : T (short_tabled N)) (n : ℕ) (p : n < N / 3) where
  at_n : T (light C N n)
  unfolding right
  at_n = all-at (N / 3) (light C N) (of_short (right C) (rw (fun_ext C-table) test) N t) n p

  weight-B : weight (e_b N n) (neg_ℤ (f_b N n)) ≤ 5 * 2 ^ 26
  unfolding e_b f_b e_c f_c
  weight-B = leb→le (weight (e_b N n) (neg_ℤ (f_b N n))) (5 * 2 ^ 26) (both_left (leb (weight (e_b N n) (neg_ℤ (f_b N n))) (5 * 2 ^ 26)) (leb (weight (e_c N n) (f_c N n)) (5 * 2 ^ 26)) at_n)

  weight-C : weight (e_c N n) (f_c N n) ≤ 5 * 2 ^ 26
  unfolding e_b f_b e_c f_c
  weight-C = leb→le (weight (e_c N n) (f_c N n)) (5 * 2 ^ 26) (both_right (leb (weight (e_b N n) (neg_ℤ (f_b N n))) (5 * 2 ^ 26)) (leb (weight (e_c N n) (f_c N n)) (5 * 2 ^ 26)) at_n)

-- a rotation of e = 2c - a + b and f = a + b
rotation : (Q : ℕ) (a b c u v : ℤ) → nat_abs a ≤ Q → nat_abs b ≤ Q → nat_abs c ≤ Q → weight u v ≤ 5 * 2 ^ 26 →
    nat_abs ((pos 2 *ℤ c -ℤ a +ℤ b) *ℤ u +ℤ (a +ℤ b) *ℤ v) ≤ 2 ^ 26 * (5 * Q)
rotation Q a b c u v ha hb hc w = rw (flat a b c u v) (go (a *ℤ (v -ℤ u)) (b *ℤ (u +ℤ v)) (c *ℤ (pos 2 *ℤ u)) (abs_mul_le a (v -ℤ u) ha (le_refl _)) (abs_mul_le b (u +ℤ v) hb (le_refl _)) (abs_mul_le c (pos 2 *ℤ u) hc (le_refl _)))
  where
    flat : (a b c u v : ℤ) → (pos 2 *ℤ c -ℤ a +ℤ b) *ℤ u +ℤ (a +ℤ b) *ℤ v ≡ a *ℤ (v -ℤ u) +ℤ b *ℤ (u +ℤ v) +ℤ c *ℤ (pos 2 *ℤ u)
    flat a b c u v = simp posints (omega arith)

    go : (x y z : ℤ) → nat_abs x ≤ Q * nat_abs (v -ℤ u) → nat_abs y ≤ Q * nat_abs (u +ℤ v) → nat_abs z ≤ Q * nat_abs (pos 2 *ℤ u) → nat_abs (x +ℤ y +ℤ z) ≤ 2 ^ 26 * (5 * Q)
    go x y z hx hy hz =
        omega (arith, abs_add (x +ℤ y) z, abs_add x y, hx, hy, rw (abs_mul (pos 2) u) at hz, mul-le-mul_left Q w)

module _ (N : ℕ) (t : T (short_tabled N)) (y : ℕ → ℤ) (Q : ℕ) (y≤ : (n : ℕ) → n < N → nat_abs (y n) ≤ Q) (n : ℕ) (p : n < N / 3) where
  pub middle-size : nat_abs (middle N y n) ≤ 5 * Q
  middle-size = omega (arith, sizes.middle-size N y Q y≤ n p)

  pub r_b_size : nat_abs (r_b N y n) ≤ 5 * Q
  unfolding r_b e f
  r_b_size =
      rnd_le (e N y n *ℤ e_b N n -ℤ f N y n *ℤ f_b N n) {b = 2 ^ 26} {n = 5 * Q} (lit< tt)
      (rw (*ℤ_neg_ℤ (a N y n +ℤ b N y n) (f_b N n)) at
      (rotation Q (a N y n) (b N y n) (c N y n) (e_b N n) (neg_ℤ (f_b N n)) (a-size N y Q y≤ n p) (b-size N y Q y≤ n p) (c-size N y Q y≤ n p) (weight-B N t n p)))

  pub turned_c_size : nat_abs (turned_c N y n) ≤ 5 * Q
  unfolding r_c e f
  turned_c_size =
      rw (turned_abs N n (r_c N y n))
      (rnd_le (e N y n *ℤ e_c N n +ℤ f N y n *ℤ f_c N n) {b = 2 ^ 26} {n = 5 * Q} (lit< tt)
      (rotation Q (a N y n) (b N y n) (c N y n) (e_c N n) (f_c N n) (a-size N y Q y≤ n p) (b-size N y Q y≤ n p) (c-size N y Q y≤ n p) (weight-C N t n p)))

  -- of each part, by its number
  pub place-size : (k : ℕ) → nat_abs (place k N y n) ≤ 5 * Q
  unfolding place
  place-size k = go (eqb k 0) (eqb k 1)
    where
      go : (b c : Bool) → nat_abs (cond b (middle N y n) (cond c (r_b N y n) (turned_c N y n))) ≤ 5 * Q
      go true c = middle-size
      go false true = r_b_size
      go false false = turned_c_size

-- ---- the sums
joined-size : (N M : ℕ) (A B G : ℕ → ℤ) → ((k : ℕ) → nat_abs (A k) ≤ M) → ((k : ℕ) → nat_abs (B k) ≤ M) → ((k : ℕ) → nat_abs (G k) ≤ M) → (i : ℕ) → nat_abs (joined N A B G i) ≤ 2 * M
unfolding joined
joined-size N M A B G p q r i = go (eqb (i % 3) 1) (eqb (i % 3) 0)
  where
    go : (x y : Bool) → nat_abs (cond x (pos 2 *ℤ A (i / 3)) (cond y (B (i / 3) +ℤ G (N / 6 - 1 - i / 3)) (B (i / 3) -ℤ G (N / 6 - 1 - i / 3)))) ≤ 2 * M
    go true y = omega (arith, abs_mul (pos 2) (A (i / 3)), p (i / 3))
    go false true = omega (arith, abs_add (B (i / 3)) (G (N / 6 - 1 - i / 3)), q (i / 3), r (N / 6 - 1 - i / 3))
    go false false = omega (arith, abs_sub (B (i / 3)) (G (N / 6 - 1 - i / 3)), q (i / 3), r (N / 6 - 1 - i / 3))

S-most : (N : ℕ) (y : ℕ → ℤ) → ((i : ℕ) → i < N → nat_abs (y i) ≤ 2 ^ 28) → (k : ℕ) → nat_abs (S N y k) ≤ N * 2 ^ 54
unfolding S
S-most N y y≤ k = sum_abs N (λ i. y i *ℤ K N i k) (2 ^ 28 * 2 ^ 26) (λ i p. abs_mul_le (y i) (K N i k) (y≤ i p) (K-size N i k))

in_size : (g N : ℕ) → T (piece N) → (y : ℕ → ℤ) → ((i : ℕ) → i < N → nat_abs (y i) ≤ room N) → (k : ℕ) → nat_abs (scaled_in g N y k) ≤ N * 2 ^ 54
unfolding scaled_in splits
in_size zero N t y y≤ k = S-most N y (λ i p. le_trans (y≤ i p) (room_most N)) k
in_size (suc g) N t y y≤ k = go (splits N) refl (λ v. in_size g (N / 3) v)
  where
    go : (b : Bool) → splits N ≡ b → (T (piece (N / 3)) → (y : ℕ → ℤ) → ((i : ℕ) → i < N / 3 → nat_abs (y i) ≤ room (N / 3)) → (k : ℕ) → nat_abs (scaled_in g (N / 3) y k) ≤ N / 3 * 2 ^ 54) →
        nat_abs (scaled_in (suc g) N y k) ≤ N * 2 ^ 54
    go true e more =
        let q = split-short N t (eqb→eq (N % 12) 0 (rw e tt)) in
        let part : (v : ℕ → ℤ) → ((i : ℕ) → i < N / 3 → nat_abs (v i) ≤ 5 * room N) → (k : ℕ) → nat_abs (scaled_in g (N / 3) v k) ≤ N / 3 * 2 ^ 54 = λ v v≤ k. more (third-piece N q) v (λ i p. le_trans (v≤ i p) (room-third N q)) k in
        rw e
        (le_trans
        (joined-size N (N / 3 * 2 ^ 54) (λ j. scaled_in g (N / 3) (middle N y) j) (λ j. scaled_in g (N / 3) (r_b N y) j) (λ j. scaled_in g (N / 3) (turned_c N y) j)
        (part (middle N y) (middle-size N q y (room N) y≤)) (part (r_b N y) (r_b_size N q y (room N) y≤)) (part (turned_c N y) (turned_c_size N q y (room N) y≤)) k)
        (omega arith))
    go false e more = rw e (S-most N y (λ i p. le_trans (y≤ i p) (room_most N)) k)

pub scaled-size : (N : ℕ) → T (piece N) → (y : ℕ → ℤ) → ((i : ℕ) → i < N → nat_abs (y i) ≤ room N) → (k : ℕ) → nat_abs (scaled N y k) ≤ N * 2 ^ 54
unfolding scaled
scaled-size N t y y≤ k = in_size N N t y y≤ k
