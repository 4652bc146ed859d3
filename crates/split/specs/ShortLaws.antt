-- Laws of the short route against the direct one, the theorem of document 01's 'Short route': X(3k+1) equals the direct answer exactly, and the other two
-- lie within 16 units of it. N is the length of the part that is split.
use Rattle.std.specs.Prelude.{◌≡◌, refl, T, ◌+ℤ◌, ◌-ℤ◌, ◌*ℤ◌}
use Rattle.std.proofs.Math.Path.{sym, ap}
use Rattle.std.proofs.Common.{ap₂, ◌∙◌, mod-lt, lit<}
use Prim.Native.Nat.{ℕ, zero, suc, ◌+◌, ◌-◌, ◌*◌, ◌/◌, ◌%◌, ◌^◌, ◌≤◌, ◌<◌}
use native.Mathlib.Omega.{arith}
use Rattle.std.proofs.Math.IntN.{ℤ, pos, neg_ℤ, nat_abs}
use Rattle.arithmetic.specs.Rounding.{rnd}
use Rattle.arithmetic.specs.Sums.{sum}
use Rattle.arithmetic.specs.IntegerLaws.{ints}
use Rattle.arithmetic.specs.RingLaws.{*ℤ_neg_ℤ, neg_ℤ_*ℤ}
use Rattle.arithmetic.specs.OrderLaws.{bounds, posbounds, abs_neg}
use Rattle.arithmetic.specs.RoundingLaws.{rnd_near}
use Rattle.arithmetic.specs.SumLaws.{sum_ext, sum_add, sum_sub, sum_neg, sum_scale, sum-split, sum_rev, sum_abs}
use Rattle.cosine.specs.Kernels.{K, L, e_b, f_b, e_c, f_c, turned}
use Rattle.cosine.specs.LengthLaws.{tabled_length}
use Rattle.cosine.specs.KernelLaws.{L-size}
use Rattle.cosine.specs.SplitLaws.{K_third_a, K_third_b, K_third_c, SplitAt, split-plus, split-minus, L', L'-size, turned_mul}
use Rattle.transform.specs.Analysis.{S, X}
use Rattle.split.specs.ShortRoute.{offered, a, b, c, e, f, r_b, r_c, A, B, G, D, short_x, units}
use Rattle.split.specs.OfferLaws.{offered-tabled, offered-short, offered-most}
use Rattle.split.specs.ShortSizeLaws.{a-size, b-size, c-size}
use Rattle.split.specs.TripleLaws.{made, off≤}

-- a sum in three parts, each backwards
sum-three : (t : ℕ) (f : ℕ → ℤ) → sum (t + t + t) f ≡ sum t (λ n. f (t - suc n) +ℤ f (t + (t - suc n)) +ℤ f (t + t + (t - suc n)))
sum-three t f =
    sum-split (t + t) t f
    ∙ ap₂ (λ (x y : ℤ). x +ℤ y)
    (sum-split t t f ∙ ap₂ (λ (x y : ℤ). x +ℤ y) (sum_rev t f) (sum_rev t (λ i. f (t + i))) ∙ sym (sum_add t (λ n. f (t - suc n)) (λ n. f (t + (t - suc n)))))
    (sum_rev t (λ i. f (t + t + i)))
    ∙ sym (sum_add t (λ n. f (t - suc n) +ℤ f (t + (t - suc n))) (λ n. f (t + t + (t - suc n))))

-- ---- the last step, at each of the three
module _ (N : ℕ) (y : ℕ → ℤ) (k : ℕ) where
  pub short-first : short_x N y (3 * k) ≡ rnd (B N y k +ℤ D N y k) (2 ^ 29)
  unfolding short_x
  short-first =
      let q : 3 * k / 3 ≡ k = omega arith in
      let r : 3 * k % 3 ≡ 0 = omega arith in
      rw (q, r)

  pub short-middle : short_x N y (3 * k + 1) ≡ rnd (A N y k) (2 ^ 28)
  unfolding short_x
  short-middle =
      let q : (3 * k + 1) / 3 ≡ k = omega arith in
      let r : (3 * k + 1) % 3 ≡ 1 = omega arith in
      rw (q, r)

  pub short-last : short_x N y (3 * k + 2) ≡ rnd (B N y k -ℤ D N y k) (2 ^ 29)
  unfolding short_x
  short-last =
      let q : (3 * k + 2) / 3 ≡ k = omega arith in
      let r : (3 * k + 2) % 3 ≡ 2 = omega arith in
      rw (q, r)

module _ (N : ℕ) (o : T (offered N)) where
  thirds : N / 3 + N / 3 + N / 3 ≡ N
  thirds = omega (arith, (tabled_length N (offered-tabled N o)).twelve)

  place-a : (n : ℕ) → N / 3 - suc n ≡ N / 3 - 1 - n
  place-a n = omega arith

  place-b : (n : ℕ) → n < N / 3 → N / 3 + (N / 3 - suc n) ≡ 2 * N / 3 - 1 - n
  place-b n p = let h = thirds in omega arith

  place-c : (n : ℕ) → n < N / 3 → N / 3 + N / 3 + (N / 3 - suc n) ≡ N - 1 - n
  place-c n p = let h = thirds in omega arith

  module _ (y : ℕ → ℤ) where
    -- the direct sum by triples
    abbrev three : ℕ → ℕ → ℤ
    three i n = a N y n *ℤ K N (N / 3 - 1 - n) i +ℤ b N y n *ℤ K N (2 * N / 3 - 1 - n) i +ℤ c N y n *ℤ K N (N - 1 - n) i

    S-thirds : (i : ℕ) → S N y i ≡ sum (N / 3) (three i)
    unfolding S a b c
    S-thirds i =
        let f : ℕ → ℤ = λ m. y m *ℤ K N m i in
        ap (λ (m : ℕ). sum m f) (sym thirds)
        ∙ sum-three (N / 3) f
        ∙ sum_ext (N / 3) (λ n. f (N / 3 - suc n) +ℤ f (N / 3 + (N / 3 - suc n)) +ℤ f (N / 3 + N / 3 + (N / 3 - suc n))) (three i)
        (λ n p. rw (place-c n p, place-b n p, place-a n))

    -- ---- the coefficients 3k+1 are those of the direct route
    pub A-is : (k : ℕ) → A N y k ≡ S N y (3 * k + 1)
    unfolding A
    A-is k =
        sum_ext (N / 3) (λ n. L N n k *ℤ (a N y n -ℤ b N y n +ℤ c N y n)) (three (3 * k + 1))
        (λ n p. rw (K_third_a N (offered-tabled N o) n k p, K_third_b N (offered-tabled N o) n k p, K_third_c N (offered-tabled N o) n k p) (alg (L N n k) (a N y n) (b N y n) (c N y n)))
        ∙ sym (S-thirds (3 * k + 1))
      where
        alg : (l a b c : ℤ) → l *ℤ (a -ℤ b +ℤ c) ≡ a *ℤ l +ℤ b *ℤ neg_ℤ l +ℤ c *ℤ l
        alg l a b c = simp ints (omega arith)

    pub middle-exact : (k : ℕ) → short_x N y (3 * k + 1) ≡ X N y (3 * k + 1)
    unfolding X
    middle-exact k = rw (short-middle N y k, A-is k)

    -- ---- the two beside them, unrounded: B(k) ± D(k) against twice the direct sum, Q being the size of the inputs
    r_b_near : (n : ℕ) → nat_abs (pos (2 ^ 26) *ℤ r_b N y n -ℤ made (a N y n) (b N y n) (c N y n) (e_b N n) (neg_ℤ (f_b N n))) ≤ 2 ^ 25
    unfolding r_b made e f
    r_b_near n =
        rw (*ℤ_neg_ℤ (a N y n +ℤ b N y n) (f_b N n))
        (rnd_near ((pos 2 *ℤ c N y n -ℤ a N y n +ℤ b N y n) *ℤ e_b N n -ℤ (a N y n +ℤ b N y n) *ℤ f_b N n) {b = 2 ^ 26} (lit< tt))

    r_c_near : (n : ℕ) → nat_abs (pos (2 ^ 26) *ℤ r_c N y n -ℤ made (a N y n) (b N y n) (c N y n) (e_c N n) (f_c N n)) ≤ 2 ^ 25
    unfolding r_c made e f
    r_c_near n = rnd_near ((pos 2 *ℤ c N y n -ℤ a N y n +ℤ b N y n) *ℤ e_c N n +ℤ (a N y n +ℤ b N y n) *ℤ f_c N n) {b = 2 ^ 26} (lit< tt)

    module _ (Q : ℕ) (y≤ : (n : ℕ) → n < N → nat_abs (y n) ≤ Q) where
      outer : (k i : ℕ) (g : ℕ → ℤ) → ((n : ℕ) → nat_abs (g n) ≤ 2 ^ 26) → ((n : ℕ) → n < N / 3 → SplitAt N n k i (g n)) →
          nat_abs (B N y k +ℤ sum (N / 3) (λ n. g n *ℤ r_c N y n) -ℤ pos 2 *ℤ S N y i) ≤ N / 3 * (2 ^ 26 + 9 * Q)
      unfolding B
      outer k i g g≤ near =
          rw (
            S-thirds i,
            ← (sum_scale (N / 3) (pos 2) (three i)),
            ← (sum_add (N / 3) (λ n. L N n k *ℤ r_b N y n) (λ n. g n *ℤ r_c N y n)),
            ← (sum_sub (N / 3) (λ n. L N n k *ℤ r_b N y n +ℤ g n *ℤ r_c N y n) (λ n. pos 2 *ℤ three i n)),
          )
          (sum_abs (N / 3) (λ n. L N n k *ℤ r_b N y n +ℤ g n *ℤ r_c N y n -ℤ pos 2 *ℤ three i n) (2 ^ 26 + 9 * Q)
          (λ n p. off≤ (L N n k) (g n) (e_b N n) (f_b N n) (e_c N n) (f_c N n) (K N (N / 3 - 1 - n) i) (K N (2 * N / 3 - 1 - n) i) (K N (N - 1 - n) i) (near n p) (L-size N n k) (g≤ n) Q
          (a N y n) (b N y n) (c N y n) (a-size N y Q y≤ n p) (b-size N y Q y≤ n p) (c-size N y Q y≤ n p) (r_b N y n) (r_c N y n) (r_b_near n) (r_c_near n)))

      module _ (k : ℕ) where
        D-is : D N y k ≡ sum (N / 3) (λ n. L' N k n *ℤ r_c N y n)
        unfolding D G
        D-is = sum_ext (N / 3) (λ n. L N n (N / 6 - 1 - k) *ℤ turned N n (r_c N y n)) (λ n. L' N k n *ℤ r_c N y n) (λ n p. turned_mul N n (L N n (N / 6 - 1 - k)) (r_c N y n))

        D-other : sum (N / 3) (λ n. neg_ℤ (L' N k n) *ℤ r_c N y n) ≡ neg_ℤ (D N y k)
        D-other =
            sum_ext (N / 3) (λ n. neg_ℤ (L' N k n) *ℤ r_c N y n) (λ n. neg_ℤ (L' N k n *ℤ r_c N y n)) (λ n p. neg_ℤ_*ℤ (L' N k n) (r_c N y n))
            ∙ sum_neg (N / 3) (λ n. L' N k n *ℤ r_c N y n)
            ∙ ap neg_ℤ (sym D-is)

        pub plus-near : k < N / 6 → nat_abs (B N y k +ℤ D N y k -ℤ pos 2 *ℤ S N y (3 * k)) ≤ N / 3 * (2 ^ 26 + 9 * Q)
        plus-near q = rw D-is (outer k (3 * k) (L' N k) (L'-size N k) (λ n p. split-plus N (offered-short N o) n k p q))

        pub minus-near : k < N / 6 → nat_abs (B N y k -ℤ D N y k -ℤ pos 2 *ℤ S N y (3 * k + 2)) ≤ N / 3 * (2 ^ 26 + 9 * Q)
        minus-near q = rw D-other at (outer k (3 * k + 2) (λ n. neg_ℤ (L' N k n)) (λ n. rw (abs_neg (L' N k n)) (L'-size N k n)) (λ n p. split-minus N (offered-short N o) n k p q))

    -- ---- of a windowed block, rounded, which adds less than 1
    module _ (y≤ : (n : ℕ) → n < N → nat_abs (y n) ≤ 2 ^ 23) where
      rounded : (i : ℕ) (E : ℤ) → nat_abs (E -ℤ pos 2 *ℤ S N y i) ≤ N / 3 * (17 * 2 ^ 23) → nat_abs (rnd E (2 ^ 29) -ℤ X N y i) ≤ 7
      unfolding X
      rounded i E h = go (N / 3) (S N y i) E (X N y i) (rnd E (2 ^ 29)) (omega (arith, offered-most N o)) h (rnd_near (S N y i) {b = 2 ^ 28} (lit< tt)) (rnd_near E {b = 2 ^ 29} (lit< tt))
        where
          go : (t : ℕ) (S E X Z : ℤ) → t ≤ 24 → nat_abs (E -ℤ pos 2 *ℤ S) ≤ t * (17 * 2 ^ 23) → nat_abs (pos (2 ^ 28) *ℤ X -ℤ S) ≤ 2 ^ 27 → nat_abs (pos (2 ^ 29) *ℤ Z -ℤ E) ≤ 2 ^ 28 →
              nat_abs (Z -ℤ X) ≤ 7
          go t S E X Z p h x z = simp posbounds (omega (arith, simp posbounds at h, simp posbounds at x, simp posbounds at z))

      module _ (k : ℕ) (q : k < N / 6) where
        first-near : nat_abs (short_x N y (3 * k) -ℤ X N y (3 * k)) ≤ 7
        first-near = rw (short-first N y k) (rounded (3 * k) (B N y k +ℤ D N y k) (plus-near (2 ^ 23) y≤ k q))

        middle-near : nat_abs (short_x N y (3 * k + 1) -ℤ X N y (3 * k + 1)) ≤ 7
        middle-near = rw (middle-exact k) (none (X N y (3 * k + 1)))
          where
            none : (z : ℤ) → nat_abs (z -ℤ z) ≤ 7
            none z = simp bounds (omega arith)

        last-near : nat_abs (short_x N y (3 * k + 2) -ℤ X N y (3 * k + 2)) ≤ 7
        last-near = rw (short-last N y k) (rounded (3 * k + 2) (B N y k -ℤ D N y k) (minus-near (2 ^ 23) y≤ k q))

      pub within_7 : (i : ℕ) → i < N / 2 → nat_abs (short_x N y i -ℤ X N y i) ≤ 7
      within_7 i p = go (i % 3) refl (mod-lt i {m = 3} (lit< tt))
        where
          q : i / 3 < N / 6
          q = omega (arith, (tabled_length N (offered-tabled N o)).twelve)

          go : (r : ℕ) → i % 3 ≡ r → r < 3 → nat_abs (short_x N y i -ℤ X N y i) ≤ 7
          go zero e r = let f : i ≡ 3 * (i / 3) = omega arith in rw f (first-near (i / 3) q)
          go (suc zero) e r = let f : i ≡ 3 * (i / 3) + 1 = omega arith in rw f (middle-near (i / 3) q)
          go (suc (suc zero)) e r = let f : i ≡ 3 * (i / 3) + 2 = omega arith in rw f (last-near (i / 3) q)
          go (suc (suc (suc n))) e r = absurd (omega arith)

      -- document 01's distance. The bounds above leave room
      pub within_16 : (i : ℕ) → i < N / 2 → nat_abs (short_x N y i -ℤ X N y i) ≤ units
      within_16 i p = omega (arith, within_7 i p)
