-- Laws of folding, source 003, equation (41): the N products of S become M, and each sum of the inverse is one of M sums or its negative.
use Rattle.std.specs.Prelude.{◌≡◌, cond, List, ltb, neg_ℤ, nat_abs, ◌+ℤ◌, ◌-ℤ◌, ◌*ℤ◌}
use Rattle.std.proofs.Math.Path.{sym, ap}
use Rattle.std.proofs.Common.{ap₂, ◌∙◌, arith}
use Prim.Native.Nat.{ℕ, suc, ◌+◌, ◌-◌, ◌*◌, ◌/◌, ◌≤◌, ◌<◌}
use Rattle.std.proofs.Math.Decide.{dec_lt}
use Rattle.std.proofs.Math.IntN.{ℤ}
use Rattle.arithmetic.specs.Sums.{sum}
use Rattle.arithmetic.specs.Lists.{at}
use Rattle.arithmetic.specs.IntegerLaws.{ints}
use Rattle.arithmetic.specs.RingLaws.{*ℤ_neg_ℤ}
use Rattle.arithmetic.specs.OrderLaws.{abs_sub, abs_neg}
use Rattle.arithmetic.specs.SumLaws.{sum_ext, sum_add, sum_neg, sum-split, sum_rev, sum-two}
use Rattle.arithmetic.specs.TestLaws.{cond_lt, cond_ge}
use Rattle.cosine.specs.Kernels.{K, F}
use Rattle.cosine.specs.LengthLaws.{Part}
use Rattle.cosine.specs.KernelLaws.{fold_first, fold_middle, fold_last}
use Rattle.transform.specs.Analysis.{S}

-- the folded input, j below M. N/4 is M/2
unfoldable pub folded : ℕ → (ℕ → ℤ) → ℕ → ℤ
folded N y j =
    cond (ltb j (N / 4)) (neg_ℤ (y (3 * (N / 4) - 1 - j)) -ℤ y (3 * (N / 4) + j)) (y (j - N / 4) -ℤ y (3 * (N / 4) - 1 - j))

module _ (N : ℕ) (y : ℕ → ℤ) (j : ℕ) where
  pub folded_low : j < N / 4 → folded N y j ≡ neg_ℤ (y (3 * (N / 4) - 1 - j)) -ℤ y (3 * (N / 4) + j)
  unfolding folded
  folded_low p = cond_lt j (N / 4) (neg_ℤ (y (3 * (N / 4) - 1 - j)) -ℤ y (3 * (N / 4) + j)) (y (j - N / 4) -ℤ y (3 * (N / 4) - 1 - j)) p

  pub folded-high : N / 4 ≤ j → folded N y j ≡ y (j - N / 4) -ℤ y (3 * (N / 4) - 1 - j)
  unfolding folded
  folded-high p = cond_ge j (N / 4) (neg_ℤ (y (3 * (N / 4) - 1 - j)) -ℤ y (3 * (N / 4) + j)) (y (j - N / 4) -ℤ y (3 * (N / 4) - 1 - j)) p

-- a sum by four parts, the middle ones backwards
sum_four : (h : ℕ) (f : ℕ → ℤ) → sum (h + h + (h + h)) f ≡ sum h (λ i. f i +ℤ f (h + h - suc i) +ℤ (f (h + h + h - suc i) +ℤ f (h + h + h + i)))
sum_four h f =
    sum-split (h + h) (h + h) f
    ∙ ap₂ (λ (a b : ℤ). a +ℤ b) (halves f (λ i. f (h + h - suc i)) (λ i p. ap f (omega arith))) (halves' (λ i. f (h + h + i)))
    ∙ sym (sum_add h (λ i. f i +ℤ f (h + h - suc i)) (λ i. f (h + h + h - suc i) +ℤ f (h + h + h + i)))
  where
    -- the second half backwards, as g
    halves : (f g : ℕ → ℤ) → ((i : ℕ) → i < h → f (h + (h - suc i)) ≡ g i) → sum (h + h) f ≡ sum h (λ i. f i +ℤ g i)
    halves f g e =
        sum-split h h f
        ∙ ap (λ (b : ℤ). sum h f +ℤ b) (sum_rev h (λ i. f (h + i)) ∙ sum_ext h (λ i. f (h + (h - suc i))) g e)
        ∙ sym (sum_add h f g)

    halves' : (g : ℕ → ℤ) → sum (h + h) (λ i. f (h + h + i)) ≡ sum h (λ i. f (h + h + h - suc i) +ℤ f (h + h + h + i))
    halves' g =
        sum-split h h (λ i. f (h + h + i))
        ∙ ap₂ (λ (a b : ℤ). a +ℤ b)
        (sum_rev h (λ i. f (h + h + i)) ∙ sum_ext h (λ i. f (h + h + (h - suc i))) (λ i. f (h + h + h - suc i)) (λ i p. ap f (omega arith)))
        (sum_ext h (λ i. f (h + h + (h + i))) (λ i. f (h + h + h + i)) (λ i p. ap f (omega arith)))
        ∙ sym (sum_add h (λ i. f (h + h + h - suc i)) (λ i. f (h + h + h + i)))

-- places of the four quarters, mirrored
place_1 : (h i : ℕ) → i < h → 3 * h - 1 - (h + h - suc i) ≡ h + i
place_1 h i p = omega arith

place_2 : (h i : ℕ) → i < h → 3 * h - 1 - (h + h + h - suc i) ≡ i
place_2 h i p = omega arith

place_3 : (h i : ℕ) → 3 * h - 1 - (h + i) ≡ h + h - suc i
place_3 h i = omega arith

module _ (N : ℕ) (len : Part N) where
  abbrev h : ℕ
  h = N / 4

  -- the sums of the products, folded first: the same S exactly
  pub S-folded : (y : ℕ → ℤ) (k : ℕ) → S N y k ≡ sum (N / 2) (λ j. folded N y j *ℤ F N j k)
  unfolding S
  S-folded y k =
      let n : N ≡ h + h + (h + h) = omega (arith, len.four) in
      let m : h + h ≡ N / 2 = omega (arith, len.four) in
      ap (λ (m : ℕ). sum m term) n
      ∙ sum_four h term
      ∙ sum_ext h (λ i. term i +ℤ term (h + h - suc i) +ℤ (term (h + h + h - suc i) +ℤ term (h + h + h + i))) (λ i. product i +ℤ product (h + i)) each
      ∙ sym (sum-two h product)
      ∙ ap (λ (m : ℕ). sum m product) m
    where
      term : ℕ → ℤ
      term n = y n *ℤ K N n k

      product : ℕ → ℤ
      product j = folded N y j *ℤ F N j k

      alg : (a b c e p q : ℤ) → a *ℤ q +ℤ b *ℤ neg_ℤ q +ℤ (c *ℤ neg_ℤ p +ℤ e *ℤ neg_ℤ p) ≡ (neg_ℤ c -ℤ e) *ℤ p +ℤ (a -ℤ b) *ℤ q
      alg a b c e p q = simp ints (omega arith)

      each : (i : ℕ) → i < h → term i +ℤ term (h + h - suc i) +ℤ (term (h + h + h - suc i) +ℤ term (h + h + h + i)) ≡ product i +ℤ product (h + i)
      each i p =
          let i0 : i + h ≡ h + i = omega arith in
          let i3 : h + h + h + i - 3 * h ≡ i = omega arith in
          let j1 : 3 * h - 1 - i ≡ h + h + h - suc i = omega arith in
          let j2 : 3 * h + i ≡ h + h + h + i = omega arith in
          let j3 : h + i - h ≡ i = omega arith in
          let k0 : K N i k ≡ F N (h + i) k = rw i0 at (fold_first N len i k p) in
          let k1 : K N (h + h - suc i) k ≡ neg_ℤ (F N (h + i) k) = rw (place_1 h i p) at (fold_middle N len (h + h - suc i) k (omega arith) (omega arith)) in
          let k2 : K N (h + h + h - suc i) k ≡ neg_ℤ (F N i k) = rw (place_2 h i p) at (fold_middle N len (h + h + h - suc i) k (omega arith) (omega arith)) in
          let k3 : K N (h + h + h + i) k ≡ neg_ℤ (F N i k) = rw i3 at (fold_last N len (h + h + h + i) k (omega arith)) in
          let l = rw (j1, j2) at (folded_low N y i p) in
          let u = rw (j3, place_3 h i) at (folded-high N y (h + i) (omega arith)) in
          rw (k0, k1, k2, k3, l, u) (alg (y i) (y (h + h - suc i)) (y (h + h + h - suc i)) (y (h + h + h + i)) (F N i k) (F N (h + i) k))

  pub folded-size : (B : ℕ) (y : ℕ → ℤ) → ((n : ℕ) → n < N → nat_abs (y n) ≤ B) → (j : ℕ) → j < N / 2 → nat_abs (folded N y j) ≤ 2 * B
  folded-size B y b j p = go (dec_lt j h)
    where
      go : Dec (j < h) → nat_abs (folded N y j) ≤ 2 * B
      go (yes q) = rw (folded_low N y j q)
          (omega (arith, abs_sub (neg_ℤ (y (3 * h - 1 - j))) (y (3 * h + j)), abs_neg (y (3 * h - 1 - j)), b (3 * h - 1 - j) (omega (arith, len.four)), b (3 * h + j) (omega (arith, len.four))))
      go (no q) = rw (folded-high N y j (omega arith))
          (omega (arith, abs_sub (y (j - h)) (y (3 * h - 1 - j)), b (j - h) (omega (arith, len.four)), b (3 * h - 1 - j) (omega (arith, len.four))))

  -- ---- the inverse: the sum at place n is that at one of M places, or its negative
  -- the sum over k of X(k) × F(j,k)
  module _ (X : List ℤ) where
    abbrev T' : ℕ → ℤ
    T' j = sum (N / 2) (λ k. at X k *ℤ F N j k)

    abbrev Σ' : ℕ → ℤ
    Σ' n = sum (N / 2) (λ k. at X k *ℤ K N n k)

    minus : (n j : ℕ) → ((k : ℕ) → K N n k ≡ neg_ℤ (F N j k)) → Σ' n ≡ neg_ℤ (T' j)
    minus n j e =
        sum_ext (N / 2) (λ k. at X k *ℤ K N n k) (λ k. neg_ℤ (at X k *ℤ F N j k)) (λ k p. rw (e k) (*ℤ_neg_ℤ (at X k) (F N j k)))
        ∙ sum_neg (N / 2) (λ k. at X k *ℤ F N j k)

    pub inverse_first : (n : ℕ) → n < N / 4 → Σ' n ≡ T' (n + N / 4)
    inverse_first n p = sum_ext (N / 2) (λ k. at X k *ℤ K N n k) (λ k. at X k *ℤ F N (n + N / 4) k) (λ k q. ap (λ (z : ℤ). at X k *ℤ z) (fold_first N len n k p))

    pub inverse_middle : (n : ℕ) → N / 4 ≤ n → n < 3 * (N / 4) → Σ' n ≡ neg_ℤ (T' (3 * (N / 4) - 1 - n))
    inverse_middle n p q = minus n (3 * (N / 4) - 1 - n) (λ k. fold_middle N len n k p q)

    pub inverse_last : (n : ℕ) → 3 * (N / 4) ≤ n → Σ' n ≡ neg_ℤ (T' (n - 3 * (N / 4)))
    inverse_last n p = minus n (n - 3 * (N / 4)) (λ k. fold_last N len n k p)
