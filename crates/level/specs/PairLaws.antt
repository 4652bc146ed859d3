-- The sums of a block by pairs of places: a pair's sum and its difference are sums of H products each, beside those of the third.
use Rattle.std.specs.Prelude.{◌≡◌, refl, cond, true, false, Bool, List, ℕ, ◌+◌, ◌-◌, ◌*◌, ◌%◌, ◌<◌, ◌≤◌, ltb, ℤ, pos, neg_ℤ, ◌+ℤ◌, ◌-ℤ◌, ◌*ℤ◌}
use Rattle.std.proofs.Math.Path.{ap₂}
use Rattle.std.proofs.Common.{sym, ap, ◌∙◌, arith, lt→ltb, ltb→lt}
use Rattle.arithmetic.specs.Sums.{sum}
use Rattle.arithmetic.specs.Lists.{at}
use Rattle.arithmetic.specs.IntegerLaws.{ints, zarith}
use Rattle.arithmetic.specs.SumLaws.{sum_ext, sum_add, sum_sub, sum-split}
use Rattle.arithmetic.specs.TestLaws.{cond_yes, cond_no, is_true}
use Rattle.cosine.specs.Kernels.{F}
use Rattle.level.specs.Places.{spot, turn_by, signed_at, kernel_at, sum_at}
use Rattle.level.specs.ReorderLaws.{one_at, reorder}

-- the places of a block of 3 H: H near ones, H far ones, and every third
unfoldable pub order : ℕ → (ℕ → ℕ) → (ℕ → ℕ) → ℕ → ℕ
order h n f i = cond (ltb i h) (spot (n i)) (cond (ltb i (h + h)) (spot (f (i - h))) (3 * (i - (h + h)) + 1))

-- what the numbers of a block's pairs have to meet, the third's pairs being at n' and f'
pub record Pairs (h l : ℕ) (n f n' f' : ℕ → ℕ) : Type 0 where
  pub few : h ≤ 36
  pub less : (i : ℕ) → i < h + (h + h) → order h n f i < h + (h + h)
  pub once : (j : ℕ) → j < h + (h + h) → sum (h + (h + h)) (λ i. one_at (order h n f i) j) ≡ pos 1
  pub same_side : (i k : ℕ) → i < h → k < h → kernel_at (h + (h + h)) (f i) (f k) ≡ kernel_at (h + (h + h)) (n i) (n k)
  pub other_side : (i k : ℕ) → i < h → k < h → kernel_at (h + (h + h)) (f i) (n k) ≡ kernel_at (h + (h + h)) (n i) (f k)
  pub third_near : (i k : ℕ) → i < h → k < h → kernel_at (h + (h + h)) (3 * i + 1) (n k) ≡ kernel_at h i (n' (k % l))
  pub third_far : (i k : ℕ) → i < h → k < h → kernel_at (h + (h + h)) (3 * i + 1) (f k) ≡ kernel_at h i (f' (k % l))

-- ---- signs
two_signs : (b : Bool) (z w : ℤ) → cond b z (neg_ℤ z) *ℤ cond b w (neg_ℤ w) ≡ z *ℤ w
two_signs true z w = refl
two_signs false z w = simp ints (omega zarith)

-- a term of the sum at a coded place
read : (m e k : ℕ) (x : List ℤ) → spot e < 128 → at x (spot e) *ℤ kernel_at m (spot e) k ≡ signed_at x e *ℤ kernel_at m e k
unfolding kernel_at
read m e k x p =
    let b : ltb (spot e) 128 ≡ true = is_true (lt→ltb (spot e) 128 p) in
    rw b (sym (two_signs (ltb e 128) (at x (spot e)) (turn_by k (F (2 * m) (spot e) (spot k)))))

-- ---- the sum at a place, by pairs
module _ {h l : ℕ} {n f n' f' : ℕ → ℕ} (pairs : Pairs h l n f n' f') (x : List ℤ) where
  abbrev m : ℕ
  m = h + (h + h)

  -- the numbers of the pairs
  abbrev pub u : ℕ → ℤ
  u i = signed_at x (n i)

  abbrev pub v : ℕ → ℤ
  v i = signed_at x (f i)

  -- what every third adds
  abbrev pub thirds : ℕ → ℤ
  thirds e = sum h (λ i. at x (3 * i + 1) *ℤ kernel_at m (3 * i + 1) e)

  pub near_spot : (i : ℕ) → i < h → order h n f i ≡ spot (n i)
  unfolding order
  near_spot i p = cond_yes (ltb i h) _ _ (lt→ltb i h p)

  pub far_spot : (i : ℕ) → i < h → order h n f (h + i) ≡ spot (f i)
  unfolding order
  far_spot i p =
      let e : h + i - h ≡ i = omega arith in
      cond_no (ltb (h + i) h) _ _ (λ t. let q = ltb→lt (h + i) h t in omega arith)
      ∙ cond_yes (ltb (h + i) (h + h)) _ _ (lt→ltb (h + i) (h + h) (omega arith)) ∙ rw e

  third_spot : (i : ℕ) → i < h → order h n f (h + (h + i)) ≡ 3 * i + 1
  unfolding order
  third_spot i p =
      let e : h + (h + i) - (h + h) ≡ i = omega arith in
      cond_no (ltb (h + (h + i)) h) _ _ (λ t. let q = ltb→lt (h + (h + i)) h t in omega arith)
      ∙ cond_no (ltb (h + (h + i)) (h + h)) _ _ (λ t. let q = ltb→lt (h + (h + i)) (h + h) t in omega arith) ∙ rw e

  near_read : (i e : ℕ) → i < h → at x (order h n f i) *ℤ kernel_at m (order h n f i) e ≡ u i *ℤ kernel_at m (n i) e
  near_read i e p =
      rw (near_spot i p) (read m (n i) e x (let q = pairs.less i (omega arith) in let s = near_spot i p in omega (arith, pairs.few)))

  far_read : (i e : ℕ) → i < h → at x (order h n f (h + i)) *ℤ kernel_at m (order h n f (h + i)) e ≡ v i *ℤ kernel_at m (f i) e
  far_read i e p =
      rw (far_spot i p) (read m (f i) e x (let q = pairs.less (h + i) (omega arith) in let s = far_spot i p in omega (arith, pairs.few)))

  pub split : (e : ℕ) → sum_at m x e ≡ sum h (λ i. u i *ℤ kernel_at m (n i) e) +ℤ (sum h (λ i. v i *ℤ kernel_at m (f i) e) +ℤ thirds e)
  unfolding sum_at
  split e =
      let g : ℕ → ℤ = λ j. at x j *ℤ kernel_at m j e in
      let o : ℕ → ℕ = order h n f in
      sym (reorder m o g pairs.less pairs.once)
      ∙ sum-split h (h + h) (λ i. g (o i))
      ∙ ap₂ (λ (a b : ℤ). a +ℤ b) (sum_ext h (λ i. g (o i)) (λ i. u i *ℤ kernel_at m (n i) e) (λ i p. near_read i e p))
      (sum-split h h (λ i. g (o (h + i)))
      ∙ ap₂ (λ (a b : ℤ). a +ℤ b) (sum_ext h (λ i. g (o (h + i))) (λ i. v i *ℤ kernel_at m (f i) e) (λ i p. far_read i e p))
      (sum_ext h (λ i. g (o (h + (h + i)))) (λ i. at x (3 * i + 1) *ℤ kernel_at m (3 * i + 1) e) (λ i p. rw (third_spot i p))))

  -- ---- a pair's sum and difference
  module _ (y : List ℤ) (every_third : (i : ℕ) → i < h → at y i ≡ at x (3 * i + 1)) where
    third_sum : (e e' : ℕ) → ((i : ℕ) → i < h → kernel_at m (3 * i + 1) e ≡ kernel_at h i e') → thirds e ≡ sum_at h y e'
    unfolding sum_at
    third_sum e e' same =
        sum_ext h (λ i. at x (3 * i + 1) *ℤ kernel_at m (3 * i + 1) e) (λ i. at y i *ℤ kernel_at h i e') (λ i p. rw (every_third i p, same i p))

    module _ (k : ℕ) (less : k < h) where
      -- the pair's two kernels, a for the same side and b for the other
      a : ℕ → ℤ
      a i = kernel_at m (n i) (n k)

      b : ℕ → ℤ
      b i = kernel_at m (n i) (f k)

      near_split : sum_at m x (n k) ≡ sum h (λ i. u i *ℤ a i) +ℤ (sum h (λ i. v i *ℤ b i) +ℤ sum_at h y (n' (k % l)))
      unfolding a b
      near_split =
          split (n k)
          ∙ ap₂ (λ (s t : ℤ). sum h (λ i. u i *ℤ kernel_at m (n i) (n k)) +ℤ (s +ℤ t))
          (sum_ext h (λ i. v i *ℤ kernel_at m (f i) (n k)) (λ i. v i *ℤ kernel_at m (n i) (f k)) (λ i p. rw (pairs.other_side i k p less)))
          (third_sum (n k) (n' (k % l)) (λ i p. pairs.third_near i k p less))

      far_split : sum_at m x (f k) ≡ sum h (λ i. u i *ℤ b i) +ℤ (sum h (λ i. v i *ℤ a i) +ℤ sum_at h y (f' (k % l)))
      unfolding a b
      far_split =
          split (f k)
          ∙ ap₂ (λ (s t : ℤ). sum h (λ i. u i *ℤ kernel_at m (n i) (f k)) +ℤ (s +ℤ t))
          (sum_ext h (λ i. v i *ℤ kernel_at m (f i) (f k)) (λ i. v i *ℤ kernel_at m (n i) (n k)) (λ i p. rw (pairs.same_side i k p less)))
          (third_sum (f k) (f' (k % l)) (λ i p. pairs.third_far i k p less))

      times : (p q r s : ℤ) → (p +ℤ q) *ℤ (r +ℤ s) ≡ (p *ℤ r +ℤ q *ℤ s) +ℤ (p *ℤ s +ℤ q *ℤ r)
      times p q r s = simp ints (omega zarith)

      less_times : (p q r s : ℤ) → (p -ℤ q) *ℤ (r -ℤ s) ≡ (p *ℤ r +ℤ q *ℤ s) -ℤ (p *ℤ s +ℤ q *ℤ r)
      less_times p q r s = simp ints (omega zarith)

      plus_sum : sum h (λ i. (u i +ℤ v i) *ℤ (a i +ℤ b i)) ≡ (sum h (λ i. u i *ℤ a i) +ℤ sum h (λ i. v i *ℤ b i)) +ℤ (sum h (λ i. u i *ℤ b i) +ℤ sum h (λ i. v i *ℤ a i))
      plus_sum =
          sum_ext h (λ i. (u i +ℤ v i) *ℤ (a i +ℤ b i)) (λ i. (u i *ℤ a i +ℤ v i *ℤ b i) +ℤ (u i *ℤ b i +ℤ v i *ℤ a i)) (λ i p. times (u i) (v i) (a i) (b i))
          ∙ sum_add h (λ i. u i *ℤ a i +ℤ v i *ℤ b i) (λ i. u i *ℤ b i +ℤ v i *ℤ a i)
          ∙ ap₂ (λ (s t : ℤ). s +ℤ t) (sum_add h (λ i. u i *ℤ a i) (λ i. v i *ℤ b i)) (sum_add h (λ i. u i *ℤ b i) (λ i. v i *ℤ a i))

      minus_sum : sum h (λ i. (u i -ℤ v i) *ℤ (a i -ℤ b i)) ≡ (sum h (λ i. u i *ℤ a i) +ℤ sum h (λ i. v i *ℤ b i)) -ℤ (sum h (λ i. u i *ℤ b i) +ℤ sum h (λ i. v i *ℤ a i))
      minus_sum =
          sum_ext h (λ i. (u i -ℤ v i) *ℤ (a i -ℤ b i)) (λ i. (u i *ℤ a i +ℤ v i *ℤ b i) -ℤ (u i *ℤ b i +ℤ v i *ℤ a i)) (λ i p. less_times (u i) (v i) (a i) (b i))
          ∙ sum_sub h (λ i. u i *ℤ a i +ℤ v i *ℤ b i) (λ i. u i *ℤ b i +ℤ v i *ℤ a i)
          ∙ ap₂ (λ (s t : ℤ). s -ℤ t) (sum_add h (λ i. u i *ℤ a i) (λ i. v i *ℤ b i)) (sum_add h (λ i. u i *ℤ b i) (λ i. v i *ℤ a i))

      joined : (p q r s t w : ℤ) → (p +ℤ (q +ℤ t)) +ℤ (r +ℤ (s +ℤ w)) ≡ (t +ℤ w) +ℤ ((p +ℤ q) +ℤ (r +ℤ s))
      joined p q r s t w = simp ints (omega zarith)

      parted : (p q r s t w : ℤ) → (p +ℤ (q +ℤ t)) -ℤ (r +ℤ (s +ℤ w)) ≡ (t -ℤ w) +ℤ ((p +ℤ q) -ℤ (r +ℤ s))
      parted p q r s t w = simp ints (omega zarith)

      pub pair_sum : sum_at m x (n k) +ℤ sum_at m x (f k) ≡ (sum_at h y (n' (k % l)) +ℤ sum_at h y (f' (k % l))) +ℤ sum h (λ i. (u i +ℤ v i) *ℤ (kernel_at m (n i) (n k) +ℤ kernel_at m (n i) (f k)))
      unfolding a b
      pair_sum =
          ap₂ (λ (s t : ℤ). s +ℤ t) near_split far_split
          ∙ joined (sum h (λ i. u i *ℤ a i)) (sum h (λ i. v i *ℤ b i)) (sum h (λ i. u i *ℤ b i)) (sum h (λ i. v i *ℤ a i)) (sum_at h y (n' (k % l))) (sum_at h y (f' (k % l)))
          ∙ ap (λ (z : ℤ). (sum_at h y (n' (k % l)) +ℤ sum_at h y (f' (k % l))) +ℤ z) (sym plus_sum)

      pub pair_difference : sum_at m x (n k) -ℤ sum_at m x (f k) ≡ (sum_at h y (n' (k % l)) -ℤ sum_at h y (f' (k % l))) +ℤ sum h (λ i. (u i -ℤ v i) *ℤ (kernel_at m (n i) (n k) -ℤ kernel_at m (n i) (f k)))
      unfolding a b
      pair_difference =
          ap₂ (λ (s t : ℤ). s -ℤ t) near_split far_split
          ∙ parted (sum h (λ i. u i *ℤ a i)) (sum h (λ i. v i *ℤ b i)) (sum h (λ i. u i *ℤ b i)) (sum h (λ i. v i *ℤ a i)) (sum_at h y (n' (k % l))) (sum_at h y (f' (k % l)))
          ∙ ap (λ (z : ℤ). (sum_at h y (n' (k % l)) -ℤ sum_at h y (f' (k % l))) +ℤ z) (sym minus_sum)
