-- From the doubled sums of a block to its coefficients, and to the rounded sums of the inverse.
use Rattle.std.specs.Prelude.{◌≡◌, List, ℕ, ◌+◌, ◌*◌, ◌/◌, ◌^◌, ◌≤◌, ◌<◌, length, ℤ, pos, negsuc, neg_ℤ, nat_abs, ◌+ℤ◌, ◌*ℤ◌}
use Rattle.std.proofs.Common.{sym, ap, ◌∙◌, arith}
use Rattle.arithmetic.specs.Rounding.{rnd}
use Rattle.arithmetic.specs.Sums.{sum}
use Rattle.arithmetic.specs.Lists.{at, table, Small}
use Rattle.arithmetic.specs.ListLaws.{length-table, get_d_table, table_ext}
use Rattle.arithmetic.specs.OrderLaws.{abs_add}
use Rattle.arithmetic.specs.SumLaws.{sum_ext}
use Rattle.cosine.specs.Kernels.{F}
use Rattle.cosine.specs.KernelLaws.{F_symmetric}
use Rattle.level.specs.Places.{sum_at, twice}
use Rattle.level.proofs.Sizes.{sum_at_size}
use Rattle.level.proofs.Joins.{sum_at_is}
use Rattle.transform.specs.InverseLaws.{folds}

-- a doubled number over a doubled power
pub rnd_twice_28 : (a : ℤ) → rnd (a +ℤ a) (2 ^ 29) ≡ rnd a (2 ^ 28)
unfolding rnd
rnd_twice_28 (pos n) = ap pos (omega arith)
rnd_twice_28 (negsuc n) = ap (λ (m : ℕ). neg_ℤ (pos m)) (omega arith)

pub rnd_twice_26 : (a : ℤ) → rnd (a +ℤ a) (2 ^ 27) ≡ rnd a (2 ^ 26)
unfolding rnd
rnd_twice_26 (pos n) = ap pos (omega arith)
rnd_twice_26 (negsuc n) = ap (λ (m : ℕ). neg_ℤ (pos m)) (omega arith)

pub twice_length : (m : ℕ) (x : List ℤ) → length (twice m x) ≡ m
unfolding twice
twice_length m x = length-table (λ k. sum_at m x k +ℤ sum_at m x k) m

twice_at : (m : ℕ) (x : List ℤ) (k : ℕ) → k < m → at (twice m x) k ≡ sum_at m x k +ℤ sum_at m x k
unfolding twice
twice_at m x k p = get_d_table (λ k. sum_at m x k +ℤ sum_at m x k) (pos 0) m k p

-- the sums of x, doubled, are as small as x lets them be
pub twice_small : (m B : ℕ) (x t : List ℤ) → length x ≡ m → Small x B → t ≡ twice m x → (k : ℕ) → k < length t → nat_abs (at t k) ≤ m * (B * 2 ^ 26) + m * (B * 2 ^ 26)
twice_small m B x t l s e k p =
    rw (e, twice_at m x k (omega (arith, ap length e, twice_length m x))) (omega (arith, abs_add (sum_at m x k) (sum_at m x k), sum_at_size m B x k l s))

-- in the words of the folded kernel
module _ (N : ℕ) (even : 2 * (N / 2) ≡ N) (most : N / 2 ≤ 108) (x : List ℤ) where
  pub sum_folds : (k : ℕ) → k < N / 2 → sum_at (N / 2) x k ≡ folds N x k
  unfolding folds
  sum_folds k p =
      sum_at_is (N / 2) x k (omega arith) p
      ∙ ap (λ (n : ℕ). sum (N / 2) (λ j. at x j *ℤ F n j k)) even
      ∙ sum_ext (N / 2) (λ j. at x j *ℤ F N j k) (λ j. at x j *ℤ F N k j) (λ j q. ap (λ (z : ℤ). at x j *ℤ z) (F_symmetric N j k))

  module _ (t : List ℤ) (e : t ≡ twice (N / 2) x) where
    entry : (k : ℕ) → k < N / 2 → at t k ≡ folds N x k +ℤ folds N x k
    entry k p = ap (λ (l : List ℤ). at l k) e ∙ twice_at (N / 2) x k p ∙ ap (λ (z : ℤ). z +ℤ z) (sum_folds k p)

    long : length t ≡ N / 2
    long = ap length e ∙ twice_length (N / 2) x

    half : (k : ℕ) → k < N / 2 → at (table (N / 2) (folds N x)) k ≡ folds N x k
    half k p = get_d_table (folds N x) (pos 0) (N / 2) k p

    pub halved_28 : table (length t) (λ k. rnd (at t k) (2 ^ 29)) ≡ table (length t) (λ k. rnd (at (table (N / 2) (folds N x)) k) (2 ^ 28))
    halved_28 =
        table_ext (length t) (λ k. rnd (at t k) (2 ^ 29)) (λ k. rnd (at (table (N / 2) (folds N x)) k) (2 ^ 28))
        (λ k p. let q : k < N / 2 = omega (arith, long) in rw (entry k q, half k q) (rnd_twice_28 (folds N x k)))

    pub halved_26 : table (length t) (λ k. rnd (at t k) (2 ^ 27)) ≡ table (length (table (N / 2) (folds N x))) (λ k. rnd (at (table (N / 2) (folds N x)) k) (2 ^ 26))
    halved_26 =
        table_ext (length t) (λ k. rnd (at t k) (2 ^ 27)) (λ k. rnd (at (table (N / 2) (folds N x)) k) (2 ^ 26))
        (λ k p. let q : k < N / 2 = omega (arith, long) in rw (entry k q, half k q) (rnd_twice_26 (folds N x k)))
        ∙ ap (λ (n : ℕ). table n (λ k. rnd (at (table (N / 2) (folds N x)) k) (2 ^ 26))) (long ∙ sym (length-table (folds N x) (N / 2)))
