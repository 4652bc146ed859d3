-- A sum in another order.
use Rattle.std.specs.Prelude.{◌≡◌, cond, ℕ, ◌<◌, ◌≢◌, eqb, ℤ, pos, ◌*ℤ◌}
use Rattle.std.proofs.Common.{sym, ap, ◌∙◌, eqb→eq}
use Rattle.std.proofs.Math.Dec.{eqb_refl}
use Rattle.arithmetic.specs.Sums.{sum}
use Rattle.arithmetic.specs.TestLaws.{cond_yes, cond_no}
use Rattle.arithmetic.specs.IntegerLaws.{ints, zarith}
use Rattle.arithmetic.specs.SumLaws.{sum_ext, sum_swap, sum_scale, sum_one}

-- 1 where a is j
abbrev pub one_at : ℕ → ℕ → ℤ
one_at a j = cond (eqb a j) (pos 1) (pos 0)

by-one : (z : ℤ) → z *ℤ pos 1 ≡ z
by-one z = simp ints (omega zarith)

by-none : (z : ℤ) → z *ℤ pos 0 ≡ pos 0
by-none z = simp ints (omega zarith)

other : (a j : ℕ) → j ≢ a → one_at a j ≡ pos 0
other a j n = cond_no (eqb a j) (pos 1) (pos 0) (λ t. n (sym (eqb→eq a j t)))

self : (a : ℕ) → one_at a a ≡ pos 1
self a = cond_yes (eqb a a) (pos 1) (pos 0) (eqb_refl a)

module _ (m : ℕ) (s : ℕ → ℕ) (g : ℕ → ℤ) where
  picked : (i : ℕ) → s i < m → sum m (λ j. g j *ℤ one_at (s i) j) ≡ g (s i)
  picked i p =
      sum_one m (s i) (λ j. g j *ℤ one_at (s i) j) p (λ j q n. ap (λ (z : ℤ). g j *ℤ z) (other (s i) j n) ∙ by-none (g j))
      ∙ ap (λ (z : ℤ). g (s i) *ℤ z) (self (s i)) ∙ by-one (g (s i))

  pub reorder : ((i : ℕ) → i < m → s i < m) → ((j : ℕ) → j < m → sum m (λ i. one_at (s i) j) ≡ pos 1) → sum m (λ i. g (s i)) ≡ sum m g
  reorder less once =
      sum_ext m (λ i. g (s i)) (λ i. sum m (λ j. g j *ℤ one_at (s i) j)) (λ i p. sym (picked i (less i p)))
      ∙ sum_swap m m (λ i j. g j *ℤ one_at (s i) j)
      ∙ sum_ext m (λ j. sum m (λ i. g j *ℤ one_at (s i) j)) g
      (λ j p. sum_scale m (g j) (λ i. one_at (s i) j) ∙ ap (λ (z : ℤ). g j *ℤ z) (once j p) ∙ by-one (g j))
