-- How much one stage of rounding alone puts off what the last division gets, E = b U₁ + a U₂, a and b the two halves of the joint at the place: the contract of `stages_bounded`, by ShareLaws. The half unit of E is N × 2^29. U stands
-- 2^26 times in the sums of the coefficients, and 2^54 times in the sums of S, so each stage is held against that multiple of the half unit.
use Rattle.std.specs.Prelude.{ℕ, ◌+◌, ◌*◌, ◌/◌, ◌^◌, ◌≤◌, ◌<◌, T, ℤ, pos, nat_abs, ◌+ℤ◌, ◌-ℤ◌, ◌*ℤ◌}
use Rattle.arithmetic.specs.Rounding.{rnd}
use Rattle.arithmetic.specs.Sums.{sum}
use Rattle.cosine.specs.Kernels.{tabled, F}
use Rattle.cosine.specs.PackLaws.{product}
use Rattle.transform.specs.Analysis.{S, X}
use Rattle.transform.specs.FoldLaws.{folded}

-- what the rounding of X does to the sum of row p, and what the kernel's gram does, which is (M/2) × 2^52 in its diagonal and 0 beside it but for rounding
abbrev pub by_X : (N : ℕ) → (ℕ → ℤ) → ℕ → ℤ
by_X N y p = sum (N / 2) (λ k. (pos (2 ^ 28) *ℤ X N y k -ℤ S N y k) *ℤ F N p k)

abbrev pub by_gram : (N : ℕ) → (ℕ → ℤ) → ℕ → ℤ
by_gram N y p = sum (N / 2) (λ j. folded N y j *ℤ product (N / 2) (F N) p j) -ℤ folded N y p *ℤ pos (N / 4 * 2 ^ 52)

pub record StagesBounded : Type 0 where
  -- rounding of U: of the sums σ₁ and σ₂ that U rounds. At most 3/(32 N) of the half unit
  pub rounding_of_U : (N : ℕ) → T (tabled N) → (a b : ℤ) → nat_abs a + nat_abs b ≤ 3 * 2 ^ 25 → (σ₁ σ₂ : ℤ) →
      32 * nat_abs (b *ℤ (pos (2 ^ 26) *ℤ rnd σ₁ (2 ^ 26) -ℤ σ₁) +ℤ a *ℤ (pos (2 ^ 26) *ℤ rnd σ₂ (2 ^ 26) -ℤ σ₂)) ≤ 3 * (2 ^ 26 * 2 ^ 29)
  -- rounding of X: at most 3/64 of the half unit
  pub rounding_of_X : (N : ℕ) → T (tabled N) → (a b : ℤ) → nat_abs a + nat_abs b ≤ 3 * 2 ^ 25 → (y₁ y₂ : ℕ → ℤ) (p₁ p₂ : ℕ) →
      64 * nat_abs (b *ℤ by_X N y₁ p₁ +ℤ a *ℤ by_X N y₂ p₂) ≤ 3 * (2 ^ 54 * (N * 2 ^ 29))
  -- the kernel's gram: at most 3/128 of the half unit
  pub gram : (N : ℕ) → T (tabled N) → (a b : ℤ) → nat_abs a + nat_abs b ≤ 3 * 2 ^ 25 →
      (y₁ y₂ : ℕ → ℤ) → ((n : ℕ) → n < N → nat_abs (y₁ n) ≤ 2 ^ 23) → ((n : ℕ) → n < N → nat_abs (y₂ n) ≤ 2 ^ 23) → (p₁ p₂ : ℕ) → p₁ < N / 2 → p₂ < N / 2 →
      128 * nat_abs (b *ℤ by_gram N y₁ p₁ +ℤ a *ℤ by_gram N y₂ p₂) ≤ 3 * (2 ^ 54 * (N * 2 ^ 29))
