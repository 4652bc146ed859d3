-- Laws of the shares: how much one stage alone puts off what the last division gets, E = b U₁ + a U₂, at a place where two blocks meet. The half unit of E is
-- N × 2^29. U stands 2^26 times in the sums of the coefficients, and 2^54 times in the sums of S, so each stage is held against that multiple of the half unit.
use Rattle.std.specs.Prelude.{ℕ, ◌+◌, ◌*◌, ◌/◌, ◌^◌, ◌≤◌, ◌<◌, T, ℤ, pos, ◌+ℤ◌, ◌-ℤ◌, ◌*ℤ◌}
use Rattle.std.proofs.Common.{le_refl, le_trans, mul-le-mul_left, arith, lit<}
use Rattle.std.proofs.Math.IntN.{nat_abs}
use Rattle.arithmetic.specs.Sums.{sum, sum_ℕ}
use Rattle.arithmetic.specs.Rounding.{rnd}
use Rattle.arithmetic.specs.RoundingLaws.{rnd_near}
use Rattle.cosine.specs.Kernels.{tabled, F}
use Rattle.cosine.specs.LengthLaws.{part_of}
use Rattle.cosine.specs.KernelLaws.{F-size}
use Rattle.cosine.specs.GramLaws.{gram}
use Rattle.cosine.specs.PackLaws.{product}
use Rattle.transform.specs.Analysis.{S, X}
use Rattle.transform.specs.FoldLaws.{folded, folded-size}
use Rattle.reconstruction.specs.RowLaws.{near-diagonal, rounded}
use Rattle.reconstruction.specs.JointLaws.{two}

-- a and b are the two halves of the joint at the place
module _ (N : ℕ) (t : T (tabled N)) (a b : ℤ) (r : nat_abs a + nat_abs b ≤ 3 * 2 ^ 25) where
  -- rounding of U: of the sums σ₁ and σ₂ that U rounds. At most 3/(32 N) of the half unit
  pub share_U : (σ₁ σ₂ : ℤ) → 32 * nat_abs (b *ℤ (pos (2 ^ 26) *ℤ rnd σ₁ (2 ^ 26) -ℤ σ₁) +ℤ a *ℤ (pos (2 ^ 26) *ℤ rnd σ₂ (2 ^ 26) -ℤ σ₂)) ≤ 3 * (2 ^ 26 * 2 ^ 29)
  share_U σ₁ σ₂ =
      omega (
        arith,
        two a b (3 * 2 ^ 25) (2 ^ 25) (pos (2 ^ 26) *ℤ rnd σ₁ (2 ^ 26) -ℤ σ₁) (pos (2 ^ 26) *ℤ rnd σ₂ (2 ^ 26) -ℤ σ₂)
            (rnd_near σ₁ {b = 2 ^ 26} (lit< tt)) (rnd_near σ₂ {b = 2 ^ 26} (lit< tt)) r,
      )

  -- what the rounding of X does to the sum of row p, and what the gram defect does
  abbrev pub off_x : (ℕ → ℤ) → ℕ → ℤ
  off_x y p = sum (N / 2) (λ k. (pos (2 ^ 28) *ℤ X N y k -ℤ S N y k) *ℤ F N p k)

  abbrev pub off_gram : (ℕ → ℤ) → ℕ → ℤ
  off_gram y p = sum (N / 2) (λ j. folded N y j *ℤ product (N / 2) (F N) p j) -ℤ folded N y p *ℤ pos (N / 4 * 2 ^ 52)

  off_x≤ : (y : ℕ → ℤ) (p : ℕ) → nat_abs (off_x y p) ≤ N / 2 * (2 ^ 27 * 2 ^ 26)
  unfolding X
  off_x≤ y p =
      rounded (N / 2) (2 ^ 28) (2 ^ 26) (2 ^ 27) (sum_ℕ (N / 2) (λ k. nat_abs (X N y k -ℤ X N y k))) (X N y) (X N y) (S N y) (λ k. F N p k)
      (λ k q. F-size N p k) (λ k q. rnd_near (S N y k) {b = 2 ^ 28} (lit< tt)) (le_refl (sum_ℕ (N / 2) (λ k. nat_abs (X N y k -ℤ X N y k))))

  off_gram≤ : (y : ℕ → ℤ) → ((n : ℕ) → n < N → nat_abs (y n) ≤ 2 ^ 23) → (p : ℕ) → p < N / 2 → nat_abs (off_gram y p) ≤ 2 ^ 24 * (N * 2 ^ 27)
  off_gram≤ y y≤ p q =
      le_trans (near-diagonal (N / 2) (F N) (folded N y) p (N / 4 * 2 ^ 52) (2 ^ 24) q (folded-size N (part_of N t) (2 ^ 23) y y≤)) (mul-le-mul_left (2 ^ 24) (gram N t p q))

  -- rounding of X: at most 3/64 of the half unit
  pub share_X : (y₁ y₂ : ℕ → ℤ) (p₁ p₂ : ℕ) → 64 * nat_abs (b *ℤ off_x y₁ p₁ +ℤ a *ℤ off_x y₂ p₂) ≤ 3 * (2 ^ 54 * (N * 2 ^ 29))
  share_X y₁ y₂ p₁ p₂ =
      omega (arith, two a b (3 * 2 ^ 25) (N / 2 * (2 ^ 27 * 2 ^ 26)) (off_x y₁ p₁) (off_x y₂ p₂) (off_x≤ y₁ p₁) (off_x≤ y₂ p₂) r)

  -- the kernel's gram: at most 3/128 of the half unit
  pub share_gram : (y₁ y₂ : ℕ → ℤ) → ((n : ℕ) → n < N → nat_abs (y₁ n) ≤ 2 ^ 23) → ((n : ℕ) → n < N → nat_abs (y₂ n) ≤ 2 ^ 23) → (p₁ p₂ : ℕ) → p₁ < N / 2 → p₂ < N / 2 →
      128 * nat_abs (b *ℤ off_gram y₁ p₁ +ℤ a *ℤ off_gram y₂ p₂) ≤ 3 * (2 ^ 54 * (N * 2 ^ 29))
  share_gram y₁ y₂ h₁ h₂ p₁ p₂ q₁ q₂ =
      omega (arith, two a b (3 * 2 ^ 25) (2 ^ 24 * (N * 2 ^ 27)) (off_gram y₁ p₁) (off_gram y₂ p₂) (off_gram≤ y₁ h₁ p₁ q₁) (off_gram≤ y₂ h₂ p₂ q₂) r)
