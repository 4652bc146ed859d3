-- How far the hop that two blocks share comes back from where it was, in a bound A on the sum of the changes' sizes in each block, for any joint and any tabled N: the contract of `hop_returned`, by DistanceLaws.
use Rattle.std.specs.Prelude.{◌≡◌, List, ℕ, ◌+◌, ◌*◌, ◌/◌, ◌^◌, ◌≤◌, ◌<◌, T, ℤ, pos, nat_abs, ◌+ℤ◌, ◌-ℤ◌, ◌*ℤ◌}
use Rattle.arithmetic.specs.Rounding.{rnd, clamp, Sample}
use Rattle.arithmetic.specs.Sums.{sum_ℕ}
use Rattle.arithmetic.specs.Lists.{at}
use Rattle.cosine.specs.Kernels.{tabled, rising, falling}
use Rattle.transform.specs.Analysis.{y, X}
use Rattle.transform.specs.Synthesis.{V'}
use Rattle.reconstruction.specs.Neighbours.{Neighbours}

-- how much the coefficients Z of a block are changed in all, and the change of one of them
abbrev pub changes : (N : ℕ) (rise fall : ℕ → ℤ) → List ℤ → List ℤ → ℕ
changes N rise fall x Z = sum_ℕ (N / 2) (λ k. nat_abs (at Z k -ℤ X N (y N rise fall x) k))

abbrev pub change : (N : ℕ) (rise fall : ℕ → ℤ) → List ℤ → List ℤ → ℕ → ℕ
change N rise fall x Z k = nat_abs (at Z k -ℤ X N (y N rise fall x) k)

-- what the last division gets at place n of the hop: V(M + n) of the first block and V(n) of the second
abbrev pub divided : (N : ℕ) (rise₁ fall₁ rise₂ fall₂ : ℕ → ℤ) (Z₁ Z₂ : List ℤ) → ℕ → ℤ
divided N rise₁ fall₁ rise₂ fall₂ Z₁ Z₂ n = V' N rise₁ fall₁ Z₁ (N / 2 + n) +ℤ V' N rise₂ fall₂ Z₂ n

pub record HopReturned : Type 0 where
  -- blocks that meet in a joint of the shape j, the first with a left joint of the shape l, the second with a right joint of the shape r
  pub neighbours : (N l j r : ℕ) → T (tabled N) → (x₁ x₂ : List ℤ) →
      ((n : ℕ) → n < N → Sample (at x₁ n)) → ((n : ℕ) → n < N → Sample (at x₂ n)) → ((n : ℕ) → n < N / 2 → at x₁ (N / 2 + n) ≡ at x₂ n) →
      Neighbours N (rising l N) (falling j N) (rising j N) (falling r N) x₁ x₂
  -- what the last division gets, against N × 2^30 times the sample
  pub distance : (N : ℕ) → T (tabled N) → {rise₁ fall₁ rise₂ fall₂ : ℕ → ℤ} {x₁ x₂ : List ℤ} → Neighbours N rise₁ fall₁ rise₂ fall₂ x₁ x₂ → (A : ℕ) (Z₁ Z₂ : List ℤ) →
      changes N rise₁ fall₁ x₁ Z₁ ≤ A → changes N rise₂ fall₂ x₂ Z₂ ≤ A → (n : ℕ) → n < N / 2 →
      64 * nat_abs (divided N rise₁ fall₁ rise₂ fall₂ Z₁ Z₂ n -ℤ pos (N * 2 ^ 30) *ℤ at x₂ n) ≤ (6 * A + 4 * N) * 2 ^ 30
  -- the sample that comes back, against the one recorded
  pub returned : (N : ℕ) → T (tabled N) → {rise₁ fall₁ rise₂ fall₂ : ℕ → ℤ} {x₁ x₂ : List ℤ} → Neighbours N rise₁ fall₁ rise₂ fall₂ x₁ x₂ → (A : ℕ) (Z₁ Z₂ : List ℤ) →
      changes N rise₁ fall₁ x₁ Z₁ ≤ A → changes N rise₂ fall₂ x₂ Z₂ ≤ A → (n : ℕ) → n < N / 2 →
      nat_abs (clamp (rnd (divided N rise₁ fall₁ rise₂ fall₂ Z₁ Z₂ n) (N * 2 ^ 30)) -ℤ at x₂ n) ≤ (6 * A + 36 * N) / (64 * N)
  -- each coefficient changed by at most Q
  pub each : (N : ℕ) → T (tabled N) → {rise₁ fall₁ rise₂ fall₂ : ℕ → ℤ} {x₁ x₂ : List ℤ} → Neighbours N rise₁ fall₁ rise₂ fall₂ x₁ x₂ → (Q : ℕ) (Z₁ Z₂ : List ℤ) →
      ((k : ℕ) → k < N / 2 → change N rise₁ fall₁ x₁ Z₁ k ≤ Q) → ((k : ℕ) → k < N / 2 → change N rise₂ fall₂ x₂ Z₂ k ≤ Q) → (n : ℕ) → n < N / 2 →
      nat_abs (clamp (rnd (divided N rise₁ fall₁ rise₂ fall₂ Z₁ Z₂ n) (N * 2 ^ 30)) -ℤ at x₂ n) ≤ (3 * Q + 36) / 64
  -- and changes of at most 9 alter no sample
  pub same : (N : ℕ) → T (tabled N) → {rise₁ fall₁ rise₂ fall₂ : ℕ → ℤ} {x₁ x₂ : List ℤ} → Neighbours N rise₁ fall₁ rise₂ fall₂ x₁ x₂ → (Q : ℕ) (Z₁ Z₂ : List ℤ) →
      ((k : ℕ) → k < N / 2 → change N rise₁ fall₁ x₁ Z₁ k ≤ Q) → ((k : ℕ) → k < N / 2 → change N rise₂ fall₂ x₂ Z₂ k ≤ Q) → Q ≤ 9 → (n : ℕ) → n < N / 2 →
      clamp (rnd (divided N rise₁ fall₁ rise₂ fall₂ Z₁ Z₂ n) (N * 2 ^ 30)) ≡ at x₂ n
