-- Two blocks that share a hop: definitions.
use Rattle.std.specs.Prelude.{◌≡◌, List, ℕ, ◌+◌, ◌-◌, ◌/◌, ◌^◌, ◌≤◌, ◌<◌, ℤ, nat_abs}
use Rattle.arithmetic.specs.Lists.{at}
use Rattle.arithmetic.specs.Rounding.{Sample}
use Rattle.cosine.specs.PowerLaws.{Joint}

-- x₁ and x₂ are the samples of two blocks, the second hop of the first block being the first hop of the second. Each block's window rises
-- by one half and falls by another: the first block's fall and the second's rise make the joint, and of the other two halves only the size counts
pub record Neighbours (N : ℕ) (rise₁ fall₁ rise₂ fall₂ : ℕ → ℤ) (x₁ x₂ : List ℤ) : Type 0 where
  pub joint : Joint (N / 2) rise₂
  pub mirrored : (n : ℕ) → n < N / 2 → fall₁ n ≡ rise₂ (N / 2 - 1 - n)
  pub before : (n : ℕ) → n < N / 2 → nat_abs (rise₁ n) ≤ 2 ^ 26
  pub after : (n : ℕ) → n < N / 2 → nat_abs (fall₂ n) ≤ 2 ^ 26
  pub first : (n : ℕ) → n < N → Sample (at x₁ n)
  pub second : (n : ℕ) → n < N → Sample (at x₂ n)
  pub shared : (n : ℕ) → n < N / 2 → at x₁ (N / 2 + n) ≡ at x₂ n
