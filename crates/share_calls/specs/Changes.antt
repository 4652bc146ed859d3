-- What the checks tell of a change, the original coefficients and the changed ones.
use Rattle.std.specs.Prelude.{◌≡◌, ◌^◌, List, ℕ, length, ℤ}
use Rattle.arithmetic.specs.Lists.{Small}

-- both have so many
pub record Long (count : ℕ) (original changed : List ℤ) : Type 0 where
  pub original_long : length original ≡ count
  pub changed_long : length changed ≡ count

-- both are in range
pub record Ranged (original changed : List ℤ) : Type 0 where
  pub original_small : Small original (2 ^ 29)
  pub changed_small : Small changed (2 ^ 29)
