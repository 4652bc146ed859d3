-- What the code holds of a table that was read, and of levels that are brought: steps, or coefficients, in front of room for those of the longest block: definitions.
use Rattle.std.specs.Prelude.{◌≡◌, List, ℕ, ◌/◌, ◌≤◌, length, take, ℤ}
use Rattle.levels.specs.Levels.{Stepping, levelled, restored, step_at}
use Rattle.level_calls.specs.LevelCalls.{levels_by, back_by}

-- the first M entries are the steps of a table that is taken
pub record Each (N : ℕ) (text each : List ℕ) : Type 0 where
  pub room : N / 2 ≤ length each
  pub long : length (take (N / 2) each) ≡ N / 2
  pub stepping : Stepping (take (N / 2) each)
  pub levels_are : (x : List ℤ) → levelled (step_at (take (N / 2) each)) (N / 2) x ≡ levels_by N text x
  pub back_is : (l : List ℤ) → restored (step_at (take (N / 2) each)) (N / 2) l ≡ back_by N text l
