-- What each answer of `highest_lowest` stands for: the documents' number, and the pair beside it.
use Rattle.std.specs.Prelude.{ℕ, Result, Ok, Err}
use Rattle.refusals.specs.declared.Refusal.{Refusal}
use Rattle.refusals.specs.Answers.{number_of}
use Rattle.floats.specs.Floats.{plus_zero}
use Rattle.float_calls.specs.declared.Pair.{Pair}

-- a number, and the pair
pub record Ends : Type 0 where
  pub code : ℕ
  pub pair : Pair

-- beside a refusal both floats are 0.0
abbrev pub read_ends : Result Pair Refusal → Ends
read_ends (Ok pair) = record { code = 0; pair = pair }
read_ends (Err refusal) = record { code = number_of refusal; pair = record { highest = plus_zero; lowest = plus_zero } }
