-- What each answer of `coarsest_step` stands for: the documents' number, and the three numbers beside it.
use Rattle.std.specs.Prelude.{ℕ, Result, Ok, Err}
use Rattle.refusals.specs.declared.Refusal.{Refusal}
use Rattle.refusals.specs.Answers.{number_of}
use Rattle.step_search.specs.declared.Found.{Found}

-- a number, the step, the trials made, and how many untried steps lie above the step
pub record Coarsest : Type 0 where
  pub code : ℕ
  pub step : ℕ
  pub trials : ℕ
  pub untried : ℕ

-- beside a refusal every other number is 0
abbrev pub read_coarsest : Result Found Refusal → Coarsest
read_coarsest (Ok found) = record { code = 0; step = found.step; trials = found.trials; untried = found.untried }
read_coarsest (Err refusal) = record { code = number_of refusal; step = 0; trials = 0; untried = 0 }
