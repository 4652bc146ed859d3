-- What each answer of `told_distance` stands for: the documents' number, and the distance beside it.
use Rattle.std.specs.Prelude.{ℕ, Result, Ok, Err}
use Rattle.refusals.specs.declared.Refusal.{Refusal}
use Rattle.refusals.specs.Answers.{number_of}

-- a number, and the distance, 0 beside a refusal
pub record Told : Type 0 where
  pub code : ℕ
  pub distance : ℕ

abbrev pub told_of : Result ℕ Refusal → Told
told_of (Ok distance) = record { code = 0; distance = distance }
told_of (Err refusal) = record { code = number_of refusal; distance = 0 }
