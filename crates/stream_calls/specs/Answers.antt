-- What each answer of `fresh` and `step` stands for: the documents' number, and the stream beside it.
use Rattle.std.specs.Prelude.{ℕ, Result, Ok, Err}
use Rattle.stream.specs.declared.Stream.{Stream}
use Rattle.stream.specs.Synthesis as S
use Rattle.refusals.specs.declared.Refusal.{Refusal}
use Rattle.refusals.specs.Answers.{number_of}
use Rattle.stream_calls.specs.declared.Refused.{Refused}

-- a number, and the stream that was made where it is 0
pub record Made : Type 0 where
  pub code : ℕ
  pub stream : Stream

-- a number, and the stream to go on with
pub record Stepped : Type 0 where
  pub code : ℕ
  pub stream : Stream

-- beside a refusal every other number is 0
abbrev pub made_of : Result Stream Refusal → Made
made_of (Ok stream) = record { code = 0; stream = stream }
made_of (Err refusal) = record { code = number_of refusal; stream = S.fresh 0 }

abbrev pub stepped_of : Result Stream Refused → Stepped
stepped_of (Ok stream) = record { code = 0; stream = stream }
stepped_of (Err refused) = record { code = number_of refused.cause; stream = refused.stream }
