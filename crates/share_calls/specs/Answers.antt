-- What each answer of the calls on shares stands for: the documents' number, and what is named beside it.
use Rattle.std.specs.Prelude.{Bool, false, ℕ, Option, Result, Ok, Err}
use Rattle.refusals.specs.declared.Refusal.{Refusal}
use Rattle.refusals.specs.Answers.{number_of}
use Rattle.shares.specs.Shares.{named_by}
use Rattle.shares.specs.declared.Share as D

-- a number, whether any share is not zero, and then the block and the coefficient with the largest
pub record Share : Type 0 where
  pub code : ℕ
  pub any : Bool
  pub block : ℕ
  pub coefficient : ℕ

-- beside a refusal all else is 0
abbrev pub read_share : Result (Option D.Share) Refusal → Share
read_share (Ok found) = let named = named_by found in record { code = 0; any = named.any; block = named.block; coefficient = named.coefficient }
read_share (Err refusal) = record { code = number_of refusal; any = false; block = 0; coefficient = 0 }
