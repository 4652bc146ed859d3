-- What an answer stands for: the documents' number of each refusal, 0 of a call that was taken, and the answer of one check.
use Rattle.std.specs.Prelude.{Bool, cond, ℕ, Result, Ok, Err}
use Rattle.refusals.specs.declared.Refusal.{Refusal}
use Rattle.refusals.specs.declared.Refusal.TheVariants.{Length, Size, Coefficient, Stream, Number, Shape, Line, Gap, Overlap, Distance}

abbrev pub number_of : Refusal → ℕ
number_of Length = 1
number_of Size = 2
number_of Coefficient = 3
number_of Stream = 4
number_of Number = 7
number_of Shape = 8
number_of Line = 9
number_of Gap = 10
number_of Overlap = 11
number_of Distance = 12

-- 0 where the call was taken
abbrev pub code_of : {A : Type 0} → Result A Refusal → ℕ
code_of (Ok _) = 0
code_of (Err refusal) = number_of refusal

-- Ok where the test holds
abbrev pub refused_unless : Bool → Refusal → Result Unit Refusal
refused_unless holds refusal = cond holds (Ok tt) (Err refusal)
