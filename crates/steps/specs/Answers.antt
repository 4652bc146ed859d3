-- What each answer of the code stands for: a line's numbers, and the documents' number with the line at fault.
use Rattle.std.specs.Prelude.{true, cond, List, ℕ, ℤ, Option, Some, None, Result, Ok, Err}
use Rattle.refusals.specs.Answers.{number_of}
use Rattle.text.specs.Number.{value}
use Rattle.steps.specs.declared.row.Row.{Row}
use Rattle.steps.specs.declared.fault.Fault.{Fault}
use Rattle.steps.specs.Table.{bounded, Line, no_line, Verdict, taken, refused}

-- the number of a field, where it is one from least to most
abbrev pub number_within : ℤ → ℤ → List ℕ → Option ℤ
number_within least most field = cond (bounded least most field) (Some (value field)) None

abbrev pub line_of : Option Row → Line
line_of (Some row) = record { ok = true; first = row.first; last = row.last; step = row.step }
line_of None = no_line

-- 0 and line 0 where the table is taken
abbrev pub verdict_of : {A : Type 0} → Result A Fault → Verdict
verdict_of (Ok _) = taken
verdict_of (Err fault) = refused (number_of fault.cause) fault.line
