use Rattle.std.specs.Prelude.{◌≡◌, refl, Ok, Err}
use Rattle.std.proofs.Common.{sym, ◌∙◌}
use borrow.Author.Tests.{eq-eqb}
use Rattle.refusals.specs.declared.Refusal.{Refusal}
use Rattle.refusals.specs.Answers.{number_of}
use Rattle.refusals.specs.AnswerLaws.{number_some}
use Rattle.coarsest_calls.specs.Answers.{read_coarsest}
use Rattle.coarsest_report.specs.ReportLaws.{answer-refused, answer-found}
use Rattle.coarsest_report.proofs.print.put_answer.Goals as goal

some : (refusal : Refusal) → number_of refusal ≡ 0 → ⊥
some refusal z = let e = sym (number_some refusal) ∙ eq-eqb (number_of refusal) 0 z in cc

pub returns-in-Ok-clause-puts : goal.returns-in-Ok-clause-puts
returns-in-Ok-clause-puts c = rw (c.in-Ok.is, answer-found (read_coarsest (Ok c.in-Ok.found)) refl) c.put_found.ensures.puts

pub returns-in-Err-clause-puts : goal.returns-in-Err-clause-puts
returns-in-Err-clause-puts c =
    rw (c.in-Err.is, answer-refused (read_coarsest (Err c.in-Err.refusal)) (some c.in-Err.refusal)) (rw c.number.ensures at c.refusal.ensures.puts)
