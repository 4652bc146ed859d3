use Rattle.std.specs.Prelude.{◌≡◌, ℕ, Result, Ok, Err}
use Rattle.std.specs.Result.{result_unwrap_or}
use Rattle.std.proofs.Common.{refl, ap, ◌∙◌}
use Rattle.refusals.specs.declared.Refusal.{Refusal}
use Rattle.level_calls.specs.Answers.{Told, told_of}
use Rattle.table_report.specs.Report.{distance_line}
use Rattle.table_report.proofs.put_distance.Goals as goal

-- a refusal tells the distance 0
told : (answer : Result ℕ Refusal) → result_unwrap_or answer 0 ≡ (told_of answer).distance
told (Ok distance) = refl
told (Err refusal) = refl

pub returns-clause-puts : goal.returns-clause-puts
unfolding distance_line
returns-clause-puts c =
    let e = c.unwrap_or-told.ensures ∙ told c.told_distance.result ∙ ap (λ (t : Told). t.distance) c.told_distance.ensures.answer in
    rw e at c.put_saying.ensures.puts
