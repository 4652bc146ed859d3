-- A refusal's line, or the lines of a table that is taken.
use Rattle.std.specs.Prelude.{◌≡◌, refl, T, ℕ, List, ◌/◌}
use Rattle.std.proofs.Common.{arith, sym, ap, ◌∙◌}
use borrow.Author.Tests.{eq-eqb}
use Rattle.cosine.specs.Kernels.{tabled}
use Rattle.refusals.specs.declared.Refusal.{Refusal}
use Rattle.refusals.specs.Answers.{number_of}
use Rattle.refusals.specs.AnswerLaws.{number_some}
use Rattle.steps.specs.Table.{verdict, taken, refused}
use Rattle.level_calls.specs.LevelCallLaws.{hop_some, hop_most}
use Rattle.table_report.specs.Report.{length_of}
use Rattle.table_report.specs.ReportLaws.{no_length, turned_away, taken_report}
use Rattle.table_report.proofs.put_report.Goals as goal

pub returns-in_default-clause-puts : goal.returns-in_default-clause-puts
returns-in_default-clause-puts c = rw (no_length c.args.number.now c.args.table.now (sym c.in_default.ensures.length)) c.refusal.ensures.puts

pub read-requires : goal.read-requires
read-requires c = (hop_some c.in-Some.n c.in-Some.ensures.tabled, hop_most c.in-Some.n c.in-Some.ensures.tabled)

-- no refusal has the number 0
some : (refusal : Refusal) → number_of refusal ≡ 0 → ⊥
some refusal z = let e = sym (number_some refusal) ∙ eq-eqb (number_of refusal) 0 z in cc

-- a length that is said is not 0
said : (number : List ℕ) (n : ℕ) → n ≡ length_of number → T (tabled n) → ¬ (length_of number ≡ 0)
said number n is t z = omega (arith, is, z, hop_some n t)

pub returns-in-Ok-clause-puts : goal.returns-in-Ok-clause-puts
returns-in-Ok-clause-puts c =
    let number = c.args.number.now in
    let text = c.args.table.now in
    let is : c.in-Some.n ≡ length_of number = c.in-Some.ensures.length in
    let way = c.in-Ok.ensures.verdict ∙ ap (λ (n : ℕ). verdict (n / 2) text) is in
    rw (taken_report number text (said number c.in-Some.n is c.in-Some.ensures.tabled) taken way refl, ← is) c.put_taken.ensures.puts

pub returns-in-Err-clause-puts : goal.returns-in-Err-clause-puts
returns-in-Err-clause-puts c =
    let number = c.args.number.now in
    let text = c.args.table.now in
    let is : c.in-Some.n ≡ length_of number = c.in-Some.ensures.length in
    let way = c.in-Err.ensures.verdict ∙ ap (λ (n : ℕ). verdict (n / 2) text) is in
    let cause = number_of c.in-Err.fault.cause in
    rw
    (turned_away number text (said number c.in-Some.n is c.in-Some.ensures.tabled) (refused cause c.in-Err.fault.line) way (λ z. absurd (some c.in-Err.fault.cause z)))
    (rw c.number.ensures at c.refusal-in-Err.ensures.puts)
