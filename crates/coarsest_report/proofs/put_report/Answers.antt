-- A listing's refusal, or what is answered for the recording that it is.
use Rattle.std.specs.Prelude.{◌≡◌, refl, List, ℕ}
use Rattle.std.proofs.Common.{arith, sym, subst, ◌∙◌}
use Rattle.text.specs.Number.{most_digits}
use Rattle.listing.specs.declared.verdict.Fault.{Fault}
use Rattle.listing.specs.declared.verdict.Fault.TheVariants.{Length, Form, Size}
use Rattle.listing.specs.Verdicts.{Verdict, number_of, line_of, refused, taken, verdict}
use Rattle.listing.specs.VerdictLaws.{Taken, verdict-taken}
use Rattle.coarsest_report.specs.ReportLaws.{listing-refused, listing-taken}
use Rattle.coarsest_report.proofs.TypedLaws.{whole_typed}
use Rattle.coarsest_report.proofs.put_report.Goals as goal

hops : (text : List ℕ) (N H : ℕ) → taken N H ≡ verdict text → Taken text N H
hops text N H is = subst (λ (v : Verdict). v.code ≡ 0 → Taken text v.n v.hops) (sym is) (verdict-taken text) refl

some : (fault : Fault) → number_of fault ≡ 0 → ⊥
some Length z = omega (arith, z)
some (Form at) z = omega (arith, z)
some Size z = omega (arith, z)

pub answer-requires : goal.answer-requires
answer-requires c = hops c.args.input.now c.in-Ok.listing.n c.in-Ok.listing.hops c.in-Ok.ensures

pub returns-in-Ok-clause-puts : goal.returns-in-Ok-clause-puts
returns-in-Ok-clause-puts c =
    let trials = c.unwrap_or-trials.ensures ∙ whole_typed most_digits 0 c.args.budget.now c.whole.result c.whole.ensures in
    rw
    (listing-taken c.args.distance.now c.args.budget.now c.args.input.now (taken c.in-Ok.listing.n c.in-Ok.listing.hops) c.in-Ok.ensures refl)
    (rw (c.answer.ensures, c.distance_of.ensures, trials) at c.put_answer.ensures.puts)

pub returns-in-Err-clause-puts : goal.returns-in-Err-clause-puts
returns-in-Err-clause-puts c =
    let fault = c.in-Err.fault in
    rw
    (listing-refused c.args.distance.now c.args.budget.now c.args.input.now (refused (number_of fault) (line_of fault)) c.in-Err.ensures (some fault))
    (rw (c.number.ensures, c.line.ensures) at c.refusal.ensures.puts)
