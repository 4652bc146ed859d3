-- A number below 0 or not tabled is no length.
use Rattle.std.specs.Prelude.{◌≡◌, true, false}
use Rattle.std.proofs.Common.{rules, sym, ap, ◌∙◌}
use lib.IntN.{nat_abs}
use mir.Syntax.{w64}
use mir.Val.{SFits}
use mir.Facts.{to_z-of_z}
use Rattle.cosine.specs.Kernels.{tabled}
use Rattle.table_report.specs.Report.{length_in}
use Rattle.table_report.specs.ReportLaws.{in_below, in_other, in_tabled, of_none, of_some}
use Rattle.table_report.proofs.length_of.Goals as goal
use Rattle.table_report.proofs.length_of.Goals.{then-n-lt0-via-then-n-lt0, then-n-lt0-via-else-n-lt0+then-not-is_tabled}

pub returns-in_err-n-clause-length : goal.returns-in_err-n-clause-length
returns-in_err-n-clause-length c = rw c.from_residual.ensures (sym (of_none c.args.number.now c.in_err-n.ensures))

pub returns-then-n-lt0-clause-length : goal.returns-then-n-lt0-clause-length
returns-then-n-lt0-clause-length c =
    let fits : SFits w64 c.in_ok-n.n = search rules in
    let is = of_some c.args.number.now c.in_ok-n.ensures.0 ∙ ap length_in (sym c.in_ok-n.ensures.1) in
    elim c.then-n-lt0.branch [
      | then-n-lt0-via-then-n-lt0 w ↦ sym (is ∙ in_below c.in_ok-n.n (rw (to_z-of_z fits) at w.if-n-lt0.true))
      | then-n-lt0-via-else-n-lt0+then-not-is_tabled w ↦
          let table : tabled (nat_abs c.in_ok-n.n) ≡ false = rw (to_z-of_z fits) at (sym w.is_tabled.ensures ∙ (let e : w.is_tabled.result ≡ false = search rules in e)) in
          sym (is ∙ in_other c.in_ok-n.n (rw (to_z-of_z fits) at w.if-n-lt0.false) table)
    ]

pub returns-clause-length : goal.returns-clause-length
returns-clause-length c =
    let fits : SFits w64 c.in_ok-n.n = search rules in
    let is = of_some c.args.number.now c.in_ok-n.ensures.0 ∙ ap length_in (sym c.in_ok-n.ensures.1) in
    let table : tabled (nat_abs c.in_ok-n.n) ≡ true = rw (to_z-of_z fits) at (sym c.is_tabled.ensures ∙ (let e : c.is_tabled.result ≡ true = search rules in e)) in
    rw (to_z-of_z fits) (sym (is ∙ in_tabled c.in_ok-n.n (rw (to_z-of_z fits) at c.if-n-lt0.false) table))
