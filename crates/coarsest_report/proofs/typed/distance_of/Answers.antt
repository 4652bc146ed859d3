use Rattle.std.proofs.Common.{arith, sym, ◌∙◌}
use Rattle.listing.specs.Hops.{digits}
use Rattle.coarsest_report.specs.ReportLaws.{distance-less, distance-more}
use Rattle.coarsest_report.proofs.TypedLaws.{whole_typed}
use Rattle.coarsest_report.proofs.typed.distance_of.Goals as goal

pub returns-then-whole-lt33 : goal.returns-then-whole-lt33
returns-then-whole-lt33 c =
    let e = c.unwrap_or-whole.ensures ∙ whole_typed digits 33 c.args.typed.now c.whole.result c.whole.ensures in
    e ∙ sym (distance-less c.args.typed.now (omega (arith, e)))

pub returns-else-whole-lt33 : goal.returns-else-whole-lt33
returns-else-whole-lt33 c =
    let e = c.unwrap_or-whole.ensures ∙ whole_typed digits 33 c.args.typed.now c.whole.result c.whole.ensures in
    sym (distance-more c.args.typed.now (omega (arith, e)))
