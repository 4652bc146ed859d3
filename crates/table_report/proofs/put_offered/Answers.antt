use Rattle.std.specs.Prelude.{◌≡◌, true, false}
use Rattle.std.proofs.Common.{rules, sym, ◌∙◌}
use Rattle.text.proofs.OutputLaws.{puts_none}
use Rattle.table_report.specs.ReportLaws.{offered-none, offered-some}
use Rattle.table_report.proofs.put_offered.Goals as goal

pub returns-then-not-is_offered-clause-puts : goal.returns-then-not-is_offered-clause-puts
returns-then-not-is_offered-clause-puts c =
    let e : c.is_offered.result ≡ false = search rules in
    rw (offered-none c.args.word.now c.args.route c.args.n c.args.table.now (sym c.is_offered.ensures ∙ e)) puts_none

pub returns-clause-puts : goal.returns-clause-puts
returns-clause-puts c =
    let e : c.is_offered.result ≡ true = search rules in
    rw (offered-some c.args.word.now c.args.route c.args.n c.args.table.now (sym c.is_offered.ensures ∙ e)) c.put_distance.ensures.puts
