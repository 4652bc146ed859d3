use Rattle.text.proofs.OutputLaws.{puts_then}
use Rattle.table_report.specs.ReportLaws.{saying-is}
use Rattle.table_report.proofs.print.put_saying.Goals as goal

pub returns-clause-puts : goal.returns-clause-puts
returns-clause-puts c = rw (← (saying-is c.args.word.now c.args.n)) (puts_then (puts_then c.text.ensures c.more.ensures.puts) c.byte.ensures)
