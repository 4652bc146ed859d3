use Rattle.std.proofs.Common.{arith}
use Rattle.text.specs.RefusalLaws.{decimal_machine}
use Rattle.text.proofs.OutputLaws.{puts_then}
use Rattle.coarsest_report.specs.ReportLaws.{found-is}
use Rattle.coarsest_report.proofs.print.put_found.Goals as goal

pub digits-requires : goal.digits-requires
digits-requires c = omega (arith, c.text.ensures.put.behind, c.text.ensures.long, decimal_machine c.args.found.step (omega arith))

pub more-requires : goal.more-requires
more-requires c = omega (arith, c.text.ensures.put.behind, c.text.ensures.long, c.digits.ensures.put.behind, c.digits.ensures.long, decimal_machine c.args.found.step (omega arith))

pub more-requires-2 : goal.more-requires-2
more-requires-2 c = omega (arith, c.text.ensures.put.behind, c.text.ensures.long, c.digits.ensures.put.behind, c.digits.ensures.long, c.more.ensures.upper_bound, c.more.ensures.puts.long, decimal_machine c.args.found.step (omega arith))

pub byte-requires : goal.byte-requires
byte-requires c =
    omega (arith, c.text.ensures.put.behind, c.text.ensures.long, c.digits.ensures.put.behind, c.digits.ensures.long, c.more.ensures.upper_bound, c.more.ensures.puts.long, c.more-2.ensures.upper_bound, c.more-2.ensures.puts.long, decimal_machine c.args.found.step (omega arith))

pub returns-clause-puts : goal.returns-clause-puts
returns-clause-puts c =
    let e = found-is c.args.found.step c.args.found.trials c.args.found.untried in
    rw (← e) (puts_then (puts_then (puts_then (puts_then c.text.ensures c.digits.ensures) c.more.ensures.puts) c.more-2.ensures.puts) c.byte.ensures)

pub returns-clause-upper_bound : goal.returns-clause-upper_bound
returns-clause-upper_bound c =
    omega (arith, c.text.ensures.put.behind, c.digits.ensures.put.behind, c.more.ensures.upper_bound, c.more-2.ensures.upper_bound, c.byte.ensures.put.behind, decimal_machine c.args.found.step (omega arith))
