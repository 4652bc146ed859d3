use Rattle.std.proofs.Common.{arith}
use Rattle.text.specs.RefusalLaws.{decimal_machine}
use Rattle.text.proofs.OutputLaws.{puts_then}
use Rattle.text.proofs.output.Output.more.Goals as goal

pub digits-requires : goal.digits-requires
digits-requires c = omega (arith, c.byte.ensures.put.behind, decimal_machine c.args.n (omega arith))

pub returns-clause-puts : goal.returns-clause-puts
returns-clause-puts c = puts_then c.byte.ensures c.digits.ensures

pub returns-clause-upper_bound : goal.returns-clause-upper_bound
returns-clause-upper_bound c =
    omega (arith, c.byte.ensures.put.behind, c.digits.ensures.put.behind, decimal_machine c.args.n (omega arith))
