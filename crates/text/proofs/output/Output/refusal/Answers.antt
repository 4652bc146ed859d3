use Rattle.text.specs.RefusalLaws.{refusal_is}
use Rattle.text.proofs.OutputLaws.{puts_then}
use Rattle.text.proofs.output.Output.refusal.Goals as goal

pub returns-clause-puts : goal.returns-clause-puts
returns-clause-puts c =
    let e = refusal_is c.args.code c.args.line in
    rw (← e) (puts_then (puts_then (puts_then c.text.ensures c.more.ensures.puts) c.more-2.ensures.puts) c.byte.ensures)
