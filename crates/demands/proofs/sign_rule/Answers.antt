use Rattle.demands.proofs.TurnLaws.{sign_rule}
use Rattle.demands.proofs.sign_rule.Goals as goal

pub returns : goal.returns
returns c = sign_rule
