use Rattle.demands.proofs.DemandLaws.{demand_1}
use Rattle.demands.proofs.every_call_answers.Goals as goal

pub returns : goal.returns
returns c = demand_1
