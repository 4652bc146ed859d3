use Rattle.demands.proofs.DemandLaws.{demand_2}
use Rattle.demands.proofs.every_number_defined.Goals as goal

pub returns : goal.returns
returns c = demand_2
