use Rattle.demands.proofs.DemandLaws.{demand_3}
use Rattle.demands.proofs.returned_by_one_bound.Goals as goal

pub returns : goal.returns
returns c = demand_3.one_Q
