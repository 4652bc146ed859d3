use Rattle.demands.proofs.DemandLaws.{demand_3}
use Rattle.demands.proofs.sound_returned.Goals as goal

pub returns : goal.returns
returns c = demand_3
