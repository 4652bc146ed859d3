use Rattle.demands.proofs.DemandLaws.{coarsest_found}
use Rattle.demands.proofs.coarsest_step_found.Goals as goal

pub returns : goal.returns
returns c = coarsest_found
