use Rattle.demands.proofs.DemandLaws.{floats_exact}
use Rattle.demands.proofs.floats_exact.Goals as goal

pub returns : goal.returns
returns c = floats_exact
