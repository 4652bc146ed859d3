use Rattle.demands.proofs.DemandLaws.{levels_kept}
use Rattle.demands.proofs.levels_kept.Goals as goal

pub returns : goal.returns
returns c = levels_kept
