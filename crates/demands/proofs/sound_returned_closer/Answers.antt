use Rattle.demands.proofs.DemandLaws.{beyond}
use Rattle.demands.proofs.sound_returned_closer.Goals as goal

pub returns : goal.returns
returns c = beyond
