use Rattle.demands.proofs.DemandLaws.{sparse_kept}
use Rattle.demands.proofs.sparse_changes_kept.Goals as goal

pub returns : goal.returns
returns c = sparse_kept
