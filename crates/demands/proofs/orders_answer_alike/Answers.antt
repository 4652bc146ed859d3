use Rattle.demands.proofs.DemandLaws.{either_order}
use Rattle.demands.proofs.orders_answer_alike.Goals as goal

pub returns : goal.returns
returns c = either_order
