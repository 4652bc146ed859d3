-- `coarsest_step` meets its contract: a trial answers as the test of the definition.
use Rattle.std.proofs.Common.{rules}
use Rattle.coarsest.specs.Coarsest.{passes, coarsest}
use Rattle.coarsest.proofs.coarsest_step.Goals as goal

pub returns : goal.returns
unfolding coarsest
returns c = c.find_coarsest.ensures (passes c.args.n c.args.hops c.args.x.now c.args.allowed) (record { each = λ step answer low high told. search rules })
