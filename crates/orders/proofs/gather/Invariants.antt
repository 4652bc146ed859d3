use Rattle.std.proofs.Common.{length}
use Rattle.arithmetic.specs.Lists.{at}
use Rattle.arithmetic.specs.ListLaws.{Filled}
use Rattle.orders.specs.Orders.{place}
use Rattle.orders.proofs.gather.Given as goal

abbrev pub invariant-loop-k : goal.invariant-loop-k
invariant-loop-k l = Filled (λ j. at l.x (place l.order (length l.initial.block) l.blocks l.b j)) l.k l.block l.initial.block
