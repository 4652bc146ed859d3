use Rattle.std.proofs.Common.{◌+◌, ◌*◌}
use Rattle.arithmetic.specs.Lists.{at}
use Rattle.arithmetic.specs.ListLaws.{Filled}
use Rattle.orders.proofs.put_band.Given as goal

abbrev pub invariant-loop-j : goal.invariant-loop-j
invariant-loop-j l = Filled (λ i. at l.tile (i * l.m + l.k)) l.j l.out l.initial.out
