use Rattle.arithmetic.specs.Rounding.{floor}
use Rattle.arithmetic.specs.Lists.{at}
use Rattle.arithmetic.specs.ListLaws.{Filled}
use Rattle.split.proofs.parts.halve.Given as goal

abbrev pub invariant-loop-k : goal.invariant-loop-k
invariant-loop-k g l = Filled (λ k. floor (at l.twice k) 2) l.k l.t l.initial.t
