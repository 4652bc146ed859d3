use Rattle.arithmetic.specs.ListLaws.{Filled}
use Rattle.transform.specs.InverseLaws.{value_at}
use Rattle.transform.proofs.unfold.values.Given as goal

abbrev pub invariant-loop-n : goal.invariant-loop-n
invariant-loop-n l = Filled (value_at l.rise l.fall l.t) l.n l.v l.initial.v
