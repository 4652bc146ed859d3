use Rattle.std.specs.Prelude.{length}
use Rattle.arithmetic.specs.Lists.{at}
use Rattle.arithmetic.specs.ListLaws.{Filled}
use Rattle.transform.specs.FoldLaws.{folded}
use Rattle.split.proofs.parts.fold.Given as goal

abbrev pub invariant-loop-j : goal.invariant-loop-j
invariant-loop-j l = Filled (folded (length l.w) (at l.w)) l.j l.z l.initial.z
