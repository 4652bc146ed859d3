use Rattle.arithmetic.specs.Lists.{at}
use Rattle.arithmetic.specs.ListLaws.{Filled}
use Rattle.levels.specs.Levels.{back, step_at}
use Rattle.levels.proofs.fill_restored.Given as goal

abbrev pub invariant-loop-k : goal.invariant-loop-k
invariant-loop-k l = Filled (λ j. back (step_at l.steps j) (at l.levels j)) l.k l.out l.initial.out
