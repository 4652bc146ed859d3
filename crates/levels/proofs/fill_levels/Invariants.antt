use Rattle.arithmetic.specs.Lists.{at}
use Rattle.arithmetic.specs.ListLaws.{Filled}
use Rattle.levels.specs.Levels.{level, step_at}
use Rattle.levels.proofs.fill_levels.Given as goal

abbrev pub invariant-loop-k : goal.invariant-loop-k
invariant-loop-k l = Filled (λ j. level (step_at l.steps j) (at l.x j)) l.k l.out l.initial.out
