use Rattle.arithmetic.specs.Lists.{at}
use Rattle.arithmetic.specs.ListLaws.{Filled}
use Rattle.levels.specs.Levels.{level, back}
use Rattle.coarsest.proofs.stepped.step_block.Given as goal

abbrev pub invariant-loop-entry : goal.invariant-loop-entry
invariant-loop-entry l = Filled (λ k. back l.step (level l.step (at l.initial.x k))) l.entry-index l.x l.initial.x
