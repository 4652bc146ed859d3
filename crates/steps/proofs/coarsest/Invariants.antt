-- `coarsest`: the coarsest step is the larger of `most` and that of the lines from `at` on.
use Rattle.std.proofs.Common.{length, ◌-◌}
use Rattle.steps.specs.PassLaws.{Coarse}
use Rattle.steps.proofs.coarsest.Given as goal

abbrev pub invariant-loop-at : goal.invariant-loop-at
invariant-loop-at l = Coarse l.m l.table l.at l.most

abbrev pub decreases-loop-at : goal.decreases-loop-at
decreases-loop-at l = length l.table - l.at
