use Rattle.std.proofs.Common.{ℕ, ◌<◌}
use Rattle.arithmetic.specs.Rounding.{Sample}
use Rattle.arithmetic.specs.Lists.{at}
use Rattle.coarsest.proofs.trial.are_samples.Given as goal

abbrev pub invariant-loop-sample : goal.invariant-loop-sample
invariant-loop-sample l = (i : ℕ) → i < l.sample-index → Sample (at l.x i)
