use Rattle.std.proofs.Common.{arith}
use Rattle.coarsest.proofs.trial.are_samples.Goals as goal

pub returns : goal.returns
returns c = record { each = λ i p. c.loop-sample.invariant i (omega (arith, p, c.loop-sample-test.false)) }
