use Rattle.std.proofs.Common.{◌≡◌}
use Rattle.floats.specs.Floats.{picked, smaller}
use Rattle.floats.proofs.lowest.Given as goal

abbrev pub invariant-loop-value : goal.invariant-loop-value
invariant-loop-value l = l.best ≡ picked smaller l.x l.value-index
