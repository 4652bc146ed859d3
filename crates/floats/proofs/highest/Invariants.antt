use Rattle.std.proofs.Common.{◌≡◌}
use Rattle.floats.specs.Floats.{picked, larger}
use Rattle.floats.proofs.highest.Given as goal

abbrev pub invariant-loop-value : goal.invariant-loop-value
invariant-loop-value l = l.best ≡ picked larger l.x l.value-index
