-- `coefficients_within`: each coefficient passed is tested.
use Rattle.std.proofs.Common.{◌≡◌, ℕ}
use Rattle.arithmetic.specs.Lists.{at, all}
use Rattle.checks.specs.Limits.{within, coefficient_limit}
use Rattle.checks.proofs.coefficients_within.Given as goal

abbrev pub invariant-loop-coefficient : goal.invariant-loop-coefficient
invariant-loop-coefficient l = (l.all ≡ all l.coefficient-index (λ i. within (at l.x i) coefficient_limit))
