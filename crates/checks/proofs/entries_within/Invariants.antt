-- `entries_within`: each entry passed is tested.
use Rattle.std.proofs.Common.{◌≡◌, ℕ}
use Rattle.arithmetic.specs.Lists.{at, all}
use Rattle.checks.specs.Limits.{within}
use Rattle.checks.proofs.entries_within.Given as goal

abbrev pub invariant-loop-entry : goal.invariant-loop-entry
invariant-loop-entry l = (l.all ≡ all l.entry-index (λ i. within (at l.entries i) l.limit))
