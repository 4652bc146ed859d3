-- `in_range`: the chunks that are left decide.
use Rattle.std.proofs.Common.{◌≡◌, ◌*◌, ◌/◌, length}
use Rattle.checks.specs.Limits.{coefficient_limit}
use Rattle.checks.specs.LimitLaws.{all_within}
use Rattle.checks.proofs.in_range.Given as goal

abbrev pub invariant-loop-six : goal.invariant-loop-six
invariant-loop-six l = record {
  size : l.six-iterator.size ≡ 6;
  sixes : 6 * (length l.six-iterator.rest.now / 6) ≡ length l.six-iterator.rest.now;
  left : all_within coefficient_limit l.six-iterator.rest.now ≡ all_within coefficient_limit l.initial.six-iterator.rest.now;
}
