-- `tail_within`: the chunks that are left decide.
use Rattle.std.proofs.Common.{◌≡◌, ◌*◌, ◌/◌, length}
use Rattle.checks.specs.Limits.{tail_limit}
use Rattle.checks.specs.LimitLaws.{all_within}
use Rattle.checks.proofs.tail_within.Given as goal

abbrev pub invariant-loop-six : goal.invariant-loop-six
invariant-loop-six l = record {
  size : l.six-iterator.size ≡ 6;
  sixes : 6 * (length l.six-iterator.rest.now / 6) ≡ length l.six-iterator.rest.now;
  left : all_within (tail_limit l.m) l.six-iterator.rest.now ≡ all_within (tail_limit l.m) l.initial.six-iterator.rest.now;
}
