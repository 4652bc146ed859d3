-- `tail_within`: a chunk that passes leaves the rest to decide.
use Rattle.std.proofs.Common.{◌≡◌, ◌∙◌, sym, ap, arith, ℕ, length, length-append}
use Rattle.arithmetic.specs.Lists.{at, all}
use Rattle.arithmetic.specs.TestLaws.{all_none}
use Rattle.checks.specs.Limits.{within, tail_limit}
use Rattle.checks.specs.LimitLaws.{within_take, within_passed, within_failed}
use Rattle.checks.proofs.tail_within.Goals as goal

pub returns-then-not-entries_within : goal.returns-then-not-entries_within
unfolding tail_limit
returns-then-not-entries_within c =
    let a = c.args in
    let l = c.loop-six in
    let s = c.in-Some.ensures.steps in
    let b = tail_limit a.m in
    sym (within_failed b c.in-Some.six.now c.next.new.self.rest.now l.six-iterator.rest.now s.1.0 (sym c.if-not-entries_within.ensures))
    ∙ l.invariant.left
    ∙ rw (c.into_iter-six-iterator.ensures.into_iter_gives, c.chunks_exact-six-items.ensures.rest) (within_take b a.m a.tail.now c.requires.1)

pub loop-six-preserved : goal.loop-six-preserved
unfolding tail_limit
loop-six-preserved c =
    let l = c.loop-six in
    let s = c.in-Some.ensures.steps in
    let rest = c.next.new.self.rest.now in
    record {
      size = s.0 ∙ l.invariant.size;
      sixes = omega (arith, l.invariant.size, l.invariant.sixes, ap length s.1.0, s.1.1, length-append c.in-Some.six.now rest);
      left = within_passed (tail_limit c.args.m) c.in-Some.six.now rest l.six-iterator.rest.now s.1.0 (sym c.if-not-entries_within.ensures) ∙ l.invariant.left;
    }

pub returns : goal.returns
unfolding tail_limit
returns c =
    let a = c.args in
    let l = c.loop-six in
    let s = c.in-None.ensures.steps in
    let xs = l.six-iterator.rest.now in
    let b = tail_limit a.m in
    let p = λ (i : ℕ). within (at xs i) b in
    let none : length xs ≡ 0 = omega (arith, s.1.0, l.invariant.size, l.invariant.sixes) in
    sym (ap (λ (n : ℕ). all n p) none ∙ all_none p)
    ∙ l.invariant.left
    ∙ rw (c.into_iter-six-iterator.ensures.into_iter_gives, c.chunks_exact-six-items.ensures.rest) (within_take b a.m a.tail.now c.requires.1)
