-- `in_range`: a chunk that passes leaves the rest to decide.
use Rattle.std.proofs.Common.{◌≡◌, ◌∙◌, sym, ap, arith, ℕ, length, length-append}
use Rattle.arithmetic.specs.Lists.{at, all}
use Rattle.arithmetic.specs.TestLaws.{all_none}
use Rattle.checks.specs.Limits.{within, coefficient_limit, in_range}
use Rattle.checks.specs.LimitLaws.{within_take, within_passed, within_failed}
use Rattle.checks.proofs.in_range.Goals as goal

pub returns-then-not-coefficients_within : goal.returns-then-not-coefficients_within
unfolding in_range
returns-then-not-coefficients_within c =
    let a = c.args in
    let l = c.loop-six in
    let s = c.in-Some.ensures.steps in
    let b = coefficient_limit in
    sym (within_failed b c.in-Some.six.now c.next.new.self.rest.now l.six-iterator.rest.now s.1.0 (sym c.if-not-coefficients_within.ensures))
    ∙ l.invariant.left
    ∙ rw (c.into_iter-six-iterator.ensures.into_iter_gives, c.chunks_exact-six-items.ensures.rest) (within_take b a.count a.x.now c.requires.0)

pub loop-six-preserved : goal.loop-six-preserved
unfolding in_range
loop-six-preserved c =
    let l = c.loop-six in
    let s = c.in-Some.ensures.steps in
    let rest = c.next.new.self.rest.now in
    record {
      size = s.0 ∙ l.invariant.size;
      sixes = omega (arith, l.invariant.size, l.invariant.sixes, ap length s.1.0, s.1.1, length-append c.in-Some.six.now rest);
      left = within_passed (coefficient_limit) c.in-Some.six.now rest l.six-iterator.rest.now s.1.0 (sym c.if-not-coefficients_within.ensures) ∙ l.invariant.left;
    }

pub returns : goal.returns
unfolding in_range
returns c =
    let a = c.args in
    let l = c.loop-six in
    let s = c.in-None.ensures.steps in
    let xs = l.six-iterator.rest.now in
    let b = coefficient_limit in
    let p = λ (i : ℕ). within (at xs i) b in
    let none : length xs ≡ 0 = omega (arith, s.1.0, l.invariant.size, l.invariant.sixes) in
    sym (ap (λ (n : ℕ). all n p) none ∙ all_none p)
    ∙ l.invariant.left
    ∙ rw (c.into_iter-six-iterator.ensures.into_iter_gives, c.chunks_exact-six-items.ensures.rest) (within_take b a.count a.x.now c.requires.0)
