-- Laws of one step, over the definitions that its contract cites: what its number tells.
use Rattle.std.specs.Prelude.{◌≡◌, refl, ◌≢◌, cond, List, ℕ, zero, suc, ◌/◌, ◌^◌, ◌*◌, ◌≤◌, ◌<◌, T, eqb, ℤ, nat_abs}
use Rattle.std.proofs.Math.Bool.{true}
use Rattle.std.proofs.Common.{arith, eq-eqb}
use Rattle.std.proofs.Math.Dec.{eqb-suc-zero}
use Rattle.arithmetic.specs.Lists.{at}
use Rattle.arithmetic.specs.TestLaws.{both_make, all-at, all_make, is_true}
use Rattle.cosine.specs.Kernels.{tabled}
use Rattle.stream.specs.declared.Stream.{Stream}
use Rattle.stream.specs.Steps.{next, hop}
use Rattle.stream.specs.NextLaws.{next-n, next_expected, next-limited}
use Rattle.checks.specs.Limits.{within, coefficient_limit, tail_limit, in_range}
use Rattle.stream_calls.specs.Streams.{sound_tail, sound, step_causes, step_code, step, step_out}
use Rattle.stream_calls.specs.StreamLaws.{step-number, step-tabled}
use Rattle.checks.specs.CauseLaws as C
use Rattle.checks.specs.CauseLaws.{first_is, differs, never, spared, Passed}
use Rattle.checks.specs.Causes.First.{pass}
use Rattle.checks.specs.LimitLaws.{within_abs, abs_within}

-- a choice by the number
pub code-zero : {A : Type 0} (c : ℕ) (x y : A) → c ≡ 0 → cond (eqb c 0) x y ≡ x
code-zero c x y e = rw e

pub code_other : {A : Type 0} (c : ℕ) (x y : A) → c ≢ 0 → cond (eqb c 0) x y ≡ y
code_other zero x y n = absurd (n refl)
code_other (suc c) x y n = rw (eqb-suc-zero c)

module _ (s : Stream) (number l r : ℕ) (x out : List ℤ) where
  -- 4 only for the stream's own sake
  pub sound_four : T (sound s) → step_code s number l r x out ≢ 4
  unfolding step_code step_causes spared
  sound_four t = never 4 (step_causes s number l r x out) (λ z. omega arith) (let e : sound s ≡ true = is_true t in rw e tt)

  -- 7 for the number's sake, and for nothing else
  pub sound_seven : T (sound s) → number ≢ s.expected → step_code s number l r x out ≡ 7
  unfolding step_code step_causes
  sound_seven t n = first_is (step_causes s number l r x out) (pass (is_true t) (differs n))

  pub only_seven : step_code s number l r x out ≡ 7 → number ≢ s.expected
  unfolding step_code step_causes spared
  only_seven e same = never 7 (step_causes s number l r x out) (λ z. omega arith) (rw (eq-eqb number s.expected same) tt) e

  -- a refused step returns the stream handed in, and leaves the buffer
  module _ (refused : step_code s number l r x out ≢ 0) where
    pub refused_stream : (step s number l r x out).stream ≡ s
    unfolding step
    refused_stream = code_other (step_code s number l r x out) (next s l r x) s refused

    pub refused_buffer : step_out s number l r x out ≡ out
    unfolding step_out
    refused_buffer = code_other (step_code s number l r x out) (hop s l r x) out refused

  -- a taken one
  module _ (taken : step_code s number l r x out ≡ 0) where
    pub taken_stream : (step s number l r x out).stream ≡ next s l r x
    unfolding step
    taken_stream = code-zero (step_code s number l r x out) (next s l r x) s taken

    pub taken_buffer : step_out s number l r x out ≡ hop s l r x
    unfolding step_out
    taken_buffer = code-zero (step_code s number l r x out) (hop s l r x) out taken

    passed : T (in_range (s.n / 2) x)
    unfolding step_code step_causes spared Passed
    passed = (C.passed (step_causes s number l r x out) tt taken).1.1.1.1.1.0

    pub taken-size : (k : ℕ) → k < s.n / 2 → nat_abs (at x k) ≤ coefficient_limit
    unfolding in_range
    taken-size k p = within_abs (at x k) coefficient_limit (all-at (s.n / 2) (λ k. within (at x k) coefficient_limit) passed k p)

-- a stream whose N is tabled and whose tail is within the limit is sound
pub sound_of : (s : Stream) → T (tabled s.n) → ((n : ℕ) → n < s.n / 2 → nat_abs (at s.tail n) ≤ s.n / 2 * 2 ^ 55) → T (sound s)
unfolding sound sound_tail tail_limit
sound_of s t h =
    both_make (tabled s.n) (sound_tail s) t
    (all_make (s.n / 2) (λ n. within (at s.tail n) (tail_limit (s.n / 2))) (λ n p. abs_within (at s.tail n) (tail_limit (s.n / 2)) (h n p)))

-- a taken step leaves a sound stream
pub taken-sound : (s : Stream) (number l r : ℕ) (x out : List ℤ) → step_code s number l r x out ≡ 0 → T (sound (next s l r x))
taken-sound s number l r x out z =
    let t = step-tabled s number l r x out z in
    let n = next-n s.n s refl l r x in
    sound_of (next s l r x) (rw n t) (rw n (next-limited s.n t s refl l r x (taken-size s number l r x out z)))

-- so the stream after the last number is sound and expects a number that no block has
pub last_stream : (s : Stream) (l r : ℕ) (x out : List ℤ) → step_code s 4294967295 l r x out ≡ 0 → (number : ℕ) → number < 2 ^ 32 →
    let s' = (step s 4294967295 l r x out).stream in T (sound s') × (number ≢ s'.expected)
last_stream s l r x out z number p =
    let e = step-number s 4294967295 l r x out z in
    rw (taken_stream s 4294967295 l r x out z)
    (taken-sound s 4294967295 l r x out z, (λ (f : number ≡ (next s l r x).expected). omega (arith, e, f, p, next_expected s.n s refl l r x)))
