-- Laws of `step`: its answers by its causes.
use Rattle.std.specs.Prelude.{◌≡◌, ◌≢◌, Bool, List, ℕ, ◌+◌, ◌*◌, ◌/◌, ◌^◌, ◌≤◌, T, eqb, leb, length, ℤ}
use Rattle.std.proofs.Math.Path.{refl, ap}
use Rattle.std.proofs.Common.{sym, ◌∙◌}
use Rattle.std.proofs.Math.Bool.{true, false, cond}
use borrow.Author.Tests.{ne_eqb}
use Rattle.std.proofs.Math.Dec.{eqb→eq, leb→le}
use Rattle.arithmetic.specs.Lists.{at, all}
use Rattle.arithmetic.specs.TestLaws.{all-at, both_left, both_right, is_T, is_true}
use Rattle.cosine.specs.Kernels.{tabled}
use Rattle.stream.specs.declared.Stream.{Stream}
use Rattle.stream.specs.Synthesis.{storage}
use Rattle.stream.specs.StepLaws.{Bounded, Valid}
use Rattle.stream.specs.Steps.{next, hop}
use Rattle.checks.specs.LimitLaws.{within_abs, range_small}
use Rattle.checks.specs.Causes.{First}
use Rattle.checks.specs.CauseLaws.{first_is, leaves, spared, Passed, passed}
use Rattle.checks.specs.Limits.{within, tail_limit, are_shapes}
use Rattle.stream_calls.specs.Streams.{sound_tail, sound, fits, step_causes, step_code, step, step_out, stream_of}

pub tail_bounded : (M : ℕ) (tail : List ℤ) → all M (λ i. within (at tail i) (tail_limit M)) ≡ true → Bounded M tail
unfolding tail_limit
tail_bounded M tail e =
    record { within = λ i p. within_abs (at tail i) (M * 2 ^ 55) (all-at M (λ i. within (at tail i) (M * 2 ^ 55)) (is_T e) i p) }

pub sound-tabled : (s : Stream) → sound s ≡ true → T (tabled s.n)
unfolding sound
sound-tabled s e = both_left (tabled s.n) (sound_tail s) (is_T e)

pub sound-bounded : (s : Stream) → sound s ≡ true → Bounded (s.n / 2) s.tail
unfolding sound sound_tail
sound-bounded s e = tail_bounded (s.n / 2) s.tail (is_true (both_right (tabled s.n) (sound_tail s) (is_T e)))

-- ---- a step by its causes
module _ (s : Stream) (number l r : ℕ) (x out : List ℤ) where
  -- for k = 0 the new tail and the hop, for every other k what the buffers held
  pub step-answer : {k : ℕ} → First (step_causes s number l r x out) k →
      (k ≡ step_code s number l r x out) × ((cond (eqb k 0) (next s l r x).tail s.tail ≡ (step s number l r x out).stream.tail) × (cond (eqb k 0) (hop s l r x) out ≡ step_out s number l r x out))
  unfolding step_code step step_out
  step-answer {k} f =
      let cs = step_causes s number l r x out in
      (sym (first_is cs f), (by_test (eqb k 0) ∙ ap (λ (q : Stream). q.tail) (leaves cs (next s l r x) s f), leaves cs (hop s l r x) out f))
    where
      by_test : (b : Bool) → cond b (next s l r x).tail s.tail ≡ (cond b (next s l r x) s).tail
      by_test true = refl
      by_test false = refl

  pub step-refused : step_code s number l r x out ≢ 0 → record { code = step_code s number l r x out; stream = s } ≡ step s number l r x out
  unfolding step
  step-refused n = let e = ne_eqb (step_code s number l r x out) 0 n in rw e

  pub step-taken : step_code s number l r x out ≡ 0 → record { code = 0; stream = stream_of s.n (s.expected + 1) r (step s number l r x out).stream.tail } ≡ step s number l r x out
  unfolding step next
  step-taken z = rw z

  -- a taken block's number is the expected one
  pub step-number : step_code s number l r x out ≡ 0 → number ≡ s.expected
  unfolding step_code step_causes spared Passed
  step-number z = eqb→eq number s.expected (passed (step_causes s number l r x out) tt z).1.0

  pub step-tabled : step_code s number l r x out ≡ 0 → T (tabled s.n)
  unfolding step_code step_causes spared Passed
  step-tabled z = sound-tabled s (is_true (passed (step_causes s number l r x out) tt z).0)

  -- and its joints fit: the left one is the stream's, and the right one is a shape
  step_fits : step_code s number l r x out ≡ 0 → T (fits l r s.shape)
  unfolding step_code step_causes spared Passed
  step_fits z = (passed (step_causes s number l r x out) tt z).1.1.0

  pub step_left : step_code s number l r x out ≡ 0 → l ≡ s.shape
  unfolding fits
  step_left z = eqb→eq l s.shape (both_right (are_shapes l r) (eqb l s.shape) (step_fits z))

  pub step-shape : step_code s number l r x out ≡ 0 → r ≤ 1
  unfolding fits are_shapes
  step-shape z = leb→le r 1 (both_right (leb l 1) (leb r 1) (both_left (are_shapes l r) (eqb l s.shape) (step_fits z)))

  -- what a taken step works on is valid
  pub step_valid : step_code s number l r x out ≡ 0 → length s.tail ≡ storage → Valid s.n x s.tail out
  unfolding step_code step_causes spared Passed
  step_valid z stored =
      let p = passed (step_causes s number l r x out) tt z in
      let long = eqb→eq (length x) (s.n / 2) p.1.1.1.0 in (
        step-tabled z,
        long,
        range_small x (s.n / 2) long (is_true p.1.1.1.1.1.0),
        stored,
        sound-bounded s (is_true p.0),
        eqb→eq (length out) (s.n / 2) p.1.1.1.1.0,
      )
