-- Laws of a search as a value: carried from trial to trial it answers as the definition does.
use Rattle.std.specs.Prelude.{◌≡◌, Bool, true, false, T, ltb, length}
use Rattle.std.proofs.Math.Path.{refl, sym, ap}
use Rattle.std.proofs.Common.{◌∙◌, arith, ltb→lt, lt-ltb, eq-eqb, ne_eqb}
use Prim.Native.Nat.{ℕ, zero, suc, ◌+◌, ◌-◌, ◌≤◌, ◌<◌}
use Rattle.std.proofs.Math.Decide.{dec_lt, ℕ_discrete}
use Rattle.arithmetic.specs.TestLaws.{is_T}
use Rattle.step_search.specs.Search.{top, sure, Course, untouched, passing, failing, searched, course, answer, found}
use Rattle.step_search.specs.SearchLaws.{sure-is}
use Rattle.step_search.specs.Progress.{begun, unfinished, behind, stopped, ended}
use Rattle.step_search.specs.declared.Search.{Search}
use Rattle.step_search.specs.declared.Found.{Found}

less : (n : ℕ) → suc n - 1 ≡ n
less n = omega arith

-- ---- one trial of the definition
module _ (pass : ℕ → Bool) (least : ℕ) where
  none_left : (gap budget : ℕ) → (gap ≡ 0) → searched pass least gap budget ≡ untouched least gap
  unfolding searched
  none_left zero budget h = refl
  none_left (suc gap) budget h = absurd (omega arith)

  none_allowed : (gap budget : ℕ) → (budget ≡ 0) → searched pass least gap budget ≡ untouched least gap
  unfolding searched
  none_allowed zero budget h = refl
  none_allowed (suc gap) zero h = refl
  none_allowed (suc gap) (suc budget) h = absurd (omega arith)

  one_passes : (gap budget : ℕ) → 0 < gap → 0 < budget → pass (least + gap) ≡ true → searched pass least gap budget ≡ passing (least + gap)
  unfolding searched
  one_passes zero budget h k e = absurd (omega arith)
  one_passes (suc gap) zero h k e = absurd (omega arith)
  one_passes (suc gap) (suc budget) h k e = rw e

  one_fails : (gap budget : ℕ) → 0 < gap → 0 < budget → pass (least + gap) ≡ false → searched pass least gap budget ≡ failing (least + gap) (searched pass least (gap - 1) (budget - 1))
  unfolding searched
  one_fails zero budget h k e = absurd (omega arith)
  one_fails (suc gap) zero h k e = absurd (omega arith)
  one_fails (suc gap) (suc budget) h k e = rw (e, less gap, less budget)

-- ---- what a search under way will answer
abbrev after : ℕ → Found → Found
after t r = record { step = r.step; trials = t + r.trials; untried = r.untried }

none_more : (r : Found) → r ≡ after 0 r
none_more r = ap (λ (n : ℕ). record { step = r.step; trials = n; untried = r.untried }) (omega arith)

pub record Going (pass : ℕ → Bool) (D budget : ℕ) (s : Search) : Type 0 where
  pub least_is : s.least ≡ sure D
  pub from : sure D ≤ s.step
  pub upto : s.trials + s.step ≡ top
  pub is : found pass D budget ≡ after s.trials (answer (searched pass s.least (s.step - s.least) s.left))

pub going_begun : (pass : ℕ → Bool) (D budget : ℕ) → Going pass D budget (begun D budget)
unfolding found course
going_begun pass D budget = record { least_is = refl; from = (sure-is D).most; upto = refl; is = none_more (answer (searched pass (sure D) (top - sure D) budget)) }

-- an unfinished search has a step above the sure one, and a trial left
pub record Open (s : Search) : Type 0 where
  pub more : s.least < s.step
  pub some : 0 < s.left

pub unfinished_is_open : (s : Search) → T (unfinished s) → Open s
unfolding unfinished
unfinished_is_open s t = go (ℕ_discrete s.left 0)
  where
    go : Dec (s.left ≡ 0) → Open s
    go (yes e) = absurd (rw (eq-eqb s.left 0 e) at t)
    go (no n) = let h : T (ltb s.least s.step) = rw (ne_eqb s.left 0 n) at t in record { more = ltb→lt s.least s.step h; some = omega (arith, n) }

module _ (pass : ℕ → Bool) (D budget : ℕ) (s : Search) (o : Going pass D budget s) where
  here : s.least ≤ s.step → s.least + (s.step - s.least) ≡ s.step
  here h = omega arith

  -- the sure step is at least 15, so the trials are few
  pub trials_few : s.trials < 1024
  trials_few = omega (arith, o.upto, o.from, (sure-is D).least)

  pub step-most : s.step ≤ 1024
  step-most = omega (arith, o.upto)

  module _ (t : T (unfinished s)) where
    -- a step that is tried is above 15
    pub step-least : 16 ≤ s.step
    step-least = omega (arith, (unfinished_is_open s t).more, o.least_is, (sure-is D).least)

    pub going_passed : pass s.step ≡ true → stopped s ≡ found pass D budget
    going_passed e =
        let q = unfinished_is_open s t in
        let h = here (omega (arith, q.more)) in
        sym (o.is
        ∙ rw (one_passes pass s.least (s.step - s.least) s.left (omega (arith, q.more)) q.some (rw h e)) (ap (λ (n : ℕ). record { step = n; trials = s.trials + 1; untried = 0 }) h))

    pub going_on : pass s.step ≡ false → Going pass D budget (behind s)
    going_on e =
        let q = unfinished_is_open s t in
        let h = here (omega (arith, q.more)) in
        let lower : s.step - 1 - s.least ≡ s.step - s.least - 1 = omega (arith, q.more) in
        let c = searched pass s.least (s.step - s.least - 1) (s.left - 1) in
        let sum : s.trials + (suc (length c.failed) + length c.passed) ≡ s.trials + 1 + (length c.failed + length c.passed) = omega arith in
        record {
          least_is = o.least_is;
          from = omega (arith, q.more, o.least_is);
          upto = omega (arith, o.upto, q.more);
          is =
              o.is
              ∙ rw (one_fails pass s.least (s.step - s.least) s.left (omega (arith, q.more)) q.some (rw h e), lower)
              (ap (λ (n : ℕ). record { step = c.step; trials = n; untried = c.untried }) sum);
        }

  pub going_ended : unfinished s ≡ false → ended s ≡ found pass D budget
  unfolding unfinished
  going_ended f = sym (o.is ∙ ap (λ (c : Course). after s.trials (answer c)) (shut (ℕ_discrete s.left 0)) ∙ ap (λ (n : ℕ). record { step = s.least; trials = n; untried = s.step - s.least }) (omega arith))
    where
      shut : Dec (s.left ≡ 0) → searched pass s.least (s.step - s.least) s.left ≡ untouched s.least (s.step - s.least)
      shut (yes e) = none_allowed pass s.least (s.step - s.least) s.left e
      shut (no n) = none_left pass s.least (s.step - s.least) s.left (nothing (dec_lt s.least s.step))
        where
          nothing : Dec (s.least < s.step) → s.step - s.least ≡ 0
          nothing (yes l) = absurd (rw (rw (ne_eqb s.left 0 n) at f) at (is_T (lt-ltb s.least s.step l)))
          nothing (no l) = omega (arith, l)
