-- Laws of the search: what its answer says, for any test of a step.
use Rattle.std.specs.Prelude.{◌≡◌, Bool, cond, length}
use Rattle.std.proofs.Math.Path.{refl}
use Rattle.std.proofs.Math.Logic.{dite}
use Rattle.std.proofs.Math.Bool.{true, false}
use Prim.Native.Nat.{ℕ, zero, suc, ◌+◌, ◌-◌, ◌*◌, ◌≤◌, ◌<◌}
use Rattle.std.proofs.Common.{le_refl, lt-ltb, le-ltb}
use native.Mathlib.Omega.{arith}
use Rattle.std.proofs.Math.Decide.{dec_lt}
use Rattle.arithmetic.specs.TestLaws.{is_T}
use Rattle.step_search.specs.Search.{top, sure, Course, untouched, passing, failing, searched, course, found}
use Rattle.step_search.specs.declared.Found.{Found}

-- ---- the sure step
pub sure_below : (D : ℕ) → 32 * D + 15 < top → sure D ≡ 32 * D + 15
unfolding sure
sure_below D h = rw (lt-ltb (32 * D + 15) top h)

pub sure-top : (D : ℕ) → top ≤ 32 * D + 15 → sure D ≡ top
unfolding sure
sure-top D h = rw (le-ltb (32 * D + 15) top h)

-- for the search
pub ruleset sure_step = (sure_below, sure-top)

-- it is a step that may be returned, and one that the told distance takes
pub record Sure (D s : ℕ) : Type 0 where
  pub least : 15 ≤ s
  pub most : s ≤ top
  pub told : s ≤ 32 * D + 15

pub sure-is : (D : ℕ) → Sure D (sure D)
sure-is D =
    dite
    (dec_lt (32 * D + 15) top)
    (λ (h : 32 * D + 15 < top). record { least = omega (arith, sure_below D h); most = omega (arith, sure_below D h); told = omega (arith, sure_below D h) })
    (λ n.
    let e = sure-top D (omega (arith, n)) in
    record { least = omega (arith, e); most = omega (arith, e); told = omega (arith, e, n) })

-- ---- what a course says of the steps up to `high`
pub record Right (pass : ℕ → Bool) (least high budget : ℕ) (c : Course) : Type 0 where
  pub from : least ≤ c.step
  pub upto : c.step ≤ high
  -- above the sure step it was tried last and passed, and no step above it is untried
  pub above : least < c.step → (pass c.step ≡ true) × (c.untried ≡ 0) × (length c.passed ≡ 1)
  -- the sure step was not tried
  pub at_sure : c.step ≡ least → length c.passed ≡ 0
  -- every step above the one returned was tried and failed, or is untried
  pub adds_up : length c.failed + c.untried + c.step ≡ high
  -- the first so many steps were tried and failed
  pub tried : (s : ℕ) → s ≤ high → high < s + length c.failed → pass s ≡ false
  -- no more trials than the budget, and all of them where a step is untried
  pub within : length c.failed + length c.passed ≤ budget
  pub used : 0 < c.untried → length c.failed + length c.passed ≡ budget

module _ (pass : ℕ → Bool) (least : ℕ) where
  -- nothing is tried where no step is left, or no trial
  ended : (gap budget : ℕ) → (0 < gap → 0 ≡ budget) → Right pass least (least + gap) budget (untouched least gap)
  ended gap budget none = record {
    from = le_refl least;
    upto = omega arith;
    above = λ h. absurd (omega (arith, h));
    at_sure = λ h. refl;
    adds_up = omega arith;
    tried = λ s k l. absurd (omega (arith, k, l));
    within = omega arith;
    used = none;
  }

  passed : (high budget : ℕ) → least < high → pass high ≡ true → Right pass least high (suc budget) (passing high)
  passed high budget l e = record {
    from = omega arith;
    upto = le_refl high;
    above = λ h. (e, refl, refl);
    at_sure = λ h. absurd (omega (arith, h));
    adds_up = omega arith;
    tried = λ s k m. absurd (omega (arith, k, m));
    within = omega arith;
    used = λ h. absurd (omega (arith, h));
  }

  failed : (high budget : ℕ) (c : Course) → Right pass least high budget c → pass (suc high) ≡ false → Right pass least (suc high) (suc budget) (failing (suc high) c)
  failed high budget c r e = record {
    from = r.from;
    upto = omega (arith, r.upto);
    above = r.above;
    at_sure = r.at_sure;
    adds_up = omega (arith, r.adds_up);
    tried = λ s k m. dite (dec_lt high s) (λ (q : high < s). let i : s ≡ suc high = omega (arith, k) in rw i e) (λ q. r.tried s (omega (arith, q)) (omega (arith, m, q)));
    within = omega (arith, r.within);
    used = λ h. omega (arith, r.used h);
  }

  right : (gap budget : ℕ) → Right pass least (least + gap) budget (searched pass least gap budget)
  unfolding searched
  right zero budget = ended 0 budget (λ h. absurd (omega (arith, h)))
  right (suc gap) zero = ended (suc gap) 0 (λ h. refl)
  right (suc gap) (suc budget) = by (pass (least + suc gap)) refl (right gap budget)
    where
      by : (t : Bool) → pass (least + suc gap) ≡ t → Right pass least (least + gap) budget (searched pass least gap budget)
          → Right pass least (least + suc gap) (suc budget) (cond t (passing (least + suc gap)) (failing (least + suc gap) (searched pass least gap budget)))
      by true e r = passed (least + suc gap) budget (omega arith) e
      by false e r = let q : least + suc gap ≡ suc (least + gap) = omega arith in rw q (failed (least + gap) budget (searched pass least gap budget) r (rw q at e))

-- ---- the whole search, by the numbers that it answers
pub record Answered (pass : ℕ → Bool) (D budget : ℕ) (r : Found) : Type 0 where
  -- the step is one that may be returned: the sure one or above
  pub from : sure D ≤ r.step
  pub upto : r.step ≤ top
  -- above the sure step it passed, and no step above it is untried
  pub above : sure D < r.step → (pass r.step ≡ true) × (r.untried ≡ 0)
  -- 'every step tried and failed': those from 1,024 downward, as many as trials were made, but for the one returned
  pub tried : (s : ℕ) → r.step < s → s ≤ top → top < s + r.trials → pass s ≡ false
  -- the numbers add up: each step above the one returned was tried or is untried, and above the sure step the one returned was tried too
  pub adds_up : r.step ≡ sure D → r.trials + r.untried ≡ top - r.step
  pub adds_up_above : sure D < r.step → r.trials + r.untried ≡ top - r.step + 1
  -- no more trials than the budget, and all of them where a step is untried
  pub within : r.trials ≤ budget
  pub used : 0 < r.untried → r.trials ≡ budget
  -- the sure step is 15 at least: a budget of 1,009 leaves no step untried
  pub enough : 1009 ≤ budget → r.untried ≡ 0
  -- 'with none untried, that step is the largest', the sure step being one that passes
  pub it_passes : pass (sure D) ≡ true → pass r.step ≡ true
  pub largest : r.untried ≡ 0 → (s : ℕ) → r.step < s → s ≤ top → pass s ≡ false
  -- where the step next above the sure one passes, the search does not end because all above have failed
  pub never_all : pass (sure D + 1) ≡ true → sure D < top → r.step ≡ sure D → 0 < r.untried

module _ (pass : ℕ → Bool) (D budget : ℕ) where
  course-right : Right pass (sure D) top budget (course pass D budget)
  unfolding course
  course-right = let e : sure D + (top - sure D) ≡ top = omega (arith, (sure-is D).most) in rw e at (right pass (sure D) (top - sure D) budget)

  abbrev c : Course
  c = course pass D budget

  step_by : {A : Type 0} → (c.step ≡ sure D → A) → (sure D < c.step → A) → A
  step_by f g = dite (dec_lt (sure D) c.step) (λ (h : sure D < c.step). g h) (λ n. f (omega (arith, n, course-right.from)))

  -- what was tried and is not the one returned has failed
  tried : (s : ℕ) → c.step < s → s ≤ top → top < s + (length c.failed + length c.passed) → pass s ≡ false
  tried s k l m =
      let o = course-right in
      step_by
      (λ (e : c.step ≡ sure D). o.tried s l (omega (arith, m, o.at_sure e)))
      (λ (h : sure D < c.step). o.tried s l (omega (arith, k, o.adds_up, (o.above h).1)))

  largest : c.untried ≡ 0 → (s : ℕ) → c.step < s → s ≤ top → pass s ≡ false
  largest z s k l = course-right.tried s l (omega (arith, k, z, course-right.adds_up))

  pub answered : Answered pass D budget (found pass D budget)
  unfolding found
  answered =
      let o = course-right in
      record {
        from = o.from;
        upto = o.upto;
        above = λ h. ((o.above h).0, (o.above h).1);
        tried = tried;
        adds_up = λ e. omega (arith, o.adds_up, o.at_sure e);
        adds_up_above = λ h. omega (arith, o.adds_up, (o.above h).2);
        within = o.within;
        used = o.used;
        enough = λ b.
            dite
            (dec_lt 0 c.untried)
            (λ (h : 0 < c.untried).
            absurd (step_by
            (λ (e : c.step ≡ sure D). omega (arith, b, h, e, o.used h, o.adds_up, o.at_sure e, (sure-is D).least))
            (λ (k : sure D < c.step). omega (arith, h, (o.above k).1))))
            (λ n. omega (arith, n));
        it_passes = λ p. step_by (λ (e : c.step ≡ sure D). rw e p) (λ (h : sure D < c.step). (o.above h).0);
        largest = largest;
        never_all = λ p l e.
            dite
            (dec_lt 0 c.untried)
            (λ (h : 0 < c.untried). h)
            (λ n. absurd (rw (largest (omega (arith, n)) (sure D + 1) (omega (arith, e)) (omega (arith, l))) at (is_T p)));
      }

-- ---- the answers for D = 32, and for 31 and 0 without a trial, whatever the test, and the three endings with a stand-in for it
module _ (pass : ℕ → Bool) where
  pub at_32 : (budget : ℕ) → found pass 32 budget ≡ record { step = 1024; trials = 0; untried = 0 }
  unfolding found course searched sure
  at_32 budget = refl

  pub at_31 : found pass 31 0 ≡ record { step = 1007; trials = 0; untried = 17 }
  unfolding found course searched sure
  at_31 = refl

  pub at_0 : found pass 0 0 ≡ record { step = 15; trials = 0; untried = 1009 }
  unfolding found course searched sure
  at_0 = refl

pub first_passes : found (λ s. true) 31 5 ≡ record { step = 1024; trials = 1; untried = 0 }
unfolding found course searched sure
first_passes = refl

pub all_failed : found (λ s. false) 31 20 ≡ record { step = 1007; trials = 17; untried = 0 }
unfolding found course searched sure
all_failed = refl

pub budget_used : found (λ s. false) 31 5 ≡ record { step = 1007; trials = 5; untried = 12 }
unfolding found course searched sure
budget_used = refl
