-- The search for the coarsest step that passes: definitions. Document 02, P13. Which steps pass is a test that is handed in.
use Rattle.std.specs.Prelude.{Bool, cond, List, [], ◌∷◌, ℕ, zero, suc, ◌+◌, ◌-◌, ◌*◌, ltb, length}
use Rattle.step_search.specs.declared.Found.{Found}

-- 'the largest single step from 1 to 1,024'
abbrev pub top : ℕ
top = 1024

-- 'the sure step is the smaller of 1,024 and 32 × D + 15'
unfoldable pub sure : ℕ → ℕ
sure D = cond (ltb (32 * D + 15) top) (32 * D + 15) top

-- the course of a search: the steps that were tried and failed, in their order, the one that passed, if any, the step returned, and how many untried
-- steps lie above it
pub record Course : Type 0 where
  pub failed : List ℕ
  pub passed : List ℕ
  pub step : ℕ
  pub untried : ℕ

-- no step was tried
abbrev pub untouched : (step untried : ℕ) → Course
untouched s u = record { failed = []; passed = []; step = s; untried = u }

-- the first step that was tried passed
abbrev pub passing : ℕ → Course
passing s = record { failed = []; passed = s ∷ []; step = s; untried = 0 }

-- the first step that was tried failed, and then came the rest
abbrev pub failing : ℕ → Course → Course
failing s c = record { failed = s ∷ c.failed; passed = c.passed; step = c.step; untried = c.untried }

-- the steps above the sure one, `gap` of them, from the top downward, with so many trials left. 'The search ends with the first step that passes, with the
-- sure step once all above it have failed, or with the budget used up, and then it returns the sure step too'
unfoldable pub searched : (ℕ → Bool) → (least gap budget : ℕ) → Course
searched pass least zero budget = untouched least 0
searched pass least (suc gap) zero = untouched least (suc gap)
searched pass least (suc gap) (suc budget) = cond (pass (least + suc gap)) (passing (least + suc gap)) (failing (least + suc gap) (searched pass least gap budget))

-- 'steps are tried from 1,024 downward', and the sure step never
unfoldable pub course : (ℕ → Bool) → (D budget : ℕ) → Course
course pass D budget = searched pass (sure D) (top - sure D) budget

-- 'it returns the step, the trials made, and how many untried steps lie above the step returned': the trials are the steps that failed or passed
abbrev pub answer : Course → Found
answer c = record { step = c.step; trials = length c.failed + length c.passed; untried = c.untried }

unfoldable pub found : (ℕ → Bool) → (D budget : ℕ) → Found
found pass D budget = answer (course pass D budget)
