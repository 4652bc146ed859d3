-- What `coarsest_step` and, for C, `find_step` answer: definitions. Document 02, P13. x are the samples of H hops, D is the allowed distance, M = N/2.
use Rattle.std.specs.Prelude.{cond, List, [], ◌∷◌, ℕ, ◌*◌, ◌/◌, eqb, leb, length, ℤ}
use Rattle.cosine.specs.Kernels.{tabled}
use Rattle.checks.specs.Limits.{counted}
use Rattle.checks.specs.Causes.{Cause, ◌unless◌, first_cause}
use Rattle.step_search.specs.declared.Found.{Found}
use Rattle.coarsest.specs.Coarsest.{coarsest}
use Rattle.coarsest_calls.specs.Answers.{Coarsest}

-- the largest distance that may be allowed
abbrev pub most_allowed : ℕ
most_allowed = 32

-- ---- `coarsest_step`: N, H, a recording that is not of H × M samples, and 'D above 32 is 12, after all earlier causes'
unfoldable pub coarsest_causes : (N H : ℕ) → List ℤ → ℕ → List Cause
coarsest_causes N H x D =
    1 unless tabled N
    ∷ 2 unless counted H
    ∷ 2 unless eqb (length x) (H * (N / 2))
    ∷ 12 unless leb D most_allowed
    ∷ []

unfoldable pub coarsest_code : (N H : ℕ) → List ℤ → ℕ → ℕ
coarsest_code N H x D = first_cause (coarsest_causes N H x D)

-- taken, what the search finds; refused, all else is 0
abbrev pub answered_with : Found → Coarsest
answered_with f = record { code = 0; step = f.step; trials = f.trials; untried = f.untried }

abbrev pub refused_with : ℕ → Coarsest
refused_with k = record { code = k; step = 0; trials = 0; untried = 0 }

unfoldable pub coarsest_answer : (N H : ℕ) → List ℤ → (D budget : ℕ) → Coarsest
coarsest_answer N H x D budget = cond (eqb (coarsest_code N H x D) 0) (answered_with (coarsest N H x D budget)) (refused_with (coarsest_code N H x D))

-- ---- `find_step`: room for three numbers, another length being 2, tested with the other lengths
unfoldable pub find_causes : (N H : ℕ) → List ℤ → ℕ → List ℕ → List Cause
find_causes N H x D room =
    1 unless tabled N
    ∷ 2 unless counted H
    ∷ 2 unless eqb (length x) (H * (N / 2))
    ∷ 2 unless eqb (length room) 3
    ∷ 12 unless leb D most_allowed
    ∷ []

unfoldable pub find_code : (N H : ℕ) → List ℤ → ℕ → List ℕ → ℕ
find_code N H x D room = first_cause (find_causes N H x D room)

-- the step, the trials and the untried steps
unfoldable pub numbers_of : Found → List ℕ
numbers_of f = f.step ∷ f.trials ∷ f.untried ∷ []

unfoldable pub find_out : (N H : ℕ) → List ℤ → (D budget : ℕ) → List ℕ → List ℕ
find_out N H x D budget room = cond (eqb (find_code N H x D room) 0) (numbers_of (coarsest N H x D budget)) room
