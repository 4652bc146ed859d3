-- What `analyse` answers: definitions. Document 01, 'Analysis', 'Short route' and 'When the bank declines', and document 02, P7.
use Rattle.std.specs.Prelude.{cond, List, [], ◌∷◌, ℕ, ◌/◌, eqb, length, ℤ}
use Rattle.analysis.specs.declared.Route.{Route}
use Rattle.analysis.specs.Analysis.{offered, coefficients}
use Rattle.checks.specs.Limits.{are_shapes}
use Rattle.checks.specs.Causes.{Cause, ◌unless◌, first_cause}

-- the causes of `analyse`: the route is not offered at N, a joint's shape is above 1, a buffer's length differs from the stated one
unfoldable pub analyse_causes : Route → (N left right : ℕ) → List ℤ → List ℤ → List Cause
analyse_causes route N left right x out =
    1 unless offered route N
    ∷ 8 unless are_shapes left right
    ∷ 2 unless eqb (length x) N
    ∷ 2 unless eqb (length out) (N / 2)
    ∷ []

-- the number that it returns
unfoldable pub analyse_code : Route → (N left right : ℕ) → List ℤ → List ℤ → ℕ
analyse_code route N left right x out = first_cause (analyse_causes route N left right x out)

-- what `out` then holds: the coefficients, or what it held
unfoldable pub analyse_out : Route → (N left right : ℕ) → List ℤ → List ℤ → List ℤ
analyse_out route N left right x out = cond (eqb (analyse_code route N left right x out) 0) (coefficients route N left right x) out
