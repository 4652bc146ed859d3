-- What the program coarsest-step prints for an allowed distance and a budget as they are typed and the bytes of a listing: definitions. Document 02, P13.
use Rattle.std.specs.Prelude.{Bool, cond, ◌&&◌, List, [], ◌∷◌, ◌++◌, ℕ, min, ◌+◌, eqb, pos, nat_abs}
use Rattle.std.specs.Int.Signed.{le_z}
use Rattle.text.specs.Bytes.{ascii}
use Rattle.text.specs.Number.{most_digits, is_number, value, decimal}
use Rattle.text.specs.Lines.{line}
use Rattle.text.specs.Refusal.{refusal}
use Rattle.listing.specs.Hops.{digits}
use Rattle.listing.specs.Verdicts.{verdict, hops_of}
use Rattle.listing.specs.Listing.{recording}
use Rattle.coarsest_calls.specs.Answers.{Coarsest}
use Rattle.coarsest_calls.specs.CoarsestCalls.{most_allowed, coarsest_answer}

-- ---- what is typed
-- a whole number: a number of at most so many digits, in the form of the listing's, and not below 0
unfoldable pub is_whole : ℕ → List ℕ → Bool
is_whole most typed = is_number most typed && le_z (pos 0) (value typed)

-- the number, and another where the bytes are none
unfoldable pub whole_of : (most other : ℕ) → List ℕ → ℕ
whole_of most other typed = cond (is_whole most typed) (nat_abs (value typed)) other

-- the allowed distance, of 1 to 5 digits. Bytes that are none stand for one that is turned away, and so does a larger one
unfoldable pub distance_of : List ℕ → ℕ
distance_of typed = min (whole_of digits (most_allowed + 1) typed) (most_allowed + 1)

-- the budget: no search has as many steps as a number of 18 digits. The program prints nothing for bytes that are none
abbrev pub is_budget : List ℕ → Bool
is_budget typed = is_whole most_digits typed

abbrev pub budget_of : List ℕ → ℕ
budget_of typed = whole_of most_digits 0 typed

-- ---- what is printed
-- a header, and the step, the trials and the untried steps
unfoldable pub found_lines : (step trials untried : ℕ) → List ℕ
found_lines step trials untried = ascii "step,trials,untried\n" ++ line (decimal step) (decimal trials ∷ decimal untried ∷ [])

-- of what the call answers: a number that is not 0 has no line of the listing
unfoldable pub answer_of : Coarsest → List ℕ
answer_of a = cond (eqb a.code 0) (found_lines a.step a.trials a.untried) (refusal a.code 0)

-- a listing that round-trip refuses is refused alike; then the call's own causes are left
unfoldable pub report_of : (distance budget text : List ℕ) → List ℕ
report_of distance budget text =
    cond (eqb (verdict text).code 0)
    (answer_of (coarsest_answer (verdict text).n (verdict text).hops (recording (hops_of text)) (distance_of distance) (budget_of budget)))
    (refusal (verdict text).code (verdict text).line)
