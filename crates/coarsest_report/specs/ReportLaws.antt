-- Laws of the report: what is typed by its tests, the recording that a listing's hops are, and what is printed.
use Rattle.std.specs.Prelude.{◌≡◌, refl, true, false, List, [], ◌∷◌, ◌++◌, ℕ, ◌+◌, ◌≤◌, ◌<◌, T, length, get_or, ℤ, pos, nat_abs, ◌≤ℤ◌}
use Rattle.std.proofs.Common.{sym, ap, ◌∙◌, append_assoc, append-nil, arith}
use borrow.Author.Tests.{eq-eqb, ne_eqb}
use Rattle.std.specs.Int.Signed.{le_z, le_z_yes}
use Rattle.arithmetic.specs.Lists.{joined}
use Rattle.arithmetic.specs.JoinLaws.{joined_front}
use Rattle.text.specs.Bytes.{ascii, line_feed, comma}
use Rattle.text.specs.Number.{is_number, value, decimal}
use Rattle.text.specs.NumberLaws.{and_left, and_right}
use Rattle.text.specs.Lines.{line, more}
use Rattle.text.specs.Refusal.{refusal}
use Rattle.listing.specs.Hops.{digits}
use Rattle.listing.specs.Verdicts.{Verdict}
use Rattle.listing.specs.Verdicts.{verdict, hops_of}
use Rattle.listing.specs.Listing.{recording}
use Rattle.coarsest_calls.specs.Answers.{Coarsest}
use Rattle.coarsest_calls.specs.CoarsestCalls.{most_allowed, coarsest_answer}
use Rattle.coarsest_report.specs.Report.{is_whole, whole_of, distance_of, budget_of, found_lines, answer_of, report_of}

-- ---- what is typed
module _ (most : ℕ) (typed : List ℕ) where
  pub no_number : is_number most typed ≡ false → is_whole most typed ≡ false
  unfolding is_whole
  no_number e = rw e

  pub by_sign : is_number most typed ≡ true → is_whole most typed ≡ le_z (pos 0) (value typed)
  unfolding is_whole
  by_sign e = rw e

  pub whole-number : T (is_whole most typed) → T (is_number most typed)
  unfolding is_whole
  whole-number t = and_left (is_number most typed) (le_z (pos 0) (value typed)) t

  pub whole_sign : T (is_whole most typed) → pos 0 ≤ℤ value typed
  unfolding is_whole
  whole_sign t = le_z_yes (and_right (is_number most typed) (le_z (pos 0) (value typed)) t)

  pub none_typed : (other : ℕ) → is_whole most typed ≡ false → whole_of most other typed ≡ other
  unfolding whole_of
  none_typed other e = rw e

  pub some_typed : (other : ℕ) → is_whole most typed ≡ true → whole_of most other typed ≡ nat_abs (value typed)
  unfolding whole_of
  some_typed other e = rw e

pub distance-less : (typed : List ℕ) → whole_of digits (most_allowed + 1) typed < most_allowed + 1 → distance_of typed ≡ whole_of digits (most_allowed + 1) typed
unfolding distance_of
distance-less typed h = omega arith

pub distance-more : (typed : List ℕ) → most_allowed + 1 ≤ whole_of digits (most_allowed + 1) typed → distance_of typed ≡ most_allowed + 1
unfolding distance_of
distance-more typed h = omega arith

-- ---- the recording that hops are, one after the other
pub recording-joined : (hs : List (List ℤ)) → recording hs ≡ joined (length hs) (λ j. get_or hs j [])
unfolding recording joined
recording-joined [] = refl
recording-joined (h ∷ hs) = ap (λ (l : List ℤ). h ++ l) (recording-joined hs) ∙ sym (joined_front (length hs) (λ j. get_or (h ∷ hs) j []))

-- ---- what is printed, part by part
pub found-is : (step trials untried : ℕ) → ascii "step,trials,untried\n" ++ decimal step ++ (comma ∷ decimal trials) ++ (comma ∷ decimal untried) ++ (line_feed ∷ []) ≡ found_lines step trials untried
unfolding found_lines line more
found-is step trials untried = simp (append_assoc, append-nil)

pub answer-refused : (a : Coarsest) → ¬ (a.code ≡ 0) → answer_of a ≡ refusal a.code 0
unfolding answer_of
answer-refused a n = rw (ne_eqb a.code 0 n)

pub answer-found : (a : Coarsest) → a.code ≡ 0 → answer_of a ≡ found_lines a.step a.trials a.untried
unfolding answer_of
answer-found a e = rw (eq-eqb a.code 0 e)

module _ (distance budget text : List ℕ) (v : Verdict) (is : v ≡ verdict text) where
  pub listing-refused : ¬ (v.code ≡ 0) → report_of distance budget text ≡ refusal v.code v.line
  unfolding report_of
  listing-refused n = rw (← is, ne_eqb v.code 0 n)

  pub listing-taken : v.code ≡ 0 → report_of distance budget text ≡ answer_of (coarsest_answer v.n v.hops (recording (hops_of text)) (distance_of distance) (budget_of budget))
  unfolding report_of
  listing-taken e = rw (← is, eq-eqb v.code 0 e)
