-- Laws of the report: its length, and what it is by its tests.
use Rattle.std.specs.Prelude.{◌≡◌, refl, Bool, true, false, cond, List, [], ◌∷◌, ◌++◌, ℕ, ◌/◌, T, ℤ, pos, negsuc, nat_abs}
use Rattle.std.proofs.Common.{◌∙◌, append_assoc, append-nil, arith}
use borrow.Author.Tests.{eq-eqb, ne_eqb}
use Rattle.std.specs.Int.Signed.{lt_z}
use Rattle.arithmetic.specs.IntegerLaws.{ints}
use Rattle.arithmetic.specs.OrderLaws.{lt_z-true, lt_z-false}
use Rattle.cosine.specs.Kernels.{tabled}
use Rattle.analysis.specs.declared.Route.{Route}
use Rattle.analysis.specs.Analysis.{offered}
use Rattle.text.specs.Bytes.{line_feed, comma}
use Rattle.text.specs.Number.{is_number, value, decimal}
use Rattle.text.specs.Lines.{line, more}
use Rattle.text.specs.Refusal.{refusal}
use Rattle.steps.specs.Table.{Verdict}
use Rattle.steps.specs.Table.{digits, verdict}
use Rattle.table_report.specs.Report.{length_in, length_of, saying, distance_line, offered_line, taken_lines, by_table, report_of}

-- ---- the length
pub in_below : (z : ℤ) → lt_z z (pos 0) ≡ true → length_in z ≡ 0
unfolding length_in
in_below (pos n) e = absurd (omega (arith, simp ints at (lt_z-true (pos n) (pos 0) e)))
in_below (negsuc n) e = refl

pub in_other : (z : ℤ) → lt_z z (pos 0) ≡ false → tabled (nat_abs z) ≡ false → length_in z ≡ 0
unfolding length_in
in_other (pos n) e t = rw t
in_other (negsuc n) e t = refl

pub in_tabled : (z : ℤ) → lt_z z (pos 0) ≡ false → tabled (nat_abs z) ≡ true → length_in z ≡ nat_abs z
unfolding length_in
in_tabled (pos n) e t = rw t
in_tabled (negsuc n) e t = absurd (omega (arith, simp ints at (lt_z-false (negsuc n) (pos 0) e)))

pub of_none : (number : List ℕ) → is_number digits number ≡ false → length_of number ≡ 0
unfolding length_of
of_none number e = rw e

pub of_some : (number : List ℕ) → is_number digits number ≡ true → length_of number ≡ length_in (value number)
unfolding length_of
of_some number e = rw e

-- a length that is not 0 is tabled
in_some : (N : ℕ) (b : Bool) → tabled N ≡ b → ¬ (cond b N 0 ≡ 0) → T (tabled (cond b N 0))
in_some N true e n = rw e tt
in_some N false e n = absurd (n refl)

in_length : (z : ℤ) → ¬ (length_in z ≡ 0) → T (tabled (length_in z))
unfolding length_in
in_length (pos N) n = in_some N (tabled N) refl n
in_length (negsuc N) n = absurd (n refl)

pub length-tabled : (number : List ℕ) → ¬ (length_of number ≡ 0) → T (tabled (length_of number))
length-tabled number n = go (is_number digits number) refl
  where
    go : (b : Bool) → is_number digits number ≡ b → T (tabled (length_of number))
    go true e = rw (of_some number e) (in_length (value number) (λ z. n (of_some number e ∙ z)))
    go false e = absurd (n (of_none number e))

-- ---- the lines, part by part
pub saying-is : (word : List ℕ) (n : ℕ) → word ++ (comma ∷ decimal n) ++ (line_feed ∷ []) ≡ saying word n
unfolding saying line more
saying-is word n = simp (append_assoc, append-nil)

-- ---- the line of a route that is not offered everywhere
pub offered-none : (word : List ℕ) (route : Route) (N : ℕ) (text : List ℕ) → offered route N ≡ false → offered_line word route N text ≡ []
unfolding offered_line
offered-none word route N text e = rw e

pub offered-some : (word : List ℕ) (route : Route) (N : ℕ) (text : List ℕ) → offered route N ≡ true → offered_line word route N text ≡ distance_line word route N text
unfolding offered_line
offered-some word route N text e = rw e

-- ---- what is printed, by the tests
module _ (number text : List ℕ) where
  pub no_length : length_of number ≡ 0 → report_of number text ≡ refusal 1 0
  unfolding report_of
  no_length e = rw (eq-eqb (length_of number) 0 e)

  some-length : ¬ (length_of number ≡ 0) → report_of number text ≡ by_table (length_of number) text
  unfolding report_of
  some-length n = rw (ne_eqb (length_of number) 0 n)

  pub turned_away : ¬ (length_of number ≡ 0) → (v : Verdict) → v ≡ verdict (length_of number / 2) text → ¬ (v.code ≡ 0) → report_of number text ≡ refusal v.code v.line
  unfolding by_table
  turned_away n v is e = some-length n ∙ rw (← is, ne_eqb v.code 0 e)

  pub taken_report : ¬ (length_of number ≡ 0) → (v : Verdict) → v ≡ verdict (length_of number / 2) text → v.code ≡ 0 → report_of number text ≡ taken_lines (length_of number) text
  unfolding by_table
  taken_report n v is e = some-length n ∙ rw (← is, eq-eqb v.code 0 e)
