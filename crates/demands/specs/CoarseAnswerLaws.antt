-- Laws of what the calls on the coarsest step, and the command coarsest-step, answer by their causes.
use Rattle.std.specs.Prelude.{◌≡◌, ◌≢◌, Bool, true, false, cond, List, [], ◌∷◌, ℕ, min, ◌+◌, ◌*◌, ◌/◌, ◌≤◌, ◌<◌, eqb, length, ℤ, pos, nat_abs, ◌≤ℤ◌}
use Rattle.std.proofs.Math.Path.{refl}
use Rattle.std.proofs.Common.{sym, ap, ◌∙◌, arith, le-leb, ne_eqb}
use Rattle.std.proofs.Math.Logic.{dite}
use Rattle.std.proofs.Math.Decide.{dec_lt}
use Rattle.std.proofs.lemmas.Bool.{lt-leb}
use Rattle.std.specs.Int.Signed.{yes_non_neg, pos-nat_abs}
use Rattle.arithmetic.specs.TestLaws.{is_true, is_false, is_T}
use Rattle.arithmetic.specs.IntegerLaws.{ints}
use Rattle.arithmetic.specs.OrderLaws.{le_z-is}
use Rattle.checks.specs.Causes.{First}
use Rattle.checks.specs.Causes.First.{none, stop, pass}
use Rattle.checks.specs.CauseLaws.{first_is, same, differs, beside, spared, Passed, passed}
use Rattle.coarsest.specs.Coarsest.{coarsest}
use Rattle.coarsest_calls.specs.CoarsestCalls.{most_allowed, coarsest_causes, coarsest_code, answered_with, refused_with, coarsest_answer, find_causes, find_code, numbers_of, find_out}
use Rattle.text.specs.Number.{most_digits, value}
use Rattle.text.specs.Refusal.{refusal}
use Rattle.listing.specs.Hops.{digits}
use Rattle.listing.specs.Verdicts.{Verdict, taken, verdict, hops_of}
use Rattle.listing.specs.HopLaws.{hops-counted}
use Rattle.listing.specs.VerdictLaws.{Taken, verdict-taken}
use Rattle.listing.specs.SizeLaws.{taken-hops}
use Rattle.listing.specs.BankLaws.{recording_long}
use Rattle.listing.specs.Listing.{recording, listing}
use Rattle.coarsest_report.specs.Report.{is_whole, whole_of, distance_of, budget_of, found_lines, answer_of, report_of}
use Rattle.coarsest_report.specs.ReportLaws.{by_sign, whole-number, whole_sign, none_typed, some_typed, listing-refused, listing-taken, answer-refused, answer-found}
use Rattle.demands.specs.StepLaws.{code_other}
use Rattle.demands.specs.CauseTestLaws.{counts, counts_not}
use Rattle.demands.specs.ListingAnswerLaws.{taken-verdict, verdict-listed}
use Rattle.demands.specs.Answers.{Counted, CoarsestAnswers, FindAnswers, Whole, Listed, FoundReportAnswers}

-- ---- the call by value
module _ (N H : ℕ) (x : List ℤ) (D budget : ℕ) where
  answered : {k : ℕ} → First (coarsest_causes N H x D) k → coarsest_answer N H x D budget ≡ cond (eqb k 0) (answered_with (coarsest N H x D budget)) (refused_with k)
  unfolding coarsest_answer coarsest_code
  answered f = rw (first_is (coarsest_causes N H x D) f)

  pub coarsest-answers : CoarsestAnswers N H x D budget
  unfolding coarsest_causes
  coarsest-answers = record {
    one = λ n. answered (stop (is_false n));
    two_hops = λ t n. answered (pass (is_true t) (stop (counts_not H n)));
    two = λ t n. answered (pass (is_true t) (beside (differs n)));
    twelve = λ t k l d. answered (pass (is_true t) (pass (counts H k) (same l (stop (lt-leb D most_allowed d)))));
    taken = λ t k l d. answered (pass (is_true t) (pass (counts H k) (same l (pass (le-leb D most_allowed d) none))));
  }

  -- ---- into room for three numbers
  module _ (room : List ℕ) where
    -- what a taken call says of the one by value
    same_taken : find_code N H x D room ≡ 0 → coarsest_code N H x D ≡ 0
    unfolding find_code find_causes coarsest_code coarsest_causes spared Passed
    same_taken z =
        let p = passed (find_causes N H x D room) tt z in
        first_is (coarsest_causes N H x D) (pass (is_true p.0) (pass (is_true p.1.0) (pass (is_true p.1.1.0) (pass (is_true p.1.1.1.1.0) none))))

    found : find_code N H x D room ≡ 0 → let a = coarsest_answer N H x D budget in (a.code ≡ 0) × (find_out N H x D budget room ≡ a.step ∷ a.trials ∷ a.untried ∷ [])
    unfolding find_out numbers_of coarsest_answer
    found z = rw (z, same_taken z) (refl, refl)

    pub find-answers : FindAnswers N H x D budget room
    unfolding find_causes find_code find_out
    find-answers =
        let cs = find_causes N H x D room in
        record {
          one = λ n. first_is cs (stop (is_false n));
          two_hops = λ t n. first_is cs (pass (is_true t) (stop (counts_not H n)));
          two = λ t n. first_is cs (pass (is_true t) (beside (differs n)));
          two_room = λ t n. first_is cs (pass (is_true t) (beside (beside (differs n))));
          twelve = λ t k l r d. first_is cs (pass (is_true t) (pass (counts H k) (same l (same r (stop (lt-leb D most_allowed d))))));
          taken = λ t k l r d. first_is cs (pass (is_true t) (pass (counts H k) (same l (same r (pass (le-leb D most_allowed d) none)))));
          found = found;
          kept = λ r. code_other (find_code N H x D room) (numbers_of (coarsest N H x D budget)) room r;
        }

-- ---- what is typed
whole_is : (most : ℕ) (typed : List ℕ) (n other : ℕ) → Whole most typed n → (is_whole most typed ≡ true) × (whole_of most other typed ≡ n)
whole_is most typed n other w =
    let h : pos 0 ≤ℤ pos n = simp ints (omega arith) in
    let e : is_whole most typed ≡ true = by_sign most typed (is_true w.form) ∙ rw w.named (le_z-is {a = pos 0} {b = pos n} h) in
    (e, some_typed most typed other e ∙ ap nat_abs w.named)

distance_is : (typed : List ℕ) (D : ℕ) → D ≤ 32 → Whole digits typed D → distance_of typed ≡ D
unfolding distance_of
distance_is typed D d w = let e = (whole_is digits typed D (most_allowed + 1) w).1 in rw e (omega arith)

-- a whole number is named by the bytes
named-whole : (most : ℕ) (typed : List ℕ) → is_whole most typed ≡ true → Whole most typed (nat_abs (value typed))
named-whole most typed e =
    record { form = whole-number most typed (is_T e); named = sym (pos-nat_abs (value typed) (yes_non_neg (whole_sign most typed (is_T e)))) }

-- bytes that name no distance up to 32 stand for one above it
distance-other : (typed : List ℕ) → ((D : ℕ) → D ≤ 32 → ¬ Whole digits typed D) → 32 < distance_of typed
unfolding distance_of
distance-other typed n = dite (dec_lt 32 (min (whole_of digits (most_allowed + 1) typed) (most_allowed + 1))) (λ (h : 32 < min (whole_of digits (most_allowed + 1) typed) (most_allowed + 1)). h) (λ q. absurd (none_such (is_whole digits typed) refl q))
  where
    none_such : (b : Bool) → is_whole digits typed ≡ b → ¬ (32 < min (whole_of digits (most_allowed + 1) typed) (most_allowed + 1)) → ⊥
    none_such false e q = omega (arith, q, none_typed digits typed (most_allowed + 1) e)
    none_such true e q = n (nat_abs (value typed)) (omega (arith, q, some_typed digits typed (most_allowed + 1) e)) (named-whole digits typed e)

-- bytes that name no whole number stand for the other one
none-whole : (most : ℕ) (typed : List ℕ) (other : ℕ) → ((n : ℕ) → ¬ Whole most typed n) → whole_of most other typed ≡ other
none-whole most typed other n = go (is_whole most typed) refl
  where
    go : (b : Bool) → is_whole most typed ≡ b → whole_of most other typed ≡ other
    go false e = none_typed most typed other e
    go true e = absurd (n (nat_abs (value typed)) (named-whole most typed e))

-- ---- the command
module _ (distance budget text : List ℕ) where
  alike : ((N : ℕ) (hops : List (List ℕ)) → ¬ Listed text N hops) → report_of distance budget text ≡ listing text
  unfolding listing
  alike no_such =
      let n : (verdict text).code ≢ 0 = λ z. let l = verdict-listed text z in no_such l.0 l.1 l.2 in
      listing-refused distance budget text (verdict text) refl n ∙ rw (ne_eqb (verdict text).code 0 n)

  module _ (N : ℕ) (hops : List (List ℕ)) (l : Listed text N hops) where
    is : taken N (length hops) ≡ verdict text
    is = sym (taken-verdict text N hops l)

    K : Taken text N (length hops)
    K = let z : (verdict text).code ≡ 0 = ap (λ (v : Verdict). v.code) (sym is) in rw (sym is) at (verdict-taken text z)

    long : length (recording (hops_of text)) ≡ length hops * (N / 2)
    long = recording_long (N / 2) (hops_of text) (taken-hops K) ∙ ap (λ (h : ℕ). h * (N / 2)) (hops-counted K)

    answer-is : (k : ℕ) → k ≢ 0 → coarsest_answer N (length hops) (recording (hops_of text)) (distance_of distance) (budget_of budget) ≡ refused_with k → report_of distance budget text ≡ refusal k 0
    answer-is k n e = listing-taken distance budget text (taken N (length hops)) is refl ∙ ap answer_of e ∙ answer-refused (refused_with k) n

    a : CoarsestAnswers N (length hops) (recording (hops_of text)) (distance_of distance) (budget_of budget)
    a = coarsest-answers N (length hops) (recording (hops_of text)) (distance_of distance) (budget_of budget)

    two : ¬ Counted (length hops) → report_of distance budget text ≡ refusal 2 0
    two n = answer-is 2 (λ z. omega (arith, z)) (a.two_hops K.length-tabled n)

    module _ (c : Counted (length hops)) where
      twelve : ((D : ℕ) → D ≤ 32 → ¬ Whole digits distance D) → report_of distance budget text ≡ refusal 12 0
      twelve n = answer-is 12 (λ z. omega (arith, z)) (a.twelve K.length-tabled c long (distance-other distance n))

      prints : (D : ℕ) → D ≤ 32 → Whole digits distance D → (b : ℕ) → budget_of budget ≡ b →
          let r = coarsest N (length hops) (recording (hops_of text)) D b in report_of distance budget text ≡ found_lines r.step r.trials r.untried
      prints D d w b v =
          let r = coarsest N (length hops) (recording (hops_of text)) D b in
          listing-taken distance budget text (taken N (length hops)) is refl
          ∙ rw (distance_is distance D d w, v)
          (ap answer_of ((coarsest-answers N (length hops) (recording (hops_of text)) D b).taken K.length-tabled c long d) ∙ answer-found (answered_with r) refl)

  pub found_report_answers : FoundReportAnswers distance budget text
  found_report_answers = record {
    alike = alike;
    two = two;
    twelve = twelve;
    taken = λ N hops l c D d w b v. prints N hops l c D d w b (whole_is most_digits budget b 0 v).1;
    no_budget = λ N hops l c D d w n. prints N hops l c D d w 0 (none-whole most_digits budget 0 n);
  }
