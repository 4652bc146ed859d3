-- Laws of the numbers of the calls on step tables and levels: each answers as document 02, P8, says. They are fields of `demand_1`.
use Rattle.std.specs.Prelude.{◌≡◌, refl, ◌≢◌, Bool, true, false, cond, List, [], ◌∷◌, ℕ, zero, suc, ◌/◌, ◌^◌, ◌<◌, length, ℤ, pos, negsuc, ◌<ℤ◌}
use Rattle.std.proofs.Math.Path.{sym}
use Rattle.std.proofs.Common.{ap, ◌∙◌, arith, ne_eqb}
use Rattle.std.proofs.Math.Decide.{ℕ_discrete}
use Rattle.arithmetic.specs.Lists.{at}
use Rattle.arithmetic.specs.TestLaws.{is_true, is_false, is_T}
use Rattle.cosine.specs.Kernels.{tabled}
use Rattle.cosine.specs.LengthLaws.{tabled_length}
use Rattle.text.specs.Number.{is_number, value}
use Rattle.stream.specs.declared.Stream.{Stream}
use Rattle.stream.specs.Steps.{next, hop}
use Rattle.analysis.specs.declared.Route.{Route}
use Rattle.analysis.specs.declared.Route.TheVariants.{Direct, Short, Double}
use Rattle.checks.specs.Causes.First.{none, stop, pass}
use Rattle.checks.specs.CauseLaws.{first_is, is-first, same, differs, beside}
use Rattle.stream_calls.specs.Streams as S
use Rattle.stream_calls.specs.Streams.{sound, fits}
use Rattle.stream_calls.specs.Answers.{Stepped}
use Rattle.stream_calls.specs.States as F
use Rattle.stream_calls.specs.StateLaws.{same_code, same_stream, same_long}
use Rattle.level_calls.specs.LevelCalls as L
use Rattle.level_calls.specs.LevelCalls.{back_by, levels_by, quantise_causes, quantise_code, quantise_out, dequantise_causes, dequantise_code, dequantise_out, told_causes, distance, half, told, tell_code, tell_out, tell_number, tell_number_out, brought_code, step_levels}
use Rattle.level_calls.specs.Answers.{Told}
use Rattle.level_calls.specs.LevelCallLaws.{told-refused, told_taken, tell-refused, tell_long, tell-taken}
use Rattle.steps.specs.Table.{digits, verdict}
use Rattle.text.specs.Refusal.{refusal}
use Rattle.table_report.specs.Report.{length_in, length_of, report_of}
use Rattle.table_report.specs.ReportLaws.{of_some, no_length, turned_away, taken_report}
use Rattle.demands.specs.StepLaws.{code_other, sound_seven, last_stream}
use Rattle.demands.specs.LevelStepLaws.{levels-code, levels-step, brought_yes, levels_brought}
use Rattle.demands.proofs.MovedLaws.{dequantised_facts, dequantised_is, always_taken}
use Rattle.demands.specs.CauseTestLaws.{ranges, ranges_not, negative, no_length_0, shape-negative, shape-large, AdmittingCauses, admitting_causes, admitted}
use Rattle.demands.specs.Answers.{Tabled, Offered, Ruled, SoundTail, QuantiseAnswers, DequantiseAnswers, ToldAnswers, RouteNumber, TellAnswers, Typed, ReportAnswers, StepLevelsAnswers, StateStepLevelsAnswers}
use Rattle.demands.specs.Answers.RouteNumber.{direct, short, double}

pub quantise-answers : (N : ℕ) (text : List ℕ) (x levels : List ℤ) → QuantiseAnswers N text x levels
unfolding quantise_causes quantise_code quantise_out
quantise-answers N text x levels =
    let M = N / 2 in
    let cs = quantise_causes N text x levels in
    record {
      one = λ n. first_is cs (stop (is_false n));
      table_own = λ t n. first_is cs (pass (is_true t) (differs n));
      two_in = λ t z n. first_is cs (pass (is_true t) (same z (differs n)));
      two_out = λ t z n. first_is cs (pass (is_true t) (same z (beside (differs n))));
      three = λ t z e f n. first_is cs (pass (is_true t) (same z (same e (same f (stop (ranges_not x M e n))))));
      taken = λ t z e f r. first_is cs (pass (is_true t) (same z (same e (same f (pass (ranges x M e r) none)))));
      kept = λ k. code_other (quantise_code N text x levels) (levels_by N text x) levels k;
    }

pub dequantise-answers : (N : ℕ) (text : List ℕ) (levels out : List ℤ) → DequantiseAnswers N text levels out
unfolding dequantise_causes dequantise_code dequantise_out
dequantise-answers N text levels out =
    let cs = dequantise_causes N text levels out in
    record {
      one = λ n. first_is cs (stop (is_false n));
      table_own = λ t n. first_is cs (pass (is_true t) (differs n));
      two_in = λ t z n. first_is cs (pass (is_true t) (same z (differs n)));
      two_out = λ t z n. first_is cs (pass (is_true t) (same z (beside (differs n))));
      taken = λ t z e f. first_is cs (pass (is_true t) (same z (same e (same f none))));
      ranged = λ z. always_taken N text levels out z;
      kept = λ k. code_other (dequantise_code N text levels out) (back_by N text levels) out k;
    }

pub told-answers : (route : Route) (N : ℕ) (text : List ℕ) → ToldAnswers route N text
unfolding told_causes distance half
told-answers route N text = record {
  one = λ n. sym (told-refused route N text (stop (is_false n)) (λ e. omega (arith, e)));
  table_own = λ t n. sym (told-refused route N text (pass (is_true t) (differs n)) n);
  taken = λ t z. sym (told_taken route N text (pass (is_true t) (same z none)));
}

-- the told distance into room for one number
by_route : {number : ℕ} {route : Route} (N : ℕ) (text room : List ℕ) → RouteNumber number route →
    (tell_number number N text room ≡ tell_code route N text room) × (tell_number_out number N text room ≡ tell_out route N text room)
unfolding tell_number tell_number_out
by_route N text room direct = (refl, refl)
by_route N text room short = (refl, refl)
by_route N text room double = (refl, refl)

pub tell-answers : (number N : ℕ) (text room : List ℕ) → TellAnswers number N text room
unfolding tell_number tell_number_out tell_out
tell-answers number N text room = record {
  one_number = no_route number;
  one = λ route r n. refused route r ((told-answers route N text).one n) (λ e. omega (arith, e));
  table_own = λ route r t n. refused route r ((told-answers route N text).table_own t n) n;
  two = λ route r t z n. (by_route N text room r).0 ∙ sym (tell_long route N text room (taken route t z) n).0;
  taken = λ route r t z e. let q = tell-taken route N text room (taken route t z) e in ((by_route N text room r).0 ∙ sym q.0, (by_route N text room r).1 ∙ sym q.1);
  kept = left number;
}
  where
    no_route : (number : ℕ) → 2 < number → tell_number number N text room ≡ 1
    no_route number h = rw (ne_eqb number 0 (λ (e : number ≡ 0). omega (arith, e, h)), ne_eqb number 1 (λ (e : number ≡ 1). omega (arith, e, h)), ne_eqb number 2 (λ (e : number ≡ 2). omega (arith, e, h)))

    refused : (route : Route) {k : ℕ} → RouteNumber number route → told route N text ≡ record { code = k; distance = 0 } → k ≢ 0 → tell_number number N text room ≡ k
    refused route r e n = (by_route N text room r).0 ∙ sym (tell-refused route N text room (ap (λ (q : Told). q.code) e) n).0

    taken : (route : Route) → Offered route N → Ruled N text → (told route N text).code ≡ 0
    taken route t z = ap (λ (q : Told). q.code) ((told-answers route N text).taken t z)

    left : (number : ℕ) → tell_number number N text room ≢ 0 → tell_number_out number N text room ≡ room
    left zero n = code_other (tell_code Direct N text room) (distance Direct N text ∷ []) room n
    left (suc zero) n = code_other (tell_code Short N text room) (distance Short N text ∷ []) room n
    left (suc (suc zero)) n = code_other (tell_code Double N text room) (distance Double N text ∷ []) room n
    left (suc (suc (suc k))) n = rw (ne_eqb (suc (suc (suc k))) 0 (λ e. omega (arith, e)), ne_eqb (suc (suc (suc k))) 1 (λ e. omega (arith, e)), ne_eqb (suc (suc (suc k))) 2 (λ e. omega (arith, e)))

-- what the command step-table prints
typed_length : (number : List ℕ) (N : ℕ) → Typed number N → length_of number ≡ N
unfolding length_in
typed_length number N t =
    let e : tabled N ≡ true = is_true t.length_is in
    of_some number (is_true t.whole.form) ∙ ap length_in t.whole.named ∙ rw e

length_typed : (number : List ℕ) → length_of number ≢ 0 → Typed number (length_of number)
unfolding length_of length_in
length_typed number n = go (is_number digits number) refl n
  where
    by : (z : ℤ) → is_number digits number ≡ true → value number ≡ z → length_in z ≢ 0 → Typed number (length_in z)
    by (pos N) f e n = under (tabled N) refl n
      where
        under : (b : Bool) → tabled N ≡ b → cond b N 0 ≢ 0 → Typed number (cond b N 0)
        under true g n = record { whole = record { form = is_T f; named = e }; length_is = is_T g }
        under false g n = absurd (n refl)
    by (negsuc N) f e n = absurd (n refl)

    go : (b : Bool) → is_number digits number ≡ b → cond b (length_in (value number)) 0 ≢ 0 → Typed number (cond b (length_in (value number)) 0)
    go true f n = by (value number) f refl n
    go false f n = absurd (n refl)

pub report_answers : (number text : List ℕ) → ReportAnswers number text
report_answers number text = record {
  one = λ n. go n (ℕ_discrete (length_of number) 0);
  table_own = λ N t n. let e = typed_length number N t in rw e at (turned_away number text (some N t) (verdict (length_of number / 2) text) refl (rw e n));
  taken = λ N t z. let e = typed_length number N t in rw e at (taken_report number text (some N t) (verdict (length_of number / 2) text) refl (rw e z));
}
  where
    some : (N : ℕ) → Typed number N → ¬ (length_of number ≡ 0)
    some N t z = omega (arith, typed_length number N t, z, (tabled_length N t.length_is).some)

    go : ((N : ℕ) → ¬ Typed number N) → Dec (length_of number ≡ 0) → report_of number text ≡ refusal 1 0
    go n (yes e) = no_length number text e
    go n (no m) = absurd (n (length_of number) (length_typed number m))

pub step_levels-answers : (s : Stream) (number l r : ℕ) (text : List ℕ) (levels out : List ℤ) → StepLevelsAnswers s number l r text levels out
unfolding L.step_causes L.step_code step_levels L.step_out
step_levels-answers s number l r text levels out =
    let cs = L.step_causes s number l r text levels out in
    let a : AdmittingCauses s number l r (L.step_code s number l r text levels out) = admitting_causes s number l r _ in
    record {
      four_n = a.four_n;
      four_tail = a.four_tail;
      seven = a.seven;
      seven_none = a.seven_none;
      eight = a.eight;
      eight_left = a.eight_left;
      eight_forged = a.eight_forged;
      table_own = λ f n. first_is cs (admitted s number l r f (differs n));
      two_in = λ f z n. first_is cs (admitted s number l r f (same z (differs n)));
      two_out = λ f z n. first_is cs (admitted s number l r f (same z (beside (differs n))));
      taken = λ f z p q. first_is cs (admitted s number l r f (same z (same p (same q none))));
      code = refl;
      same = λ room z. (levels-step s number l r text levels out (brought room z)).0 ∙ ap (λ (c : List ℤ). S.step s number l r c out) (sym (dequantised_is s.n text levels room z));
      same_out = λ room z. (levels-step s number l r text levels out (brought room z)).1 ∙ ap (λ (c : List ℤ). S.step_out s number l r c out) (sym (dequantised_is s.n text levels room z));
      kept_stream = λ k. code_other (L.step_code s number l r text levels out) (next s l r (back_by s.n text levels)) s k;
      kept = λ k. code_other (L.step_code s number l r text levels out) (hop s l r (back_by s.n text levels)) out k;
    }
  where
    brought : (room : List ℤ) → dequantise_code s.n text levels room ≡ 0 → brought_code s.n text levels ≡ 0
    brought room z = let f = dequantised_facts s.n text levels room z in brought_yes s.n text levels f.table_is f.long

-- after the last number every block is 7, whatever it brings
pub last_number : (s : Stream) (l r : ℕ) (x out : List ℤ) → S.step_code s 4294967295 l r x out ≡ 0 → (number l' r' : ℕ) → number < 2 ^ 32 → (text : List ℕ) (y room : List ℤ) →
    let s' = (S.step s 4294967295 l r x out).stream in (S.step_code s' number l' r' y room ≡ 7) × (L.step_code s' number l' r' text y room ≡ 7)
unfolding L.step_causes L.step_code
last_number s l r x out z number l' r' p text y room =
    let s' = (S.step s 4294967295 l r x out).stream in
    let q = last_stream s l r x out z number p in
    (sound_seven s' number l' r' y room q.0 q.1, first_is (L.step_causes s' number l' r' text y room) (pass (is_true q.0) (differs q.1)))

-- ---- on a state
module _ (state : List ℤ) (number l r : ℕ) (text : List ℕ) (levels out : List ℤ) where
  abbrev s : Stream
  s = F.stream_in state

  abbrev y : List ℤ
  y = back_by s.n text levels

  kept-after : L.state_code state number l r text levels out ≢ 0 → L.state_after state number l r text levels out ≡ state
  unfolding L.state_after
  kept-after k = code_other (L.state_code state number l r text levels out) (F.state_of (next s l r y)) state k

  kept_out : L.state_code state number l r text levels out ≢ 0 → L.state_out state number l r text levels out ≡ out
  unfolding L.state_out
  kept_out k = code_other (L.state_code state number l r text levels out) (hop s l r y) out k

  state_2 : length state ≢ F.entries → L.state_code state number l r text levels out ≡ 2
  unfolding L.state_code L.state_causes
  state_2 n = first_is (L.state_causes state number l r text levels out) (differs n)

  module _ (e : length state ≡ F.entries) where
    levels-same : L.state_code state number l r text levels out ≡ L.step_code s number l r text levels out
    unfolding L.state_code L.state_causes L.step_code
    levels-same = first_is (L.state_causes state number l r text levels out) (same e (is-first (L.step_causes s number l r text levels out)))

    levels-out : L.state_out state number l r text levels out ≡ L.step_out s number l r text levels out
    unfolding L.state_out L.step_out
    levels-out = rw levels-same

    -- where the table and the levels are taken, it is the step in place
    after_is : brought_code s.n text levels ≡ 0 → L.state_after state number l r text levels out ≡ F.step_state state number l r y out
    unfolding L.state_after F.step_state
    after_is b =
        let c : L.state_code state number l r text levels out ≡ F.step_code state number l r y out = levels-same ∙ levels-code s number l r text levels out b ∙ sym (same_code state number l r y out e) in
        rw c

    refused : brought_code s.n text levels ≢ 0 → L.state_code state number l r text levels out ≢ 0
    refused n z = n (levels_brought s number l r text levels out (sym levels-same ∙ z))

    levels_stream : Dec (brought_code s.n text levels ≡ 0) → F.stream_in (L.state_after state number l r text levels out) ≡ (step_levels s number l r text levels out).stream
    levels_stream (yes b) =
        ap F.stream_in (after_is b) ∙ same_stream state number l r y out e ∙ ap (λ (q : Stepped). q.stream) (sym (levels-step s number l r text levels out b).0)
    levels_stream (no n) =
        ap F.stream_in (kept-after (refused n)) ∙ sym ((step_levels-answers s number l r text levels out).kept_stream (λ z. refused n (levels-same ∙ z)))

    levels_long : Dec (brought_code s.n text levels ≡ 0) → length (L.state_after state number l r text levels out) ≡ length state
    levels_long (yes b) = ap length (after_is b) ∙ same_long state number l r y out e ∙ sym e
    levels_long (no n) = ap length (kept-after (refused n))

    abbrev by_value : StepLevelsAnswers s number l r text levels out
    by_value = step_levels-answers s number l r text levels out

    negative_4 : at state 0 <ℤ pos 0 → L.state_code state number l r text levels out ≡ 4
    unfolding F.stream_in
    negative_4 h = levels-same ∙ by_value.four_n (rw (negative (at state 0) 0 h) no_length_0)

    module _ (t : Tabled s.n) (h : SoundTail s) where
      negative_7 : number < 2 ^ 32 → at state 1 <ℤ pos 0 → L.state_code state number l r text levels out ≡ 7
      unfolding F.stream_in
      negative_7 less n = levels-same ∙ by_value.seven_none t h less (rw (negative (at state 1) F.none n) (omega arith))

      forged_8 : number ≡ s.expected → F.shape_in (at state 2) ≡ 2 → L.state_code state number l r text levels out ≡ 8
      unfolding F.stream_in
      forged_8 m z = levels-same ∙ by_value.eight_forged t h m (omega (arith, z))

  long_after : Dec (length state ≡ F.entries) → length (L.state_after state number l r text levels out) ≡ length state
  long_after (yes e) = levels_long e (ℕ_discrete (brought_code s.n text levels) 0)
  long_after (no n) = ap length (kept-after (λ z. let h : ◌≡◌ {A = ℕ} 2 0 = sym (state_2 n) ∙ z in omega arith))

  pub state_levels_answers : StateStepLevelsAnswers state number l r text levels out
  state_levels_answers = record {
    two_state = state_2;
    same = levels-same;
    same_stream = λ e. levels_stream e (ℕ_discrete (brought_code s.n text levels) 0);
    same_out = levels-out;
    four_negative = negative_4;
    seven_negative = negative_7;
    eight_negative = λ e t h m n. forged_8 e t h m (shape-negative (at state 2) n);
    eight_large = λ e t h m n. forged_8 e t h m (shape-large (at state 2) n);
    long = long_after (ℕ_discrete (length state) F.entries);
    kept_state = kept-after;
    kept = kept_out;
  }
