-- Laws of the public calls' numbers: `demand_1`, that every call answers as the documents' tables of causes say.
use Rattle.std.specs.Prelude.{◌≡◌, refl, ◌≢◌, Bool, true, false, cond, List, ℕ, ◌+◌, ◌*◌, ◌/◌, ◌^◌, ◌<◌, eqb, length, ℤ, pos, ◌<ℤ◌}
use Rattle.std.proofs.Common.{sym, ap, ◌∙◌, arith, eq-eqb, ne_eqb}
use Rattle.std.proofs.Math.Decide.{ℕ_discrete}
use Rattle.arithmetic.specs.Lists.{at}
use Rattle.arithmetic.specs.TestLaws.{cond_yes, cond_no, is_true, is_false}
use Rattle.cosine.specs.Kernels.{tabled}
use Rattle.stream.specs.declared.Stream.{Stream}
use Rattle.stream.specs.Synthesis as S
use Rattle.stream.specs.Steps.{next, hop}
use Rattle.analysis.specs.declared.Route.{Route}
use Rattle.analysis.specs.Analysis.{coefficients}
use Rattle.orders.specs.declared.Order.{Order}
use Rattle.recording.specs.Recordings.{analysis, synthesis}
use Rattle.stream_calls.specs.Answers.{Made}
use Rattle.checks.specs.Causes.First.{none, stop, pass}
use Rattle.checks.specs.CauseLaws.{first_is, same, differs, beside}
use Rattle.block_calls.specs.Analysis.{analyse_causes, analyse_code, analyse_out}
use Rattle.checks.specs.Limits.{counted}
use Rattle.stream_calls.specs.Streams.{fresh, step_causes, step_code, step}
use Rattle.recording_calls.specs.Recordings.{recorded_causes, recorded_code, recorded_out, played_causes, played_code, played_out, shaped, inner_of}
use Rattle.page.specs.Page.{page_of, page_causes, page_code, page_out}
use Rattle.stream_calls.specs.States as F
use Rattle.stream_calls.specs.StateLaws.{fresh_holds, fresh_long, same_code, same_out, same_stream, same_long}
use Rattle.demands.specs.ListingAnswerLaws.{listing-answers}
use Rattle.demands.proofs.TableAnswerLaws.{table-answers}
use Rattle.demands.proofs.LevelAnswerLaws.{quantise-answers, dequantise-answers, told-answers, tell-answers, report_answers, step_levels-answers, state_levels_answers, last_number}
use Rattle.demands.proofs.ShareLaws.{share_answers, name-answers}
use Rattle.demands.specs.OrderAnswerLaws.{reorder_answers, number-answers, recording_share_answers, recording_name_answers}
use Rattle.demands.specs.FloatAnswerLaws.{floats-answers, ends_answers, pair_answers}
use Rattle.demands.specs.CoarseAnswerLaws.{coarsest-answers, find-answers, found_report_answers}
use Rattle.demands.specs.StepLaws.{code_other, refused_stream, refused_buffer}
use Rattle.demands.specs.CauseTestLaws.{counts, counts_not, ranges, ranges_not, shapes_true, shapes_false, negative, no_length_0, shape-negative, shape-large, recording_causes, AdmittingCauses, admitting_causes, admitted}
use Rattle.demands.specs.Answers.{Tabled, SoundTail, AnalyseAnswers, FreshAnswers, StepAnswers, RecordedAnswers, PlayedAnswers, InnerAnswers, PageAnswers, StateFreshAnswers, StateStepAnswers}
use Rattle.demands.specs.Demands.{Demand1}

-- ---- a buffer's shape, whichever of its tests fails
shaped-counted : (a b c : Bool) → b ≡ false → cond a (cond b c false) false ≡ false
shaped-counted true b c q = rw q
shaped-counted false b c q = refl

shaped-size : (a b c : Bool) → c ≡ false → cond a (cond b c false) false ≡ false
shaped-size true true c q = q
shaped-size true false c q = refl
shaped-size false b c q = refl

-- ---- the calls
analyse_answers : (route : Route) (N l r : ℕ) (x out : List ℤ) → AnalyseAnswers route N l r x out
unfolding analyse_causes analyse_code analyse_out
analyse_answers route N l r x out =
    let cs = analyse_causes route N l r x out in
    record {
      one = λ n. first_is cs (stop (is_false n));
      eight = λ t n. first_is cs (pass (is_true t) (stop (shapes_false l r n)));
      two_in = λ t h n. first_is cs (pass (is_true t) (pass (shapes_true l r h) (differs n)));
      two_out = λ t h n. first_is cs (pass (is_true t) (pass (shapes_true l r h) (beside (differs n))));
      taken = λ t h e f. first_is cs (pass (is_true t) (pass (shapes_true l r h) (same e (same f none))));
      kept = λ k. code_other (analyse_code route N l r x out) (coefficients route N l r x) out k;
    }

fresh-answers : (N : ℕ) → FreshAnswers N
unfolding fresh
fresh-answers N =
    let yes : Made = record { code = 0; stream = S.fresh N } in
    let no : Made = record { code = 1; stream = S.fresh 0 } in
    record { one = λ n. cond_no (tabled N) yes no n; taken = λ t. cond_yes (tabled N) yes no t }

step-answers : (s : Stream) (number l r : ℕ) (x out : List ℤ) → StepAnswers s number l r x out
unfolding step_causes step_code step
step-answers s number l r x out =
    let M = s.n / 2 in
    let cs = step_causes s number l r x out in
    let a : AdmittingCauses s number l r (step_code s number l r x out) = admitting_causes s number l r _ in
    record {
      four_n = a.four_n;
      four_tail = a.four_tail;
      seven = a.seven;
      seven_none = a.seven_none;
      eight = a.eight;
      eight_left = a.eight_left;
      eight_forged = a.eight_forged;
      two_in = λ f n. first_is cs (admitted s number l r f (differs n));
      two_out = λ f n. first_is cs (admitted s number l r f (beside (differs n)));
      three = λ f p q n. first_is cs (admitted s number l r f (same p (same q (stop (ranges_not x M p n)))));
      taken = λ f p q h. first_is cs (admitted s number l r f (same p (same q (pass (ranges x M p h) none))));
      code = refl;
      kept_stream = λ k. refused_stream s number l r x out k;
      kept = λ k. refused_buffer s number l r x out k;
    }

recorded_answers : (route : Route) (order : Order) (N H : ℕ) (x out : List ℤ) → RecordedAnswers route order N H x out
unfolding recorded_causes recorded_code recorded_out
recorded_answers route order N H x out =
    let cs = recorded_causes route N H x out in
    record {
      one = λ n. first_is cs (stop (is_false n));
      two_hops = λ t n. first_is cs (pass (is_true t) (stop (counts_not H n)));
      two_in = λ t n. first_is cs (pass (is_true t) (beside (differs n)));
      two_out = λ t n. first_is cs (pass (is_true t) (beside (beside (differs n))));
      taken = λ t k l m. first_is cs (pass (is_true t) (pass (counts H k) (same l (same m none))));
      kept = λ r. code_other (recorded_code route N H x out) (analysis route order N H x) out r;
    }

played_answers : (order : Order) (N H : ℕ) (x out : List ℤ) → PlayedAnswers order N H x out
unfolding played_causes played_code played_out
played_answers order N H x out =
    let r = recording_causes N H x ((H + 1) * (N / 2)) (length out) (H * (N / 2)) in
    record {
      one = r.one;
      two_hops = r.two_hops;
      two_in = r.two_in;
      two_out = r.two_out;
      three = r.three;
      taken = r.taken;
      kept = λ n. code_other (played_code N H x out) (synthesis order N H x) out n;
    }

inner-answers : (N H : ℕ) (out : List ℤ) → InnerAnswers N H out
unfolding shaped inner_of
inner-answers N H out =
    let m = H * (N / 2) in
    let l = length out in
    record {
      empty_n = λ n. let g : tabled N ≡ false = is_false n in rw g;
      empty_hops = λ n. rw (shaped-counted (tabled N) (counted H) (eqb l m) (counts_not H n));
      empty_long = λ n. rw (shaped-size (tabled N) (counted H) (eqb l m) (ne_eqb l m n));
      whole = λ t k e. let g : tabled N ≡ true = is_true t in rw (g, counts H k, eq-eqb l m e);
    }

page_answers : (order : Order) (N H : ℕ) (x : List ℤ) (out : List ℕ) → PageAnswers order N H x out
unfolding page_causes page_code page_out
page_answers order N H x out =
    let r = recording_causes N H x ((H + 1) * (N / 2)) (length out) ((H + 1) * (N / 2 / 6) * 81) in
    record {
      one = r.one;
      two_hops = r.two_hops;
      two_in = r.two_in;
      two_out = r.two_out;
      three = r.three;
      taken = r.taken;
      kept = λ n. code_other (page_code N H x out) (page_of order N H x) out n;
    }

-- ---- the calls for C on a state
state_fresh_answers : (N : ℕ) (state : List ℤ) → StateFreshAnswers N state
unfolding F.fresh_causes F.fresh_code F.fresh_state
state_fresh_answers N state =
    let cs = F.fresh_causes N state in
    record {
      one = λ n. first_is cs (stop (is_false n));
      two = λ t n. first_is cs (pass (is_true t) (differs n));
      taken = λ t e. first_is cs (pass (is_true t) (same e none));
      holds = fresh_holds N state;
      long = fresh_long N state;
      kept = λ r. code_other (F.fresh_code N state) (F.state_of (S.fresh N)) state r;
    }

module _ (state : List ℤ) (number l r : ℕ) (x out : List ℤ) where
  kept_step : F.step_code state number l r x out ≢ 0 → F.step_state state number l r x out ≡ state
  unfolding F.step_state
  kept_step k = code_other (F.step_code state number l r x out) (F.state_of (next (F.stream_in state) l r x)) state k

  kept_out : F.step_code state number l r x out ≢ 0 → F.step_out state number l r x out ≡ out
  unfolding F.step_out
  kept_out k = code_other (F.step_code state number l r x out) (hop (F.stream_in state) l r x) out k

  state_2 : length state ≢ F.entries → F.step_code state number l r x out ≡ 2
  unfolding F.step_causes F.step_code
  state_2 n = first_is (F.step_causes state number l r x out) (differs n)

  long_step : Dec (length state ≡ F.entries) → length (F.step_state state number l r x out) ≡ length state
  long_step (yes e) = same_long state number l r x out e ∙ sym e
  long_step (no n) = ap length (kept_step (λ z. let h : ◌≡◌ {A = ℕ} 2 0 = sym (state_2 n) ∙ z in omega arith))

  module _ (e : length state ≡ F.entries) where
    abbrev by_value : StepAnswers (F.stream_in state) number l r x out
    by_value = step-answers (F.stream_in state) number l r x out

    negative_4 : at state 0 <ℤ pos 0 → F.step_code state number l r x out ≡ 4
    unfolding F.stream_in
    negative_4 h = same_code state number l r x out e ∙ by_value.four_n (rw (negative (at state 0) 0 h) no_length_0)

    module _ (t : Tabled (F.stream_in state).n) (h : SoundTail (F.stream_in state)) where
      negative_7 : number < 2 ^ 32 → at state 1 <ℤ pos 0 → F.step_code state number l r x out ≡ 7
      unfolding F.stream_in
      negative_7 less n = same_code state number l r x out e ∙ by_value.seven_none t h less (rw (negative (at state 1) F.none n) (omega arith))

      forged_8 : number ≡ (F.stream_in state).expected → F.shape_in (at state 2) ≡ 2 → F.step_code state number l r x out ≡ 8
      unfolding F.stream_in
      forged_8 m z = same_code state number l r x out e ∙ by_value.eight_forged t h m (omega (arith, z))

  state_step_answers : StateStepAnswers state number l r x out
  state_step_answers = record {
    two_state = state_2;
    same = same_code state number l r x out;
    same_stream = same_stream state number l r x out;
    same_out = same_out state number l r x out;
    four_negative = negative_4;
    seven_negative = negative_7;
    eight_negative = λ e t h m n. forged_8 e t h m (shape-negative (at state 2) n);
    eight_large = λ e t h m n. forged_8 e t h m (shape-large (at state 2) n);
    long = long_step (ℕ_discrete (length state) F.entries);
    kept_state = kept_step;
    kept = kept_out;
  }

pub demand_1 : Demand1
demand_1 = record {
  analyse = analyse_answers;
  made = fresh-answers;
  stepped = step-answers;
  last_number = last_number;
  recorded = recorded_answers;
  played = played_answers;
  inner = inner-answers;
  reordered = reorder_answers;
  numbered = number-answers;
  paged = page_answers;
  state_made = state_fresh_answers;
  state_stepped = state_step_answers;
  listed = listing-answers;
  ruled = table-answers;
  quantised = quantise-answers;
  dequantised = dequantise-answers;
  told_first = told-answers;
  told_in = tell-answers;
  reported = report_answers;
  stepped_levels = step_levels-answers;
  state_stepped_levels = state_levels_answers;
  shared = share_answers;
  shared_in = name-answers;
  shared_recording = λ order N H X X' hop place. recording_share_answers N H X X' hop place order;
  shared_recording_in = λ order N H X X' hop place room. recording_name_answers N H X X' hop place order room;
  searched = coarsest-answers;
  searched_in = find-answers;
  searched_report = found_report_answers;
  floated = floats-answers;
  paired = ends_answers;
  paired_in = pair_answers;
}
