-- The coarsest step for a recording: what a trial says of the public calls, the steps that pass for every recording, and what is answered.
use Rattle.std.specs.Prelude.{◌≡◌, refl, true, false, ℕ, ◌+◌, ◌*◌, ◌/◌, ◌≤◌, ◌<◌, length, replicate, ℤ, pos, nat_abs, ◌-ℤ◌}
use Rattle.std.proofs.Math.Path.{sym, ap}
use Rattle.std.proofs.Common.{◌∙◌, arith, leb-false, leb→le}
use mathlib.Core.List.{List}
use Rattle.std.proofs.Math.Dec.{le→leb}
use Rattle.std.proofs.lemmas.List.{length-replicate}
use Rattle.arithmetic.specs.Rounding.{Sample}
use Rattle.arithmetic.specs.Lists.{at}
use Rattle.arithmetic.specs.TestLaws.{is_T, is_true, all-at, all_make, all_fails}
use Rattle.analysis.specs.declared.Route.TheVariants.{Direct}
use Rattle.orders.specs.declared.Order.{Order}
use Rattle.orders.specs.declared.Order.TheVariants.{ByBlock}
use Rattle.orders.specs.Orders.{place}
use Rattle.orders.specs.OrderLaws.{place-less}
use Rattle.levels.specs.Levels.{level, back}
use Rattle.levels.specs.LevelLaws.{level-near}
use Rattle.checks.specs.LimitLaws.{counted-some, counted-most}
use Rattle.recording.specs.Recordings.{analysis}
use Rattle.recording_calls.specs.Recordings.{recorded_code, recorded_out, played_code, played_out}
use Rattle.recording_calls.specs.RecordingLaws.{Recorded, recorded_facts, recorded_taken, Played, played_facts, played_taken}
use Rattle.step_search.specs.declared.Found.{Found}
use Rattle.step_search.specs.Search.{sure, found}
use Rattle.step_search.specs.SearchLaws.{sure-is, sure_below, answered, at_32, at_31, at_0}
use Rattle.coarsest.specs.Coarsest.{stepped, returning, near, passes, coarsest}
use Rattle.coarsest.specs.SteppedLaws.{stepped_long, stepped-at, stepped_small}
use Rattle.coarsest_calls.specs.CoarsestCalls.{coarsest_answer, answered_with}
use Rattle.coarsest_calls.specs.CoarsestCallLaws.{coarsest_facts, coarsest-taken, coarsest-number}
use Rattle.analysis.specs.Analysis.{offered, units_of}
use Rattle.demands.specs.Steps.{proved_units}
use Rattle.demands.proofs.RecordingLaws.{change-one, proved_one}
use Rattle.demands.specs.Answers.{Tabled, Counted}
use Rattle.demands.specs.Recordings.{Back, SharperBack}
use Rattle.demands.specs.Demands.{Alike}
use Rattle.demands.proofs.OrderLaws.{either_order}
use Rattle.demands.proofs.AnswerLaws.{demand_1}
use Rattle.demands.proofs.BackLaws.{back_by_one_call}
use Rattle.demands.proofs.UnchangedLaws.{unchanged_taken}
use Rattle.demands.specs.Coarse.{stepped_there_and_back, Keeps, Fails, FoundOn}

-- ---- a recording of samples, analysed directly by a call that was taken, every coefficient by one step and back
module _ (N H : ℕ) (x : List ℤ) (samples : (i : ℕ) → i < length x → Sample (at x i)) (room : List ℤ) (taken : recorded_code Direct N H x room ≡ 0) where
  facts : Recorded Direct N H x room
  facts = recorded_facts Direct N H x room taken

  module _ (order : Order) where
    -- the coefficients that the analysis left: as many as there are places, each one that synthesis takes
    abbrev X : List ℤ
    X = recorded_out Direct order N H x room

    own : (out : List ℤ) → length out ≡ H * (N / 2) → Played N H X out
    own out l = played_facts N H X out (unchanged_taken Direct order N H x room samples taken out l)

    module _ (out : List ℤ) (l : length out ≡ H * (N / 2)) (step : ℕ) where
      abbrev Y : List ℤ
      Y = stepped step X

      Y_long : length Y ≡ (H + 1) * (N / 2)
      Y_long = stepped_long step X ∙ (own out l).long

      pub stepped_plays : played_code N H Y out ≡ 0
      stepped_plays =
          let o = own out l in
          (demand_1.played order N H Y out).taken o.length_is (record { some = counted-some H o.hops; most = counted-most H o.hops }) Y_long l
          (record { each = λ k p. (stepped_small step X).small k p })

      -- no coefficient moved by more than half the step
      moved : 1 ≤ step → (b : ℕ) → b ≤ H → (k : ℕ) → k < N / 2 → nat_abs (at Y (place order (N / 2) (H + 1) b k) -ℤ at X (place order (N / 2) (H + 1) b k)) ≤ step / 2
      moved some b p k q =
          let i = place order (N / 2) (H + 1) b k in
          let h : i < length X = omega (arith, (own out l).long, place-less (N / 2) (H + 1) b k (omega (arith, p)) q order) in
          rw (stepped-at step X i h) (level-near step (at X i) some ((own out l).range.small i h))

      both : 1 ≤ step → Back N H (λ b. step / 2) (λ b. Direct) x (played_out order N H Y out) × SharperBack N H (λ b. step / 2) (λ b. Direct) x (played_out order N H Y out)
      both some = back_by_one_call N H (λ b. step / 2) Direct order x Y out samples (record { filled = order; buffer = room; taken = taken; near = moved some }) stepped_plays

      -- by the told distance, and by the sharper one
      pub near-told : 1 ≤ step → (D : ℕ) → step ≤ 32 * D + 15 → (i : ℕ) → i < H * (N / 2) → nat_abs (at (played_out order N H Y out) i -ℤ at x i) ≤ D
      unfolding units_of
      near-told some D few i p = omega (arith, rw (change-one (step / 2) Direct Direct) at ((both some).0.near i p))

      pub near_sharper : 1 ≤ step → (D : ℕ) → step ≤ 32 * D + 16 → (i : ℕ) → i < H * (N / 2) → nat_abs (at (played_out order N H Y out) i -ℤ at x i) ≤ D
      unfolding proved_units
      near_sharper some D few i p = omega (arith, rw (proved_one (step / 2) Direct Direct) at ((both some).1.near i p))

  -- ---- from either order the same samples: those of the definition
  module _ (step : ℕ) (out : List ℤ) (l : length out ≡ H * (N / 2)) where
    by_block : stepped_there_and_back ByBlock step N H x room out ≡ returning step N H x
    unfolding returning
    by_block =
        ap (λ (z : List ℤ). played_out ByBlock N H (stepped step z) out) (sym (recorded_taken Direct ByBlock N H x room taken).1)
        ∙ sym (played_taken ByBlock N H (stepped step (analysis Direct ByBlock N H x)) out (rw (sym (recorded_taken Direct ByBlock N H x room taken).1) at (stepped_plays ByBlock out l step))).1

    alike : (order : Order) → Alike N H order ByBlock (stepped step (recorded_out Direct order N H x room)) (stepped step (recorded_out Direct ByBlock N H x room))
    alike order =
        let a = either_order.analyses Direct order ByBlock N H x room room taken taken in
        record {
          long = Y_long order out l step;
          long' = Y_long ByBlock out l step;
          each = λ b k p q.
              let M = N / 2 in
              let h = place-less M (H + 1) b k (omega (arith, p)) q in
              stepped-at step (recorded_out Direct order N H x room) (place order M (H + 1) b k) (omega (arith, a.long, h order))
              ∙ ap (λ (z : ℤ). back step (level step z)) (a.each b k p q)
              ∙ sym (stepped-at step (recorded_out Direct ByBlock N H x room) (place ByBlock M (H + 1) b k) (omega (arith, a.long', h ByBlock)));
        }

    pub there_and_back_is : (order : Order) → stepped_there_and_back order step N H x room out ≡ returning step N H x
    there_and_back_is order = (either_order.samples (alike order) out).1 ∙ by_block

-- ---- a trial, in words of the calls
module _ (N H : ℕ) (x : List ℤ) (samples : (i : ℕ) → i < length x → Sample (at x i)) (D step : ℕ) where
  pub passes_keeps : passes N H x D step ≡ true → Keeps N H x D step
  unfolding passes
  passes_keeps e = record {
    plays = λ order room out taken l. stepped_plays N H x samples room taken order out l step;
    near = λ order room out taken l i p. rw (there_and_back_is N H x samples room taken step out l order) (leb→le (nat_abs (at (returning step N H x) i -ℤ at x i)) D (all-at (H * (N / 2)) (near N H x D step) (is_T e) i p));
  }

  pub fails_beyond : passes N H x D step ≡ false → Fails N H x D step
  unfolding passes
  fails_beyond e =
      let f = all_fails (H * (N / 2)) (near N H x D step) e in
      record {
        place = f.0;
        inside = f.1;
        far = λ order room out taken l. rw (there_and_back_is N H x samples room taken step out l order) (leb-false (nat_abs (at (returning step N H x) f.0 -ℤ at x f.0)) D f.2);
      }

-- ---- steps that pass whatever the recording holds
module _ (N H : ℕ) (x : List ℤ) (samples : (i : ℕ) → i < length x → Sample (at x i)) (t : Tabled N) (c : Counted H) (long : length x ≡ H * (N / 2)) (D : ℕ) where
  -- buffers that the calls take
  abbrev room : List ℤ
  room = replicate ((H + 1) * (N / 2)) (pos 0)

  taken : recorded_code Direct N H x room ≡ 0
  unfolding offered
  taken = (demand_1.recorded Direct ByBlock N H x room).taken t c long (length-replicate ((H + 1) * (N / 2)) (pos 0))

  abbrev out : List ℤ
  out = replicate (H * (N / 2)) (pos 0)

  out_long : length out ≡ H * (N / 2)
  out_long = length-replicate (H * (N / 2)) (pos 0)

  by_near : (step : ℕ) → ((i : ℕ) → i < H * (N / 2) → nat_abs (at (stepped_there_and_back ByBlock step N H x room out) i -ℤ at x i) ≤ D) → passes N H x D step ≡ true
  unfolding passes
  by_near step n =
      is_true (all_make (H * (N / 2)) (near N H x D step)
      (λ i p. le→leb (nat_abs (at (returning step N H x) i -ℤ at x i)) D (rw (there_and_back_is N H x samples room taken step out out_long ByBlock) at (n i p))))

  -- by the told distance
  pub told-passes : (step : ℕ) → 1 ≤ step → step ≤ 32 * D + 15 → passes N H x D step ≡ true
  told-passes step some few = by_near step (near-told N H x samples room taken ByBlock out out_long step some D few)

  pub sure-passes : passes N H x D (sure D) ≡ true
  sure-passes = let s = sure-is D in told-passes (sure D) (omega (arith, s.least)) s.told

  -- by the sharper one: one more
  pub next-passes : passes N H x D (32 * D + 16) ≡ true
  next-passes = by_near (32 * D + 16) (near_sharper N H x samples room taken ByBlock out out_long (32 * D + 16) (omega arith) D (omega arith))

-- ---- the answer of a call that was taken
pub found_on : (N H : ℕ) (x : List ℤ) (D budget : ℕ) → ((i : ℕ) → i < length x → Sample (at x i)) → (coarsest_answer N H x D budget).code ≡ 0 → FoundOn N H x D budget (coarsest_answer N H x D budget)
unfolding coarsest found
found_on N H x D budget samples z =
    let e = sym (coarsest-number N H x D budget) ∙ z in
    let f = coarsest_facts N H x D e in
    let c : Counted H = record { some = counted-some H f.hops; most = counted-most H f.hops } in
    let o = answered (passes N H x D) D budget in
    let s = sure-passes N H x samples f.length_is c f.long D in
    rw (coarsest-taken N H x D budget e)
    (record {
      from = o.from;
      upto = o.upto;
      keeps = passes_keeps N H x samples D (coarsest N H x D budget).step (o.it_passes s);
      failed = λ k p q r. fails_beyond N H x samples D k (o.tried k p q r);
      largest = λ u k p q. fails_beyond N H x samples D k (o.largest u k p q);
      adds_up = o.adds_up;
      adds_up_above = λ h. ((o.above h).1, omega (arith, o.adds_up_above h, (o.above h).1));
      within = o.within;
      used = o.used;
      enough = o.enough;
      counted = refl;
      never_all = λ d k.
          let b : sure D ≡ 32 * D + 15 = sure_below D (omega (arith, d)) in
          let g : sure D + 1 ≡ 32 * D + 16 = omega (arith, b) in
          o.never_all (rw g (next-passes N H x samples f.length_is c f.long D)) (omega (arith, b, d)) k;
    })

-- ---- the answers for D = 32, and for 31 and 0 without a trial
module _ (N H : ℕ) (x : List ℤ) (budget : ℕ) where
  taken-answer : (D : ℕ) (f : Found) → (coarsest_answer N H x D budget).code ≡ 0 → coarsest N H x D budget ≡ f → coarsest_answer N H x D budget ≡ answered_with f
  taken-answer D f z e = coarsest-taken N H x D budget (sym (coarsest-number N H x D budget) ∙ z) ∙ ap answered_with e

  pub answer_32 : (coarsest_answer N H x 32 budget).code ≡ 0 → coarsest_answer N H x 32 budget ≡ record { code = 0; step = 1024; trials = 0; untried = 0 }
  unfolding coarsest
  answer_32 z = taken-answer 32 (record { step = 1024; trials = 0; untried = 0 }) z (at_32 (passes N H x 32) budget)

module _ (N H : ℕ) (x : List ℤ) where
  pub answer_31 : (coarsest_answer N H x 31 0).code ≡ 0 → coarsest_answer N H x 31 0 ≡ record { code = 0; step = 1007; trials = 0; untried = 17 }
  unfolding coarsest
  answer_31 z = taken-answer N H x 0 31 (record { step = 1007; trials = 0; untried = 17 }) z (at_31 (passes N H x 31))

  pub answer_0 : (coarsest_answer N H x 0 0).code ≡ 0 → coarsest_answer N H x 0 0 ≡ record { code = 0; step = 15; trials = 0; untried = 1009 }
  unfolding coarsest
  answer_0 z = taken-answer N H x 0 0 (record { step = 15; trials = 0; untried = 1009 }) z (at_0 (passes N H x 0))
