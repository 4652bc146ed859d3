-- Laws of a list of calls that bring coefficients or levels: `loads_answered`, it answers as a list of steps does, whatever is brought; and `loads_kept`: of a recording that is stored as levels
-- every sample returns within the told distance. On one state `load_calls_answered` and `load_calls_kept`.
use Rattle.std.specs.Prelude.{◌≡◌, refl, ◌≢◌, Bool, true, false, ℕ, T, eqb, length, ℤ}
use Rattle.std.proofs.Math.Path.{sym, ap, subst}
use Rattle.std.proofs.Common.{◌∙◌, ne_eqb}
use Rattle.std.proofs.Math.Bool.{cond}
use mathlib.Core.List.{List, [], ◌∷◌}
use Rattle.std.proofs.Math.Decide.{ℕ_discrete}
use Rattle.cosine.specs.Kernels.{tabled}
use Rattle.stream.specs.declared.Stream.{Stream}
use Rattle.stream.specs.Synthesis as Y
use Rattle.stream.specs.Steps.{next}
use Rattle.analysis.specs.Analysis.{coefficients}
use Rattle.recording.specs.Recordings.{block}
use Rattle.analysis.specs.declared.Route.{Route}
use Rattle.stream_calls.specs.Answers.{Made}
use Rattle.stream_calls.specs.Streams as S
use Rattle.level_calls.specs.LevelCalls as L
use Rattle.level_calls.specs.LevelCalls.{back_by, brought_code, quantise_out, step_levels, half}
use Rattle.stream_calls.specs.States.{entries, stream_in, fresh_code, fresh_state}
use Rattle.stream_calls.specs.StateLaws.{fresh-tabled, fresh_holds, fresh_long, same_code, same_out, same_stream, same_long}
use Rattle.demands.specs.Steps.{Offer, Turn, Entry, taken, turns, final, Recording, Numbered, Answered, Returned}
use Rattle.demands.specs.Steps.Entry.{first, later}
use Rattle.demands.proofs.RunLaws.{no_entry}
use Rattle.demands.proofs.StreamLaws.{fresh-is}
use Rattle.demands.proofs.ThereAndBackLaws.{every_list, there_and_back}
use Rattle.demands.specs.LevelStepLaws.{levels_brought}
use Rattle.demands.proofs.LevelAnswerLaws.{state_levels_answers}
use Rattle.demands.proofs.MovedLaws.{quantised_facts, dequantise_takes, dequantised_is}
use Rattle.demands.specs.Stored.{StoredBlock, Stored, StoredReturned}
use Rattle.demands.proofs.StoredLaws.{stored-numbered, stored-returned}
use Rattle.demands.proofs.LoadLaws.{bringings, alikes, after_is, taken_alike, answered_alike}
use Rattle.demands.specs.StoredLists.{Load, LoadOffer, LoadTurn, step_by_load, output_by, load_answered, load_run, load_after, load_turns, load_final, taken_loads, code_in, state_by, output_in, state_next, load_called, load_calls, load_held, brought_by, bringing, as_turn, as_turns, Brings, StoredLoads}
use Rattle.demands.specs.StoredLists.Load.{spectrum, levels}

-- ---- what is taken of it
taken_loads_are : (ts : List LoadTurn) → taken (as_turns ts) ≡ as_turns (taken_loads ts)
unfolding taken as_turns as_turn taken_loads
taken_loads_are [] = refl
taken_loads_are (t ∷ ts) = go (eqb t.answer.code 0) (taken_loads_are ts)
  where
    go : (b : Bool) → taken (as_turns ts) ≡ as_turns (taken_loads ts) → cond b (as_turn t ∷ taken (as_turns ts)) (taken (as_turns ts)) ≡ as_turns (cond b (t ∷ taken_loads ts) (taken_loads ts))
    go true ih = ap (λ (us : List Turn). as_turn t ∷ us) ih
    go false ih = ih

entry_of : (ts : List LoadTurn) {j : ℕ} {u : Turn} → Entry (as_turns ts) j u → (t : LoadTurn) × Entry ts j t × (as_turn t ≡ u)
unfolding as_turns
entry_of [] e = absurd (no_entry e refl)
entry_of (t ∷ ts) first = (t, first, refl)
entry_of (t ∷ ts) (later e) = let (v, f, g) = entry_of ts e in (v, later f, g)

-- a taken one was handed a stream of N, and returned 0
record TakenFacts (N : ℕ) (t : LoadTurn) : Type 0 where
  stream_is : t.handed.n ≡ N
  zero_code : (step_by_load t.handed t.offer.number t.offer.left t.offer.right t.offer.load t.offer.buffer).code ≡ 0

next-n : (s : Stream) (number l r : ℕ) (w : Load) (out : List ℤ) → (step_by_load s number l r w out).stream.n ≡ s.n
unfolding step_by_load S.step step_levels next
next-n s number l r (spectrum x) out = go (eqb (S.step_code s number l r x out) 0)
  where
    go : (b : Bool) → (cond b (next s l r x) s).n ≡ s.n
    go true = refl
    go false = refl
next-n s number l r (levels text x) out = go (eqb (L.step_code s number l r text x out) 0)
  where
    go : (b : Bool) → (cond b (next s l r (back_by s.n text x)) s).n ≡ s.n
    go true = refl
    go false = refl

loads_yes : (t : LoadTurn) (ts : List LoadTurn) → t.answer.code ≡ 0 → taken_loads (t ∷ ts) ≡ t ∷ taken_loads ts
unfolding taken_loads
loads_yes t ts e = rw e

loads_no : (t : LoadTurn) (ts : List LoadTurn) → t.answer.code ≢ 0 → taken_loads (t ∷ ts) ≡ taken_loads ts
unfolding taken_loads
loads_no t ts n = rw (ne_eqb t.answer.code 0 n)

taken_facts : (N : ℕ) (offers : List LoadOffer) (s : Stream) → s.n ≡ N → (j : ℕ) (t : LoadTurn) → Entry (taken_loads (load_run s offers)) j t → TakenFacts N t
unfolding load_run taken_loads load_answered
taken_facts N [] s n j t e = absurd (no_entry e refl)
taken_facts N (o ∷ offers) s n j t e =
    go (ℕ_discrete (load_answered s o).answer.code 0) (taken_facts N offers (load_answered s o).answer.stream (next-n s o.number o.left o.right o.load o.buffer ∙ n))
  where
    rest : List LoadTurn
    rest = load_run (load_answered s o).answer.stream offers

    goal : List LoadTurn → Type 0
    goal us = (j : ℕ) (t : LoadTurn) → Entry us j t → TakenFacts N t

    cases : (load_answered s o).answer.code ≡ 0 → goal (taken_loads rest) → goal (load_answered s o ∷ taken_loads rest)
    cases z ih j t first = record { stream_is = n; zero_code = z }
    cases z ih j t (later {i = i} e) = ih i t e

    go : Dec ((load_answered s o).answer.code ≡ 0) → goal (taken_loads rest) → TakenFacts N t
    go (yes z) ih = cases z ih j t (rw (loads_yes (load_answered s o) rest z) at e)
    go (no m) ih = ih j t (rw (loads_no (load_answered s o) rest m) at e)

-- ---- what it brings is the block as it was stored
module _ (N H : ℕ) (tables : ℕ → List ℕ) (routes : ℕ → Route) (x : List ℤ) where
  brings_stored : (s : Stream) → s.n ≡ N → (number l r : ℕ) (w : Load) (out : List ℤ) → (step_by_load s number l r w out).code ≡ 0 → Brings N H tables routes x number l r w →
      StoredBlock N H tables routes x number l r (brought_by s w)
  unfolding step_by_load Brings brought_by
  brings_stored s n number l r (spectrum c) out z given = given
  brings_stored s n number l r (levels text c) out z given =
      let X = coefficients (routes number) N l r (block N x number) in
      let t = tables number in
      let q = dequantise_takes N t X given.room given.room given.quantised (quantised_facts N t X given.room given.quantised).levels_long in
      let e : brought_code s.n text c ≡ 0 = levels_brought s number l r text c out (unfold step_levels in z) in
      let b : cond (eqb (brought_code s.n text c) 0) (back_by s.n text c) [] ≡ back_by N text c = rw (e, n) in
      record {
        exists = given.exists;
        offers = given.offers;
        through = record {
          levels = given.room;
          buffer = given.room;
          quantised = given.quantised;
          dequantised = q;
          is = b ∙ ap (λ (m : List ℕ). back_by N m c) given.table_is ∙ ap (back_by N t) given.levels_are ∙ sym (dequantised_is N t (quantise_out N t X given.room) given.room q);
        };
      }

-- ---- the theorems
module _ (N : ℕ) (t : T (tabled N)) (offers : List LoadOffer) where
  abbrev start : Stream
  start = (S.fresh N).stream

  -- the same as steps
  abbrev steps : List Offer
  steps = bringings start offers

  abbrev us : List Turn
  us = as_turns (load_turns N offers)

  are : taken us ≡ taken (turns N steps)
  unfolding turns load_turns
  are = taken_alike (alikes offers start)

  last_is : load_final N offers ≡ final N steps
  unfolding load_final final
  last_is = after_is offers start

  pub loads_answered : Answered N us (load_final N offers)
  unfolding turns load_turns
  loads_answered = rw last_is (answered_alike N (final N steps) (alikes offers start) (every_list N t steps))

  start-n : start.n ≡ N
  unfolding Y.fresh
  start-n = ap (λ (q : Made). q.stream.n) (fresh-is N t)

  module _ (H : ℕ) (tables : ℕ → List ℕ) (routes : ℕ → Route) (x : List ℤ) (rec : Recording N H x) (given : StoredLoads N H tables routes x (load_turns N offers)) where
    stored : Stored N H tables routes x us
    unfolding as_turn bringing load_turns
    stored = record {
      each = λ j u e.
          let (v, f, g) = entry_of (taken_loads (load_turns N offers)) (rw (taken_loads_are (load_turns N offers)) at e) in
          let o = v.offer in
          let h = taken_facts N offers start start-n j v f in
          subst (λ (w : Turn). StoredBlock N H tables routes x w.offer.number w.offer.left w.offer.right w.offer.brought) g
          (brings_stored N H tables routes x v.handed h.stream_is o.number o.left o.right o.load o.buffer h.zero_code (given.each j v f));
    }

    numbered : Numbered N H (λ b. half N (tables b)) routes x (turns N steps)
    numbered = record { each = rw are at (stored-numbered N H tables routes x us stored).each }

    returned : Returned N (λ b. half N (tables b)) routes x us (load_final N offers)
    returned =
        let r = there_and_back N t H (λ b. half N (tables b)) routes x rec steps numbered in
        record { answered = loads_answered; hop_near = rw are r.hop_near; hop_same = rw are r.hop_same }

    pub loads_kept : StoredReturned N H tables routes x us (load_final N offers)
    loads_kept = stored-returned N H tables routes x t us (load_final N offers) stored returned

-- ---- the same on one state
module _ (state : List ℤ) (a : length state ≡ entries) (number l r : ℕ) (out : List ℤ) where
  code_is : (w : Load) → code_in state number l r w out ≡ (step_by_load (stream_in state) number l r w out).code
  unfolding code_in step_by_load S.step step_levels
  code_is (spectrum x) = same_code state number l r x out a
  code_is (levels text x) = (state_levels_answers state number l r text x out).same a

  stream_is : (w : Load) → stream_in (state_by state number l r w out) ≡ (step_by_load (stream_in state) number l r w out).stream
  unfolding state_by step_by_load
  stream_is (spectrum x) = same_stream state number l r x out a
  stream_is (levels text x) = (state_levels_answers state number l r text x out).same_stream a

  output_is : (w : Load) → output_in state number l r w out ≡ output_by (stream_in state) number l r w out
  unfolding output_in output_by
  output_is (spectrum x) = same_out state number l r x out a
  output_is (levels text x) = (state_levels_answers state number l r text x out).same_out a

  long_is : (w : Load) → length (state_by state number l r w out) ≡ entries
  unfolding state_by
  long_is (spectrum x) = same_long state number l r x out a
  long_is (levels text x) = (state_levels_answers state number l r text x out).long ∙ a

module _ (state : List ℤ) (a : length state ≡ entries) (o : LoadOffer) where
  called-next : stream_in (state_next state o) ≡ (load_answered (stream_in state) o).answer.stream
  unfolding state_next load_answered
  called-next = stream_is state a o.number o.left o.right o.buffer o.load

  called_is : load_called state o ≡ load_answered (stream_in state) o
  unfolding load_called load_answered
  called_is =
      let e = called-next in
      let c = code_is state a o.number o.left o.right o.buffer o.load in
      let f = output_is state a o.number o.left o.right o.buffer o.load in
      rw (c, f, e)

  next_long : length (state_next state o) ≡ entries
  unfolding state_next
  next_long = long_is state a o.number o.left o.right o.buffer o.load

pub calls_are : (offers : List LoadOffer) (state : List ℤ) → length state ≡ entries → (load_calls state offers ≡ load_run (stream_in state) offers) × (load_held state offers ≡ load_after (stream_in state) offers)
unfolding load_calls load_run load_held load_after
calls_are [] state a = (refl, refl)
calls_are (o ∷ offers) state a =
    let ih = calls_are offers (state_next state o) (next_long state a o) in
    let e = called-next state a o in
    (rw (called_is state a o, ih.0, e), rw (ih.1, e))

module _ (N : ℕ) (state : List ℤ) (z : fresh_code N state ≡ 0) (offers : List LoadOffer) where
  pub load_calls_are : load_calls (fresh_state N state) offers ≡ load_turns N offers
  unfolding load_turns
  load_calls_are = (calls_are offers (fresh_state N state) (fresh_long N state z)).0 ∙ ap (λ (s : Stream). load_run s offers) (fresh_holds N state z)

  pub load_held_is : load_held (fresh_state N state) offers ≡ load_final N offers
  unfolding load_final
  load_held_is = (calls_are offers (fresh_state N state) (fresh_long N state z)).1 ∙ ap (λ (s : Stream). load_after s offers) (fresh_holds N state z)

  pub load_calls_answered : Answered N (as_turns (load_calls (fresh_state N state) offers)) (load_held (fresh_state N state) offers)
  load_calls_answered = rw (load_calls_are, load_held_is) (loads_answered N (fresh-tabled N state z) offers)

  pub load_calls_kept : (H : ℕ) (tables : ℕ → List ℕ) (routes : ℕ → Route) (x : List ℤ) → Recording N H x → StoredLoads N H tables routes x (load_calls (fresh_state N state) offers) →
      StoredReturned N H tables routes x (as_turns (load_calls (fresh_state N state) offers)) (load_held (fresh_state N state) offers)
  load_calls_kept H tables routes x rec given =
      rw (load_calls_are, load_held_is) (loads_kept N (fresh-tabled N state z) offers H tables routes x rec (rw load_calls_are at given))
