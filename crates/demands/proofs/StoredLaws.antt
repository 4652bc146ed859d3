-- Laws of blocks that are stored as levels: `told-kept`, `told_kept_calls`, `stored_back` and `stored_once`: every sample of a recording so stored returns within the
-- told distance. Demand 3 does the rest, with half the coarsest step for a block's Q.
use Rattle.std.specs.Prelude.{◌≡◌, refl, true, List, ℕ, suc, ◌+◌, ◌*◌, ◌/◌, ◌%◌, ◌≤◌, ◌<◌, T, length, ℤ, nat_abs, ◌-ℤ◌}
use Rattle.std.proofs.Common.{sym, ap, ◌∙◌, eq-eqb, lt-ltb, le-ltb}
use Rattle.std.proofs.Math.Logic.{dite}
use native.Mathlib.Omega.{arith}
use Rattle.std.proofs.Math.Decide.{dec_lt}
use Rattle.arithmetic.specs.Lists.{at}
use Rattle.arithmetic.specs.Rounding.{Sample}
use Rattle.arithmetic.specs.TestLaws.{is_true, is_T}
use Rattle.cosine.specs.Kernels.{tabled}
use Rattle.stream.specs.declared.Stream.{Stream}
use Rattle.analysis.specs.declared.Route.{Route}
use Rattle.analysis.specs.Analysis.{offered, units_of}
use Rattle.orders.specs.declared.Order.{Order}
use Rattle.orders.specs.OrderLaws.{part_at}
use Rattle.recording.specs.Recordings.{block}
use Rattle.checks.specs.Causes.{first_cause}
use Rattle.block_calls.specs.AnalysisLaws.{analysed-offered}
use Rattle.recording_calls.specs.Recordings.{played_code, played_out, recorded_out}
use Rattle.recording_calls.specs.RecordingLaws.{played_facts, recorded_facts}
use Rattle.stream_calls.specs.States.{fresh_code, fresh_state}
use Rattle.stream_calls.specs.StateLaws.{fresh-tabled}
use Rattle.steps.specs.Table.{table_code, coarsest}
use Rattle.level_calls.specs.LevelCalls.{quantise_out, half, distance, told_causes, told_code, told}
use Rattle.demands.specs.Steps.{Offer, Turn, Entry, taken, turns, final, Recording, Brought, Numbered, change, Returned}
use Rattle.demands.specs.Steps.Entry.{first, later}
use Rattle.demands.proofs.RunLaws.{entry_at}
use Rattle.demands.proofs.ThereAndBackLaws.{there_and_back}
use Rattle.demands.proofs.RecordingLaws.{hop_of}
use Rattle.demands.specs.Chains.{calls, held}
use Rattle.demands.proofs.ChainLaws.{fresh-calls, fresh-held}
use Rattle.demands.specs.Recordings.{ByOneCall, BlockByBlock, Back}
use Rattle.demands.proofs.BackLaws.{back_by_one_call, back_block_by_block}
use Rattle.demands.proofs.MovedLaws.{quantised_facts, back-length, moved-half}
use Rattle.demands.specs.Stored.{Through, StoredBlock, Stored, StoredBlocks, StoredOnce, coarser, farther, ToldKept, StoredReturned, StoredBack}

-- of a block that was brought through both calls
module _ {N : ℕ} {text : List ℕ} {x c : List ℤ} (t : Through N text x c) where
  pub through_table : table_code (N / 2) text ≡ 0
  through_table = (quantised_facts N text x t.levels t.quantised).table_is

  pub through_long : length c ≡ N / 2
  through_long = ap length t.is ∙ back-length N text (quantise_out N text x t.levels) t.buffer t.dequantised

  pub through_near : (k : ℕ) → k < N / 2 → nat_abs (at c k -ℤ at x k) ≤ half N text
  through_near k p = rw t.is (moved-half N text x t.levels t.buffer t.quantised t.dequantised k p)

-- ---- the coarser table and the route that tells more
module _ (N : ℕ) (text text' : List ℕ) where
  by-coarser : (P : List ℕ → Type 0) → (coarsest (N / 2) text < coarsest (N / 2) text' → P text') → (coarsest (N / 2) text' ≤ coarsest (N / 2) text → P text) → P (coarser N text text')
  unfolding coarser
  by-coarser P f g = dite (dec_lt (coarsest (N / 2) text) (coarsest (N / 2) text'))
      (λ h. rw (lt-ltb (coarsest (N / 2) text) (coarsest (N / 2) text') h) (f h))
      (λ h. let k : coarsest (N / 2) text' ≤ coarsest (N / 2) text = omega arith in rw (le-ltb (coarsest (N / 2) text) (coarsest (N / 2) text') k) (g k))

  pub coarser-first : half N text ≤ half N (coarser N text text')
  unfolding half
  coarser-first = by-coarser (λ t. coarsest (N / 2) text / 2 ≤ coarsest (N / 2) t / 2) (λ h. omega (arith, h)) (λ h. omega arith)

  pub coarser-second : half N text' ≤ half N (coarser N text text')
  unfolding half
  coarser-second = by-coarser (λ t. coarsest (N / 2) text' / 2 ≤ coarsest (N / 2) t / 2) (λ h. omega arith) (λ h. omega (arith, h))

module _ (r r' : Route) where
  by-farther : (P : Route → Type 0) → (units_of r < units_of r' → P r') → (units_of r' ≤ units_of r → P r) → P (farther r r')
  unfolding farther
  by-farther P f g = dite (dec_lt (units_of r) (units_of r'))
      (λ h. rw (lt-ltb (units_of r) (units_of r') h) (f h))
      (λ h. let k : units_of r' ≤ units_of r = omega arith in rw (le-ltb (units_of r) (units_of r') k) (g k))

  pub farther-first : units_of r ≤ units_of (farther r r')
  farther-first = by-farther (λ q. units_of r ≤ units_of q) (λ h. omega (arith, h)) (λ h. omega arith)

  pub farther-second : units_of r' ≤ units_of (farther r r')
  farther-second = by-farther (λ q. units_of r' ≤ units_of q) (λ h. omega arith) (λ h. h)

-- ---- the distance that is told
pub told_is : (route : Route) (N : ℕ) (text : List ℕ) → T (offered route N) → table_code (N / 2) text ≡ 0 → told route N text ≡ record { code = 0; distance = distance route N text }
unfolding told told_code told_causes first_cause
told_is route N text o z = let g : offered route N ≡ true = is_true o in rw (g, eq-eqb (table_code (N / 2) text) 0 z)

module _ (N : ℕ) (text text' : List ℕ) (r r' : Route) (o : T (offered r N)) (o' : T (offered r' N)) (z : table_code (N / 2) text ≡ 0) (z' : table_code (N / 2) text' ≡ 0) where
  told_far : told (farther r r') N (coarser N text text') ≡ record { code = 0; distance = distance (farther r r') N (coarser N text text') }
  told_far = told_is (farther r r') N (coarser N text text') (by-farther r r' (λ q. T (offered q N)) (λ h. o') (λ h. o))
      (by-coarser N text text' (λ t. table_code (N / 2) t ≡ 0) (λ h. z') (λ h. z))

  pub kept_of : {z a : ℤ} → nat_abs (z -ℤ a) ≤ (change (half N text) (half N text') r r' + 8) / 16 → ToldKept N text text' r r' z a
  unfolding change distance
  kept_of h = record {
    told_taken = rw told_far refl;
    near = rw told_far (omega (arith, h, coarser-first N text text', coarser-second N text text', farther-first r r', farther-second r r'));
  }

-- ---- the list of steps
-- the entry before
pub entry_before : {A : Type 0} {l : List A} {j : ℕ} {a : A} → Entry l (suc j) a → (b : A) × Entry l j b
entry_before (later {b = b} first) = (b, first)
entry_before (later {b = b} (later e)) = let (c, f) = entry_before (later e) in (c, later f)

module _ (N H : ℕ) (tables : ℕ → List ℕ) (routes : ℕ → Route) (x : List ℤ) where
  pub stored_brought : (b l r : ℕ) (c : List ℤ) → StoredBlock N H tables routes x b l r c → Brought N H (λ b. half N (tables b)) routes x b l r c
  stored_brought b l r c s = record { exists = s.exists; offers = s.offers; long = through_long s.through; near = through_near s.through }

  pub stored-numbered : (us : List Turn) → Stored N H tables routes x us → Numbered N H (λ b. half N (tables b)) routes x us
  stored-numbered us s = record { each = λ j t e. stored_brought t.offer.number t.offer.left t.offer.right t.offer.brought (s.each j t e) }

  -- of any turns of which demand 3 holds
  pub stored-returned : T (tabled N) → (us : List Turn) (last : Stream) → Stored N H tables routes x us → Returned N (λ b. half N (tables b)) routes x us last →
      StoredReturned N H tables routes x us last
  stored-returned t us last s returned = record {
    returned = returned;
    hop = hop;
    whole = λ all i p.
        let l = hop_of N t H i p in
        let (u, e) = entry_at (taken us) (suc (i / (N / 2))) (omega (arith, all, l.before)) in
        let f = returned.answered.numbers (suc (i / (N / 2))) u e in
        (u, e, f, rw (ap (at x) l.is) at (hop (suc (i / (N / 2))) u e (i / (N / 2)) f (i % (N / 2)) l.less));
  }
    where
      hop : (j : ℕ) (t : Turn) → Entry (taken us) j t → (b : ℕ) → t.offer.number ≡ suc b → (n : ℕ) → n < N / 2 →
          ToldKept N (tables b) (tables (suc b)) (routes b) (routes (suc b)) (at t.output n) (at x (b * (N / 2) + n))
      hop j t e b f n p =
          let g : j ≡ suc b = sym (returned.answered.numbers j t e) ∙ f in
          let (u, d) = entry_before (rw g at e) in
          let m : u.offer.number ≡ b = returned.answered.numbers b u d in
          let here : StoredBlock N H tables routes x (suc b) t.offer.left t.offer.right t.offer.brought = rw f at (s.each j t e) in
          let before : StoredBlock N H tables routes x b u.offer.left u.offer.right u.offer.brought = rw m at (s.each b u d) in
          kept_of N (tables b) (tables (suc b)) (routes b) (routes (suc b)) before.offers here.offers (through_table before.through) (through_table here.through)
          (returned.hop_near j t e b f n p)

-- 'the told distance is kept'
pub told-kept : (N : ℕ) → T (tabled N) → (H : ℕ) (tables : ℕ → List ℕ) (routes : ℕ → Route) (x : List ℤ) → Recording N H x →
    (offers : List Offer) → Stored N H tables routes x (turns N offers) → StoredReturned N H tables routes x (turns N offers) (final N offers)
told-kept N t H tables routes x rec offers s =
    stored-returned N H tables routes x t (turns N offers) (final N offers) s
    (there_and_back N t H (λ b. half N (tables b)) routes x rec offers (stored-numbered N H tables routes x (turns N offers) s))

-- the same for steps in place, and so for the calls for C, on one state
pub told_kept_calls : (N : ℕ) (state : List ℤ) → fresh_code N state ≡ 0 → (H : ℕ) (tables : ℕ → List ℕ) (routes : ℕ → Route) (x : List ℤ) → Recording N H x →
    (offers : List Offer) → Stored N H tables routes x (calls (fresh_state N state) offers) →
    StoredReturned N H tables routes x (calls (fresh_state N state) offers) (held (fresh_state N state) offers)
told_kept_calls N state z H tables routes x rec offers s =
    rw (fresh-calls N state z offers, fresh-held N state z offers) (told-kept N (fresh-tabled N state z) H tables routes x rec offers (rw (fresh-calls N state z offers) at s))

-- ---- the calls over whole recordings
module _ (N H : ℕ) (tables : ℕ → List ℕ) (routes : ℕ → Route) (order : Order) (x X out : List ℤ) (played : played_code N H X out ≡ 0) where
  -- of what demand 3 gives back
  pub back-kept : Back N H (λ b. half N (tables b)) routes x (played_out order N H X out) → ((b : ℕ) → b ≤ H → T (offered (routes b) N)) →
      ((b : ℕ) → b ≤ H → table_code (N / 2) (tables b) ≡ 0) → StoredBack N H tables routes x (played_out order N H X out)
  back-kept back offers are = record {
    back = back;
    each = λ i p.
        let b = i / (N / 2) in
        let l = hop_of N (played_facts N H X out played).length_is H i p in
        kept_of N (tables b) (tables (suc b)) (routes b) (routes (suc b)) (offers b (omega (arith, l.before))) (offers (suc b) l.before)
        (are b (omega (arith, l.before))) (are (suc b) l.before) (back.near i p);
  }

  -- the blocks were analysed one by one, each by its own route
  pub stored_back : Recording N H x → StoredBlocks N H tables routes order x X → StoredBack N H tables routes x (played_out order N H X out)
  stored_back rec given =
      let by : BlockByBlock N H (λ b. half N (tables b)) routes order x X = record {
        buffer = given.buffer;
        taken = given.analysed;
        near = λ b p k q. rw (part_at (N / 2) (H + 1) order X b k q) at (through_near (given.through b p) k q);
      } in
      back-kept (back_block_by_block N H (λ b. half N (tables b)) routes order x X out rec by played).0
      (λ b p. analysed-offered (routes b) N 0 0 (block N x b) (given.buffer b) (given.analysed b p))
      (λ b p. through_table (given.through b p))

-- one call analysed them
pub stored_once : (N H : ℕ) (tables : ℕ → List ℕ) (route : Route) (order : Order) (x X out : List ℤ) → played_code N H X out ≡ 0 → ((i : ℕ) → i < length x → Sample (at x i)) →
    StoredOnce N H tables route order x X → StoredBack N H tables (λ b. route) x (played_out order N H X out)
stored_once N H tables route order x X out played samples given =
    let f = recorded_facts route N H x given.buffer given.analysed in
    let by : ByOneCall N H (λ b. half N (tables b)) route order x X = record {
      filled = given.filled;
      buffer = given.buffer;
      taken = given.analysed;
      near = λ b p k q.
          rw (part_at (N / 2) (H + 1) order X b k q, part_at (N / 2) (H + 1) given.filled (recorded_out route given.filled N H x given.buffer) b k q) at
          (through_near (given.through b p) k q);
    } in
    back-kept N H tables (λ b. route) order x X out played (back_by_one_call N H (λ b. half N (tables b)) route order x X out samples by played).0
    (λ b p. is_T f.offers) (λ b p. through_table (given.through b p))
