-- Demand 3 for a list of synthesis steps, the theorem: `there_and_back`, and for one Q `returned-one`. Inductions over the list say which numbers are taken, what every turn does, and what the hops are.
use Rattle.std.specs.Prelude.{◌≡◌, refl, ◌≢◌, ℕ, suc, ◌+◌, ◌*◌, ◌/◌, ◌%◌, ◌≤◌, ◌<◌, T, length, take, ℤ, nat_abs, ◌-ℤ◌}
use Rattle.std.proofs.Math.Path.{ap}
use Rattle.std.proofs.Common.{◌∙◌}
use mathlib.Core.List.{List, [], ◌∷◌}
use native.Mathlib.Omega.{arith}
use Rattle.std.proofs.Math.Decide.{ℕ_discrete}
use Rattle.arithmetic.specs.Lists.{at}
use Rattle.cosine.specs.Kernels.{tabled, rising, falling}
use Rattle.transform.specs.Synthesis.{V'}
use Rattle.stream.specs.declared.Stream.{Stream}
use Rattle.analysis.specs.declared.Route.{Route}
use Rattle.analysis.specs.declared.Route.TheVariants.{Direct}
use Rattle.stream.specs.Synthesis as Y
use Rattle.stream.specs.Steps.{next, hop}
use Rattle.stream_calls.specs.Streams.{fresh}
use Rattle.stream_calls.specs.StreamLaws.{step-number, step_left}
use Rattle.demands.specs.Steps.{Offer, Turn, answered, run, after, taken, turns, final, Entry, Recording, Brought, Numbered, proved_change, Answered, Returned, WholeReturned, Restored, ReturnedOneQ, Sharper}
use Rattle.demands.specs.Steps.Entry.{first, later}
use Rattle.demands.specs.StepLaws.{taken_buffer, taken_stream, sound_seven, only_seven}
use Rattle.demands.proofs.RunLaws.{code, answered-code, refused_stream, refused_buffer, taken_yes, taken_no, of_taken, no_entry, entry_at, entry-taken}
use Rattle.demands.proofs.RecordingLaws.{overlapped, hop_of, back-near, back-same, near_asked, restored}
use Rattle.stream.specs.NextLaws.{Fine, hop_long, hop_entry, next-at}
use Rattle.demands.proofs.StreamLaws.{fresh-is, fine_made, fine_sound, fine_four, fine_answered, fine_after, taken_next}

taken_output : (s : Stream) (o : Offer) → code s o ≡ 0 → (answered s o).output ≡ hop s o.left o.right o.brought
unfolding answered
taken_output s o e = taken_buffer s o.number o.left o.right o.brought o.buffer e

-- ---- the expected number, step by step
module _ (s : Stream) (o : Offer) where
  counted : code s o ≡ 0 → (answered s o).answer.stream.expected ≡ s.expected + 1
  unfolding answered next
  counted z = ap (λ (r : Stream). r.expected) (taken_stream s o.number o.left o.right o.brought o.buffer z)

  uncounted : code s o ≢ 0 → (answered s o).answer.stream.expected ≡ s.expected
  uncounted r = ap (λ (q : Stream). q.expected) (refused_stream s o r)

  as_expected : code s o ≡ 0 → o.number ≡ s.expected
  as_expected z = step-number s o.number o.left o.right o.brought o.buffer z

  -- and the shape that it ends with
  remembered : code s o ≡ 0 → (answered s o).answer.stream.shape ≡ o.right
  unfolding answered next
  remembered z = ap (λ (q : Stream). q.shape) (taken_stream s o.number o.left o.right o.brought o.buffer z)

  as_ended : code s o ≡ 0 → o.left ≡ s.shape
  as_ended z = step_left s o.number o.left o.right o.brought o.buffer z

-- a step is handed a stream that expects as many more as were taken before it
expected_at : (offers : List Offer) (s : Stream) (i : ℕ) (u : Turn) → Entry (run s offers) i u → u.handed.expected ≡ s.expected + length (taken (take i (run s offers)))
unfolding run taken answered
expected_at [] s i u e = absurd (no_entry e refl)
expected_at (o ∷ offers) s i u first = omega arith
expected_at (o ∷ offers) s i u (later {i = k} e) = go (ℕ_discrete (code s o) 0) (expected_at offers (answered s o).answer.stream k u e)
  where
    rest : List Turn
    rest = take k (run (answered s o).answer.stream offers)

    go : Dec (code s o ≡ 0) → u.handed.expected ≡ (answered s o).answer.stream.expected + length (taken rest) →
        u.handed.expected ≡ s.expected + length (taken (answered s o ∷ rest))
    go (yes z) ih = rw (taken_yes (answered s o) rest (answered-code s o ∙ z)) (omega (arith, ih, counted s o z))
    go (no r) ih = rw (taken_no (answered s o) rest (rw (answered-code s o) r)) (omega (arith, ih, uncounted s o r))

-- ---- the taken turns of a list from s on, last the stream after it
record Followed (s : Stream) (us : List Turn) (last : Stream) : Type 0 where
  -- one more is expected for each, and their numbers follow one another without a gap
  expected : last.expected ≡ s.expected + length us
  numbers : (j : ℕ) (u : Turn) → Entry us j u → u.offer.number ≡ s.expected + j
  -- the first begins as the stream ends, and the others as the one before
  first_joint : (u : Turn) → Entry us 0 u → u.offer.left ≡ s.shape
  joints : (j : ℕ) (t u : Turn) → Entry us j t → Entry us (suc j) u → u.offer.left ≡ t.offer.right
  -- the stream after the list ends as the last of them
  ends_none : length us ≡ 0 → last.shape ≡ s.shape
  ends : (j : ℕ) (u : Turn) → Entry us j u → length us ≡ suc j → last.shape ≡ u.offer.right

none-followed : (s : Stream) → Followed s [] s
none-followed s = record {
  expected = omega arith;
  numbers = λ j u e. absurd (no_entry e refl);
  first_joint = λ u e. absurd (no_entry e refl);
  joints = λ j t u e. absurd (no_entry e refl);
  ends_none = λ e. refl;
  ends = λ j u e. absurd (no_entry e refl);
}

-- one more in front
module _ (s : Stream) (o : Offer) (us : List Turn) (last : Stream) (z : code s o ≡ 0) (f : Followed (answered s o).answer.stream us last) where
  numbers_more : (j : ℕ) (u : Turn) → Entry (answered s o ∷ us) j u → u.offer.number ≡ s.expected + j
  numbers_more j u first = unfold answered in omega (arith, as_expected s o z)
  numbers_more j u (later {i = k} e) = omega (arith, f.numbers k u e, counted s o z)

  first_more : (u : Turn) → Entry (answered s o ∷ us) 0 u → u.offer.left ≡ s.shape
  first_more u first = unfold answered in as_ended s o z

  joints_more : (j : ℕ) (t u : Turn) → Entry (answered s o ∷ us) j t → Entry (answered s o ∷ us) (suc j) u → u.offer.left ≡ t.offer.right
  joints_more j t u first (later h) = unfold answered in f.first_joint u h ∙ remembered s o z
  joints_more j t u (later {i = k} g) (later h) = f.joints k t u g h

  ends_more : (j : ℕ) (u : Turn) → Entry (answered s o ∷ us) j u → suc (length us) ≡ suc j → last.shape ≡ u.offer.right
  ends_more j u first e = unfold answered in f.ends_none (omega arith) ∙ remembered s o z
  ends_more j u (later {i = k} g) e = f.ends k u g (omega arith)

  more-followed : Followed s (answered s o ∷ us) last
  more-followed = record {
    expected = omega (arith, f.expected, counted s o z);
    numbers = numbers_more;
    first_joint = first_more;
    joints = joints_more;
    ends_none = λ (e : suc (length us) ≡ 0). absurd (omega arith);
    ends = ends_more;
  }

followed : (offers : List Offer) (s : Stream) → Followed s (taken (run s offers)) (after s offers)
followed = of_taken Followed none-followed more-followed

-- the stream after a list expects as many more as were taken
expected_after : (offers : List Offer) (s : Stream) → (after s offers).expected ≡ s.expected + length (taken (run s offers))
expected_after offers s = (followed offers s).expected

numbers-from : (offers : List Offer) (s : Stream) (j : ℕ) (u : Turn) → Entry (taken (run s offers)) j u → u.offer.number ≡ s.expected + j
numbers-from offers s = (followed offers s).numbers

first-from : (offers : List Offer) (s : Stream) (u : Turn) → Entry (taken (run s offers)) 0 u → u.offer.left ≡ s.shape
first-from offers s = (followed offers s).first_joint

joints-from : (offers : List Offer) (s : Stream) (j : ℕ) (t u : Turn) → Entry (taken (run s offers)) j t → Entry (taken (run s offers)) (suc j) u → u.offer.left ≡ t.offer.right
joints-from offers s = (followed offers s).joints

after_none : (offers : List Offer) (s : Stream) → length (taken (run s offers)) ≡ 0 → (after s offers).shape ≡ s.shape
after_none offers s = (followed offers s).ends_none

after_last : (offers : List Offer) (s : Stream) (j : ℕ) (u : Turn) → Entry (taken (run s offers)) j u → length (taken (run s offers)) ≡ suc j → (after s offers).shape ≡ u.offer.right
after_last offers s = (followed offers s).ends

-- from a fresh stream
fresh-shape : (N : ℕ) → T (tabled N) → (fresh N).stream.shape ≡ 0
unfolding Y.fresh
fresh-shape N t = rw (fresh-is N t)

fresh_expects : (N : ℕ) → T (tabled N) → (fresh N).stream.expected ≡ 0
unfolding Y.fresh
fresh_expects N t = rw (fresh-is N t)

numbered-by : (N : ℕ) → T (tabled N) → (offers : List Offer) (j : ℕ) (u : Turn) → Entry (taken (turns N offers)) j u → u.offer.number ≡ j
unfolding turns
numbered-by N t offers j u e = omega (arith, fresh_expects N t, numbers-from offers (fresh N).stream j u e)

module _ (N : ℕ) (t : T (tabled N)) where
  -- ---- every turn of a list, whatever was offered
  record Turned (u : Turn) : Type 0 where
    no_four : u.answer.code ≢ 4
    kept_stream : u.answer.code ≢ 0 → u.answer.stream ≡ u.handed
    kept_buffer : u.answer.code ≢ 0 → u.output ≡ u.offer.buffer
    long : u.answer.code ≡ 0 → length u.output ≡ N / 2
    seven : u.offer.number ≢ u.handed.expected → u.answer.code ≡ 7
    for_number : u.answer.code ≡ 7 → u.offer.number ≢ u.handed.expected

  turned : (s : Stream) → Fine N s → (o : Offer) → Turned (answered s o)
  unfolding answered
  turned s fine o = rw (answered-code s o) (record {
    no_four = fine_four N t s fine o.number o.left o.right o.brought o.buffer;
    kept_stream = refused_stream s o;
    kept_buffer = refused_buffer s o;
    long = λ e. rw (taken_output s o e) (hop_long N s fine.n_is o.left o.right o.brought);
    seven = sound_seven s o.number o.left o.right o.brought o.buffer (fine_sound N t s fine);
    for_number = only_seven s o.number o.left o.right o.brought o.buffer;
  })

  every-turn : (offers : List Offer) (s : Stream) → Fine N s → (i : ℕ) (u : Turn) → Entry (run s offers) i u → Turned u
  unfolding run
  every-turn [] s fine i u e = absurd (no_entry e refl)
  every-turn (o ∷ offers) s fine i u first = turned s fine o
  every-turn (o ∷ offers) s fine i u (later {i = k} e) = every-turn offers (answered s o).answer.stream (fine_answered N t s fine o) k u e

  -- ---- the hops. P b l r c says that c is brought as block b, with joints of the shapes l and r; R b out is what is claimed of hop b as a buffer holds it, where blocks b and b + 1 meet
  module _ (P : (b l r : ℕ) → List ℤ → Type 0) (R : ℕ → List ℤ → Type 0)
      (meet : (b l j r : ℕ) (c₁ c₂ out : List ℤ) → P b l j c₁ → P (suc b) j r c₂ → ((n : ℕ) → n < N / 2 → at out n ≡ overlapped N l j r c₁ c₂ n) → R b out) where
    -- a stream behind the step that brought block b: its tail is what the block left, and it ends with the block's right joint
    record Before (b : ℕ) (s : Stream) : Type 0 where
      c : List ℤ
      l : ℕ
      brought : P b l s.shape c
      left : (n : ℕ) → n < N / 2 → at s.tail n ≡ V' N (rising l N) (falling s.shape N) c (N / 2 + n)

    record State (j : ℕ) (s : Stream) : Type 0 where
      fine : Fine N s
      before : (b : ℕ) → j ≡ suc b → Before b s

    module _ (s : Stream) (o : Offer) (zero_code : code s o ≡ 0) where
      kept : (b : ℕ) → State (suc b) s → P (suc b) o.left o.right o.brought → R b (answered s o).output
      kept b st brought =
          let v = st.before b refl in
          meet b v.l s.shape o.right v.c o.brought (answered s o).output v.brought (rw (as_ended s o zero_code) at brought) (is v)
        where
          is : (v : Before b s) (n : ℕ) → n < N / 2 → at (answered s o).output n ≡ overlapped N v.l s.shape o.right v.c o.brought n
          is v n p = rw (taken_output s o zero_code, hop_entry N s st.fine.n_is o.left o.right o.brought n p, v.left n p, as_ended s o zero_code)

      state_goes_on : (j : ℕ) → State j s → P j o.left o.right o.brought → State (suc j) (answered s o).answer.stream
      state_goes_on j st brought = record {
        fine = fine_answered N t s st.fine o;
        before = λ b e. record {
          c = o.brought;
          l = o.left;
          brought = let f : b ≡ j = omega arith in rw (f, remembered s o zero_code) brought;
          left = rw (remembered s o zero_code, taken_next N t s st.fine o zero_code) (next-at N s st.fine.n_is o.left o.right o.brought);
        };
      }

    -- ---- the taken turns of the rest of a list, from block j on
    record Bring (j : ℕ) (us : List Turn) : Type 0 where
      each : (i : ℕ) (u : Turn) → Entry us i u → P (j + i) u.offer.left u.offer.right u.offer.brought

    record Keep (j : ℕ) (us : List Turn) : Type 0 where
      each : (i : ℕ) (u : Turn) → Entry us i u → (b : ℕ) → j + i ≡ suc b → R b u.output

    bring-first : (j : ℕ) (u : Turn) (us : List Turn) → Bring j (u ∷ us) → P j u.offer.left u.offer.right u.offer.brought
    bring-first j u us br = let e : j + 0 ≡ j = omega arith in rw e at (br.each 0 u first)

    bring-later : (j : ℕ) (u : Turn) (us : List Turn) → Bring j (u ∷ us) → Bring (suc j) us
    bring-later j u us br = record { each = λ i v e. let f : suc j + i ≡ j + suc i = omega arith in rw f (br.each (suc i) v (later e)) }

    keep_none : (j : ℕ) → Keep j []
    keep_none j = record { each = λ i u e. absurd (no_entry e refl) }

    keep_cons : (j : ℕ) (u : Turn) (us : List Turn) → ((b : ℕ) → j ≡ suc b → R b u.output) → Keep (suc j) us → Keep j (u ∷ us)
    keep_cons j u us k ks = record { each = go }
      where
        go : (i : ℕ) (v : Turn) → Entry (u ∷ us) i v → (b : ℕ) → j + i ≡ suc b → R b v.output
        go i v first b e = k b (omega arith)
        go i v (later {i = l} h) b e = ks.each l v h b (omega arith)

    hops : (offers : List Offer) (s : Stream) (j : ℕ) → State j s → Bring j (taken (run s offers)) → Keep j (taken (run s offers))
    unfolding answered
    hops = of_taken (λ s us last. (j : ℕ) → State j s → Bring j us → Keep j us) (λ s j st br. keep_none j)
        (λ s o us last z ih j st br.
        let now : P j o.left o.right o.brought = bring-first j (answered s o) us br in
        keep_cons j (answered s o) us (λ b e. kept s o z b (rw e at st) (rw e at now)) (ih (suc j) (state_goes_on s o z j st now) (bring-later j (answered s o) us br)))

    state-fresh : State 0 (fresh N).stream
    state-fresh = record { fine = fine_made N t; before = λ b e. absurd (omega arith) }

    -- where each taken step brings the block of its number, the one that is taken under number b + 1 returns hop b: the taken step j brings block j, since j is its number
    pub every-hop : (offers : List Offer) → ((j : ℕ) (u : Turn) → Entry (taken (turns N offers)) j u → P u.offer.number u.offer.left u.offer.right u.offer.brought) →
        (j : ℕ) (u : Turn) → Entry (taken (turns N offers)) j u → (b : ℕ) → u.offer.number ≡ suc b → R b u.output
    unfolding turns
    every-hop offers brought j u e b f =
        (hops offers (fresh N).stream 0 state-fresh
        (record { each = λ i u e. let f : u.offer.number ≡ 0 + i = numbered-by N t offers i u e ∙ omega arith in rw f at (brought i u e) })
        ).each j u e b (omega (arith, f, numbered-by N t offers j u e))

  -- ---- what comes back of hop b where each coefficient is changed by at most its block's Q
  module _ (H : ℕ) (Q : ℕ → ℕ) (routes : ℕ → Route) (x : List ℤ) (rec : Recording N H x) where
    record Kept (b : ℕ) (out : List ℤ) : Type 0 where
      near : (n : ℕ) → n < N / 2 → nat_abs (at out n -ℤ at x (b * (N / 2) + n)) ≤ (3 * proved_change (Q b) (Q (suc b)) (routes b) (routes (suc b)) + 36) / 64
      same : Q b ≤ 9 → Q (suc b) ≤ 9 → routes b ≡ Direct → routes (suc b) ≡ Direct → (n : ℕ) → n < N / 2 → at out n ≡ at x (b * (N / 2) + n)

    all-hops : (offers : List Offer) → Numbered N H Q routes x (turns N offers) →
        (j : ℕ) (u : Turn) → Entry (taken (turns N offers)) j u → (b : ℕ) → u.offer.number ≡ suc b → Kept b u.output
    all-hops offers numbered = every-hop (Brought N H Q routes x) Kept meet offers numbered.each
      where
        meet : (b l j r : ℕ) (c₁ c₂ out : List ℤ) → Brought N H Q routes x b l j c₁ → Brought N H Q routes x (suc b) j r c₂ →
            ((n : ℕ) → n < N / 2 → at out n ≡ overlapped N l j r c₁ c₂ n) → Kept b out
        meet b l j r c₁ c₂ out brought₁ brought₂ is = record {
          near = λ n p. rw (is n p) (back-near N t H x rec Q routes b l j r c₁ c₂ brought₁ brought₂ n p);
          same = λ q q' e f n p. is n p ∙ back-same N t H x rec Q routes b l j r c₁ c₂ brought₁ brought₂ q q' e f n p;
        }

-- what holds of every list, whatever its steps bring
pub every_list : (N : ℕ) → T (tabled N) → (offers : List Offer) → Answered N (turns N offers) (final N offers)
unfolding turns final
every_list N t offers =
    let s = (fresh N).stream in
    let zero : s.expected ≡ 0 = fresh_expects N t in
    let each = every-turn N t offers s (fine_made N t) in
    let last = fine_after N t offers s (fine_made N t) in
    record {
      made = rw (fresh-is N t);
      no_four = λ i u e. (each i u e).no_four;
      numbers = numbered-by N t offers;
      first_joint = λ u e. first-from offers s u e ∙ fresh-shape N t;
      joints = joints-from offers s;
      seven = λ i u e n. (each i u e).seven (λ (f : u.offer.number ≡ u.handed.expected). n (omega (arith, f, zero, expected_at offers s i u e)));
      only_seven = λ i u e z f. (each i u e).for_number z (omega (arith, f, zero, expected_at offers s i u e));
      refused_stream = λ i u e. (each i u e).kept_stream;
      refused_buffer = λ i u e. (each i u e).kept_buffer;
      hop_long = λ j u e. let f = entry-taken (run s offers) j u e in (each f.place u f.entry).long f.zero_code;
      final_n = last.n_is;
      final_expected = omega (arith, zero, expected_after offers s);
      final_shape = after_last offers s;
      final_none = λ e. after_none offers s e ∙ fresh-shape N t;
      final_long = last.long;
      final_zero = last.zeros;
    }

-- the claim about the list as a whole: N is tabled, x is a recording, and each step that is taken brings the block of its number, block b changed by at most Q b
pub there_and_back : (N : ℕ) → T (tabled N) → (H : ℕ) (Q : ℕ → ℕ) (routes : ℕ → Route) (x : List ℤ) → Recording N H x →
    (offers : List Offer) → Numbered N H Q routes x (turns N offers) → Returned N Q routes x (turns N offers) (final N offers)
there_and_back N t H Q routes x rec offers numbered =
    let hop = all-hops N t H Q routes x rec offers numbered in
    record {
      answered = every_list N t offers;
      hop_near = λ j u e b f n p. near_asked (Q b) (Q (suc b)) (routes b) (routes (suc b)) ((hop j u e b f).near n p);
      hop_same = λ j u e b f q q'. (hop j u e b f).same (omega arith) (omega arith);
    }

-- once all blocks are taken, every sample has returned: sample i, in the hop of the step that was taken under number i / M + 1
pub holds_sample : (N : ℕ) → T (tabled N) → (H : ℕ) (offers : List Offer) → length (taken (turns N offers)) ≡ H + 1 → (i : ℕ) → i < H * (N / 2) →
    (u : Turn) × Entry (taken (turns N offers)) (suc (i / (N / 2))) u × (u.offer.number ≡ suc (i / (N / 2)))
holds_sample N t H offers all i p =
    let (u, e) = entry_at (taken (turns N offers)) (suc (i / (N / 2))) (omega (arith, all, (hop_of N t H i p).before)) in
    (u, e, numbered-by N t offers (suc (i / (N / 2))) u e)

pub whole-returned : (N : ℕ) → T (tabled N) → (H : ℕ) (Q : ℕ → ℕ) (routes : ℕ → Route) (x : List ℤ) → Recording N H x →
    (offers : List Offer) → Numbered N H Q routes x (turns N offers) → WholeReturned N H Q routes x (turns N offers)
whole-returned N t H Q routes x rec offers numbered =
    let back = there_and_back N t H Q routes x rec offers numbered in
    record {
      near = λ all i p.
          let l = hop_of N t H i p in
          let (u, e, f) = holds_sample N t H offers all i p in
          (u, e, f, rw (ap (at x) l.is) at (back.hop_near (suc (i / (N / 2))) u e (i / (N / 2)) f (i % (N / 2)) l.less));
      same = λ all i p q q' d d'.
          let l = hop_of N t H i p in
          let (u, e, f) = holds_sample N t H offers all i p in
          (u, e, f, back.hop_same (suc (i / (N / 2))) u e (i / (N / 2)) f q q' d d' (i % (N / 2)) l.less ∙ ap (at x) l.is);
    }

-- with one Q for all blocks it is document 01's claim
pub returned-one : (N : ℕ) → T (tabled N) → (H Q : ℕ) (routes : ℕ → Route) (x : List ℤ) → Recording N H x →
    (offers : List Offer) → Numbered N H (λ b. Q) routes x (turns N offers) → ReturnedOneQ N H Q routes x (turns N offers) (final N offers)
returned-one N t H Q routes x rec offers numbered = record {
  returned = there_and_back N t H (λ b. Q) routes x rec offers numbered;
  hop = back;
  whole = λ all i p.
      let l = hop_of N t H i p in
      let (u, e, f) = holds_sample N t H offers all i p in
      (u, e, f, rw (ap (at x) l.is) at (back (suc (i / (N / 2))) u e (i / (N / 2)) f (i % (N / 2)) l.less));
}
  where
    back : (j : ℕ) (u : Turn) → Entry (taken (turns N offers)) j u → (b : ℕ) → u.offer.number ≡ suc b → (n : ℕ) → n < N / 2 →
        Restored Q (routes b) (routes (suc b)) (at u.output n) (at x (b * (N / 2) + n))
    back j u e b f n p =
        let r = there_and_back N t H (λ b. Q) routes x rec offers numbered in
        restored Q (routes b) (routes (suc b)) (r.hop_near j u e b f n p) (λ q q' d d'. r.hop_same j u e b f q q' d d' n p)

-- and what is proved of it beyond that
pub there_and_back_sharper : (N : ℕ) → T (tabled N) → (H : ℕ) (Q : ℕ → ℕ) (routes : ℕ → Route) (x : List ℤ) → Recording N H x →
    (offers : List Offer) → Numbered N H Q routes x (turns N offers) → Sharper N Q routes x (turns N offers)
there_and_back_sharper N t H Q routes x rec offers numbered =
    let hop = all-hops N t H Q routes x rec offers numbered in
    record {
      hop_near = λ j u e b f. (hop j u e b f).near;
      hop_same = λ j u e b f. (hop j u e b f).same;
    }
