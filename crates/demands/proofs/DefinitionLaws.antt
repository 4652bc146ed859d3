-- Laws of what the public calls compute: `demand_2`, that every coefficient and every sample is document 01's.
use Rattle.std.specs.Prelude.{◌≡◌, refl, true, cond, T, ltb, length, ℤ, pos, ◌+ℤ◌, ◌-ℤ◌}
use Rattle.std.proofs.Math.Path.{sym, ap}
use Rattle.std.proofs.Common.{◌∙◌}
use mathlib.Core.List.{List, ◌∷◌, ◌++◌, append_assoc, append-nil}
use Prim.Native.Nat.{ℕ, zero, suc, ◌+◌, ◌-◌, ◌*◌, ◌/◌, ◌^◌, ◌≤◌, ◌<◌}
use native.Mathlib.Omega.{arith}
use Rattle.std.proofs.Math.Decide.{dec_lt}
use Rattle.std.proofs.Math.ListN.{drop}
use Rattle.std.proofs.Math.Seq.{drop_at}
use Rattle.std.proofs.Math.IntN.{nat_abs}
use Rattle.arithmetic.specs.Rounding.{rnd, clamp, Sample}
use Rattle.arithmetic.specs.RoundingLaws.{sample_abs}
use Rattle.arithmetic.specs.Lists.{at, joined}
use Rattle.arithmetic.specs.ListLaws.{get_d_table}
use Rattle.arithmetic.specs.TestLaws.{cond_lt, cond_ge, is_T}
use Rattle.cosine.specs.Kernels.{tabled, W, rising, falling}
use Rattle.cosine.specs.LengthLaws.{tabled_length, part_of}
use Rattle.transform.specs.Analysis as A
use Rattle.transform.specs.Synthesis as Y
use Rattle.transform.specs.SizeLaws.{y-size}
use Rattle.transform.specs.DirectLaws.{S_ext}
use Rattle.split.specs.ShortRoute.{short_x, short, units}
use Rattle.split.specs.ShortRoute as R
use Rattle.split.specs.ShortLaws.{middle-exact, within_16}
use Rattle.split.specs.ShortStepLaws.{short_ext}
use Rattle.double_route.specs.Double as D
use Rattle.double_route.specs.Double.{double_x, double}
use Rattle.double_route.specs.DoubleLaws.{double_ext}
use Rattle.double_route.specs.NearLaws.{within_32}
use Rattle.stream.specs.declared.Stream.{Stream}
use Rattle.stream.specs.Steps.{stream_after, returned}
use Rattle.cosine.specs.KernelLaws.{rising-size, falling-size}
use Rattle.stream.specs.NextLaws.{Fine, hop_long, hop_entry, next-n, next_expected, next-shape, next-at, next-kept, stream_expected, stream_shape, returned_long}
use Rattle.analysis.specs.declared.Route.{Route}
use Rattle.analysis.specs.declared.Route.TheVariants.{Direct, Short, Double}
use Rattle.analysis.specs.Analysis.{offered, coefficients}
use Rattle.orders.specs.declared.Order.{Order}
use Rattle.orders.specs.Orders.{part, laid}
use Rattle.orders.specs.OrderLaws.{laid_long, part-laid, part_long, part_at}
use Rattle.recording.specs.Recordings.{block, analysis, synthesis}
use Rattle.recording.specs.BlockLaws.{block_long}
use Rattle.arithmetic.specs.JoinLaws.{joined_front}
use Rattle.analysis.specs.AnalysisLaws.{offered-tabled, coefficients-length}
use Rattle.recording.specs.RecordingLaws.{part_range, stream_fine}
use Rattle.stream_calls.specs.Answers.{Made}
use Rattle.block_calls.specs.Analysis.{analyse_causes, analyse_code, analyse_out}
use Rattle.checks.specs.Causes.First.{none, pass}
use Rattle.checks.specs.CauseLaws.{same}
use Rattle.block_calls.specs.AnalysisLaws.{analysed-offered, analyse_answer, analyse_taken}
use Rattle.checks.specs.Limits.{tail_limit, are_shapes}
use Rattle.stream_calls.specs.Streams.{step_code}
use Rattle.recording_calls.specs.Recordings.{recorded_code, recorded_out, played_code}
use Rattle.recording_calls.specs.RecordingLaws.{recorded_facts, recorded_taken, Played, played_facts, played_taken}
use Rattle.checks.specs.LimitLaws.{counted-most}
use Rattle.page.specs.Page.{page_code, page_out}
use Rattle.page.specs.PageLaws.{page_count, page_ended, page_long, byte_at, columns-at, no_feed_at, number_at, apart_at, block_at, blanks_at, page_only}
use Rattle.page.specs.AnswerLaws.{Paged, page_facts, page_taken}
use Rattle.demands.proofs.MovedLaws.{levelled_on, restored_on, ruled_on}
use Rattle.demands.proofs.ExplainLaws.{explained_on, explained_in}
use Rattle.demands.specs.StepLaws.{taken_stream, taken_buffer}
use Rattle.demands.proofs.RecordingLaws.{windowed, by-direct, by-short, by-double}
use Rattle.demands.specs.Steps.{Offer, Turn, answered, run, turns, Entry}
use Rattle.demands.specs.Steps.Entry.{first, later}
use Rattle.demands.proofs.RunLaws.{code, answered-code, no_entry}
use Rattle.demands.proofs.StreamLaws.{fresh-is}
use Rattle.demands.proofs.AnswerLaws.{demand_1}
use Rattle.demands.specs.Recordings.{offering, outputs}
use Rattle.demands.proofs.OrderLaws.{alike_of}
use Rattle.demands.specs.Answers.{SoundTail, Fitting}
use Rattle.demands.specs.Demands.{window, y, X, V', Analysed, SteppedOn, RecordedOn, PlayedOn, Alike, PagedOn, Demand2}

-- ---- the window is that of the definitions below, and with long joints it is W
window-is : (N l r n : ℕ) → A.window N (rising l N) (falling r N) n ≡ window N l r n
unfolding A.window
window-is N l r n = refl

long_window : (N n : ℕ) → n < N → window N 0 0 n ≡ W N n
unfolding rising falling
long_window N n less = go (dec_lt n (N / 2))
  where
    go : Dec (n < N / 2) → cond (ltb n (N / 2)) (W N n) (W N (N / 2 + (n - N / 2))) ≡ W N n
    go (yes p) = cond_lt n (N / 2) (W N n) (W N (N / 2 + (n - N / 2))) p
    go (no p) =
        let e : N / 2 + (n - N / 2) ≡ n = omega arith in
        cond_ge n (N / 2) (W N n) (W N (N / 2 + (n - N / 2))) (omega arith) ∙ ap (W N) e

y-is : (N l r : ℕ) (x : List ℤ) (n : ℕ) → windowed N l r x n ≡ y N l r x n
unfolding A.y
y-is N l r x n = rw (window-is N l r n)

V_is : (N l r : ℕ) (c : List ℤ) (n : ℕ) → Y.V' N (rising l N) (falling r N) c n ≡ V' N l r c n
unfolding Y.V' Y.U
V_is N l r c n = rw (window-is N l r n)

X-is : (N l r : ℕ) (x : List ℤ) (k : ℕ) → A.X N (windowed N l r x) k ≡ X N l r x k
unfolding A.X A.S
X-is N l r x k = ap (λ (z : ℤ). rnd z (2 ^ 28)) (S_ext N (windowed N l r x) (y N l r x) (λ n p. y-is N l r x n) k)

-- ---- one block
module _ (route : Route) (N l r : ℕ) (x out : List ℤ) (e : analyse_code route N l r x out ≡ 0) where
  analysed-is : analyse_out route N l r x out ≡ coefficients route N l r x
  analysed-is = sym (analyse_taken route N l r x out e).1

module _ (N l r : ℕ) (x out : List ℤ) (k : ℕ) (p : k < N / 2) where
  direct_is : analyse_code Direct N l r x out ≡ 0 → at (analyse_out Direct N l r x out) k ≡ X N l r x k
  direct_is e = rw (analysed-is Direct N l r x out e) (by-direct N l r x k p ∙ X-is N l r x k)

  module _ (e : analyse_code Short N l r x out ≡ 0) where
    short-offered : T (R.offered N)
    unfolding offered
    short-offered = analysed-offered Short N l r x out e

    tab : T (tabled N)
    tab = offered-tabled Short N (analysed-offered Short N l r x out e)

    short-at : at (analyse_out Short N l r x out) k ≡ short_x N (windowed N l r x) k
    short-at = rw (analysed-is Short N l r x out e) (by-short N l r x k p)

    short-is : at (analyse_out Short N l r x out) k ≡ short_x N (y N l r x) k
    unfolding short
    short-is =
        short-at
        ∙ sym (get_d_table (short_x N (windowed N l r x)) (pos 0) (N / 2) k p)
        ∙ ap (λ (q : List ℤ). at q k) (short_ext N (windowed N l r x) (y N l r x) (λ n q. y-is N l r x n))
        ∙ get_d_table (short_x N (y N l r x)) (pos 0) (N / 2) k p

    short-near : ((n : ℕ) → n < N → Sample (at x n)) → nat_abs (at (analyse_out Short N l r x out) k -ℤ X N l r x k) ≤ units
    short-near samples =
        rw (short-at, ← (X-is N l r x k))
        (within_16 N short-offered (windowed N l r x)
        (y-size N (rising l N) (falling r N) (part_of N tab) (λ n q. rising-size l N n) (λ n q. falling-size r N n) x (λ n q. sample_abs (samples n q))) k p)

    short-exact : (i : ℕ) → k ≡ 3 * i + 1 → at (analyse_out Short N l r x out) k ≡ X N l r x k
    short-exact i f = short-at ∙ ap (short_x N (windowed N l r x)) f ∙ middle-exact N short-offered (windowed N l r x) i ∙ ap (A.X N (windowed N l r x)) (sym f) ∙ X-is N l r x k

  module _ (e : analyse_code Double N l r x out ≡ 0) where
    double-offered : T (D.offered N)
    unfolding offered
    double-offered = analysed-offered Double N l r x out e

    double-at : at (analyse_out Double N l r x out) k ≡ double_x N (windowed N l r x) k
    double-at = rw (analysed-is Double N l r x out e) (by-double N l r x k p)

    double-is : at (analyse_out Double N l r x out) k ≡ double_x N (y N l r x) k
    unfolding double
    double-is =
        double-at
        ∙ sym (get_d_table (double_x N (windowed N l r x)) (pos 0) (N / 2) k p)
        ∙ ap (λ (q : List ℤ). at q k) (double_ext N (windowed N l r x) (y N l r x) (λ n q. y-is N l r x n))
        ∙ get_d_table (double_x N (y N l r x)) (pos 0) (N / 2) k p

    double_near : ((n : ℕ) → n < N → Sample (at x n)) → nat_abs (at (analyse_out Double N l r x out) k -ℤ X N l r x k) ≤ D.units
    double_near samples =
        rw (double-at, ← (X-is N l r x k))
        (within_32 N double-offered (windowed N l r x)
        (y-size N (rising l N) (falling r N) (part_of N (offered-tabled Double N (analysed-offered Double N l r x out e))) (λ n q. rising-size l N n) (λ n q. falling-size r N n) x (λ n q. sample_abs (samples n q))) k p)

  analysed : Analysed N l r x out k
  analysed = record { direct = direct_is; short = short-is; near = short-near; exact = short-exact; double = double-is; double_near = double_near }

-- ---- one step
stepped_on : (s : Stream) (number l r : ℕ) (x out : List ℤ) → step_code s number l r x out ≡ 0 → SteppedOn s number l r x out
stepped_on s number l r x out e = record {
  long = rw (taken_buffer s number l r x out e) (hop_long s.n s refl l r x);
  hop = λ n p. rw (taken_buffer s number l r x out e) (hop_entry s.n s refl l r x n p ∙ ap (λ (z : ℤ). clamp (rnd (at s.tail n +ℤ z) (s.n * 2 ^ 30))) (V_is s.n l r x n));
  n_kept = rw (taken_stream s number l r x out e) (next-n s.n s refl l r x);
  counted = rw (taken_stream s number l r x out e) (next_expected s.n s refl l r x);
  remembered = rw (taken_stream s number l r x out e) (next-shape s.n s refl l r x);
  tail = λ n p. rw (taken_stream s number l r x out e) (next-at s.n s refl l r x n p ∙ V_is s.n l r x (s.n / 2 + n));
  storage = rw (taken_stream s number l r x out e) (next-kept s.n s refl l r x);
}

-- ---- a recording is its blocks, analysed one by one
long_shapes : are_shapes 0 0 ≡ true
unfolding are_shapes
long_shapes = refl

recorded_on : (route : Route) (order : Order) (N H : ℕ) (x out : List ℤ) → recorded_code route N H x out ≡ 0 → RecordedOn route order N H x out
unfolding analysis analyse_causes
recorded_on route order N H x out e =
    let f = recorded_facts route N H x out e in
    let t = offered-tabled route N (is_T f.offers) in
    let two : N / 2 + N / 2 ≡ N = omega (arith, (tabled_length N t).twelve) in
    let g : ℕ → List ℤ = λ b. coefficients route N 0 0 (block N x b) in
    let is : recorded_out route order N H x out ≡ laid order (N / 2) (H + 1) g = sym (recorded_taken route order N H x out e).1 in
    record {
      long = rw is (laid_long (N / 2) (H + 1) order g);
      each = λ b p room l.
          let z = sym (analyse_answer route N 0 0 (block N x b) room (pass f.offers (pass long_shapes (same (block_long N H two x f.long b p) (same l none))))).0 in
          (z, rw is (part-laid (N / 2) (H + 1) order g b (omega arith) (coefficients-length route N 0 0 (block N x b))) ∙ (analyse_taken route N 0 0 (block N x b) room z).1);
    }

-- ---- and a synthesis is the steps of a stream
module _ (order : Order) (N H : ℕ) (x out : List ℤ) (e : played_code N H x out ≡ 0) (rooms : ℕ → List ℤ) (fit : (b : ℕ) → b ≤ H → length (rooms b) ≡ N / 2) where
  -- its blocks
  abbrev B : ℕ
  B = H + 1

  abbrev c : ℕ → List ℤ
  c = part order (N / 2) B x

  facts : Played N H x out
  facts = played_facts N H x out e

  offer-at : ℕ → Offer
  offer-at b = record { number = b; left = 0; right = 0; brought = c b; buffer = rooms b }

  -- block b is taken by the stream after b steps
  taken_at : (b : ℕ) → b < B → code (stream_after N c b) (offer-at b) ≡ 0
  unfolding offer-at tail_limit
  taken_at b p =
      let s = stream_after N c b in
      let fine = stream_fine N facts.length_is B order x facts.long facts.range b (omega arith) in
      let l = part_long (N / 2) B order x b in
      (demand_1.stepped s b 0 0 (c b) (rooms b)).taken (fitting b fine) (rw fine.n_is l) (rw fine.n_is (fit b (omega arith)))
      (record { each = (part_range N facts.length_is B order x facts.long facts.range b p).small })
    where
      tail_is_sound : (s : Stream) → s.n ≡ N → ((n : ℕ) → n < N / 2 → nat_abs (at s.tail n) ≤ N / 2 * 2 ^ 55) → SoundTail s
      tail_is_sound s i h = record { each = rw i h }

      fitting : (b : ℕ) → Fine N (stream_after N c b) → Fitting (stream_after N c b) b 0 0
      fitting b fine = record {
        length_is = rw fine.n_is facts.length_is;
        tail_is = tail_is_sound (stream_after N c b) fine.n_is fine.limited;
        number_is = sym (stream_expected N c b);
        shapes = record { left_is = omega arith; right_is = omega arith };
        left_is = sym (stream_shape N c b);
      }

  output_is : (b : ℕ) → b < B → (answered (stream_after N c b) (offer-at b)).output ≡ returned N c b
  unfolding answered offer-at returned
  output_is b p = taken_buffer (stream_after N c b) b 0 0 (c b) (rooms b) (taken_at b p)

  stream_is : (b : ℕ) → b < B → (answered (stream_after N c b) (offer-at b)).answer.stream ≡ stream_after N c (suc b)
  unfolding answered offer-at stream_after
  stream_is b p = taken_stream (stream_after N c b) b 0 0 (c b) (rooms b) (taken_at b p)

  -- the steps from block b on
  from : ℕ → ℕ → List Turn
  from b count = run (stream_after N c b) (offering order N H x rooms b count)

  from_next : (b count : ℕ) → b < B → from b (suc count) ≡ answered (stream_after N c b) (offer-at b) ∷ from (suc b) count
  unfolding from offering run offer-at
  from_next b count p = ap (λ (s : Stream). answered (stream_after N c b) (offer-at b) ∷ run s (offering order N H x rooms (suc b) count)) (stream_is b p)

  abbrev hops : ℕ → List ℤ
  hops = returned N c

  joined-from : (count b : ℕ) → b + count ≡ B → joined B hops ≡ joined b hops ++ outputs (from b count)
  unfolding joined outputs from offering run
  joined-from zero b i = let f : B ≡ b = omega arith in ap (λ (k : ℕ). joined k hops) f ∙ sym (append-nil (joined b hops))
  joined-from (suc count) b i =
      let p : b < B = omega arith in
      joined-from count (suc b) (omega arith)
      ∙ append_assoc (joined b hops) (hops b) (outputs (from (suc b) count))
      ∙ ap (λ (l : List ℤ). joined b hops ++ (l ++ outputs (from (suc b) count))) (sym (output_is b p))
      ∙ ap (λ (ts : List Turn). joined b hops ++ outputs ts) (sym (from_next b count p))

  zero-from : (count b : ℕ) → b + count ≡ B → (i : ℕ) (t : Turn) → Entry (from b count) i t → t.answer.code ≡ 0
  unfolding from offering run
  zero-from zero b f i t h = absurd (no_entry h refl)
  zero-from (suc count) b f i t h = go (rw (from_next b count less) at h) (zero-from count (suc b) (omega arith))
    where
      less : b < B
      less = omega arith

      go : {us : List Turn} {i : ℕ} {t : Turn} → Entry (answered (stream_after N c b) (offer-at b) ∷ us) i t → ((i : ℕ) (t : Turn) → Entry us i t → t.answer.code ≡ 0) → t.answer.code ≡ 0
      go first ih = answered-code (stream_after N c b) (offer-at b) ∙ taken_at b less
      go {t = u} (later {i = k} l) ih = ih k u l

  turns_are : turns N (offering order N H x rooms 0 B) ≡ from 0 B
  unfolding turns from stream_after
  turns_are = ap (λ (m : Made). run m.stream (offering order N H x rooms 0 B)) (fresh-is N facts.length_is)

  -- the first hop that comes back is the run-in
  all_but_first : synthesis order N H x ≡ drop (N / 2) (joined B hops)
  unfolding synthesis
  all_but_first =
      let f : B ≡ suc H = omega arith in
      sym (ap (λ (k : ℕ). drop (N / 2) (joined k hops)) f ∙ ap (drop (N / 2)) (joined_front H hops) ∙ drop_at (hops 0) (joined H (λ h. hops (suc h))) (N / 2) (returned_long N c 0))

  played_on : PlayedOn order N H x out rooms
  unfolding joined
  played_on = record {
    taken = λ i t h. zero-from B 0 (omega arith) i t (rw turns_are at h);
    hops = sym (played_taken order N H x out e).1 ∙ all_but_first ∙ ap (drop (N / 2)) (joined-from B 0 (omega arith) ∙ ap outputs (sym turns_are));
  }

-- ---- a printed page
module _ (order : Order) (N H : ℕ) (x : List ℤ) (out : List ℕ) (e : page_code N H x out ≡ 0) where
  paged : Paged N H x
  paged = page_facts N H x out e

  hops-most : H ≤ 4095
  hops-most = counted-most H paged.hops

  paged_on : PagedOn order N H x (page_out order N H x out)
  paged_on =
      let t = paged.length_is in
      let long = paged.long in
      let range = paged.range in
      rw (page_taken order N H x out e) (record {
        is = refl;
        long = page_long order N t H hops-most x long range;
        byte = byte_at order N t H hops-most x long range;
        count = page_count order N t H hops-most x long range;
        ended = page_ended order N t H hops-most x long range;
        columns_long = columns-at order N t H hops-most x long range;
        no_feed = no_feed_at order N t H hops-most x long range;
        number = λ b j i p q r.
            let n = number_at order N t H hops-most x long range b j i p q r in
            (n.0, n.1 ∙ part_at (N / 2) (H + 1) order x b (6 * j + i) (omega (arith, (tabled_length N t).twelve)));
        apart = apart_at order N t H hops-most x long range;
        block = block_at order N t H hops-most x long range;
        blanks = blanks_at order N t H hops-most x long range;
      })

two_pages : (order order' : Order) (N H : ℕ) (x y : List ℤ) (out out' : List ℕ) → page_code N H x out ≡ 0 → page_code N H y out' ≡ 0 → page_out order N H x out ≡ page_out order' N H y out' →
    Alike N H order order' x y
two_pages order order' N H x y out out' e f same =
    let p = page_facts N H x out e in
    let q = page_facts N H y out' f in
    alike_of N H order order' x y p.long q.long
    (page_only order order' N p.length_is H (counted-most H p.hops) x y p.long q.long p.range q.range (sym (page_taken order N H x out e) ∙ same ∙ page_taken order' N H y out' f))

pub demand_2 : Demand2
demand_2 = record {
  long_window = long_window;
  analysed = λ route N l r x out e. rw (analysed-is route N l r x out e) (coefficients-length route N l r x);
  coefficient = analysed;
  stepped = stepped_on;
  recorded = recorded_on;
  played = λ order N H x out e rooms fit. played_on order N H x out e rooms fit;
  paged = paged_on;
  pages = two_pages;
  ruled = ruled_on;
  quantised = levelled_on;
  dequantised = restored_on;
  explained = explained_on;
  explained_in = explained_in;
}
