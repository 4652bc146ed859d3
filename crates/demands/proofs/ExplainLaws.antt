-- Laws of what `largest_share` explains: what it names, and that the sample is the same where all shares are zero. K is never zero, so a share is zero only where W is or where nothing changed.
use Rattle.std.specs.Prelude.{◌≡◌, refl, ◌≢◌, Bool, List, ℕ, zero, suc, ◌+◌, ◌-◌, ◌*◌, ◌/◌, ◌^◌, ◌≤◌, ◌<◌, T, length, ℤ, pos, negsuc, nat_abs, ◌+ℤ◌, ◌-ℤ◌, ◌*ℤ◌}
use Rattle.std.proofs.Math.Path.{sym, ap, ap₂}
use Rattle.std.proofs.Common.{◌∙◌, mul-pos}
use Rattle.std.proofs.Math.Bool.{true, cond}
use native.Mathlib.Omega.{arith}
use Rattle.std.proofs.Math.Decide.{ℕ_discrete}
use Rattle.arithmetic.specs.Rounding.{rnd, clamp}
use Rattle.arithmetic.specs.SumLaws.{sum_ext}
use Rattle.arithmetic.specs.Lists.{at, Small}
use Rattle.arithmetic.specs.IntegerLaws.{ints}
use Rattle.arithmetic.specs.TestLaws.{cond_lt, cond_ge}
use Rattle.cosine.specs.Kernels.{tabled, K, rising, falling}
use Rattle.cosine.specs.NonzeroLaws.{K-some}
use Rattle.transform.specs.Analysis.{window}
use Rattle.transform.specs.Synthesis.{U, V'}
use Rattle.stream.specs.declared.Stream.{Stream}
use Rattle.stream.specs.NextLaws.{hop_entry, next-n, next-at}
use Rattle.stream_calls.specs.Streams.{step}
use Rattle.shares.specs.Shares.{share_of, earlier, later, share_in, named, largest_share}
use Rattle.shares.specs.LargestLaws.{Foremost, named-first, share_sizes}
use Rattle.shares.specs.Products.{change_times}
use Rattle.orders.specs.declared.Order.{Order}
use Rattle.orders.specs.Orders.{part}
use Rattle.orders.specs.OrderLaws.{part_long, part_small}
use Rattle.recording_calls.specs.Recordings.{played_code, played_out}
use Rattle.share_calls.specs.Answers.{Share}
use Rattle.share_calls.specs.ShareCalls.{answered_with, share_answer}
use Rattle.share_calls.specs.ShareCallLaws.{Sizes, sizes}
use Rattle.share_calls.specs.RecordingShares.{share_at, numbered_from, place_code, both_ranged, recording_share}
use Rattle.share_calls.specs.RecordingShareLaws.{Placed, places, both_ranges}
use Rattle.reconstruction.specs.ReturnLaws.{none_equal}
use Rattle.demands.specs.StepLaws.{taken_stream, taken_buffer}
use Rattle.demands.proofs.ShareLaws.{share_answers, taken-tests, taken_is}
use Rattle.demands.specs.OrderAnswerLaws as R
use Rattle.demands.proofs.BackLaws.{left_at}
use Rattle.demands.specs.Answers.{InRange}
use Rattle.demands.specs.Demands.{Covering, ExplainedOn, ExplainedIn}

-- ---- a product of sizes is zero where one of them is
none_of : (z : ℤ) → nat_abs z ≡ 0 → z ≡ pos 0
none_of (pos n) e = ap pos e
none_of (negsuc n) e = absurd (omega (arith, e))

same_of : (a b : ℤ) → nat_abs (b -ℤ a) ≡ 0 → a ≡ b
same_of a b e = sym (none_equal b a (omega (arith, e)))

factor : (a b : ℕ) → a * b ≡ 0 → b ≢ 0 → a ≡ 0
factor zero b e n = refl
factor (suc a) b e n = absurd (omega (arith, mul-pos {m = suc a} {n = b} (omega arith) (omega (arith, n))))

-- ---- one block, at place i of it: w is W there
module _ (N i : ℕ) (t : T (tabled N)) (x y : List ℤ) (w : ℤ) (z : (k : ℕ) → k < N / 2 → share_of x y (K N i) w k ≡ 0) where
  times_same : Dec (nat_abs w ≡ 0) → w *ℤ U N x i ≡ w *ℤ U N y i
  unfolding U change_times
  times_same (yes e) = rw (none_of w e) (simp ints (omega arith))
  times_same (no n) = ap (λ (s : ℤ). w *ℤ rnd s (2 ^ 26)) (sum_ext (N / 2) (λ k. at x k *ℤ K N i k) (λ k. at y k *ℤ K N i k) (λ k p. ap (λ (a : ℤ). a *ℤ K N i k) (unchanged k p)))
    where
      unchanged : (k : ℕ) → k < N / 2 → at x k ≡ at y k
      unchanged k p =
          let c = factor (change_times N i x y k) (nat_abs w) (sym (share_sizes x y N i w k) ∙ z k p) n in
          same_of (at x k) (at y k) (factor (nat_abs (at y k -ℤ at x k)) (nat_abs (K N i k)) c (λ e. K-some N t i k (none_of (K N i k) e)))

  pub block_same : w *ℤ U N x i ≡ w *ℤ U N y i
  block_same = times_same (ℕ_discrete (nat_abs w) 0)

-- ---- what the steps return
module _ (N shape : ℕ) (t : T (tabled N)) (first first' second second' : List ℤ) (place : ℕ) (p : place < N / 2) where
  abbrev f : ℕ → ℕ
  f = earlier N shape place first first'

  abbrev g : ℕ → ℕ
  g = later N shape place second second'

  -- the second half of the earlier block, at the place
  falls : (left : ℕ) (x : List ℤ) → V' N (rising left N) (falling shape N) x (N / 2 + place) ≡ falling shape N place *ℤ U N x (N / 2 + place)
  unfolding V' window
  falls left x =
      let e : N / 2 + place - N / 2 ≡ place = omega arith in
      ap (λ (w : ℤ). w *ℤ U N x (N / 2 + place)) (cond_ge (N / 2 + place) (N / 2) (rising left N (N / 2 + place)) (falling shape N (N / 2 + place - N / 2)) (omega arith) ∙ ap (falling shape N) e)

  -- the first half of the later block
  rises : (right : ℕ) (x : List ℤ) → V' N (rising shape N) (falling right N) x place ≡ rising shape N place *ℤ U N x place
  unfolding V' window
  rises right x = ap (λ (w : ℤ). w *ℤ U N x place) (cond_lt place (N / 2) (rising shape N place) (falling right N (place - N / 2)) p)

  -- so a hop that two blocks cover does not depend on what the stream held, nor on their other joints
  sample_of : (x y hop : List ℤ) → Covering N shape x y hop →
      at hop place ≡ clamp (rnd (falling shape N place *ℤ U N x (N / 2 + place) +ℤ rising shape N place *ℤ U N y place) (N * 2 ^ 30))
  sample_of x y hop h =
      let s = h.stream in
      let u = (step s h.number h.left shape x h.room).stream in
      let is = taken_stream s h.number h.left shape x h.room h.taken in
      let n : u.n ≡ N = rw is (next-n N s h.n_is h.left shape x) in
      ap (λ (l : List ℤ). at l place) (h.is ∙ taken_buffer u h.next shape h.right y h.next_room h.next_taken)
      ∙ hop_entry N u n shape h.right y place p
      ∙ ap₂ (λ (a b : ℤ). clamp (rnd (a +ℤ b) (N * 2 ^ 30)))
      (ap (λ (v : Stream). at v.tail place) is ∙ next-at N s h.n_is h.left shape x place p ∙ falls h.left x)
      (rises h.right y)

  module _ (none : (j k : ℕ) → j < 2 → k < N / 2 → share_in f g j k ≡ 0) where
    sample-same : (hop hop' : List ℤ) → Covering N shape first second hop → Covering N shape first' second' hop' → at hop place ≡ at hop' place
    unfolding earlier later share_in
    sample-same hop hop' h h' =
        sample_of first second hop h
        ∙ ap₂ (λ (a b : ℤ). clamp (rnd (a +ℤ b) (N * 2 ^ 30)))
        (block_same N (N / 2 + place) t first first' (falling shape N place) (λ k q. none 0 k (omega arith) q))
        (block_same N place t second second' (rising shape N place) (λ k q. none 1 k (omega arith) q))
        ∙ sym (sample_of first' second' hop' h')

-- ---- the answer
pub explained_on : (N shape : ℕ) (first first' second second' : List ℤ) (place : ℕ) → (share_answer N shape first first' second second' place).code ≡ 0 →
    ExplainedOn N shape first first' second second' place (share_answer N shape first first' second second' place)
unfolding largest_share
explained_on N shape first first' second second' place z =
    rw (taken_is N shape first first' second second' place z)
    (record {
      inside = r.inside (omega (arith, k.place_is));
      some = r.something;
      most = r.most;
      before = r.earliest;
      zero_all = r.nothing;
      same = λ none. sample-same N shape k.length_is first first' second second' place k.place_is (r.nothing none);
    })
  where
    r : Foremost (earlier N shape place first first') (later N shape place second second') (N / 2) (named (N / 2) (earlier N shape place first first') (later N shape place second second'))
    r = named-first (earlier N shape place first first') (later N shape place second second') (N / 2)

    k : Sizes N shape first first' second second' place
    k = sizes N shape first first' second second' place (taken-tests N shape first first' second second' place z).0

-- ---- of a recording: the blocks h and h + 1
module _ (order : Order) (N H : ℕ) (X X' : List ℤ) (hop place : ℕ) (z : (recording_share order N H X X' hop place).code ≡ 0) where
  abbrev c : ℕ → List ℤ
  c = part order (N / 2) (H + 1) X

  abbrev c' : ℕ → List ℤ
  c' = part order (N / 2) (H + 1) X'

  tests : (place_code N H X X' hop place ≡ 0) × (both_ranged N H X X' ≡ true)
  tests = R.taken-tests N H X X' hop place order z

  placed : Placed N H X X' hop place
  placed = places N H X X' hop place tests.0

  lies_in_range : (x : List ℤ) → length x ≡ (H + 1) * (N / 2) → Small x (2 ^ 29) → (b : ℕ) → b ≤ H → InRange (part order (N / 2) (H + 1) x b)
  lies_in_range x l r b p = record { each = (part_small (N / 2) (H + 1) order x l (2 ^ 29) r b (omega arith)).small }

  -- as P9's call answers of them
  abbrev between : Share
  between = share_answer N 0 (c hop) (c' hop) (c (suc hop)) (c' (suc hop)) place

  between_is : between ≡ answered_with (share_at order N H X X' hop place)
  unfolding share_at
  between_is =
      let r = both_ranges N H X X' hop place tests.0 tests.1 in
      let M = N / 2 in
      let B = H + 1 in
      (share_answers N 0 (c hop) (c' hop) (c (suc hop)) (c' (suc hop)) place).taken placed.length_is (omega arith)
      (record {
        first_is = part_long M B order X hop;
        first_changed_is = part_long M B order X' hop;
        second_is = part_long M B order X (suc hop);
        second_changed_is = part_long M B order X' (suc hop);
        place_is = placed.place_is;
      })
      (record {
        first_is = lies_in_range X placed.original_is r.0 hop (omega (arith, placed.hop_is));
        first_changed_is = lies_in_range X' placed.changed_is r.1 hop (omega (arith, placed.hop_is));
        second_is = lies_in_range X placed.original_is r.0 (suc hop) placed.hop_is;
        second_changed_is = lies_in_range X' placed.changed_is r.1 (suc hop) placed.hop_is;
      })

  explained_between : ExplainedOn N 0 (c hop) (c' hop) (c (suc hop)) (c' (suc hop)) place between
  explained_between = explained_on N 0 (c hop) (c' hop) (c (suc hop)) (c' (suc hop)) place (ap (λ (a : Share). a.code) between_is)

  is : recording_share order N H X X' hop place ≡ answered_with (numbered_from hop (share_at order N H X X' hop place))
  is = R.taken_is N H X X' hop place order z

  any_is : (recording_share order N H X X' hop place).any ≡ between.any
  unfolding numbered_from
  any_is = ap (λ (a : Share). a.any) is ∙ sym (ap (λ (a : Share). a.any) between_is)

  -- the sample there, of the one and of the other
  module _ (none : (j k : ℕ) → j < 2 → k < N / 2 → share_in (earlier N 0 place (c hop) (c' hop)) (later N 0 place (c (suc hop)) (c' (suc hop))) j k ≡ 0) where
    abbrev clipped : ℤ → ℤ → ℤ
    clipped a b = clamp (rnd (a +ℤ b) (N * 2 ^ 30))

    sample-at : (x out : List ℤ) → played_code N H x out ≡ 0 →
        at (played_out order N H x out) (hop * (N / 2) + place)
        ≡ clipped (falling 0 N place *ℤ U N (part order (N / 2) (H + 1) x hop) (N / 2 + place)) (rising 0 N place *ℤ U N (part order (N / 2) (H + 1) x (suc hop)) place)
    sample-at x out e =
        let d = part order (N / 2) (H + 1) x in
        left_at order N H x out e hop place placed.hop_is placed.place_is
        ∙ ap₂ clipped
        (falls N 0 placed.length_is (d hop) (d hop) (d (suc hop)) (d (suc hop)) place placed.place_is 0 (d hop))
        (rises N 0 placed.length_is (d hop) (d hop) (d (suc hop)) (d (suc hop)) place placed.place_is 0 (d (suc hop)))

    same_in : (out out' : List ℤ) → played_code N H X out ≡ 0 → played_code N H X' out' ≡ 0 →
        at (played_out order N H X out) (hop * (N / 2) + place) ≡ at (played_out order N H X' out') (hop * (N / 2) + place)
    unfolding earlier later share_in
    same_in out out' e e' =
        sample-at X out e
        ∙ ap₂ clipped
        (block_same N (N / 2 + place) placed.length_is (c hop) (c' hop) (falling 0 N place) (λ k q. none 0 k (omega arith) q))
        (block_same N place placed.length_is (c (suc hop)) (c' (suc hop)) (rising 0 N place) (λ k q. none 1 k (omega arith) q))
        ∙ sym (sample-at X' out' e')

  pub explained_in : ExplainedIn order N H X X' hop place (recording_share order N H X X' hop place)
  unfolding numbered_from
  explained_in = record {
    between = between;
    between_taken = ap (λ (a : Share). a.code) between_is;
    between_is = refl;
    explained = explained_between;
    any_is = any_is;
    block_is = λ e.
        let n = share_at order N H X X' hop place in
        let f : n.any ≡ true = sym (ap (λ (a : Share). a.any) is) ∙ e in
        ap (λ (a : Share). a.block) is ∙ ap (λ (b : Bool). cond b (hop + n.block) 0) f ∙ ap (λ (a : Share). hop + a.block) (sym between_is);
    coefficient_is = ap (λ (a : Share). a.coefficient) is ∙ sym (ap (λ (a : Share). a.coefficient) between_is);
    same = λ e out out'. same_in (explained_between.zero_all (sym any_is ∙ e)) out out';
  }
