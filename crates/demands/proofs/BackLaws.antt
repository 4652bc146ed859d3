-- Demand 3 for the calls over whole recordings, the theorems: `back_by_one_call` and `back_block_by_block`. They go by the steps that the synthesis
-- is defined by.
use Rattle.std.specs.Prelude.{◌≡◌, List, ℕ, suc, ◌+◌, ◌*◌, ◌/◌, ◌%◌, ◌≤◌, ◌<◌, T, length, ℤ, pos, nat_abs, ◌-ℤ◌}
use Rattle.std.proofs.Math.Path.{sym}
use Rattle.std.proofs.Common.{ap, ◌∙◌, arith}
use Rattle.arithmetic.specs.Lists.{at, joined}
use Rattle.arithmetic.specs.Rounding.{Sample}
use Rattle.cosine.specs.Kernels.{tabled}
use Rattle.stream.specs.Steps.{returned}
use Rattle.stream.specs.NextLaws.{returned_long, returned-at}
use Rattle.analysis.specs.declared.Route.{Route}
use Rattle.analysis.specs.declared.Route.TheVariants.{Direct}
use Rattle.analysis.specs.Analysis.{offered, coefficients}
use Rattle.orders.specs.declared.Order.{Order}
use Rattle.orders.specs.Orders.{place, part}
use Rattle.orders.specs.OrderLaws.{part_at, part_long, laid-at}
use Rattle.recording.specs.Recordings.{block, analysis, synthesis}
use Rattle.arithmetic.specs.JoinLaws.{Place, joined_length, joined_at}
use Rattle.block_calls.specs.AnalysisLaws.{analysed-offered, analyse_taken}
use Rattle.arithmetic.specs.TestLaws.{is_T}
use Rattle.recording_calls.specs.Recordings.{played_code, played_out, inner_of}
use Rattle.checks.specs.LimitLaws.{counted-some}
use Rattle.recording_calls.specs.RecordingLaws.{Recorded, recorded_facts, recorded_taken, Played, played_facts, played_taken, shaped_of}
use Rattle.demands.specs.Steps.{Recording, Brought, proved_change}
use Rattle.demands.proofs.RecordingLaws.{overlapped, hop_of, back-near, back-same, near_asked, restored}
use Rattle.demands.specs.Recordings.{ByOneCall, BlockByBlock, Back, BackOneQ, SharperBack}

-- ---- what a synthesis left: the samples of hop h are what the tail of block h and block h + 1 give
module _ (order : Order) (N H : ℕ) (X out : List ℤ) (played : played_code N H X out ≡ 0) where
  -- the coefficients of block b, and hop h as it comes back
  abbrev blocks : ℕ → List ℤ
  blocks = part order (N / 2) (H + 1) X

  abbrev hops : ℕ → List ℤ
  hops h = returned N blocks (suc h)

  left_is : played_out order N H X out ≡ joined H hops
  unfolding synthesis
  left_is = sym (played_taken order N H X out played).1

  left_long : length (played_out order N H X out) ≡ H * (N / 2)
  left_long = ap length left_is ∙ joined_length hops (N / 2) H (λ h p. returned_long N blocks (suc h)) H (omega arith)

  pub left_at : (h n : ℕ) → h < H → n < N / 2 →
      at (played_out order N H X out) (h * (N / 2) + n) ≡ overlapped N 0 0 0 (blocks h) (blocks (suc h)) n
  left_at h n p q =
      ap (λ (l : List ℤ). at l (h * (N / 2) + n)) left_is
      ∙ joined_at hops (N / 2) H (λ h p. returned_long N blocks (suc h)) (pos 0) H h n (omega arith) p q
      ∙ returned-at N blocks h n q

module _ (N H : ℕ) (Q : ℕ → ℕ) (routes : ℕ → Route) (order : Order) (x X out : List ℤ) (rec : Recording N H x) (played : played_code N H X out ≡ 0)
    (offers : (b : ℕ) → b ≤ H → T (offered (routes b) N))
    (changed : (b : ℕ) → b ≤ H → (k : ℕ) → k < N / 2 → nat_abs (at X (place order (N / 2) (H + 1) b k) -ℤ at (coefficients (routes b) N 0 0 (block N x b)) k) ≤ Q b) where
  facts : Played N H X out
  facts = played_facts N H X out played

  tab : T (tabled N)
  tab = facts.length_is

  abbrev left : List ℤ
  left = played_out order N H X out

  abbrev c : ℕ → List ℤ
  c = part order (N / 2) (H + 1) X

  brought : (b : ℕ) → b ≤ H → Brought N H Q routes x b 0 0 (c b)
  brought b p = record {
    exists = p;
    offers = offers b p;
    long = part_long (N / 2) (H + 1) order X b;
    near = λ k q. rw (part_at (N / 2) (H + 1) order X b k q) (changed b p k q);
  }

  -- ---- sample i: hop h, place n
  module _ (i : ℕ) (p : i < H * (N / 2)) where
    abbrev h : ℕ
    h = i / (N / 2)

    abbrev n : ℕ
    n = i % (N / 2)

    lies : Place (N / 2) H i
    lies = hop_of N tab H i p

    near-at : nat_abs (at left i -ℤ at x i) ≤ (3 * proved_change (Q h) (Q (suc h)) (routes h) (routes (suc h)) + 36) / 64
    near-at =
        rw (ap (at left) (sym lies.is) ∙ left_at order N H X out played h n lies.before lies.less, ap (at x) (sym lies.is))
        (back-near N tab H x rec Q routes h 0 0 0 (c h) (c (suc h)) (brought h (omega (arith, lies.before))) (brought (suc h) lies.before) n lies.less)

    same_at : Q h ≤ 9 → Q (suc h) ≤ 9 → routes h ≡ Direct → routes (suc h) ≡ Direct → at left i ≡ at x i
    same_at q q' e f =
        ap (at left) (sym lies.is)
        ∙ left_at order N H X out played h n lies.before lies.less
        ∙ back-same N tab H x rec Q routes h 0 0 0 (c h) (c (suc h)) (brought h (omega (arith, lies.before))) (brought (suc h) lies.before) q q' e f n lies.less
        ∙ ap (at x) lies.is

  pub back : Back N H Q routes x (played_out order N H X out) × SharperBack N H Q routes x (played_out order N H X out)
  unfolding inner_of
  back = (
    record {
      long = left_long order N H X out played;
      inner = rw (shaped_of N tab H facts.hops (length left) (left_long order N H X out played));
      near = λ i p. near_asked (Q (i / (N / 2))) (Q (suc (i / (N / 2)))) (routes (i / (N / 2))) (routes (suc (i / (N / 2)))) (near-at i p);
      same = λ i p q q' e f. same_at i p (omega arith) (omega arith) e f;
    },
    record { near = near-at; same = same_at },
  )

-- with one Q for all blocks it is document 01's claim
pub back_one : (N H Q : ℕ) (routes : ℕ → Route) (x out : List ℤ) → Back N H (λ b. Q) routes x out → BackOneQ N H Q routes x out
back_one N H Q routes x out back = record { back = back; each = λ i p. restored Q (routes (i / (N / 2))) (routes (suc (i / (N / 2)))) (back.near i p) (back.same i p) }

-- ---- the theorems, each with what is proved beyond it
-- one call analysed the recording, by any route; a second, which returned 0, synthesised the changed coefficients
pub back_by_one_call : (N H : ℕ) (Q : ℕ → ℕ) (route : Route) (order : Order) (x X out : List ℤ) → ((i : ℕ) → i < length x → Sample (at x i)) → ByOneCall N H Q route order x X →
    played_code N H X out ≡ 0 → Back N H Q (λ b. route) x (played_out order N H X out) × SharperBack N H Q (λ b. route) x (played_out order N H X out)
unfolding analysis
back_by_one_call N H Q route order x X out samples given played =
    let f : Recorded route N H x given.buffer = recorded_facts route N H x given.buffer given.taken in
    let is = (recorded_taken route given.filled N H x given.buffer given.taken).1 in
    let rec : Recording N H x = record { hops = counted-some H f.hops; long = f.long; sample = samples } in
    back N H Q (λ b. route) order x X out rec played (λ b p. is_T f.offers)
    (λ b p k q.
    let e = laid-at (N / 2) (H + 1) given.filled (λ b. coefficients route N 0 0 (block N x b)) b k (omega arith) q in
    rw e at (rw (← is) at (given.near b p k q)))

-- the blocks were analysed one by one, each by its own route
pub back_block_by_block : (N H : ℕ) (Q : ℕ → ℕ) (routes : ℕ → Route) (order : Order) (x X out : List ℤ) → Recording N H x → BlockByBlock N H Q routes order x X →
    played_code N H X out ≡ 0 → Back N H Q routes x (played_out order N H X out) × SharperBack N H Q routes x (played_out order N H X out)
back_block_by_block N H Q routes order x X out rec given played =
    back N H Q routes order x X out rec played (λ b p. analysed-offered (routes b) N 0 0 (block N x b) (given.buffer b) (given.taken b p))
    (λ b p k q. rw (← (analyse_taken (routes b) N 0 0 (block N x b) (given.buffer b) (given.taken b p)).1) at (given.near b p k q))
