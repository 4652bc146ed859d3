-- Sparse changes, the theorems: `sparse_list` and `sparse_calls` for a list of steps, `sparse_once` and `sparse_blocks` for the calls over whole recordings.
use Rattle.std.specs.Prelude.{◌≡◌, List, T as Holds, length, ℤ, ◌-ℤ◌}
use Rattle.std.proofs.Common.{sym, ◌∙◌, le_trans, div-lt_iff_lt-mul, arith}
use Rattle.std.proofs.Math.Path.{ap}
use Prim.Native.Nat.{ℕ, suc, ◌+◌, ◌*◌, ◌/◌, ◌%◌, ◌≤◌, ◌<◌, max}
use Rattle.std.proofs.Math.Nat.{le-max_left, le-max_right}
use Rattle.std.proofs.Math.IntN.{nat_abs}
use Rattle.arithmetic.specs.Lists.{at}
use Rattle.arithmetic.specs.Sums.{sum_ℕ}
use Rattle.arithmetic.specs.SumLaws.{sum_ℕ_ext, sum_ℕ_term}
use Rattle.arithmetic.specs.Rounding.{Sample}
use Rattle.arithmetic.specs.JoinLaws.{Place}
use Rattle.arithmetic.specs.TestLaws.{is_T}
use Rattle.cosine.specs.Kernels.{tabled}
use Rattle.cosine.specs.LengthLaws.{tabled_length}
use Rattle.transform.specs.Analysis.{X}
use Rattle.analysis.specs.declared.Route.{Route}
use Rattle.analysis.specs.declared.Route.TheVariants.{Direct}
use Rattle.analysis.specs.Analysis.{coefficients}
use Rattle.analysis.specs.AnalysisLaws.{coefficients-length}
use Rattle.orders.specs.declared.Order.{Order}
use Rattle.orders.specs.Orders.{part}
use Rattle.orders.specs.OrderLaws.{part_at, part_long, part-laid}
use Rattle.recording.specs.Recordings.{block, analysis}
use Rattle.reconstruction.specs.ReturnLaws.{by_all, none_equal}
use Rattle.reconstruction.specs.DistanceLaws as Distance
use Rattle.checks.specs.LimitLaws.{counted-some}
use Rattle.block_calls.specs.AnalysisLaws.{analysed-offered, analyse_taken}
use Rattle.block_calls.specs.Analysis.{analyse_out}
use Rattle.recording_calls.specs.Recordings.{recorded_out, played_code, played_out}
use Rattle.recording_calls.specs.RecordingLaws.{Recorded, recorded_facts, recorded_taken, played_facts}
use Rattle.stream_calls.specs.States.{fresh_code, fresh_state}
use Rattle.stream_calls.specs.StateLaws.{fresh-tabled}
use Rattle.demands.specs.Steps.{Offer, Turn, Entry, taken, turns, final, Recording, Brought, Numbered}
use Rattle.demands.specs.Chains.{calls, held}
use Rattle.demands.specs.Recordings.{ByOneCall, BlockByBlock}
use Rattle.demands.proofs.RecordingLaws.{windowed, overlapped, hop_of, by-direct, block-hop, neighbours}
use Rattle.demands.proofs.ThereAndBackLaws.{every-hop, there_and_back, whole-returned, holds_sample}
use Rattle.demands.proofs.ChainLaws.{fresh-calls, fresh-held}
use Rattle.demands.proofs.BackLaws.{left_at, back_by_one_call, back_block_by_block}
use Rattle.demands.specs.Sparse.{changes, SparseBlock, SparseNumbered, SparseOnce, SparseBlocks, sparse_distance, SparselyRestored, SparselyReturned, SparselyBack}

-- ---- no change is larger than their sum
change-within : (M : ℕ) (c X : List ℤ) (k : ℕ) → k < M → nat_abs (at c k -ℤ at X k) ≤ changes M c X
unfolding changes
change-within M c X = sum_ℕ_term M (λ k. nat_abs (at c k -ℤ at X k))

sparse_brought : {N H : ℕ} {T : ℕ → ℕ} {routes : ℕ → Route} {x : List ℤ} {b l r : ℕ} {c : List ℤ} → SparseBlock N H T routes x b l r c → Brought N H T routes x b l r c
sparse_brought {N = N} {routes = routes} {x = x} {b = b} {l = l} {r = r} {c = c} s = record {
  exists = s.exists;
  offers = s.offers;
  long = s.long;
  near = λ k p. le_trans (change-within (N / 2) c (coefficients (routes b) N l r (block N x b)) k p) s.all;
}

-- less than 4N in each block moves no sample
sparse_none : (N A : ℕ) → 0 < N → A < 4 * N → (A + 4 * N) / (8 * N) ≤ 0
sparse_none N A p q =
    let h : (A + 4 * N) / (8 * N) < 1 = (div-lt_iff_lt-mul {k = 8 * N} {x = A + 4 * N} {y = 1} (omega arith)).1 (omega arith) in
    omega (arith, h)

module _ (N : ℕ) (t : Holds (tabled N)) (H : ℕ) (T : ℕ → ℕ) (routes : ℕ → Route) (x : List ℤ) (rec : Recording N H x) where
  some : 0 < N
  some = (tabled_length N t).some

  -- by the direct route the changes are those of the definition's coefficients
  from_definition : (b l r : ℕ) (c : List ℤ) → SparseBlock N H T routes x b l r c → routes b ≡ Direct →
      sum_ℕ (N / 2) (λ k. nat_abs (at c k -ℤ X N (windowed N l r (block N x b)) k)) ≤ T b
  unfolding changes
  from_definition b l r c s d =
      let a : sum_ℕ (N / 2) (λ k. nat_abs (at c k -ℤ at (coefficients Direct N l r (block N x b)) k)) ≤ T b = rw d at s.all in
      rw (← (sum_ℕ_ext (N / 2) (λ k. nat_abs (at c k -ℤ at (coefficients Direct N l r (block N x b)) k)) (λ k. nat_abs (at c k -ℤ X N (windowed N l r (block N x b)) k))
      (λ k p. ap (λ (z : ℤ). nat_abs (at c k -ℤ z)) (by-direct N l r (block N x b) k p)))) a

  -- the hop that blocks b and b + 1 share
  met : (b l j r : ℕ) (c₁ c₂ : List ℤ) → SparseBlock N H T routes x b l j c₁ → SparseBlock N H T routes x (suc b) j r c₂ → (n : ℕ) → n < N / 2 →
      SparselyRestored N (T b) (T (suc b)) (routes b) (routes (suc b)) (overlapped N l j r c₁ c₂ n) (at x (b * (N / 2) + n))
  unfolding sparse_distance
  met b l j r c₁ c₂ s₁ s₂ n p = record {
    near = near;
    same = λ d d' q q'. none_equal (overlapped N l j r c₁ c₂ n) (at x (b * (N / 2) + n)) (le_trans (near d d') (sparse_none N (max (T b) (T (suc b))) some (omega arith)));
    nearer = nearer;
  }
    where
      nearer : routes b ≡ Direct → routes (suc b) ≡ Direct → nat_abs (overlapped N l j r c₁ c₂ n -ℤ at x (b * (N / 2) + n)) ≤ (6 * max (T b) (T (suc b)) + 36 * N) / (64 * N)
      nearer d d' =
          rw (← (block-hop N t H x rec b n s₂.exists p))
          (Distance.returned N t (neighbours N t H x rec b l j r) (max (T b) (T (suc b))) c₁ c₂
          (le_trans (from_definition b l j c₁ s₁ d) (le-max_left (T b) (T (suc b)))) (le_trans (from_definition (suc b) j r c₂ s₂ d') (le-max_right (T b) (T (suc b)))) n p)

      near : routes b ≡ Direct → routes (suc b) ≡ Direct → nat_abs (overlapped N l j r c₁ c₂ n -ℤ at x (b * (N / 2) + n)) ≤ (max (T b) (T (suc b)) + 4 * N) / (8 * N)
      near d d' = le_trans (nearer d d') (by_all N (max (T b) (T (suc b))) some)

  -- ---- a list of steps
  module _ (offers : List Offer) (given : SparseNumbered N H T routes x (turns N offers)) where
    numbered : Numbered N H T routes x (turns N offers)
    numbered = record { each = λ j u e. sparse_brought (given.each j u e) }

    hops : (j : ℕ) (u : Turn) → Entry (taken (turns N offers)) j u → (b : ℕ) → u.offer.number ≡ suc b → (n : ℕ) → n < N / 2 →
        SparselyRestored N (T b) (T (suc b)) (routes b) (routes (suc b)) (at u.output n) (at x (b * (N / 2) + n))
    hops = every-hop N t (SparseBlock N H T routes x) (λ b out. (n : ℕ) → n < N / 2 → SparselyRestored N (T b) (T (suc b)) (routes b) (routes (suc b)) (at out n) (at x (b * (N / 2) + n)))
        (λ b l j r c₁ c₂ out s₁ s₂ is n p. rw (is n p) (met b l j r c₁ c₂ s₁ s₂ n p)) offers given.each

    pub sparse_list : SparselyReturned N H T routes x (turns N offers) (final N offers)
    sparse_list = record {
      hop = hops;
      whole = λ all i p.
          let l = hop_of N t H i p in
          let (u, e, f) = holds_sample N t H offers all i p in
          (u, e, f, rw (ap (at x) l.is) at (hops (suc (i / (N / 2))) u e (i / (N / 2)) f (i % (N / 2)) l.less));
      beside = λ Q numbered. (there_and_back N t H Q routes x rec offers numbered, whole-returned N t H Q routes x rec offers numbered);
      returned = there_and_back N t H T routes x rec offers numbered;
    }

-- on one state
pub sparse_calls : (N : ℕ) (state : List ℤ) → fresh_code N state ≡ 0 → (H : ℕ) (T : ℕ → ℕ) (routes : ℕ → Route) (x : List ℤ) → Recording N H x → (offers : List Offer) →
    SparseNumbered N H T routes x (calls (fresh_state N state) offers) → SparselyReturned N H T routes x (calls (fresh_state N state) offers) (held (fresh_state N state) offers)
sparse_calls N state z H T routes x rec offers given =
    rw (fresh-calls N state z offers, fresh-held N state z offers)
    (sparse_list N (fresh-tabled N state z) H T routes x rec offers (rw (fresh-calls N state z offers) at given))

-- ---- the calls over whole recordings
module _ (N H : ℕ) (T : ℕ → ℕ) (routes : ℕ → Route) (order : Order) (x X out : List ℤ) (rec : Recording N H x) (played : played_code N H X out ≡ 0)
    (blocks : (b : ℕ) → b ≤ H → SparseBlock N H T routes x b 0 0 (part order (N / 2) (H + 1) X b)) where
  tab : Holds (tabled N)
  tab = (played_facts N H X out played).length_is

  sample : (i : ℕ) → i < H * (N / 2) →
      SparselyRestored N (T (i / (N / 2))) (T (suc (i / (N / 2)))) (routes (i / (N / 2))) (routes (suc (i / (N / 2)))) (at (played_out order N H X out) i) (at x i)
  sample i p =
      let lies : Place (N / 2) H i = hop_of N tab H i p in
      let h = i / (N / 2) in
      let n = i % (N / 2) in
      rw (ap (at (played_out order N H X out)) (sym lies.is) ∙ left_at order N H X out played h n lies.before lies.less, ap (at x) (sym lies.is))
      (met N tab H T routes x rec h 0 0 0 (part order (N / 2) (H + 1) X h) (part order (N / 2) (H + 1) X (suc h)) (blocks h (omega (arith, lies.before))) (blocks (suc h) lies.before) n lies.less)

-- one call analysed the recording, directly
module _ (N H : ℕ) (T : ℕ → ℕ) (order : Order) (x X : List ℤ) (given : SparseOnce N H T order x X) where
  once_each : ByOneCall N H T Direct order x X
  once_each = record {
    filled = given.filled;
    buffer = given.buffer;
    taken = given.analysed;
    near = λ b p k q.
        let Y = recorded_out Direct given.filled N H x given.buffer in
        rw (part_at (N / 2) (H + 1) order X b k q, part_at (N / 2) (H + 1) given.filled Y b k q) at
        (le_trans (change-within (N / 2) (part order (N / 2) (H + 1) X b) (part given.filled (N / 2) (H + 1) Y b) k q) (given.all b p));
  }

  once_block : (b : ℕ) → b ≤ H → SparseBlock N H T (λ b. Direct) x b 0 0 (part order (N / 2) (H + 1) X b)
  unfolding analysis
  once_block b p =
      let f : Recorded Direct N H x given.buffer = recorded_facts Direct N H x given.buffer given.analysed in
      let is = (recorded_taken Direct given.filled N H x given.buffer given.analysed).1 in
      let e = part-laid (N / 2) (H + 1) given.filled (λ b. coefficients Direct N 0 0 (block N x b)) b (omega arith) (coefficients-length Direct N 0 0 (block N x b)) in
      record {
        exists = p;
        offers = is_T f.offers;
        long = part_long (N / 2) (H + 1) order X b;
        all = rw e at (rw (← is) at (given.all b p));
      }

  pub sparse_once : (out : List ℤ) → ((i : ℕ) → i < length x → Sample (at x i)) → played_code N H X out ≡ 0 → SparselyBack N H T (λ b. Direct) x (played_out order N H X out)
  sparse_once out samples played =
      let f : Recorded Direct N H x given.buffer = recorded_facts Direct N H x given.buffer given.analysed in
      let rec : Recording N H x = record { hops = counted-some H f.hops; long = f.long; sample = samples } in
      record {
        each = sample N H T (λ b. Direct) order x X out rec played once_block;
        back = (back_by_one_call N H T Direct order x X out samples once_each played).0;
      }

-- the blocks were analysed one by one, each by its own route
module _ (N H : ℕ) (T : ℕ → ℕ) (routes : ℕ → Route) (order : Order) (x X : List ℤ) (given : SparseBlocks N H T routes order x X) where
  blocks-each : BlockByBlock N H T routes order x X
  blocks-each = record {
    buffer = given.buffer;
    taken = given.analysed;
    near = λ b p k q.
        rw (part_at (N / 2) (H + 1) order X b k q) at
        (le_trans (change-within (N / 2) (part order (N / 2) (H + 1) X b) (analyse_out (routes b) N 0 0 (block N x b) (given.buffer b)) k q) (given.all b p));
  }

  blocks-block : (b : ℕ) → b ≤ H → SparseBlock N H T routes x b 0 0 (part order (N / 2) (H + 1) X b)
  blocks-block b p = record {
    exists = p;
    offers = analysed-offered (routes b) N 0 0 (block N x b) (given.buffer b) (given.analysed b p);
    long = part_long (N / 2) (H + 1) order X b;
    all = rw (← (analyse_taken (routes b) N 0 0 (block N x b) (given.buffer b) (given.analysed b p)).1) at (given.all b p);
  }

  pub sparse_blocks : (out : List ℤ) → Recording N H x → played_code N H X out ≡ 0 → SparselyBack N H T routes x (played_out order N H X out)
  sparse_blocks out rec played = record {
    each = sample N H T routes order x X out rec played blocks-block;
    back = (back_block_by_block N H T routes order x X out rec blocks-each played).0;
  }

-- one T for both blocks
pub sparse_one : (N T : ℕ) → sparse_distance N T T ≡ (T + 4 * N) / (8 * N)
unfolding sparse_distance
sparse_one N T = let e : max T T ≡ T = omega arith in rw e
