-- Sparse changes: the distance by T, a bound on the sum of the changes' sizes in a block. Definitions. Document 02, P11. That the distance is kept are `sparse_list`, `sparse_calls`,
-- `sparse_once` and `sparse_blocks` of SparseLaws. The codes and buffers are those that the public calls' contracts cite.
use Rattle.std.specs.Prelude.{◌≡◌, List, ℕ, suc, ◌+◌, ◌*◌, ◌/◌, ◌%◌, ◌≤◌, ◌<◌, max, T as Holds, length, ℤ, nat_abs, ◌-ℤ◌}
use Rattle.arithmetic.specs.Lists.{at}
use Rattle.arithmetic.specs.Sums.{sum_ℕ}
use Rattle.stream.specs.declared.Stream.{Stream}
use Rattle.analysis.specs.declared.Route.{Route}
use Rattle.analysis.specs.declared.Route.TheVariants.{Direct}
use Rattle.analysis.specs.Analysis.{offered, coefficients}
use Rattle.orders.specs.declared.Order.{Order}
use Rattle.orders.specs.Orders.{part}
use Rattle.recording.specs.Recordings.{block}
use Rattle.block_calls.specs.Analysis.{analyse_code, analyse_out}
use Rattle.recording_calls.specs.Recordings.{recorded_code, recorded_out}
use Rattle.demands.specs.Steps.{Turn, Entry, taken, Numbered, Returned, WholeReturned}
use Rattle.demands.specs.Recordings.{Back}

-- the sum of the changes' sizes, in units: c are the coefficients X of a block, changed
unfoldable pub changes : ℕ → (c X : List ℤ) → ℕ
changes M c X = sum_ℕ M (λ k. nat_abs (at c k -ℤ at X k))

-- ---- a list of steps
-- c are the M coefficients of block b of x as in `Brought`, but changed by at most T b in all
pub record SparseBlock (N H : ℕ) (T : ℕ → ℕ) (routes : ℕ → Route) (x : List ℤ) (b left right : ℕ) (c : List ℤ) : Type 0 where
  pub exists : b ≤ H
  pub offers : Holds (offered (routes b) N)
  pub long : length c ≡ N / 2
  pub all : changes (N / 2) c (coefficients (routes b) N left right (block N x b)) ≤ T b

-- each step that is taken under number b brings block b so. As in `Numbered`, nothing is asked of the order of the offers or of the refused ones
pub record SparseNumbered (N H : ℕ) (T : ℕ → ℕ) (routes : ℕ → Route) (x : List ℤ) (us : List Turn) : Type 0 where
  pub each : (j : ℕ) (t : Turn) → Entry (taken us) j t → SparseBlock N H T routes x t.offer.number t.offer.left t.offer.right t.offer.brought

-- ---- the calls over whole recordings: X are the coefficients of all blocks, in the order named, as the synthesis is handed them
-- analysed by one call, directly
pub record SparseOnce (N H : ℕ) (T : ℕ → ℕ) (order : Order) (x X : List ℤ) : Type 0 where
  pub filled : Order
  pub buffer : List ℤ
  pub analysed : recorded_code Direct N H x buffer ≡ 0
  pub all : (b : ℕ) → b ≤ H → changes (N / 2) (part order (N / 2) (H + 1) X b) (part filled (N / 2) (H + 1) (recorded_out Direct filled N H x buffer) b) ≤ T b

-- analysed block by block, each by its own route, with long joints
pub record SparseBlocks (N H : ℕ) (T : ℕ → ℕ) (routes : ℕ → Route) (order : Order) (x X : List ℤ) : Type 0 where
  pub buffer : ℕ → List ℤ
  pub analysed : (b : ℕ) → b ≤ H → analyse_code (routes b) N 0 0 (block N x b) (buffer b) ≡ 0
  pub all : (b : ℕ) → b ≤ H → changes (N / 2) (part order (N / 2) (H + 1) X b) (analyse_out (routes b) N 0 0 (block N x b) (buffer b)) ≤ T b

-- ---- the claim
-- (T + 4N) / 8N, rounded down; of the two blocks that cover a sample, the first changed by T and the second by T' in all, the larger one stands for T
unfoldable pub sparse_distance : (N T T' : ℕ) → ℕ
sparse_distance N T T' = (max T T' + 4 * N) / (8 * N)

-- of a sample whose two blocks took the routes r and r': where both are direct, z, which comes back in the place of a, is within that distance of it, and is a where each block was changed by less than 4N
pub record SparselyRestored (N T T' : ℕ) (r r' : Route) (z a : ℤ) : Type 0 where
  pub near : r ≡ Direct → r' ≡ Direct → nat_abs (z -ℤ a) ≤ sparse_distance N T T'
  pub same : r ≡ Direct → r' ≡ Direct → T < 4 * N → T' < 4 * N → z ≡ a
  -- beyond what is asked: (6T + 36N) / 64N
  pub nearer : r ≡ Direct → r' ≡ Direct → nat_abs (z -ℤ a) ≤ (6 * max T T' + 36 * N) / (64 * N)

-- so of each hop that the list returns and, once all H + 1 blocks are taken, of every sample of the recording. The distance for Q holds of the same list, for any Q that bounds each change, and so for T: no change is
-- larger than their sum
pub record SparselyReturned (N H : ℕ) (T : ℕ → ℕ) (routes : ℕ → Route) (x : List ℤ) (us : List Turn) (last : Stream) : Type 0 where
  pub hop : (j : ℕ) (t : Turn) → Entry (taken us) j t → (b : ℕ) → t.offer.number ≡ suc b → (n : ℕ) → n < N / 2 →
      SparselyRestored N (T b) (T (suc b)) (routes b) (routes (suc b)) (at t.output n) (at x (b * (N / 2) + n))
  pub whole : length (taken us) ≡ H + 1 → (i : ℕ) → i < H * (N / 2) → (t : Turn) × Entry (taken us) (suc (i / (N / 2))) t × (t.offer.number ≡ suc (i / (N / 2))) ×
      SparselyRestored N (T (i / (N / 2))) (T (suc (i / (N / 2)))) (routes (i / (N / 2))) (routes (suc (i / (N / 2)))) (at t.output (i % (N / 2))) (at x i)
  pub beside : (Q : ℕ → ℕ) → Numbered N H Q routes x us → Returned N Q routes x us last × WholeReturned N H Q routes x us
  pub returned : Returned N T routes x us last

-- and of each sample that a synthesis left
pub record SparselyBack (N H : ℕ) (T : ℕ → ℕ) (routes : ℕ → Route) (x out : List ℤ) : Type 0 where
  pub each : (i : ℕ) → i < H * (N / 2) → SparselyRestored N (T (i / (N / 2))) (T (suc (i / (N / 2)))) (routes (i / (N / 2))) (routes (suc (i / (N / 2)))) (at out i) (at x i)
  pub back : Back N H T routes x out
