-- Demand 3 for blocks that are stored as levels: definitions. Document 02, P8. Each block is brought through `quantise` and `dequantise` with a step table of its own; what is told
-- beforehand is what `told_distance` answers. That the told distance is kept are the theorems of StoredLaws and StoredListLaws. The codes and buffers are those that the public calls' contracts cite.
use Rattle.std.specs.Prelude.{◌≡◌, cond, List, ℕ, suc, ◌+◌, ◌*◌, ◌/◌, ◌%◌, ◌≤◌, ◌<◌, T, ltb, length, ℤ, nat_abs, ◌-ℤ◌}
use Rattle.arithmetic.specs.Lists.{at}
use Rattle.stream.specs.declared.Stream.{Stream}
use Rattle.analysis.specs.declared.Route.{Route}
use Rattle.analysis.specs.Analysis.{offered, coefficients, units_of}
use Rattle.orders.specs.declared.Order.{Order}
use Rattle.orders.specs.Orders.{part}
use Rattle.recording.specs.Recordings.{block}
use Rattle.block_calls.specs.Analysis.{analyse_code, analyse_out}
use Rattle.recording_calls.specs.Recordings.{recorded_code, recorded_out}
use Rattle.steps.specs.Table.{coarsest}
use Rattle.level_calls.specs.LevelCalls.{quantise_code, quantise_out, dequantise_code, dequantise_out, half, told}
use Rattle.demands.specs.Steps.{Turn, Entry, taken, Returned}
use Rattle.demands.specs.Recordings.{Back}

-- c is x brought through `quantise` and `dequantise` with the table `text`: both calls returned 0
pub record Through (N : ℕ) (text : List ℕ) (x c : List ℤ) : Type 0 where
  pub levels : List ℤ
  pub buffer : List ℤ
  pub quantised : quantise_code N text x levels ≡ 0
  pub dequantised : dequantise_code N text (quantise_out N text x levels) buffer ≡ 0
  pub is : c ≡ dequantise_out N text (quantise_out N text x levels) buffer

-- c is block b of x so: analysed by its own route, which is offered at N, with joints of the shapes left and right, and stored with its own table
pub record StoredBlock (N H : ℕ) (tables : ℕ → List ℕ) (routes : ℕ → Route) (x : List ℤ) (b left right : ℕ) (c : List ℤ) : Type 0 where
  pub exists : b ≤ H
  pub offers : T (offered (routes b) N)
  pub through : Through N (tables b) (coefficients (routes b) N left right (block N x b)) c

-- each step that is taken under number b brings block b as it was stored. As in `Numbered`, nothing is asked of the refused ones
pub record Stored (N H : ℕ) (tables : ℕ → List ℕ) (routes : ℕ → Route) (x : List ℤ) (us : List Turn) : Type 0 where
  pub each : (j : ℕ) (t : Turn) → Entry (taken us) j t → StoredBlock N H tables routes x t.offer.number t.offer.left t.offer.right t.offer.brought

-- ---- for the calls over whole recordings, X the coefficients that the synthesis is handed
-- analysed block by block, each by its own route
pub record StoredBlocks (N H : ℕ) (tables : ℕ → List ℕ) (routes : ℕ → Route) (order : Order) (x X : List ℤ) : Type 0 where
  pub buffer : ℕ → List ℤ
  pub analysed : (b : ℕ) → b ≤ H → analyse_code (routes b) N 0 0 (block N x b) (buffer b) ≡ 0
  pub through : (b : ℕ) → b ≤ H → Through N (tables b) (analyse_out (routes b) N 0 0 (block N x b) (buffer b)) (part order (N / 2) (H + 1) X b)

-- analysed by one call
pub record StoredOnce (N H : ℕ) (tables : ℕ → List ℕ) (route : Route) (order : Order) (x X : List ℤ) : Type 0 where
  pub filled : Order
  pub buffer : List ℤ
  pub analysed : recorded_code route N H x buffer ≡ 0
  pub through : (b : ℕ) → b ≤ H → Through N (tables b) (part filled (N / 2) (H + 1) (recorded_out route filled N H x buffer) b) (part order (N / 2) (H + 1) X b)

-- ---- the claim
-- the coarser of two tables: the one with the larger coarsest step
unfoldable pub coarser : ℕ → List ℕ → List ℕ → List ℕ
coarser N text text' = cond (ltb (coarsest (N / 2) text) (coarsest (N / 2) text')) text' text

-- the one of two routes that tells more
unfoldable pub farther : Route → Route → Route
farther r r' = cond (ltb (units_of r) (units_of r')) r' r

-- z, which comes back in the place of a, is within the distance that `told_distance` tells, returning 0, for the coarser of the tables and the route that tells more
pub record ToldKept (N : ℕ) (text text' : List ℕ) (r r' : Route) (z a : ℤ) : Type 0 where
  pub told_taken : (told (farther r r') N (coarser N text text')).code ≡ 0
  pub near : nat_abs (z -ℤ a) ≤ (told (farther r r') N (coarser N text text')).distance

-- so of each hop that the list returns: the step that is taken under number b + 1 returns hop b, which blocks b and b + 1 share. And, once all H + 1 blocks are taken, of every sample of the
-- recording: sample i is place i % M of hop i / M
pub record StoredReturned (N H : ℕ) (tables : ℕ → List ℕ) (routes : ℕ → Route) (x : List ℤ) (us : List Turn) (last : Stream) : Type 0 where
  pub returned : Returned N (λ b. half N (tables b)) routes x us last
  pub hop : (j : ℕ) (t : Turn) → Entry (taken us) j t → (b : ℕ) → t.offer.number ≡ suc b → (n : ℕ) → n < N / 2 →
      ToldKept N (tables b) (tables (suc b)) (routes b) (routes (suc b)) (at t.output n) (at x (b * (N / 2) + n))
  pub whole : length (taken us) ≡ H + 1 → (i : ℕ) → i < H * (N / 2) → (t : Turn) × Entry (taken us) (suc (i / (N / 2))) t × (t.offer.number ≡ suc (i / (N / 2))) ×
      ToldKept N (tables (i / (N / 2))) (tables (suc (i / (N / 2)))) (routes (i / (N / 2))) (routes (suc (i / (N / 2)))) (at t.output (i % (N / 2))) (at x i)

-- and of each sample that a synthesis left
pub record StoredBack (N H : ℕ) (tables : ℕ → List ℕ) (routes : ℕ → Route) (x out : List ℤ) : Type 0 where
  pub back : Back N H (λ b. half N (tables b)) routes x out
  pub each : (i : ℕ) → i < H * (N / 2) →
      ToldKept N (tables (i / (N / 2))) (tables (suc (i / (N / 2)))) (routes (i / (N / 2))) (routes (suc (i / (N / 2)))) (at out i) (at x i)
