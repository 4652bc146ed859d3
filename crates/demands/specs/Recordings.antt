-- Demand 3 for the calls over whole recordings: definitions. Document 01, 'Sound there and back', its last but one paragraph, and document 02, P1 and P10. That they hold
-- together are `back_by_one_call`, `back_block_by_block` and, for one Q, `back_one` of BackLaws. The codes and buffers are those that the public calls' contracts cite.
use Rattle.std.specs.Prelude.{◌≡◌, List, [], ◌∷◌, ◌++◌, ℕ, zero, suc, ◌+◌, ◌*◌, ◌/◌, ◌≤◌, ◌<◌, length, ℤ, nat_abs, ◌-ℤ◌}
use Rattle.arithmetic.specs.Lists.{at}
use Rattle.analysis.specs.declared.Route.{Route}
use Rattle.analysis.specs.declared.Route.TheVariants.{Direct}
use Rattle.orders.specs.declared.Order.{Order}
use Rattle.orders.specs.Orders.{place, part}
use Rattle.recording.specs.Recordings.{block}
use Rattle.block_calls.specs.Analysis.{analyse_code, analyse_out}
use Rattle.recording_calls.specs.Recordings.{recorded_code, recorded_out, inner_of}
use Rattle.demands.specs.Steps.{Offer, Turn, change, Restored, proved_change}

-- ---- what the synthesis is handed: X, of all blocks of the recording x, in the order named, each coefficient changed by a whole number from -Q to Q, where Q b is block b's own Q
-- analysed by one call, which left the coefficients in `buffer`, in either order: X need not lie in that one
pub record ByOneCall (N H : ℕ) (Q : ℕ → ℕ) (route : Route) (order : Order) (x X : List ℤ) : Type 0 where
  pub filled : Order
  pub buffer : List ℤ
  pub taken : recorded_code route N H x buffer ≡ 0
  pub near : (b : ℕ) → b ≤ H → (k : ℕ) → k < N / 2 →
      nat_abs (at X (place order (N / 2) (H + 1) b k) -ℤ at (recorded_out route filled N H x buffer) (place filled (N / 2) (H + 1) b k)) ≤ Q b

-- analysed block by block, each by its own route, with long joints, into its own buffer
pub record BlockByBlock (N H : ℕ) (Q : ℕ → ℕ) (routes : ℕ → Route) (order : Order) (x X : List ℤ) : Type 0 where
  pub buffer : ℕ → List ℤ
  pub taken : (b : ℕ) → b ≤ H → analyse_code (routes b) N 0 0 (block N x b) (buffer b) ≡ 0
  pub near : (b : ℕ) → b ≤ H → (k : ℕ) → k < N / 2 → nat_abs (at X (place order (N / 2) (H + 1) b k) -ℤ at (analyse_out (routes b) N 0 0 (block N x b) (buffer b)) k) ≤ Q b

-- ---- the claim: `out` is what a taken synthesis left. `inner` gives all of it, and each of its H × M samples is held against the recording's sample
-- at the same place, i, which blocks i / M and i / M + 1 cover
pub record Back (N H : ℕ) (Q : ℕ → ℕ) (routes : ℕ → Route) (x out : List ℤ) : Type 0 where
  pub long : length out ≡ H * (N / 2)
  pub inner : inner_of N H out ≡ out
  pub near : (i : ℕ) → i < H * (N / 2) → nat_abs (at out i -ℤ at x i) ≤ (change (Q (i / (N / 2))) (Q (suc (i / (N / 2)))) (routes (i / (N / 2))) (routes (suc (i / (N / 2)))) + 8) / 16
  pub same : (i : ℕ) → i < H * (N / 2) → Q (i / (N / 2)) ≤ 7 → Q (suc (i / (N / 2))) ≤ 7 → routes (i / (N / 2)) ≡ Direct → routes (suc (i / (N / 2))) ≡ Direct → at out i ≡ at x i

-- in document 01's words, with one Q for all blocks
pub record BackOneQ (N H Q : ℕ) (routes : ℕ → Route) (x out : List ℤ) : Type 0 where
  pub back : Back N H (λ b. Q) routes x out
  pub each : (i : ℕ) → i < H * (N / 2) → Restored Q (routes (i / (N / 2))) (routes (suc (i / (N / 2)))) (at out i) (at x i)

-- beyond what is asked, of the same buffer
pub record SharperBack (N H : ℕ) (Q : ℕ → ℕ) (routes : ℕ → Route) (x out : List ℤ) : Type 0 where
  pub near : (i : ℕ) → i < H * (N / 2) → nat_abs (at out i -ℤ at x i) ≤ (3 * proved_change (Q (i / (N / 2))) (Q (suc (i / (N / 2)))) (routes (i / (N / 2))) (routes (suc (i / (N / 2)))) + 36) / 64
  pub same : (i : ℕ) → i < H * (N / 2) → Q (i / (N / 2)) ≤ 9 → Q (suc (i / (N / 2))) ≤ 9 → routes (i / (N / 2)) ≡ Direct → routes (suc (i / (N / 2))) ≡ Direct → at out i ≡ at x i

-- ---- the steps that a synthesis stands for: block after block of X, each under its number and with long joints, from block b on, count of them, each with a buffer of its own
unfoldable pub offering : Order → (N H : ℕ) → List ℤ → (ℕ → List ℤ) → ℕ → ℕ → List Offer
offering order N H X buffers b zero = []
offering order N H X buffers b (suc count) =
    record { number = b; left = 0; right = 0; brought = part order (N / 2) (H + 1) X b; buffer = buffers b } ∷ offering order N H X buffers (suc b) count

-- what the buffers of the turns hold, one after the other
unfoldable pub outputs : List Turn → List ℤ
outputs [] = []
outputs (t ∷ turns) = t.output ++ outputs turns
