-- A recording's own coefficients, unchanged, at every length and by every route that is offered there: the contract of `unchanged_returned`, by UnchangedLaws.
use Rattle.std.specs.Prelude.{◌≡◌, true, List, ℕ, ◌+◌, ◌*◌, ◌/◌, ◌≤◌, ◌<◌, length, ℤ}
use Rattle.arithmetic.specs.Rounding.{Sample}
use Rattle.arithmetic.specs.Lists.{at}
use Rattle.analysis.specs.declared.Route.{Route}
use Rattle.analysis.specs.declared.Route.TheVariants.{Direct}
use Rattle.recording.specs.Recordings.{block}
use Rattle.block_calls.specs.Analysis.{analyse_code, analyse_out}
use Rattle.checks.specs.Limits.{counted}
use Rattle.orders.specs.declared.Order.{Order}
use Rattle.orders.specs.Orders.{laid}
use Rattle.recording_calls.specs.Recordings.{recorded_code, recorded_out, played_code, played_out}
use Rattle.demands.specs.Steps.{Recording}
use Rattle.demands.specs.Recordings.{Back, SharperBack}

pub record UnchangedBack : Type 0 where
  -- analysed by one call, by any route: what it left is taken, and comes back
  pub taken : (route : Route) (order : Order) (N H : ℕ) (x buffer : List ℤ) → ((i : ℕ) → i < length x → Sample (at x i)) → recorded_code route N H x buffer ≡ 0 →
      (out : List ℤ) → length out ≡ H * (N / 2) → played_code N H (recorded_out route order N H x buffer) out ≡ 0
  pub near : (route : Route) (order : Order) (N H : ℕ) (x buffer : List ℤ) → ((i : ℕ) → i < length x → Sample (at x i)) → recorded_code route N H x buffer ≡ 0 →
      (out : List ℤ) → length out ≡ H * (N / 2) → Back N H (λ b. 0) (λ b. route) x (played_out order N H (recorded_out route order N H x buffer) out)
  pub sharper : (route : Route) (order : Order) (N H : ℕ) (x buffer : List ℤ) → ((i : ℕ) → i < length x → Sample (at x i)) → recorded_code route N H x buffer ≡ 0 →
      (out : List ℤ) → length out ≡ H * (N / 2) → SharperBack N H (λ b. 0) (λ b. route) x (played_out order N H (recorded_out route order N H x buffer) out)
  -- by the direct route it is the recording itself
  pub back : (order : Order) (N H : ℕ) (x buffer : List ℤ) → ((i : ℕ) → i < length x → Sample (at x i)) → recorded_code Direct N H x buffer ≡ 0 →
      (out : List ℤ) → length out ≡ H * (N / 2) → played_out order N H (recorded_out Direct order N H x buffer) out ≡ x
  -- analysed block by block, each by its own route, into its own buffer
  pub each_taken : (routes : ℕ → Route) (order : Order) (N H : ℕ) (x : List ℤ) (buffer : ℕ → List ℤ) → Recording N H x → counted H ≡ true →
      ((b : ℕ) → b ≤ H → analyse_code (routes b) N 0 0 (block N x b) (buffer b) ≡ 0) → (out : List ℤ) → length out ≡ H * (N / 2) →
      played_code N H (laid order (N / 2) (H + 1) (λ b. analyse_out (routes b) N 0 0 (block N x b) (buffer b))) out ≡ 0
  pub each_back : (routes : ℕ → Route) (order : Order) (N H : ℕ) (x : List ℤ) (buffer : ℕ → List ℤ) → Recording N H x → counted H ≡ true →
      ((b : ℕ) → b ≤ H → analyse_code (routes b) N 0 0 (block N x b) (buffer b) ≡ 0) → (out : List ℤ) → length out ≡ H * (N / 2) →
      Back N H (λ b. 0) routes x (played_out order N H (laid order (N / 2) (H + 1) (λ b. analyse_out (routes b) N 0 0 (block N x b) (buffer b))) out)
      × SharperBack N H (λ b. 0) routes x (played_out order N H (laid order (N / 2) (H + 1) (λ b. analyse_out (routes b) N 0 0 (block N x b) (buffer b))) out)
