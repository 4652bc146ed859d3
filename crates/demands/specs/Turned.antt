-- THE SIGN RULE, over the definitions that the contracts of the public calls cite: sound with its sign turned codes to coefficients with their signs
-- turned. Document 02, P5. The contract of `sign_rule`, by TurnLaws.
use Rattle.std.specs.Prelude.{◌≡◌, ◌≢◌, List, [], ◌∷◌, ℕ, ◌<◌, length, ℤ, neg_ℤ}
use Rattle.arithmetic.specs.Rounding.{least, Sample}
use Rattle.arithmetic.specs.Lists.{at}
use Rattle.transform.specs.Analysis.{y}
use Rattle.analysis.specs.declared.Route.{Route}
use Rattle.analysis.specs.Analysis.{spectrum}
use Rattle.block_calls.specs.Analysis.{analyse_code, analyse_out}
use Rattle.orders.specs.declared.Order.{Order}
use Rattle.recording_calls.specs.Recordings.{recorded_code, recorded_out}

-- the same numbers with their signs turned
unfoldable pub opposite : List ℤ → List ℤ
opposite [] = []
opposite (x ∷ xs) = neg_ℤ x ∷ opposite xs

-- samples without -32,768
pub record Turnable (x : List ℤ) : Type 0 where
  pub sample : (i : ℕ) → i < length x → Sample (at x i)
  pub not_least : (i : ℕ) → i < length x → at x i ≢ least

pub record SignRule : Type 0 where
  -- turned samples without -32,768 are samples ..
  pub samples : (x : List ℤ) → Turnable x → (i : ℕ) → i < length (opposite x) → Sample (at (opposite x) i)
  -- .. and its turned sample is none
  pub without_least : Sample (neg_ℤ least) → ⊥
  -- a block by any route, at joints of any halves
  pub block : (route : Route) (N : ℕ) (left right : ℕ → ℤ) (x : List ℤ) → spectrum route N (y N left right (opposite x)) ≡ opposite (spectrum route N (y N left right x))
  -- what two taken calls of `analyse` leave, at every pair of shapes (P7)
  pub analysed : (route : Route) (N left right : ℕ) (x out out' : List ℤ) → analyse_code route N left right x out ≡ 0 → analyse_code route N left right (opposite x) out' ≡ 0 →
      analyse_out route N left right (opposite x) out' ≡ opposite (analyse_out route N left right x out)
  -- and two of `analyse_recording`
  pub recorded : (route : Route) (order : Order) (N H : ℕ) (x out out' : List ℤ) → recorded_code route N H x out ≡ 0 → recorded_code route N H (opposite x) out' ≡ 0 →
      recorded_out route order N H (opposite x) out' ≡ opposite (recorded_out route order N H x out)
