-- Coefficients as floats, in words of the public calls: definitions. Document 02, P14. The codes and buffers are those that the public calls' contracts cite.
use Rattle.std.specs.Prelude.{◌≡◌, List, ℕ, ◌/◌, ◌<◌, length, get_or, ℤ, pos, nat_abs, ◌≤ℤ◌, Float}
use Rattle.std.specs.Float.{nan}
use Rattle.std.specs.Float.Ieee.Exact.{HasValue}
use Rattle.arithmetic.specs.Lists.{at}
use Rattle.floats.specs.Floats.{negative, plus_zero}
use Rattle.float_calls.specs.Answers.{Ends}
use Rattle.float_calls.specs.FloatCalls.{floats_code, floats_out}

-- 'a float equal to X/64 exactly': it is finite, has X's sign, and its size times 64 is that of X. 0 is +0.0
pub record Exactly (f : Float) (X : ℤ) : Type 0 where
  pub value : HasValue f (negative X) (nat_abs X) 64
  pub zero : X ≡ pos 0 → f ≡ plus_zero

-- entry k of a list of floats
abbrev pub float_at : List Float → ℕ → Float
float_at fs k = get_or fs k nan

-- what `floats` left, returning 0
pub record FloatsOn (N : ℕ) (x : List ℤ) (out : List Float) : Type 0 where
  pub long : length (floats_out N x out) ≡ N / 2
  pub each : (k : ℕ) → k < N / 2 → Exactly (float_at (floats_out N x out) k) (at x k)

-- f is the float of a coefficient, at this place, and every coefficient stands to that one as `beside` says. Whole numbers are compared: no float's order has to be believed
pub record EndOn (beside : ℤ → ℤ → Type 0) (N : ℕ) (x : List ℤ) (f : Float) : Type 0 where
  pub place : ℕ
  pub inside : place < N / 2
  pub occurs : Exactly f (at x place)
  pub outside : (k : ℕ) → k < N / 2 → beside (at x k) (at x place)
  -- it is the float that `floats` leaves there
  pub same : (out : List Float) → floats_code N x out ≡ 0 → float_at (floats_out N x out) place ≡ f

-- 'its highest .. value': no coefficient is higher
abbrev pub HighestOn : ℕ → List ℤ → Float → Type 0
HighestOn N x f = EndOn (λ a b. a ≤ℤ b) N x f

-- '.. and lowest'
abbrev pub LowestOn : ℕ → List ℤ → Float → Type 0
LowestOn N x f = EndOn (λ a b. b ≤ℤ a) N x f

-- what `highest_lowest` answered, returning 0
pub record EndsOn (N : ℕ) (x : List ℤ) (r : Ends) : Type 0 where
  pub highest : HighestOn N x r.pair.highest
  pub lowest : LowestOn N x r.pair.lowest
