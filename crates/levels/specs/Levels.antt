-- A coefficient by its step, and back: definitions. Document 02, P8.
use Rattle.std.specs.Prelude.{cond, List, ℕ, ◌≤◌, ◌<◌, ℤ, pos, neg_ℤ, ◌*ℤ◌, length, get_or}
use Rattle.std.specs.Int.Signed.{lt_z}
use Rattle.arithmetic.specs.Rounding.{rnd}
use Rattle.arithmetic.specs.Lists.{at, table}

-- 'A coefficient becomes the level rnd(X/step), half rule as in P5 and odd steps included'
unfoldable pub level : ℕ → ℤ → ℤ
level step X = rnd X step

-- 'clipped to plus or minus 536,870,912'
abbrev pub limit : ℤ
limit = pos 536870912

unfoldable pub clipped : ℤ → ℤ
clipped z = cond (lt_z z (neg_ℤ limit)) (neg_ℤ limit) (cond (lt_z limit z) limit z)

-- 'and comes back as level × step, clipped'
unfoldable pub back : ℕ → ℤ → ℤ
back step L = clipped (L *ℤ pos step)

-- the levels of m coefficients, each by the step of its place
unfoldable pub levelled : (ℕ → ℕ) → ℕ → List ℤ → List ℤ
levelled steps m x = table m (λ k. level (steps k) (at x k))

-- the coefficients that come back from m levels
unfoldable pub restored : (ℕ → ℕ) → ℕ → List ℤ → List ℤ
restored steps m l = table m (λ k. back (steps k) (at l k))

-- the step at place k of a list; 0 past its end
abbrev pub step_at : List ℕ → ℕ → ℕ
step_at steps k = get_or steps k 0

-- a step is 1 to 65,536
pub record Step (step : ℕ) : Type 0 where
  pub least : 1 ≤ step
  pub most : step ≤ 65536

-- every entry is a step
pub record Stepping (steps : List ℕ) : Type 0 where
  pub each : (k : ℕ) → k < length steps → Step (step_at steps k)
