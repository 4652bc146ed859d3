-- The limits of document 01, 'When the bank declines', and of document 02, P1 and P7, as tests: definitions.
use Rattle.std.specs.Prelude.{Bool, cond, false, List, ℕ, ◌+◌, ◌-◌, ◌*◌, ◌^◌, leb, ℤ, pos, neg_ℤ}
use Rattle.std.specs.Int.Signed.{le_z}
use Rattle.arithmetic.specs.Lists.{at, all}

-- z lies within plus or minus b, the ends included
unfoldable pub within : ℤ → ℕ → Bool
within z b = cond (le_z (neg_ℤ (pos b)) z) (le_z z (pos b)) false

-- a test of the numbers from .. to - 1
unfoldable pub between : ℕ → ℕ → (ℕ → Bool) → Bool
between from to p = all (to - from) (λ i. p (from + i))

-- the limit of a coefficient, and of a tail entry of a stream with hops of M samples
abbrev pub coefficient_limit : ℕ
coefficient_limit = 536870912

unfoldable pub tail_limit : ℕ → ℕ
tail_limit M = M * 2 ^ 55

-- the first m coefficients are within the limit
unfoldable pub in_range : ℕ → List ℤ → Bool
in_range m x = all m (λ k. within (at x k) coefficient_limit)

-- H is 1 to 4,095
abbrev pub hop_limit : ℕ
hop_limit = 4095

unfoldable pub counted : ℕ → Bool
counted H = cond (leb 1 H) (leb H hop_limit) false

-- a joint's shape is 0 or 1 (document 02, P7): both of a block's
unfoldable pub are_shapes : ℕ → ℕ → Bool
are_shapes left right = cond (leb left 1) (leb right 1) false
