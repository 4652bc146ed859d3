-- Coefficients as 64-bit floats, and the highest and the lowest of a block: definitions. Document 02, P14.
use Rattle.std.specs.Prelude.{Bool, true, false, cond, List, ℕ, zero, suc, length, ℤ, pos, negsuc, nat_abs, Float}
use Rattle.std.specs.Int.Signed.{lt_z}
use Rattle.std.specs.Float.{fin, binary64}
use Rattle.std.specs.Float.Ieee.{round}
use Rattle.arithmetic.specs.Lists.{at, table}

-- below zero
unfoldable pub negative : ℤ → Bool
negative (pos n) = false
negative (negsuc n) = true

-- 'each coefficient as a float equal to X/64': the 64-bit float nearest to it. That it is X/64 itself, 'exactly', is `exact` of FloatLaws, for every coefficient
unfoldable pub sixty_fourth : ℤ → Float
sixty_fourth X = round binary64 (negative X) (nat_abs X) 64

-- of every coefficient of a block, in its order
unfoldable pub floats_of : List ℤ → List Float
floats_of x = table (length x) (λ (k : ℕ). sixty_fourth (at x k))

-- +0.0
abbrev pub plus_zero : Float
plus_zero = fin false 0 (pos 0)

-- the one of two coefficients that is higher, and that is lower: whole numbers are compared
unfoldable pub larger : ℤ → ℤ → ℤ
larger a b = cond (lt_z a b) b a

unfoldable pub smaller : ℤ → ℤ → ℤ
smaller a b = cond (lt_z b a) b a

-- of entry 0 and the first m entries, one after the other: entry 0 is met twice, which changes nothing
unfoldable pub picked : (ℤ → ℤ → ℤ) → List ℤ → ℕ → ℤ
picked pick x zero = at x 0
picked pick x (suc m) = pick (picked pick x m) (at x m)

-- 'for a block its highest and lowest value'. That both occur in it, and that no coefficient lies outside them, is in EndLaws
unfoldable pub highest_of : List ℤ → ℤ
highest_of x = picked larger x (length x)

unfoldable pub lowest_of : List ℤ → ℤ
lowest_of x = picked smaller x (length x)
