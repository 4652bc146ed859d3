-- The cosine table and C(t): definitions. Document 01, 'Rounding and the cosine table', with the turn cut in 864 parts (P4).
use Rattle.std.specs.Prelude.{cond, ℕ, zero, suc, ◌-◌, ◌*◌, ◌/◌, ◌%◌, ◌^◌, leb, eqb, ℤ, pos, negsuc, neg_ℤ, ◌*ℤ◌}
use Rattle.arithmetic.specs.Rounding.{rnd}
use Rattle.arithmetic.specs.Sums.{sum}

-- the parts that a turn is cut in, and the parts of it that have names: 432, 216, 108 in the short joint's rise, and 288, 144, 72 beside the angle s of the short route
abbrev pub turn : ℕ
turn = 864

abbrev pub half_turn : ℕ
half_turn = turn / 2

abbrev pub quarter : ℕ
quarter = turn / 4

abbrev pub third : ℕ
third = turn / 3

abbrev pub sixth : ℕ
sixth = turn / 6

abbrev pub eighth : ℕ
eighth = turn / 8

abbrev pub twelfth : ℕ
twelfth = turn / 12

-- ---- the rule of the table
-- the angle u = 2 × p × t / 864, with p = 3,141,592,653,589,793 / 10^15: top t over bottom
unfoldable pub top : ℕ → ℕ
top t = 2 * 3141592653589793 * t

unfoldable pub bottom : ℕ
bottom = turn * 10 ^ 15

unfoldable pub factorial : ℕ → ℕ
factorial zero = 1
factorial (suc n) = suc n * factorial n

-- the term u^(2i) / (2i)! with the sign of its place, over the denominator of all the terms, bottom^20 × 20!
unfoldable pub denominator : ℕ
denominator = bottom ^ 20 * factorial 20

unfoldable pub term : ℕ → ℕ → ℕ
term t i = top t ^ (2 * i) * bottom ^ (20 - 2 * i) * (factorial 20 / factorial (2 * i))

unfoldable pub signed : ℕ → ℤ → ℤ
signed i z = cond (eqb (i % 2) 0) z (neg_ℤ z)

-- 1 - u²/2! + u⁴/4! - .. through u²⁰/20!, over that denominator
unfoldable pub series : ℕ → ℤ
series t = sum 11 (λ i. signed i (pos (term t i)))

-- C(t) for t = 0 to 216: the series times 67,108,864, rounded
unfoldable pub first_quarter : ℕ → ℤ
first_quarter t = rnd (pos 67108864 *ℤ series t) denominator

-- ---- any other t
-- t modulo 864, in 0 .. 863; negsuc t stands for -(t + 1)
unfoldable pub reduced : ℤ → ℕ
reduced (pos t) = t % turn
reduced (negsuc t) = turn - 1 - t % turn

-- a rule c for t = 0 to 216, continued: above 216 it is -c(432 - t) up to 432 ..
unfoldable pub to_half : (ℕ → ℤ) → ℕ → ℤ
to_half c t = cond (leb t quarter) (c t) (neg_ℤ (c (half_turn - t)))

-- .. and what stands at 864 - t beyond
unfoldable pub to_turn : (ℕ → ℤ) → ℕ → ℤ
to_turn c t = cond (leb t half_turn) (to_half c t) (to_half c (turn - t))

unfoldable pub continued : (ℕ → ℤ) → ℤ → ℤ
continued c t = to_turn c (reduced t)

-- C(t) for every whole number t
unfoldable pub C : ℤ → ℤ
C t = continued first_quarter t
