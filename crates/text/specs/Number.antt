-- A whole number in decimal as bytes, and the bytes that a number is printed as: definitions. Document 01, 'Listing program'.
use Rattle.std.specs.Prelude.{Bool, true, false, not, cond, ◌&&◌, List, [], ◌∷◌, ◌++◌, ℕ, zero, suc, ◌+◌, ◌-◌, ◌*◌, ◌/◌, ◌%◌, leb, ltb, eqb, length, get_or, drop, ℤ, pos, negsuc, neg_ℤ}
use Rattle.arithmetic.specs.Lists.{every}
use Rattle.text.specs.Bytes.{minus, digit}

unfoldable pub is_digit : ℕ → Bool
is_digit b = leb (digit 0) b && leb b (digit 9)

-- ---- form: an optional minus and 1 to `most` digits, with no leading zero and no -0
-- a zero in front of other digits
unfoldable pub leading_zero : List ℕ → Bool
leading_zero ds = ltb 1 (length ds) && eqb (get_or ds 0 0) (digit 0)

-- 1 to `most` digits, with no leading zero
unfoldable pub is_natural : ℕ → List ℕ → Bool
is_natural most ds = leb 1 (length ds) && leb (length ds) most && not (leading_zero ds) && every is_digit ds

-- the number of n's digits with further ones behind them
unfoldable pub natural_from : ℕ → List ℕ → ℕ
natural_from n [] = n
natural_from n (d ∷ ds) = natural_from (10 * n + (d - digit 0)) ds

unfoldable pub natural : List ℕ → ℕ
natural ds = natural_from 0 ds

-- a minus stands in front
unfoldable pub is_signed : List ℕ → Bool
is_signed bs = eqb (get_or bs 0 0) minus

unfoldable pub is_number : ℕ → List ℕ → Bool
is_number most bs = cond (is_signed bs) (is_natural most (drop 1 bs) && not (eqb (natural (drop 1 bs)) 0)) (is_natural most bs)

-- the most digits with which every number fits 64 bits
abbrev pub most_digits : ℕ
most_digits = 18

unfoldable pub value : List ℕ → ℤ
value bs = cond (is_signed bs) (neg_ℤ (pos (natural (drop 1 bs)))) (pos (natural bs))

-- ---- print: decimal, with a minus in front of a number below 0
-- one digit where n is below 10, and else those of n / 10 with the last digit behind them; f from n on serves
unfoldable pub digits_by : ℕ → ℕ → List ℕ
digits_by zero n = digit n ∷ []
digits_by (suc f) n = elim (ltb n 10) [ true ↦ digit n ∷ [] | false ↦ digits_by f (n / 10) ++ (digit (n % 10) ∷ []) ]

unfoldable pub decimal : ℕ → List ℕ
decimal n = digits_by n n

-- negsuc n stands for -(n + 1)
unfoldable pub printed : ℤ → List ℕ
printed (pos n) = decimal n
printed (negsuc n) = minus ∷ decimal (suc n)
