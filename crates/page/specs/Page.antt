-- A printed page of a recording's coefficients, what the call `page` answers, and how a page is read back: definitions. Document 02, P2 and P10. H is the number of hops; a recording
-- has H + 1 blocks.
use Rattle.std.specs.Prelude.{cond, List, [], ◌∷◌, ◌++◌, ℕ, zero, suc, ◌+◌, ◌*◌, ◌/◌, eqb, length, take, drop, ℤ}
use Rattle.arithmetic.specs.Lists.{at, joined}
use Rattle.text.specs.Bytes.{line_feed}
use Rattle.text.specs.Number.{decimal, printed, value}
use Rattle.text.specs.Columns.{aligned, trimmed}
use Rattle.cosine.specs.Kernels.{tabled}
use Rattle.orders.specs.declared.Order.{Order}
use Rattle.orders.specs.Orders.{part}
use Rattle.checks.specs.Causes.{Cause, ◌unless◌, first_cause}
use Rattle.checks.specs.Limits.{in_range, counted}

-- ---- the page
-- columns 1 to 8 of line j of block b: the block's number, counted from 0, on the first line of a block, and blanks on its other lines
unfoldable pub margin : ℕ → ℕ → List ℕ
margin b zero = aligned 8 (decimal b)
margin b (suc j) = aligned 8 []

-- the 80 columns of that line, c the block's coefficients: behind the margin six of them, X(6j) to X(6j + 5), each right aligned in 12 columns
unfoldable pub columns : ℕ → List ℤ → ℕ → List ℕ
columns b c j = margin b j ++ joined 6 (λ i. aligned 12 (printed (at c (6 * j + i))))

-- the lines of a page, block after block, each of its 80 columns and a line feed: a block has M / 6. x are the coefficients, in the order named
unfoldable pub page_of : Order → ℕ → ℕ → List ℤ → List ℕ
page_of order N H x = joined (H + 1) (λ b. joined (N / 2 / 6) (λ j. columns b (part order (N / 2) (H + 1) x b) j ++ (line_feed ∷ [])))

-- ---- the call
-- the causes of `page`: N, H, a buffer that is not of H + 1 blocks of M coefficients, or of M / 6 lines of 81 bytes, a coefficient anywhere
unfoldable pub page_causes : ℕ → ℕ → List ℤ → List ℕ → List Cause
page_causes N H x out =
    1 unless tabled N
    ∷ 2 unless counted H
    ∷ 2 unless eqb (length x) ((H + 1) * (N / 2))
    ∷ 2 unless eqb (length out) ((H + 1) * (N / 2 / 6) * 81)
    ∷ 3 unless in_range ((H + 1) * (N / 2)) x
    ∷ []

unfoldable pub page_code : ℕ → ℕ → List ℤ → List ℕ → ℕ
page_code N H x out = first_cause (page_causes N H x out)

-- what `out` then holds: the page, or what it held
unfoldable pub page_out : Order → ℕ → ℕ → List ℤ → List ℕ → List ℕ
page_out order N H x out = cond (eqb (page_code N H x out) 0) (page_of order N H x) out

-- ---- reading a page back
-- what columns 8 + 12 i + 1 to 8 + 12 i + 12 of a line hold, and columns 1 to 8, without the blanks in front
unfoldable pub number_text : List ℕ → ℕ → List ℕ
number_text line i = trimmed (take 12 (drop (8 + 12 * i) line))

unfoldable pub block_text : List ℕ → List ℕ
block_text line = trimmed (take 8 line)

-- the numbers that these are, read as a listing's numbers are
unfoldable pub number_in : List ℕ → ℕ → ℤ
number_in line i = value (number_text line i)

unfoldable pub block_in : List ℕ → ℤ
block_in line = value (block_text line)
