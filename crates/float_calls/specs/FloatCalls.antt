-- What `floats`, `highest_lowest` and, for C, `put_ends` answer: definitions. Document 02, P14. x are the coefficients of a block, M = N/2.
use Rattle.std.specs.Prelude.{cond, List, [], ◌∷◌, ℕ, ◌/◌, eqb, length, ℤ, Float}
use Rattle.cosine.specs.Kernels.{tabled}
use Rattle.checks.specs.Limits.{in_range}
use Rattle.checks.specs.Causes.{Cause, ◌unless◌, first_cause}
use Rattle.floats.specs.Floats.{sixty_fourth, floats_of, plus_zero, highest_of, lowest_of}
use Rattle.float_calls.specs.declared.Pair.{Pair}
use Rattle.float_calls.specs.Answers.{Ends}

-- of a call with room for floats: N is not tabled; there are not M coefficients; the room is not for as many floats as is stated; a coefficient is out of range
unfoldable pub block_causes : ℕ → List ℤ → (room stated : ℕ) → List Cause
block_causes N x room stated =
    1 unless tabled N
    ∷ 2 unless eqb (length x) (N / 2)
    ∷ 2 unless eqb room stated
    ∷ 3 unless in_range (N / 2) x
    ∷ []

unfoldable pub block_code : ℕ → List ℤ → (room stated : ℕ) → ℕ
block_code N x room stated = first_cause (block_causes N x room stated)

-- ---- `floats`: room for M
abbrev pub floats_code : ℕ → List ℤ → List Float → ℕ
floats_code N x out = block_code N x (length out) (N / 2)

unfoldable pub floats_out : ℕ → List ℤ → List Float → List Float
floats_out N x out = cond (eqb (floats_code N x out) 0) (floats_of x) out

-- ---- `highest_lowest`: the same causes without a room
unfoldable pub ends_causes : ℕ → List ℤ → List Cause
ends_causes N x =
    1 unless tabled N
    ∷ 2 unless eqb (length x) (N / 2)
    ∷ 3 unless in_range (N / 2) x
    ∷ []

unfoldable pub ends_code : ℕ → List ℤ → ℕ
ends_code N x = first_cause (ends_causes N x)

-- 'its highest and lowest value as a pair of floats'
abbrev pub pair_of : List ℤ → Pair
pair_of x = record { highest = sixty_fourth (highest_of x); lowest = sixty_fourth (lowest_of x) }

-- beside a refusal
abbrev pub no_pair : Pair
no_pair = record { highest = plus_zero; lowest = plus_zero }

unfoldable pub ends_of : ℕ → List ℤ → Ends
ends_of N x = record { code = ends_code N x; pair = cond (eqb (ends_code N x) 0) (pair_of x) no_pair }

-- ---- `put_ends`: room for two, the highest and then the lowest
abbrev pub pair_code : ℕ → List ℤ → List Float → ℕ
pair_code N x pair = block_code N x (length pair) 2

unfoldable pub pair_out : ℕ → List ℤ → List Float → List Float
pair_out N x pair = cond (eqb (pair_code N x pair) 0) (sixty_fourth (highest_of x) ∷ sixty_fourth (lowest_of x) ∷ []) pair
