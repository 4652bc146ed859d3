-- What `largest_share` and, for C, `name_share` answer: definitions. Document 02, P9. first and second are the original coefficients of the earlier and of the later block, and those with
-- a dash the changed ones. M = N/2.
use Rattle.std.specs.Prelude.{Bool, false, cond, List, [], ◌∷◌, ◌++◌, ℕ, ◌/◌, eqb, leb, ltb, length, ℤ}
use Rattle.cosine.specs.Kernels.{tabled}
use Rattle.checks.specs.Limits.{in_range}
use Rattle.checks.specs.Causes.{Cause, ◌unless◌, first_cause}
use Rattle.shares.specs.Shares.{Named, largest_share}
use Rattle.share_calls.specs.Answers.{Share}

-- N is not tabled, the shape is above 1, a length is not M, 'a place outside the hop counts as a wrong length'
unfoldable pub size_causes : (N shape : ℕ) → (first first' second second' : List ℤ) → ℕ → List Cause
size_causes N shape first first' second second' place =
    1 unless tabled N
    ∷ 8 unless leb shape 1
    ∷ 2 unless eqb (length first) (N / 2)
    ∷ 2 unless eqb (length first') (N / 2)
    ∷ 2 unless eqb (length second) (N / 2)
    ∷ 2 unless eqb (length second') (N / 2)
    ∷ 2 unless ltb place (N / 2)
    ∷ []

unfoldable pub size_code : (N shape : ℕ) → (first first' second second' : List ℤ) → ℕ → ℕ
size_code N shape first first' second second' place = first_cause (size_causes N shape first first' second second' place)

-- each of the four is in range
unfoldable pub ranged : ℕ → (first first' second second' : List ℤ) → Bool
ranged m first first' second second' = cond (in_range m first) (cond (in_range m first') (cond (in_range m second) (in_range m second') false) false) false

-- ---- `largest_share`: and a coefficient of the four is out of range
unfoldable pub share_causes : (N shape : ℕ) → (first first' second second' : List ℤ) → ℕ → List Cause
share_causes N shape first first' second second' place =
    size_causes N shape first first' second second' place ++ (3 unless ranged (N / 2) first first' second second' ∷ [])

unfoldable pub share_code : (N shape : ℕ) → (first first' second second' : List ℤ) → ℕ → ℕ
share_code N shape first first' second second' place = first_cause (share_causes N shape first first' second second' place)

-- taken, what is named; refused, all else is 0
abbrev pub answered_with : Named → Share
answered_with n = record { code = 0; any = n.any; block = n.block; coefficient = n.coefficient }

abbrev pub refused_with : ℕ → Share
refused_with k = record { code = k; any = false; block = 0; coefficient = 0 }

unfoldable pub share_answer : (N shape : ℕ) → (first first' second second' : List ℤ) → ℕ → Share
share_answer N shape first first' second second' place =
    let code = share_code N shape first first' second second' place in
    cond (eqb code 0) (answered_with (largest_share N shape place first first' second second')) (refused_with code)

-- ---- `name_share`: room for three numbers, another length being 2, tested with the other lengths
unfoldable pub name_causes : (N shape : ℕ) → (first first' second second' : List ℤ) → ℕ → List ℕ → List Cause
name_causes N shape first first' second second' place named =
    size_causes N shape first first' second second' place ++ (2 unless eqb (length named) 3 ∷ 3 unless ranged (N / 2) first first' second second' ∷ [])

unfoldable pub name_code : (N shape : ℕ) → (first first' second second' : List ℤ) → ℕ → List ℕ → ℕ
name_code N shape first first' second second' place named = first_cause (name_causes N shape first first' second second' place named)

-- 1 if a share is not zero, the block, the coefficient; 0, 0, 0 where all are zero
abbrev pub flag_of : Bool → ℕ
flag_of any = cond any 1 0

unfoldable pub numbers_of : Named → List ℕ
numbers_of n = flag_of n.any ∷ n.block ∷ n.coefficient ∷ []

unfoldable pub name_out : (N shape : ℕ) → (first first' second second' : List ℤ) → ℕ → List ℕ → List ℕ
name_out N shape first first' second second' place named =
    cond (eqb (name_code N shape first first' second second' place named) 0) (numbers_of (largest_share N shape place first first' second second')) named
