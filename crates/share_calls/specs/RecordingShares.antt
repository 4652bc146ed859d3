-- What `largest_share_recording` and, for C, `name_share_recording` answer: definitions. Document 02, P10: P9's tool over recordings, at long joints. X are the original coefficients of the H + 1
-- blocks of a recording, and X' the changed ones, both in the order named. The hop and the place there are counted from 0; M = N/2.
use Rattle.std.specs.Prelude.{Bool, false, cond, List, [], ◌∷◌, ◌++◌, ℕ, suc, ◌+◌, ◌*◌, ◌/◌, eqb, ltb, length, ℤ}
use Rattle.cosine.specs.Kernels.{tabled}
use Rattle.orders.specs.declared.Order.{Order}
use Rattle.orders.specs.Orders.{part}
use Rattle.checks.specs.Limits.{in_range, counted}
use Rattle.checks.specs.Causes.{Cause, ◌unless◌, first_cause}
use Rattle.shares.specs.Shares.{Named, largest_share}
use Rattle.share_calls.specs.Answers.{Share}
use Rattle.share_calls.specs.ShareCalls.{answered_with, refused_with, numbers_of}

-- blocks h and h + 1 cover hop h of the recording; what is named between them, with a long joint, and then the block by its number in the recording
unfoldable pub share_at : Order → (N H : ℕ) → (X X' : List ℤ) → (hop place : ℕ) → Named
share_at order N H X X' hop place =
    largest_share N 0 place
    (part order (N / 2) (H + 1) X hop)
    (part order (N / 2) (H + 1) X' hop)
    (part order (N / 2) (H + 1) X (suc hop))
    (part order (N / 2) (H + 1) X' (suc hop))

unfoldable pub numbered_from : ℕ → Named → Named
numbered_from hop n = record { any = n.any; block = cond n.any (hop + n.block) 0; coefficient = n.coefficient }

-- N is not tabled, H is out of its range, a buffer is not of (H+1) × M coefficients, 'a hop outside the recording is 2', a place outside the hop
unfoldable pub place_causes : (N H : ℕ) → (X X' : List ℤ) → (hop place : ℕ) → List Cause
place_causes N H X X' hop place =
    1 unless tabled N
    ∷ 2 unless counted H
    ∷ 2 unless eqb (length X) ((H + 1) * (N / 2))
    ∷ 2 unless eqb (length X') ((H + 1) * (N / 2))
    ∷ 2 unless ltb hop H
    ∷ 2 unless ltb place (N / 2)
    ∷ []

unfoldable pub place_code : (N H : ℕ) → (X X' : List ℤ) → (hop place : ℕ) → ℕ
place_code N H X X' hop place = first_cause (place_causes N H X X' hop place)

-- each coefficient of the two is in range, wherever it stands
unfoldable pub both_ranged : (N H : ℕ) → (X X' : List ℤ) → Bool
both_ranged N H X X' = cond (in_range ((H + 1) * (N / 2)) X) (in_range ((H + 1) * (N / 2)) X') false

-- ---- `largest_share_recording`: and a coefficient is out of range
unfoldable pub recording_share_code : (N H : ℕ) → (X X' : List ℤ) → (hop place : ℕ) → ℕ
recording_share_code N H X X' hop place = first_cause (place_causes N H X X' hop place ++ (3 unless both_ranged N H X X' ∷ []))

-- taken, what is named; refused, all else is 0
unfoldable pub recording_share : Order → (N H : ℕ) → (X X' : List ℤ) → (hop place : ℕ) → Share
recording_share order N H X X' hop place =
    let code = recording_share_code N H X X' hop place in
    cond (eqb code 0) (answered_with (numbered_from hop (share_at order N H X X' hop place))) (refused_with code)

-- ---- `name_share_recording`: room for three numbers, another length being 2, tested with the other lengths
unfoldable pub recording_name_code : (N H : ℕ) → (X X' : List ℤ) → (hop place : ℕ) → List ℕ → ℕ
recording_name_code N H X X' hop place named = first_cause (place_causes N H X X' hop place ++ (2 unless eqb (length named) 3 ∷ 3 unless both_ranged N H X X' ∷ []))

unfoldable pub recording_name_out : Order → (N H : ℕ) → (X X' : List ℤ) → (hop place : ℕ) → List ℕ → List ℕ
recording_name_out order N H X X' hop place named =
    cond (eqb (recording_name_code N H X X' hop place named) 0) (numbers_of (numbered_from hop (share_at order N H X X' hop place))) named
