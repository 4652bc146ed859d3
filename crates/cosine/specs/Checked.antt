-- The twelve values that document 01 marks to be proved ('Checked values'), as one table: what is computed, and its value. The whole table is proved. The roundings of -1/2 and
-- -3/2 are as document 02, P5, has them.
use Rattle.std.specs.Prelude.{◌≡◌, Bool, List, [], ◌∷◌, ℕ, ◌<◌, T, length, get_or, ℤ, pos, neg_ℤ}
use Rattle.arithmetic.specs.Rounding.{floor, rnd}
use Rattle.arithmetic.specs.Sums.{sum}
use Rattle.arithmetic.specs.Lists.{every}
use Rattle.arithmetic.specs.TestLaws.{same, same-is, every-at}
use Rattle.cosine.specs.Cosine.{top, bottom, factorial, denominator, term, signed, series, first_quarter, reduced, to_half, to_turn, continued, C}
use Rattle.cosine.specs.Kernels.{K}

pub record Checked : Type 0 where
  pub computed : ℤ
  pub value : ℤ

infix 10 ◌is◌
abbrev ◌is◌ : ℤ → ℤ → Checked
a is b = record { computed = a; value = b }

unfoldable pub checked : List Checked
checked =
    (rnd (pos 1) 2 is pos 1) ∷
    (rnd (neg_ℤ (pos 1)) 2 is neg_ℤ (pos 1)) ∷
    (rnd (neg_ℤ (pos 3)) 2 is neg_ℤ (pos 2)) ∷
    (rnd (neg_ℤ (pos 5)) 4 is neg_ℤ (pos 1)) ∷
    (C (pos 0) is pos 67108864) ∷
    (C (pos 72) is pos 58117981) ∷
    (C (pos 108) is pos 47453133) ∷
    (C (pos 144) is pos 33554432) ∷
    (C (pos 216) is pos 0) ∷
    (C (pos 432) is neg_ℤ (pos 67108864)) ∷
    (K 12 0 0 is C (pos 126)) ∷
    (K 12 11 5 is neg_ℤ (C (pos 126))) ∷
    []

right : Checked → Bool
right c = same c.computed c.value

test : T (every right checked)
unfolding every right same checked K C continued to_turn to_half reduced first_quarter rnd floor series sum signed term denominator factorial bottom top
test = tt

-- each line of the table holds
pub checked_holds : (k : ℕ) → k < length checked → (get_or checked k (pos 0 is pos 0)).computed ≡ (get_or checked k (pos 0 is pos 0)).value
unfolding right
checked_holds k h = same-is (get_or checked k (pos 0 is pos 0)).computed (get_or checked k (pos 0 is pos 0)).value (every-at right (pos 0 is pos 0) checked test k h)
