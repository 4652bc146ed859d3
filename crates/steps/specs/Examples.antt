-- Tables of M = 6 places and their verdicts, and the steps of one, computed.
use Rattle.std.specs.Prelude.{List, [], ◌∷◌, ◌&&◌, ℕ, T, eqb, get_or}
use Rattle.arithmetic.specs.Lists.{every}
use Rattle.text.specs.Bytes.{ascii}
use Rattle.text.specs.Number.{is_digit, leading_zero, is_natural, natural_from, natural, is_signed, is_number, value}
use Rattle.text.specs.Lines.{in_front, split, ended, unended, lines, remainder, fields}
use Rattle.steps.specs.Table.{bounded, numbers_of, row_of, malformed, joints, by_lines, verdict, step_in, step_at, larger, coarsest_in, coarsest}

pub record Example : Type 0 where
  pub text : List ℕ
  pub code : ℕ
  pub line : ℕ

abbrev gives : List ℕ → ℕ → ℕ → Example
gives t c l = record { text = t; code = c; line = l }

unfoldable pub examples : List Example
examples =
    gives (ascii "0,5,16\n") 0 0 ∷
    gives (ascii "0,0,1\n1,4,65536\n5,5,3\n") 0 0 ∷
    -- 9: no three numbers, or a number out of its range
    gives (ascii "0,5\n") 9 1 ∷
    gives (ascii "0,5,16,1\n") 9 1 ∷
    gives (ascii "0,5,16") 9 1 ∷
    gives (ascii "0,5,16\n\n") 9 2 ∷
    gives (ascii "0,5,16\r\n") 9 1 ∷
    gives (ascii "0, 5,16\n") 9 1 ∷
    gives (ascii "+0,5,16\n") 9 1 ∷
    gives (ascii "00,5,16\n") 9 1 ∷
    gives (ascii "-0,5,16\n") 9 1 ∷
    gives (ascii "-1,5,16\n") 9 1 ∷
    gives (ascii "0,5,0\n") 9 1 ∷
    gives (ascii "0,5,65537\n") 9 1 ∷
    gives (ascii "0,6,16\n") 9 1 ∷
    gives (ascii "3,2,16\n") 9 1 ∷
    -- 10: a place not covered
    gives (ascii "") 10 0 ∷
    gives (ascii "1,5,16\n") 10 1 ∷
    gives (ascii "0,4,16\n") 10 0 ∷
    gives (ascii "0,2,16\n4,5,16\n") 10 2 ∷
    -- 11: a line that starts at or before the previous last
    gives (ascii "0,2,16\n2,5,16\n") 11 2 ∷
    gives (ascii "0,5,16\n0,5,16\n") 11 2 ∷
    -- a 9 in the last line beats them, and then the first joint decides
    gives (ascii "0,2,16\n2,5,16\nx\n") 9 3 ∷
    gives (ascii "1,5,16\n0,5,x\n") 9 2 ∷
    gives (ascii "1,2,16\n2,5,16\n") 10 1 ∷
    gives (ascii "0,2,16\n2,3,16\n5,5,16\n") 11 2 ∷
    gives (ascii "0,2,16\n2,4,16\n") 11 2 ∷
    []

pub as_told : T (every (λ (e : Example). eqb (verdict 6 e.text).code e.code && eqb (verdict 6 e.text).line e.line) examples)
unfolding examples every verdict by_lines malformed joints row_of numbers_of bounded fields lines remainder split in_front ended unended is_number value is_signed natural natural_from is_natural leading_zero is_digit
as_told = tt

-- the steps of the second table, and the coarsest of them
abbrev second : List ℕ
second = ascii "0,0,1\n1,4,65536\n5,5,3\n"

pub as_stepped : T (every (λ (k : ℕ). eqb (step_at 6 second k) (get_or (1 ∷ 65536 ∷ 65536 ∷ 65536 ∷ 65536 ∷ 3 ∷ []) k 0)) (0 ∷ 1 ∷ 2 ∷ 3 ∷ 4 ∷ 5 ∷ []) && eqb (coarsest 6 second) 65536)
unfolding every step_at step_in coarsest coarsest_in larger row_of numbers_of bounded fields lines split in_front ended is_number value is_signed natural natural_from is_natural leading_zero is_digit
as_stepped = tt
