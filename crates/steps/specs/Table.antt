-- A step table as bytes: its lines, the verdict on it, and the steps that it gives: definitions. Document 02, P8.
use Rattle.std.specs.Prelude.{◌≡◌, Bool, true, false, not, cond, ◌&&◌, List, [], ◌∷◌, ℕ, ◌+◌, ◌-◌, ◌≤◌, ◌<◌, eqb, ltb, leb, length, get_or, ℤ, pos, nat_abs}
use Rattle.std.specs.Int.Signed.{le_z, lt_z}
use Rattle.text.specs.Number.{is_number, value}
use Rattle.text.specs.Lines.{fields, lines, remainder}

-- ---- a line: first coefficient, last coefficient, step
-- the most digits of a number, as in a listing
abbrev pub digits : ℕ
digits = 5

-- a number of that form, from least to most
unfoldable pub bounded : ℤ → ℤ → List ℕ → Bool
bounded least most field = is_number digits field && (not (lt_z (value field) least) && le_z (value field) most)

-- a line: whether it is one, and its numbers; all are 0 where it is none
pub record Line : Type 0 where
  pub ok : Bool
  pub first : ℕ
  pub last : ℕ
  pub step : ℕ

-- what is no line
abbrev pub no_line : Line
no_line = record { ok = false; first = 0; last = 0; step = 0 }

-- 0 ≤ first ≤ last ≤ M - 1, and a step from 1 to 65,536
unfoldable pub numbers_of : ℕ → List ℕ → List ℕ → List ℕ → Line
numbers_of M first last step =
    cond
    (bounded (pos 0) (pos (M - 1)) first && (bounded (value first) (pos (M - 1)) last && bounded (pos 1) (pos 65536) step))
    (record { ok = true; first = nat_abs (value first); last = nat_abs (value last); step = nat_abs (value step) })
    no_line

-- three fields, no more and no less
unfoldable pub row_of : ℕ → List ℕ → Line
row_of M line = cond (eqb (length (fields line)) 3) (numbers_of M (get_or (fields line) 0 []) (get_or (fields line) 1 []) (get_or (fields line) 2 [])) no_line

-- ---- the verdict
-- 9, 10 or 11 with a line counted from 1, or 0 with line 0. A table that ends too early is 10 with line 0
pub record Verdict : Type 0 where
  pub code : ℕ
  pub line : ℕ

abbrev pub refused : ℕ → ℕ → Verdict
refused code at = record { code = code; line = at }

abbrev pub taken : Verdict
taken = record { code = 0; line = 0 }

-- 9: the number of the first line that is none, and 0 where each is one. Lines are counted from 1; of those given here the first is line n.
-- A last line without its line feed is none
unfoldable pub malformed : ℕ → ℕ → List (List ℕ) → List ℕ → ℕ
malformed M n [] rest = cond (eqb (length rest) 0) 0 n
malformed M n (l ∷ ls) rest = cond (row_of M l).ok (malformed M (n + 1) ls rest) n

-- 10 and 11: the first joint at fault. `next` is the place behind the previous last. A line that starts behind it leaves a gap, 10; a line that
-- starts at or before the previous last is 11; a table that ends before M - 1, the empty one included, is 10 with no line
unfoldable pub joints : ℕ → ℕ → ℕ → List (List ℕ) → Verdict
joints M n next [] = cond (eqb next M) taken (refused 10 0)
joints M n next (l ∷ ls) =
    cond (ltb next (row_of M l).first) (refused 10 n) (cond (ltb (row_of M l).first next) (refused 11 n) (joints M (n + 1) ((row_of M l).last + 1) ls))

-- all lines are tested for 9 first, then the first joint at fault decides
unfoldable pub by_lines : ℕ → ℕ → List (List ℕ) → Verdict
by_lines M bad ls = cond (eqb bad 0) (joints M 1 0 ls) (refused 9 bad)

unfoldable pub verdict : ℕ → List ℕ → Verdict
verdict M text = by_lines M (malformed M 1 (lines text) (remainder text)) (lines text)

abbrev pub table_code : ℕ → List ℕ → ℕ
table_code M text = (verdict M text).code

-- ---- the steps of a table
-- the step of coefficient k: that of the first line that covers it, and 0 where none does
unfoldable pub step_in : ℕ → List (List ℕ) → ℕ → ℕ
step_in M [] k = 0
step_in M (l ∷ ls) k = cond (leb (row_of M l).first k && leb k (row_of M l).last) (row_of M l).step (step_in M ls k)

unfoldable pub step_at : ℕ → List ℕ → ℕ → ℕ
step_at M text k = step_in M (lines text) k

-- place k lies in line `line`, counted from 0 here, and in no other
pub record Covered (M k : ℕ) (ls : List (List ℕ)) : Type 0 where
  pub line : ℕ
  pub inside : line < length ls
  pub from : (row_of M (get_or ls line [])).first ≤ k
  pub upto : k ≤ (row_of M (get_or ls line [])).last
  pub only : (j : ℕ) → j < length ls → (row_of M (get_or ls j [])).first ≤ k → k ≤ (row_of M (get_or ls j [])).last → j ≡ line

-- the larger of two
unfoldable pub larger : ℕ → ℕ → ℕ
larger a b = cond (ltb a b) b a

-- the largest step of the lines, and 0 for none
unfoldable pub coarsest_in : ℕ → List (List ℕ) → ℕ
coarsest_in M [] = 0
coarsest_in M (l ∷ ls) = larger (row_of M l).step (coarsest_in M ls)

unfoldable pub coarsest : ℕ → List ℕ → ℕ
coarsest M text = coarsest_in M (lines text)
