-- What the functions that go through a table once compute at each line, and what comes of it: definitions.
use Rattle.std.specs.Prelude.{◌≡◌, ◌≢◌, cond, List, [], ◌∷◌, ℕ, zero, suc, ◌+◌, ◌<◌, Option, IfSome, IfNone, eqb, ltb, length, drop, set}
use Rattle.text.specs.Lines.{fields}
use Rattle.text.specs.LineLaws.{part}
use Rattle.steps.specs.declared.row.Commas.{Commas}
use Rattle.steps.specs.Table.{Line, no_line, row_of, Verdict, refused, taken}

-- what `cut` answers: the three fields of the line, or that it has another number of them
pub record IsCut (line : List ℕ) (r : Option Commas) : Type 0 where
  pub some : IfSome r (λ c. fields line ≡ part line 0 c.a ∷ part line (c.a + 1) c.b ∷ drop (c.b + 1) line ∷ [])
  pub less : IfSome r (λ c. (c.a < c.b) × (c.b < length line))
  pub none : IfNone r (length (fields line) ≢ 3)

-- the line from i to its line feed at e; a last line without its line feed is none
unfoldable pub row_at : ℕ → List ℕ → ℕ → ℕ → Line
row_at M s i e = cond (eqb e (length s)) no_line (row_of M (part s i e))

-- one line more, line n, which starts at `first`: a fault found stays
unfoldable pub joint_fault : Verdict → ℕ → ℕ → ℕ → Verdict
joint_fault fault n next first = cond (eqb fault.code 0) (cond (ltb next first) (refused 10 n) (cond (ltb first next) (refused 11 n) fault)) fault

-- behind the last line
unfoldable pub closing_fault : Verdict → ℕ → ℕ → Verdict
closing_fault fault next M = cond (eqb fault.code 0) (cond (eqb next M) taken (refused 10 0)) fault

-- n entries from place p on are v
unfoldable pub spread : ℕ → ℕ → ℕ → List ℕ → List ℕ
spread zero p v xs = xs
spread (suc n) p v xs = set (spread n p v xs) (p + n) v
