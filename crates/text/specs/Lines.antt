-- The lines of a text, and the fields of a line: definitions. Document 01, 'Listing program'.
use Rattle.std.specs.Prelude.{Bool, true, false, cond, List, [], ◌∷◌, ◌++◌, ℕ, zero, suc, ◌+◌, eqb, take, drop}
use Rattle.text.specs.Bytes.{line_feed, comma}

-- ---- parts
-- the place of the first byte p, and the length where there is none
unfoldable pub index_of : ℕ → List ℕ → ℕ
index_of p [] = 0
index_of p (b ∷ bs) = cond (eqb b p) 0 (suc (index_of p bs))

-- a byte in front of the first part; there always is one
unfoldable pub in_front : ℕ → List (List ℕ) → List (List ℕ)
in_front b [] = (b ∷ []) ∷ []
in_front b (f ∷ fs) = (b ∷ f) ∷ fs

-- what stands between the bytes p: one part more than there are bytes p
unfoldable pub split : ℕ → List ℕ → List (List ℕ)
split p [] = [] ∷ []
split p (b ∷ bs) = cond (eqb b p) ([] ∷ split p bs) (in_front b (split p bs))

-- ---- lines
-- the parts but the last, and the last
unfoldable pub ended : List (List ℕ) → List (List ℕ)
ended [] = []
ended (f ∷ []) = []
ended (f ∷ g ∷ fs) = f ∷ ended (g ∷ fs)

unfoldable pub unended : List (List ℕ) → List ℕ
unended [] = []
unended (f ∷ []) = f
unended (f ∷ g ∷ fs) = unended (g ∷ fs)

-- the lines, each ended by a line feed
unfoldable pub lines : List ℕ → List (List ℕ)
lines text = ended (split line_feed text)

-- what stands behind the last line feed
unfoldable pub remainder : List ℕ → List ℕ
remainder text = unended (split line_feed text)

-- ---- places
-- the line that starts at place i, up to the next line feed
unfoldable pub line_at : List ℕ → ℕ → List ℕ
line_at text i = take (index_of line_feed (drop i text)) (drop i text)

-- the place behind that line feed
unfoldable pub next_line : List ℕ → ℕ → ℕ
next_line text i = i + index_of line_feed (drop i text) + 1

-- the place where line k starts, lines being counted from 0 here
unfoldable pub line_start : List ℕ → ℕ → ℕ
line_start text zero = 0
line_start text (suc k) = next_line text (line_start text k)

-- ---- fields
-- fields parted by commas
unfoldable pub fields : List ℕ → List (List ℕ)
fields line = split comma line

-- fields to be printed, each with a comma in front
unfoldable pub more : List (List ℕ) → List ℕ
more [] = []
more (f ∷ fs) = comma ∷ (f ++ more fs)

-- a line of a first field and further ones, ended by a line feed
unfoldable pub line : List ℕ → List (List ℕ) → List ℕ
line f fs = f ++ more fs ++ (line_feed ∷ [])

-- two texts have the same bytes: a test, for computed examples
unfoldable pub same_text : List ℕ → List ℕ → Bool
same_text [] [] = true
same_text [] (y ∷ ys) = false
same_text (x ∷ xs) [] = false
same_text (x ∷ xs) (y ∷ ys) = cond (eqb x y) (same_text xs ys) false
