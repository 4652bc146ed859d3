-- What the program step-table prints for a length as it is typed and the bytes of a step table: definitions. Document 02, P8 and P12.
use Rattle.std.specs.Prelude.{cond, List, [], ◌∷◌, ◌++◌, ℕ, ◌/◌, eqb, ℤ, pos, negsuc}
use Rattle.cosine.specs.Kernels.{tabled}
use Rattle.analysis.specs.declared.Route.{Route}
use Rattle.analysis.specs.declared.Route.TheVariants.{Direct, Short, Double}
use Rattle.analysis.specs.Analysis.{offered}
use Rattle.text.specs.Bytes.{ascii}
use Rattle.text.specs.Number.{is_number, value, decimal}
use Rattle.text.specs.Lines.{line}
use Rattle.text.specs.Refusal.{refusal}
use Rattle.steps.specs.Table.{digits, verdict, coarsest}
use Rattle.level_calls.specs.LevelCalls.{told}

-- the words
abbrev pub word_taken : List ℕ
word_taken = ascii "taken"

abbrev pub word_direct : List ℕ
word_direct = ascii "direct"

abbrev pub word_short : List ℕ
word_short = ascii "short"

abbrev pub word_double : List ℕ
word_double = ascii "double"

-- ---- the length: a number of the listing's form that is one of the six, and 0 for any other bytes
unfoldable pub length_in : ℤ → ℕ
length_in (pos N) = cond (tabled N) N 0
length_in (negsuc N) = 0

unfoldable pub length_of : List ℕ → ℕ
length_of number = cond (is_number digits number) (length_in (value number)) 0

-- ---- the lines, each ended by a line feed
-- a word and a number
unfoldable pub saying : List ℕ → ℕ → List ℕ
saying word n = line word (decimal n ∷ [])

-- the distance told by a route
unfoldable pub distance_line : List ℕ → Route → ℕ → List ℕ → List ℕ
distance_line word route N text = saying word (told route N text).distance

-- the same where the route is offered, and nothing elsewhere
unfoldable pub offered_line : List ℕ → Route → ℕ → List ℕ → List ℕ
offered_line word route N text = cond (offered route N) (distance_line word route N text) []

-- a table that is taken: its coarsest step, and the distances
unfoldable pub taken_lines : ℕ → List ℕ → List ℕ
taken_lines N text =
    saying word_taken (coarsest (N / 2) text) ++ distance_line word_direct Direct N text ++ offered_line word_short Short N text ++ offered_line word_double Double N text

-- ---- what is printed
unfoldable pub by_table : ℕ → List ℕ → List ℕ
by_table N text = cond (eqb (verdict (N / 2) text).code 0) (taken_lines N text) (refusal (verdict (N / 2) text).code (verdict (N / 2) text).line)

unfoldable pub report_of : (number text : List ℕ) → List ℕ
report_of number text = cond (eqb (length_of number) 0) (refusal 1 0) (by_table (length_of number) text)
