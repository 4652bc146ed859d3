-- The lines that the listing program prints: definitions. Document 01, 'Listing program'.
use Rattle.std.specs.Prelude.{List, ◌++◌, map, ℕ, ℤ}
use Rattle.arithmetic.specs.Lists.{table}
use Rattle.text.specs.Bytes.{ascii}
use Rattle.text.specs.Number.{decimal, printed}
use Rattle.text.specs.Lines.{line}

-- the words
abbrev pub word_hop : List ℕ
word_hop = ascii "hop"

abbrev pub word_s : List ℕ
word_s = ascii "s"

-- the header hop,s0,.. through s(M-1)
unfoldable pub header : ℕ → List ℕ
header M = line word_hop (table M (λ i. word_s ++ decimal i))

-- a hop: its number, and its samples
unfoldable pub row : ℕ → List ℤ → List ℕ
row j xs = line (decimal j) (map printed xs)
