-- The line that a program prints for a refusal: definitions. Document 01, 'When the bank declines'.
use Rattle.std.specs.Prelude.{List, [], ◌∷◌, ℕ}
use Rattle.text.specs.Bytes.{ascii}
use Rattle.text.specs.Number.{decimal}
use Rattle.text.specs.Lines.{line}

abbrev pub word_refused : List ℕ
word_refused = ascii "refused"

-- a refusal: its number, and the line of the input, or 0 for none
unfoldable pub refusal : ℕ → ℕ → List ℕ
refusal code at = line word_refused (decimal code ∷ decimal at ∷ [])
