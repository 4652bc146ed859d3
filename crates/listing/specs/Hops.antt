-- A line that is a hop: definitions. Document 01, 'Listing program'.
use Rattle.std.specs.Prelude.{Bool, ◌&&◌, List, map, ℕ, eqb, length, ℤ}
use Rattle.std.specs.Int.Signed.{le_z}
use Rattle.arithmetic.specs.Rounding.{least, largest}
use Rattle.arithmetic.specs.Lists.{every}
use Rattle.text.specs.Number.{is_number, value}
use Rattle.text.specs.Lines.{fields}

-- the most digits of a number
abbrev pub digits : ℕ
digits = 5

-- a number in the range of a sample
unfoldable pub is_sample : List ℕ → Bool
is_sample field = is_number digits field && le_z least (value field) && le_z (value field) largest

-- M samples
unfoldable pub is_hop : ℕ → List ℕ → Bool
is_hop M line = eqb (length (fields line)) M && every is_sample (fields line)

-- their values
unfoldable pub samples : List ℕ → List ℤ
samples line = map value (fields line)
