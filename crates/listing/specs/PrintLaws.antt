-- Laws of what is printed: its numbers have few digits, and its lines grow field by field.
use Rattle.std.specs.Prelude.{◌≡◌, List, [], ◌∷◌, ◌++◌, map, ℕ, ◌+◌, ◌≤◌, ◌<◌, length, take, ℤ, pos, nat_abs}
use Rattle.std.proofs.lemmas.List.{map-append}
use Rattle.std.proofs.Common.{add-one, arith, take-suc}
use Rattle.arithmetic.specs.Lists.{at, table}
use Rattle.text.specs.Bytes.{comma}
use Rattle.text.specs.Number.{decimal, printed}
use Rattle.text.specs.NumberLaws as Numbers
use Rattle.text.specs.Lines.{more}
use Rattle.text.specs.LineLaws.{more-last}

pub decimal-most : (n : ℕ) → n ≤ 99999 → length (decimal n) ≤ 5
decimal-most n h = Numbers.decimal-most 4 n (omega arith)

-- as few as a hop's number has
pub decimal-short : (n : ℕ) → n ≤ 9999 → length (decimal n) ≤ 4
decimal-short n h = Numbers.decimal-most 3 n (omega arith)

pub printed-most : (v : ℤ) → nat_abs v ≤ 99999 → length (printed v) ≤ 6
printed-most v h = Numbers.printed-most 4 v (omega arith)

-- one sample more, and one name more
pub samples-next : (xs : List ℤ) (i : ℕ) → i < length xs → more (map printed (take (i + 1) xs)) ≡ more (map printed (take i xs)) ++ (comma ∷ printed (at xs i))
samples-next xs i h = rw (add-one, take-suc xs i (pos 0) h, map-append printed (take i xs) (at xs i ∷ [])) (more-last (map printed (take i xs)) (printed (at xs i)))

pub names-next : (f : ℕ → List ℕ) (i : ℕ) → more (table (i + 1) f) ≡ more (table i f) ++ (comma ∷ f i)
unfolding table
names-next f i = rw add-one (more-last (table i f) (f i))
