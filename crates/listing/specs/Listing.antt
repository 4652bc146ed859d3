-- What round-trip prints for the bytes of its standard input: definitions. Document 01, 'Listing program', and document 02, P1.
use Rattle.std.specs.Prelude.{cond, List, [], ◌∷◌, ◌++◌, ℕ, zero, suc, ◌/◌, eqb, ℤ}
use Rattle.stream.specs.Steps.{returned}
use Rattle.analysis.specs.declared.Route.TheVariants.{Direct}
use Rattle.analysis.specs.Analysis.{coefficients}
use Rattle.recording.specs.Recordings.{block}
use Rattle.listing.specs.Verdicts.{verdict, hops_of}
use Rattle.text.specs.Refusal.{refusal}
use Rattle.listing.specs.Print.{header, row}

-- ---- a listing's hops through the bank
-- the recording that hops are, one after the other
unfoldable pub recording : List (List ℤ) → List ℤ
recording [] = []
recording (h ∷ hs) = h ++ recording hs

-- block b, analysed directly, with long joints (document 02, P7)
unfoldable pub analysed : ℕ → List ℤ → ℕ → List ℤ
analysed N x b = coefficients Direct N 0 0 (block N x b)

-- hop h of a listing as it comes back: what the step of block h + 1 returns, from a fresh stream, each step on the coefficients of its block,
-- unchanged. What the step of block 0 returns is the run-in, and is not printed
abbrev pub returned_hops : ℕ → List ℕ → ℕ → List ℤ
returned_hops N text h = returned N (analysed N (recording (hops_of text))) (suc h)

-- ---- what is printed
-- the rows of the first k hops: each hop's number, counted from 0, and its samples
unfoldable pub rows : (ℕ → List ℤ) → ℕ → List ℕ
rows hops zero = []
rows hops (suc k) = rows hops k ++ row k (hops k)

-- of a listing that is taken, of H hops: the header, then a row for each hop
unfoldable pub table : ℕ → ℕ → (ℕ → List ℤ) → List ℕ
table N H hops = header (N / 2) ++ rows hops H

-- a refusal prints its line only
unfoldable pub listing : List ℕ → List ℕ
listing text =
    cond (eqb (verdict text).code 0)
    (table (verdict text).n (verdict text).hops (returned_hops (verdict text).n text))
    (refusal (verdict text).code (verdict text).line)
