-- A listing returns its own hops, and an example: contracts of `listing_returned` and `listing_example`, by ListingLaws.
use Rattle.std.specs.Prelude.{◌≡◌, List, [], ◌∷◌, ◌++◌, ℕ, suc, ◌<◌, get_or}
use Rattle.text.specs.Bytes.{line_feed, comma, ascii}
use Rattle.text.specs.Number.{decimal}
use Rattle.text.specs.Lines.{lines}
use Rattle.listing.specs.Verdicts.{verdict, hop_of}
use Rattle.listing.specs.VerdictLaws.{Taken}
use Rattle.listing.specs.Print.{row}
use Rattle.listing.specs.Listing.{table, listing}
use Rattle.listing.specs.Examples.{document}

pub record ListingReturned : Type 0 where
  -- every listing that is taken comes back: the header, then each hop's number with the samples of its own line
  pub listed : (text : List ℕ) → (verdict text).code ≡ 0 → listing text ≡ table (verdict text).n (verdict text).hops (hop_of text)
  -- so each line behind the first comes back as it was, behind its number
  pub row_is : {text : List ℕ} {N H : ℕ} → Taken text N H → (j : ℕ) → j < H →
      row j (hop_of text j) ≡ decimal j ++ (comma ∷ get_or (lines text) (suc j) []) ++ (line_feed ∷ [])

-- an example, byte for byte
abbrev pub ExampleListed : Type 0
ExampleListed = listing document ≡ ascii "hop,s0,s1,s2,s3,s4,s5\n0,0,0,0,0,0,0\n1,7,-8,32767,-32768,1,0\n2,5,5,5,5,5,5\n"
