-- The verdict on a listing: definitions. Document 01, 'Listing program', and causes 1, 5 and 6 of 'When the bank declines'.
use Rattle.std.specs.Prelude.{cond, List, [], ◌∷◌, map, ℕ, suc, ◌+◌, ◌/◌, ltb, eqb, length, get_or, drop, ℤ, pos, negsuc, Result, Ok, Err}
use Rattle.cosine.specs.Kernels.{tabled}
use Rattle.text.specs.Number.{is_number, value}
use Rattle.text.specs.Lines.{lines, remainder}
use Rattle.listing.specs.declared.verdict.Listing.{Listing}
use Rattle.listing.specs.declared.verdict.Fault.{Fault}
use Rattle.listing.specs.declared.verdict.Fault.TheVariants.{Length, Form, Size}
use Rattle.listing.specs.Hops.{digits, is_hop, samples}

-- the most bytes of a listing
abbrev pub limit : ℕ
limit = 65536

-- what a listing is: refused, with a number and a line, or of a length n and of some hops. A number that says nothing is 0
pub record Verdict : Type 0 where
  pub code : ℕ
  pub line : ℕ
  pub n : ℕ
  pub hops : ℕ

-- refused: the cause's number, and the line
abbrev pub refused : ℕ → ℕ → Verdict
refused code at = record { code = code; line = at; n = 0; hops = 0 }

-- taken: N, and the number of hops
abbrev pub taken : ℕ → ℕ → Verdict
taken N H = record { code = 0; line = 0; n = N; hops = H }

-- ---- what the code answers, as a verdict
-- the number of a cause, and the line that it is found in, or 0 for none
abbrev pub number_of : Fault → ℕ
number_of Length = 1
number_of (Form at) = 5
number_of Size = 6

abbrev pub line_of : Fault → ℕ
line_of Length = 1
line_of (Form at) = at
line_of Size = 0

abbrev pub verdict_of : Result Listing Fault → Verdict
verdict_of (Ok listing) = taken listing.n listing.hops
verdict_of (Err fault) = refused (number_of fault) (line_of fault)

-- ---- what a text is
-- behind line 1 and H hops, where line H + 2 stands: each further line is one hop, and nothing may stand behind the last line feed
unfoldable pub by_hops : ℕ → ℕ → List (List ℕ) → List ℕ → Verdict
by_hops N H [] rest = cond (eqb (length rest) 0) (taken N H) (refused 5 (H + 2))
by_hops N H (l ∷ ls) rest = cond (is_hop (N / 2) l) (by_hops N (suc H) ls rest) (refused 5 (H + 2))

-- behind a well-formed line 1: a length that isn't tabled is cause 1
unfoldable pub by_length : ℤ → List (List ℕ) → List ℕ → Verdict
by_length (pos N) ls rest = cond (tabled N) (by_hops N 0 ls rest) (refused 1 1)
by_length (negsuc N) ls rest = refused 1 1

-- line 1 is N, one number and nothing else
unfoldable pub by_lines : List (List ℕ) → List ℕ → Verdict
by_lines [] rest = refused 5 1
by_lines (l ∷ ls) rest = cond (is_number digits l) (by_length (value l) ls rest) (refused 5 1)

-- size first, then the first faulty line
unfoldable pub verdict : List ℕ → Verdict
verdict text = cond (ltb limit (length text)) (refused 6 0) (by_lines (lines text) (remainder text))

-- the hops of a listing that is taken: sample i of hop j is entry i of entry j
unfoldable pub hops_of : List ℕ → List (List ℤ)
hops_of text = map samples (drop 1 (lines text))

-- hop j
abbrev pub hop_of : List ℕ → ℕ → List ℤ
hop_of text j = get_or (hops_of text) j []
