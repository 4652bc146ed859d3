-- Laws of the line of a refusal, and of numbers behind commas: their parts, and how long they are.
use Rattle.std.specs.Prelude.{◌≡◌, [], ◌∷◌, ◌++◌, ℕ, ◌^◌, ◌≤◌, ◌<◌, length}
use Rattle.std.proofs.Common.{append_assoc, append-nil, arith}
use Rattle.text.specs.Bytes.{line_feed, comma}
use Rattle.text.specs.Number.{decimal}
use Rattle.text.specs.NumberLaws as Numbers
use Rattle.text.specs.Lines.{line, more}
use Rattle.text.specs.Refusal.{word_refused, refusal}

-- a machine number has 20 digits at most
pub decimal_machine : (n : ℕ) → n < 2 ^ 64 → length (decimal n) ≤ 20
decimal_machine n h = Numbers.decimal-most 19 n (omega arith)

pub refusal_is : (code at : ℕ) → word_refused ++ (comma ∷ decimal code) ++ (comma ∷ decimal at) ++ (line_feed ∷ []) ≡ refusal code at
unfolding refusal line more
refusal_is code at = simp (append_assoc, append-nil)
