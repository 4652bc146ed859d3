-- The number that a call returns, by its causes: definitions. Document 01, 'When the bank declines', and document 02. A call's causes are a list, a line for each
-- in the documents' order.
use Rattle.std.specs.Prelude.{◌≡◌, Bool, true, false, cond, List, [], ◌∷◌, ℕ}

infix 80 ◌unless◌
-- one line: the number, and the test that must hold for it not to be returned
pub record Cause : Type 0 where
  pub number : ℕ
  pub passes : Bool

abbrev pub ◌unless◌ : ℕ → Bool → Cause
k unless b = record { number = k; passes = b }

-- the number of the first line whose test fails, and 0 where every test holds
unfoldable pub first_cause : List Cause → ℕ
first_cause [] = 0
first_cause (c ∷ cs) = cond c.passes (first_cause cs) c.number

-- the same in words of the lines: k is the number of a line that fails behind lines that hold, or 0 behind all of them
pub data First : List Cause → ℕ → Type 0 where
  none : First [] 0
  stop : {k : ℕ} {b : Bool} {cs : List Cause} → b ≡ false → First (k unless b ∷ cs) k
  pass : {j k : ℕ} {b : Bool} {cs : List Cause} → b ≡ true → First cs k → First (j unless b ∷ cs) k
