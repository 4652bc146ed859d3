-- What `fresh` and `step` answer: definitions. Document 01, 'Synthesis stream' and 'When the bank declines', and document 02, P6 and P7.
use Rattle.std.specs.Prelude.{Bool, cond, false, List, [], ◌∷◌, ℕ, ◌/◌, eqb, length, ℤ}
use Rattle.arithmetic.specs.Lists.{at, all}
use Rattle.cosine.specs.Kernels.{tabled}
use Rattle.stream.specs.declared.Stream.{Stream}
use Rattle.stream.specs.Synthesis as S
use Rattle.stream.specs.Steps.{next, hop}
use Rattle.checks.specs.Limits.{within, tail_limit, in_range, are_shapes}
use Rattle.checks.specs.Causes.{Cause, ◌unless◌, first_cause}
use Rattle.stream_calls.specs.Answers.{Made}
use Rattle.stream_calls.specs.Answers.{Stepped}

-- `fresh`: 0 and a fresh stream, or 1, and N, the expected number, the expected shape and every tail entry 0
unfoldable pub fresh : ℕ → Made
fresh N = cond (tabled N) (record { code = 0; stream = S.fresh N }) (record { code = 1; stream = S.fresh 0 })

-- a sound stream: N is tabled, and its first M tail entries are within the limit
unfoldable pub sound_tail : Stream → Bool
sound_tail s = all (s.n / 2) (λ n. within (at s.tail n) (tail_limit (s.n / 2)))

unfoldable pub sound : Stream → Bool
sound s = cond (tabled s.n) (sound_tail s) false

-- a block's joints fit a stream that ends with a joint of this shape: both shapes are 0 or 1, and the left one is the stream's
unfoldable pub fits : (left right shape : ℕ) → Bool
fits left right shape = cond (are_shapes left right) (eqb left shape) false

-- whether the stream takes a block of this number and these shapes at all, whatever it brings: the first causes of every step. `admit` answers the number
unfoldable pub admit_causes : Stream → (number left right : ℕ) → List Cause
admit_causes s number left right =
    4 unless sound s
    ∷ 7 unless eqb number s.expected
    ∷ 8 unless fits left right s.shape
    ∷ []

unfoldable pub admit_code : Stream → (number left right : ℕ) → ℕ
admit_code s number left right = first_cause (admit_causes s number left right)

-- the causes of `step`: the stream is not sound, the block's number is not the expected one, a joint's shape is above 1 or the left one not the expected one, a
-- buffer's length is not M, a coefficient is out of range. A number has 32 bits, so a stream that expects 2^32, or more, takes no block
unfoldable pub step_causes : Stream → (number left right : ℕ) → List ℤ → List ℤ → List Cause
step_causes s number left right x out =
    4 unless sound s
    ∷ 7 unless eqb number s.expected
    ∷ 8 unless fits left right s.shape
    ∷ 2 unless eqb (length x) (s.n / 2)
    ∷ 2 unless eqb (length out) (s.n / 2)
    ∷ 3 unless in_range (s.n / 2) x
    ∷ []

-- the number that it returns
unfoldable pub step_code : Stream → (number left right : ℕ) → List ℤ → List ℤ → ℕ
step_code s number left right x out = first_cause (step_causes s number left right x out)

-- what `step` answers, and what `out` then holds: refused, the stream handed in and what `out` held
unfoldable pub step : Stream → (number left right : ℕ) → List ℤ → List ℤ → Stepped
step s number left right x out =
    record { code = step_code s number left right x out; stream = cond (eqb (step_code s number left right x out) 0) (next s left right x) s }

unfoldable pub step_out : Stream → (number left right : ℕ) → List ℤ → List ℤ → List ℤ
step_out s number left right x out = cond (eqb (step_code s number left right x out) 0) (hop s left right x) out

-- the stream of N, an expected number, an expected shape and a tail
abbrev pub stream_of : (N expected shape : ℕ) → List ℤ → Stream
stream_of N expected shape tail = record { n = N; expected = expected; shape = shape; tail = tail }
