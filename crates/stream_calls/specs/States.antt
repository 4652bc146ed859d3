-- What `fresh_in_place` and `step_in_place` answer, and the calls for C on streams with them: definitions. A state is a list of whole numbers that holds a
-- stream: N, the expected number, the expected shape and then the tail. Document 01, 'Synthesis stream' and 'When the bank declines', and document 02, P6
-- and P7.
use Rattle.std.specs.Prelude.{cond, List, [], ◌∷◌, ℕ, ◌+◌, ◌^◌, eqb, length, drop, ℤ, pos, nat_abs}
use Rattle.std.specs.Int.Signed.{lt_z}
use Rattle.arithmetic.specs.Lists.{at}
use Rattle.cosine.specs.Kernels.{tabled}
use Rattle.stream.specs.declared.Stream.{Stream}
use Rattle.stream.specs.Synthesis.{storage, fresh}
use Rattle.stream.specs.Steps.{next, hop}
use Rattle.checks.specs.Causes.{Cause, ◌unless◌, first_cause}
use Rattle.stream_calls.specs.Streams as S

-- entries of a state
abbrev pub entries : ℕ
entries = 3 + storage

-- the least number that no block has: 32 bits end below it
abbrev pub none : ℕ
none = 2 ^ 32

-- the number in an entry. A negative one stands as `other`
unfoldable pub number_in : ℤ → ℕ → ℕ
number_in z other = cond (lt_z z (pos 0)) other (nat_abs z)

-- the shape in an entry: 0 or 1. Any other number stands as 2, which is none
unfoldable pub shape_in : ℤ → ℕ
shape_in z = cond (lt_z z (pos 0)) 2 (cond (lt_z (pos 1) z) 2 (nat_abs z))

-- the stream that a state holds. A negative N is none, as 0 is, and a negative number is one that no block has
unfoldable pub stream_in : List ℤ → Stream
stream_in state = record { n = number_in (at state 0) 0; expected = number_in (at state 1) none; shape = shape_in (at state 2); tail = drop 3 state }

-- the state that holds a stream
unfoldable pub state_of : Stream → List ℤ
state_of s = pos s.n ∷ pos s.expected ∷ pos s.shape ∷ s.tail

-- `fresh_in_place`: N is not tabled, then the state's length is another. Taken, the state holds a fresh stream
unfoldable pub fresh_causes : ℕ → List ℤ → List Cause
fresh_causes N state =
    1 unless tabled N
    ∷ 2 unless eqb (length state) entries
    ∷ []

unfoldable pub fresh_code : ℕ → List ℤ → ℕ
fresh_code N state = first_cause (fresh_causes N state)

unfoldable pub fresh_state : ℕ → List ℤ → List ℤ
fresh_state N state = cond (eqb (fresh_code N state) 0) (state_of (fresh N)) state

-- `admit_in`: the state's length is another, then the first causes of a step on the stream that the state holds
unfoldable pub admit_causes : List ℤ → (number left right : ℕ) → List Cause
admit_causes state number left right = 2 unless eqb (length state) entries ∷ S.admit_causes (stream_in state) number left right

unfoldable pub admit_code : List ℤ → (number left right : ℕ) → ℕ
admit_code state number left right = first_cause (admit_causes state number left right)

-- `step_in_place`: the state's length is another, then the causes of `step` on the stream that the state holds
unfoldable pub step_causes : List ℤ → (number left right : ℕ) → List ℤ → List ℤ → List Cause
step_causes state number left right x out = 2 unless eqb (length state) entries ∷ S.step_causes (stream_in state) number left right x out

unfoldable pub step_code : List ℤ → (number left right : ℕ) → List ℤ → List ℤ → ℕ
step_code state number left right x out = first_cause (step_causes state number left right x out)

-- what the state and `out` then hold: taken, the next stream and the hop
unfoldable pub step_state : List ℤ → (number left right : ℕ) → List ℤ → List ℤ → List ℤ
step_state state number left right x out = cond (eqb (step_code state number left right x out) 0) (state_of (next (stream_in state) left right x)) state

unfoldable pub step_out : List ℤ → (number left right : ℕ) → List ℤ → List ℤ → List ℤ
step_out state number left right x out = cond (eqb (step_code state number left right x out) 0) (hop (stream_in state) left right x) out
