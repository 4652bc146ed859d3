-- What `quantise`, `dequantise`, `told_distance`, `step_levels` and `step_levels_in_place` answer: definitions. Document 02, P8. A table is a list of bytes, and what
-- it says is in `steps`: its own number, 9, 10, 11 or 0, and the step of each coefficient. M = N/2.
use Rattle.std.specs.Prelude.{cond, List, [], ◌∷◌, ℕ, ◌+◌, ◌/◌, eqb, length, ℤ}
use Rattle.cosine.specs.Kernels.{tabled}
use Rattle.analysis.specs.declared.Route.{Route}
use Rattle.analysis.specs.declared.Route.TheVariants.{Direct, Short, Double}
use Rattle.analysis.specs.Analysis.{offered, units_of}
use Rattle.stream.specs.declared.Stream.{Stream}
use Rattle.stream.specs.Steps.{next, hop}
use Rattle.checks.specs.Limits.{in_range}
use Rattle.checks.specs.Causes.{Cause, ◌unless◌, first_cause}
use Rattle.stream_calls.specs.Answers.{Stepped}
use Rattle.stream_calls.specs.Streams.{sound, fits}
use Rattle.stream_calls.specs.States.{entries, stream_in, state_of}
use Rattle.steps.specs.Table.{table_code, step_at, coarsest}
use Rattle.levels.specs.Levels.{levelled, restored}
use Rattle.level_calls.specs.Answers.{Told}

-- the levels of M coefficients by a table, and the coefficients that come back from levels
unfoldable pub levels_by : ℕ → List ℕ → List ℤ → List ℤ
levels_by N text x = levelled (step_at (N / 2) text) (N / 2) x

unfoldable pub back_by : ℕ → List ℕ → List ℤ → List ℤ
back_by N text levels = restored (step_at (N / 2) text) (N / 2) levels

-- ---- `quantise`: N is not tabled, the table's own number, a buffer's length is not M, a coefficient is out of range
unfoldable pub quantise_causes : ℕ → List ℕ → List ℤ → List ℤ → List Cause
quantise_causes N text x levels =
    1 unless tabled N
    ∷ table_code (N / 2) text unless eqb (table_code (N / 2) text) 0
    ∷ 2 unless eqb (length x) (N / 2)
    ∷ 2 unless eqb (length levels) (N / 2)
    ∷ 3 unless in_range (N / 2) x
    ∷ []

unfoldable pub quantise_code : ℕ → List ℕ → List ℤ → List ℤ → ℕ
quantise_code N text x levels = first_cause (quantise_causes N text x levels)

-- what `levels` then holds: the levels, or what it held
unfoldable pub quantise_out : ℕ → List ℕ → List ℤ → List ℤ → List ℤ
quantise_out N text x levels = cond (eqb (quantise_code N text x levels) 0) (levels_by N text x) levels

-- ---- `dequantise`: the same without the last, since any number is a level
unfoldable pub dequantise_causes : ℕ → List ℕ → List ℤ → List ℤ → List Cause
dequantise_causes N text levels out =
    1 unless tabled N
    ∷ table_code (N / 2) text unless eqb (table_code (N / 2) text) 0
    ∷ 2 unless eqb (length levels) (N / 2)
    ∷ 2 unless eqb (length out) (N / 2)
    ∷ []

unfoldable pub dequantise_code : ℕ → List ℕ → List ℤ → List ℤ → ℕ
dequantise_code N text levels out = first_cause (dequantise_causes N text levels out)

unfoldable pub dequantise_out : ℕ → List ℕ → List ℤ → List ℤ → List ℤ
dequantise_out N text levels out = cond (eqb (dequantise_code N text levels out) 0) (back_by N text levels) out

-- ---- `told_distance`: the route is not offered at N, then the table's own number
unfoldable pub told_causes : Route → ℕ → List ℕ → List Cause
told_causes route N text =
    1 unless offered route N
    ∷ table_code (N / 2) text unless eqb (table_code (N / 2) text) 0
    ∷ []

unfoldable pub told_code : Route → ℕ → List ℕ → ℕ
told_code route N text = first_cause (told_causes route N text)

-- Q: half the largest step, rounded down. The distance is (Q + 8) / 16, rounded down, with the route's units more in Q
unfoldable pub half : ℕ → List ℕ → ℕ
half N text = coarsest (N / 2) text / 2

unfoldable pub distance : Route → ℕ → List ℕ → ℕ
distance route N text = (half N text + units_of route + 8) / 16

unfoldable pub told : Route → ℕ → List ℕ → Told
told route N text = record { code = told_code route N text; distance = cond (eqb (told_code route N text) 0) (distance route N text) 0 }

-- `tell`, for C: the route by its number, 0 direct, 1 short and 2 double, any other being one that is not offered; and room for one distance, another length being 2,
-- tested last
unfoldable pub tell_code : Route → ℕ → List ℕ → List ℕ → ℕ
tell_code route N text room = cond (eqb (told_code route N text) 0) (cond (eqb (length room) 1) 0 2) (told_code route N text)

unfoldable pub tell_out : Route → ℕ → List ℕ → List ℕ → List ℕ
tell_out route N text room = cond (eqb (tell_code route N text room) 0) (distance route N text ∷ []) room

unfoldable pub tell_number : (number N : ℕ) → List ℕ → List ℕ → ℕ
tell_number number N text room =
    cond (eqb number 0) (tell_code Direct N text room)
    (cond (eqb number 1) (tell_code Short N text room)
    (cond (eqb number 2) (tell_code Double N text room) 1))

unfoldable pub tell_number_out : (number N : ℕ) → List ℕ → List ℕ → List ℕ
tell_number_out number N text room =
    cond (eqb number 0) (tell_out Direct N text room)
    (cond (eqb number 1) (tell_out Short N text room)
    (cond (eqb number 2) (tell_out Double N text room) room))

-- ---- what a step on levels brings: the table's own number, then the number of levels
unfoldable pub brought_causes : ℕ → List ℕ → List ℤ → List Cause
brought_causes N text levels =
    table_code (N / 2) text unless eqb (table_code (N / 2) text) 0
    ∷ 2 unless eqb (length levels) (N / 2)
    ∷ []

unfoldable pub brought_code : ℕ → List ℕ → List ℤ → ℕ
brought_code N text levels = first_cause (brought_causes N text levels)

-- ---- `step_levels`: `step` on what `dequantise` gives. The table is tested behind the stream, the number and the shapes; what comes back is always in range
unfoldable pub step_causes : Stream → (number left right : ℕ) → List ℕ → List ℤ → List ℤ → List Cause
step_causes s number left right text levels out =
    4 unless sound s
    ∷ 7 unless eqb number s.expected
    ∷ 8 unless fits left right s.shape
    ∷ table_code (s.n / 2) text unless eqb (table_code (s.n / 2) text) 0
    ∷ 2 unless eqb (length levels) (s.n / 2)
    ∷ 2 unless eqb (length out) (s.n / 2)
    ∷ []

unfoldable pub step_code : Stream → (number left right : ℕ) → List ℕ → List ℤ → List ℤ → ℕ
step_code s number left right text levels out = first_cause (step_causes s number left right text levels out)

unfoldable pub step_levels : Stream → (number left right : ℕ) → List ℕ → List ℤ → List ℤ → Stepped
step_levels s number left right text levels out =
    let code = step_code s number left right text levels out in
    record { code = code; stream = cond (eqb code 0) (next s left right (back_by s.n text levels)) s }

unfoldable pub step_out : Stream → (number left right : ℕ) → List ℕ → List ℤ → List ℤ → List ℤ
step_out s number left right text levels out = cond (eqb (step_code s number left right text levels out) 0) (hop s left right (back_by s.n text levels)) out

-- ---- `step_levels_in_place`: the state's length is another, then the causes of `step_levels` on the stream that the state holds
unfoldable pub state_causes : List ℤ → (number left right : ℕ) → List ℕ → List ℤ → List ℤ → List Cause
state_causes state number left right text levels out = 2 unless eqb (length state) entries ∷ step_causes (stream_in state) number left right text levels out

unfoldable pub state_code : List ℤ → (number left right : ℕ) → List ℕ → List ℤ → List ℤ → ℕ
state_code state number left right text levels out = first_cause (state_causes state number left right text levels out)

unfoldable pub state_after : List ℤ → (number left right : ℕ) → List ℕ → List ℤ → List ℤ → List ℤ
state_after state number left right text levels out =
    cond (eqb (state_code state number left right text levels out) 0) (state_of (next (stream_in state) left right (back_by (stream_in state).n text levels))) state

unfoldable pub state_out : List ℤ → (number left right : ℕ) → List ℕ → List ℤ → List ℤ → List ℤ
state_out state number left right text levels out =
    cond (eqb (state_code state number left right text levels out) 0) (hop (stream_in state) left right (back_by (stream_in state).n text levels)) out
