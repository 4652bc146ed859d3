-- Demand 3 for a list of steps on one stream, or on one state, each of which brings coefficients, to `step`, or levels and a step table, to `step_levels`: definitions. Document 02, P8.
-- That the list answers as one of steps, and that the told distance is kept, are `loads_answered`, `loads_kept`, `load_calls_answered` and `load_calls_kept` of StoredListLaws. `step`,
-- `step_levels` and the like are those that the public calls' contracts cite.
use Rattle.std.specs.Prelude.{◌≡◌, cond, List, [], ◌∷◌, ℕ, ◌≤◌, T, eqb, ℤ}
use Rattle.stream.specs.declared.Stream.{Stream}
use Rattle.stream_calls.specs.Answers.{Stepped}
use Rattle.stream_calls.specs.Streams as S
use Rattle.stream_calls.specs.Streams.{fresh}
use Rattle.stream_calls.specs.States as C
use Rattle.stream_calls.specs.States.{stream_in}
use Rattle.analysis.specs.declared.Route.{Route}
use Rattle.analysis.specs.Analysis.{offered, coefficients}
use Rattle.recording.specs.Recordings.{block}
use Rattle.level_calls.specs.LevelCalls as L
use Rattle.level_calls.specs.LevelCalls.{back_by, quantise_code, quantise_out, brought_code, step_levels}
use Rattle.demands.specs.Steps.{Offer, Turn, Entry}
use Rattle.demands.specs.Stored.{StoredBlock}

-- what a call brings
pub data Load : Type 0 where
  spectrum : List ℤ → Load
  levels : List ℕ → List ℤ → Load

-- what one call is handed besides the stream
pub record LoadOffer : Type 0 where
  pub number : ℕ
  pub left : ℕ
  pub right : ℕ
  pub load : Load
  pub buffer : List ℤ

pub record LoadTurn : Type 0 where
  pub handed : Stream
  pub offer : LoadOffer
  pub answer : Stepped
  pub output : List ℤ

-- ---- the list of calls, each of `step` or of `step_levels`
unfoldable pub step_by_load : Stream → (number left right : ℕ) → Load → List ℤ → Stepped
step_by_load s number left right (spectrum x) buffer = S.step s number left right x buffer
step_by_load s number left right (levels text l) buffer = step_levels s number left right text l buffer

unfoldable pub output_by : Stream → (number left right : ℕ) → Load → List ℤ → List ℤ
output_by s number left right (spectrum x) buffer = S.step_out s number left right x buffer
output_by s number left right (levels text l) buffer = L.step_out s number left right text l buffer

unfoldable pub load_answered : Stream → LoadOffer → LoadTurn
load_answered s o = record {
  handed = s;
  offer = o;
  answer = step_by_load s o.number o.left o.right o.load o.buffer;
  output = output_by s o.number o.left o.right o.load o.buffer;
}

-- every step is handed the stream that the step before gave back, taken or refused
unfoldable pub load_run : Stream → List LoadOffer → List LoadTurn
load_run s [] = []
load_run s (o ∷ offers) = load_answered s o ∷ load_run (load_answered s o).answer.stream offers

unfoldable pub load_after : Stream → List LoadOffer → Stream
load_after s [] = s
load_after s (o ∷ offers) = load_after (load_answered s o).answer.stream offers

-- the list starts from a fresh stream
unfoldable pub load_turns : ℕ → List LoadOffer → List LoadTurn
load_turns N offers = load_run (fresh N).stream offers

unfoldable pub load_final : ℕ → List LoadOffer → Stream
load_final N offers = load_after (fresh N).stream offers

-- the taken ones
unfoldable pub taken_loads : List LoadTurn → List LoadTurn
taken_loads [] = []
taken_loads (t ∷ ts) = cond (eqb t.answer.code 0) (t ∷ taken_loads ts) (taken_loads ts)

-- ---- the same of `step_in_place` and `step_levels_in_place`: each call is handed the state that the call before left
unfoldable pub code_in : List ℤ → (number left right : ℕ) → Load → List ℤ → ℕ
code_in state number left right (spectrum x) buffer = C.step_code state number left right x buffer
code_in state number left right (levels text l) buffer = L.state_code state number left right text l buffer

unfoldable pub state_by : List ℤ → (number left right : ℕ) → Load → List ℤ → List ℤ
state_by state number left right (spectrum x) buffer = C.step_state state number left right x buffer
state_by state number left right (levels text l) buffer = L.state_after state number left right text l buffer

unfoldable pub output_in : List ℤ → (number left right : ℕ) → Load → List ℤ → List ℤ
output_in state number left right (spectrum x) buffer = C.step_out state number left right x buffer
output_in state number left right (levels text l) buffer = L.state_out state number left right text l buffer

unfoldable pub state_next : List ℤ → LoadOffer → List ℤ
state_next state o = state_by state o.number o.left o.right o.load o.buffer

unfoldable pub load_called : List ℤ → LoadOffer → LoadTurn
load_called state o = record {
  handed = stream_in state;
  offer = o;
  answer = record { code = code_in state o.number o.left o.right o.load o.buffer; stream = stream_in (state_next state o) };
  output = output_in state o.number o.left o.right o.load o.buffer;
}

unfoldable pub load_calls : List ℤ → List LoadOffer → List LoadTurn
load_calls state [] = []
load_calls state (o ∷ offers) = load_called state o ∷ load_calls (state_next state o) offers

unfoldable pub load_held : List ℤ → List LoadOffer → Stream
load_held state [] = stream_in state
load_held state (o ∷ offers) = load_held (state_next state o) offers

-- ---- a turn as one of steps, so that what is claimed of those is claimed of these: the coefficients that come back from levels are what is brought, and nothing where the table or the number
-- of levels is refused
unfoldable pub brought_by : Stream → Load → List ℤ
brought_by s (spectrum x) = x
brought_by s (levels text l) = cond (eqb (brought_code s.n text l) 0) (back_by s.n text l) []

unfoldable pub bringing : Stream → LoadOffer → Offer
bringing s o = record { number = o.number; left = o.left; right = o.right; brought = brought_by s o.load; buffer = o.buffer }

unfoldable pub as_turn : LoadTurn → Turn
as_turn t = record { handed = t.handed; offer = bringing t.handed t.offer; answer = t.answer; output = t.output }

unfoldable pub as_turns : List LoadTurn → List Turn
as_turns [] = []
as_turns (t ∷ ts) = as_turn t ∷ as_turns ts

-- ---- the recording
-- these are the levels of block b as `quantise` stored it with the block's own table: analysed by its own route, which is offered at N, with joints of the shapes left and right
pub record LevelsOf (N H : ℕ) (tables : ℕ → List ℕ) (routes : ℕ → Route) (x : List ℤ) (b left right : ℕ) (text : List ℕ) (l : List ℤ) : Type 0 where
  pub exists : b ≤ H
  pub offers : T (offered (routes b) N)
  pub table_is : text ≡ tables b
  pub room : List ℤ
  pub quantised : quantise_code N (tables b) (coefficients (routes b) N left right (block N x b)) room ≡ 0
  pub levels_are : l ≡ quantise_out N (tables b) (coefficients (routes b) N left right (block N x b)) room

-- a load brings block b as it was stored: its coefficients brought through levels already, or its levels
unfoldable pub Brings : (N H : ℕ) → (ℕ → List ℕ) → (ℕ → Route) → List ℤ → (b left right : ℕ) → Load → Type 0
Brings N H tables routes x b left right (spectrum c) = StoredBlock N H tables routes x b left right c
Brings N H tables routes x b left right (levels text l) = LevelsOf N H tables routes x b left right text l

-- so does each step that is taken, under its number and with its shapes. Nothing is asked of the refused ones
pub record StoredLoads (N H : ℕ) (tables : ℕ → List ℕ) (routes : ℕ → Route) (x : List ℤ) (us : List LoadTurn) : Type 0 where
  pub each : (j : ℕ) (t : LoadTurn) → Entry (taken_loads us) j t → Brings N H tables routes x t.offer.number t.offer.left t.offer.right t.offer.load
