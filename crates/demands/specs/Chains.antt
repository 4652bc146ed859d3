-- Demand 3 for a list of steps on one state: definitions. Each call of `step_in_place`, or of `dapplescree_stream_step`, is handed the state that the call before left.
use Rattle.std.specs.Prelude.{List, [], ◌∷◌, ℤ}
use Rattle.stream.specs.declared.Stream.{Stream}
use Rattle.stream_calls.specs.States.{stream_in, step_code, step_state, step_out}
use Rattle.demands.specs.Steps.{Offer, Turn}

-- one call as a turn: the streams that the state holds before and after it, its number, and what the buffer holds as it ends
unfoldable pub called : List ℤ → Offer → Turn
called state o = record {
  handed = stream_in state;
  offer = o;
  answer = record { code = step_code state o.number o.left o.right o.brought o.buffer; stream = stream_in (step_state state o.number o.left o.right o.brought o.buffer) };
  output = step_out state o.number o.left o.right o.brought o.buffer;
}

unfoldable pub calls : List ℤ → List Offer → List Turn
calls state [] = []
calls state (o ∷ offers) = called state o ∷ calls (step_state state o.number o.left o.right o.brought o.buffer) offers

-- the stream that the state holds after the calls
unfoldable pub held : List ℤ → List Offer → Stream
held state [] = stream_in state
held state (o ∷ offers) = held (step_state state o.number o.left o.right o.brought o.buffer) offers
