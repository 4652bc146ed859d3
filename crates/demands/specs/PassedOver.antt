-- A good block after a refused one answers as if the refused one had never come: the contract of `refused_passed_over`, by RefusalLaws.
use Rattle.std.specs.Prelude.{◌≡◌, ◌≢◌, List, ◌∷◌, ◌++◌, ℕ, ℤ}
use Rattle.stream.specs.declared.Stream.{Stream}
use Rattle.stream_calls.specs.Streams.{step_code, step, step_out}
use Rattle.demands.specs.Steps.{Offer, run, after, taken, offers_of}

pub record RefusedPassedOver : Type 0 where
  -- the next step: its answer and its buffer are those of the stream that the refused step was handed
  pub next_answer : (s : Stream) (number l r : ℕ) (x out : List ℤ) → step_code s number l r x out ≢ 0 →
      (then l' r' : ℕ) (y room : List ℤ) → step (step s number l r x out).stream then l' r' y room ≡ step s then l' r' y room
  pub next_buffer : (s : Stream) (number l r : ℕ) (x out : List ℤ) → step_code s number l r x out ≢ 0 →
      (then l' r' : ℕ) (y room : List ℤ) → step_out (step s number l r x out).stream then l' r' y room ≡ step_out s then l' r' y room
  -- a list without one refused step: the taken ones, and the stream after the list, are the same
  pub never_came : (o : Offer) (rest before : List Offer) (s : Stream) → step_code (after s before) o.number o.left o.right o.brought o.buffer ≢ 0 →
      taken (run s (before ++ o ∷ rest)) ≡ taken (run s (before ++ rest))
  pub never_came_after : (o : Offer) (rest before : List Offer) (s : Stream) → step_code (after s before) o.number o.left o.right o.brought o.buffer ≢ 0 →
      after s (before ++ o ∷ rest) ≡ after s (before ++ rest)
  -- a list without all its refused steps: what is left is taken throughout, and its turns are the taken ones
  pub only_taken : (offers : List Offer) (s : Stream) → run s (offers_of (taken (run s offers))) ≡ taken (run s offers)
  pub only_taken_after : (offers : List Offer) (s : Stream) → after s (offers_of (taken (run s offers))) ≡ after s offers
