-- Laws of refused steps, document 01's 'A good block after a refused one answers as if the refused one had never come', over the definitions that the
-- contract of `step` cites.
use Rattle.std.specs.Prelude.{◌≡◌, refl, ◌≢◌, ℕ, ℤ}
use Rattle.std.proofs.Common.{ap}
use mathlib.Core.List.{List, [], ◌∷◌, ◌++◌}
use Rattle.stream.specs.declared.Stream.{Stream}
use Rattle.stream_calls.specs.Streams.{step_code, step, step_out}
use Rattle.demands.specs.Steps.{Offer, Turn, answered, run, after, taken, offers_of}
use Rattle.demands.specs.StepLaws as L
use Rattle.demands.proofs.RunLaws.{code, run-refused, after-refused, of_taken}

-- ---- the next step: its answer and its buffer are those of the stream that the refused step was handed
pub next-answer : (s : Stream) (number l r : ℕ) (x out : List ℤ) → step_code s number l r x out ≢ 0 →
    (then l' r' : ℕ) (y room : List ℤ) → step (step s number l r x out).stream then l' r' y room ≡ step s then l' r' y room
next-answer s number l r x out e then l' r' y room = rw (L.refused_stream s number l r x out e)

pub next_buffer : (s : Stream) (number l r : ℕ) (x out : List ℤ) → step_code s number l r x out ≢ 0 →
    (then l' r' : ℕ) (y room : List ℤ) → step_out (step s number l r x out).stream then l' r' y room ≡ step_out s then l' r' y room
next_buffer s number l r x out e then l' r' y room = rw (L.refused_stream s number l r x out e)

-- ---- a list without one refused step: the taken ones, and the stream after the list, are the same
module _ (o : Offer) (rest : List Offer) where
  pub never_came : (before : List Offer) (s : Stream) → code (after s before) o ≢ 0 → taken (run s (before ++ o ∷ rest)) ≡ taken (run s (before ++ rest))
  unfolding after run taken
  never_came [] s r = run-refused s o rest r
  never_came (p ∷ before) s r =
      let e = never_came before (answered s p).answer.stream r in
      rw e

  pub never_came_after : (before : List Offer) (s : Stream) → code (after s before) o ≢ 0 → after s (before ++ o ∷ rest) ≡ after s (before ++ rest)
  unfolding after
  never_came_after [] s r = after-refused s o rest r
  never_came_after (p ∷ before) s r = never_came_after before (answered s p).answer.stream r

-- ---- a list without all its refused steps: what is left is taken throughout, and its turns are the taken ones
left-taken : (offers : List Offer) (s : Stream) → (run s (offers_of (taken (run s offers))) ≡ taken (run s offers)) × (after s (offers_of (taken (run s offers))) ≡ after s offers)
unfolding run after offers_of answered
left-taken =
    of_taken (λ s us last. (run s (offers_of us) ≡ us) × (after s (offers_of us) ≡ last)) (λ s. (refl, refl))
    (λ s o us last z rest. (ap (λ (ts : List Turn). answered s o ∷ ts) rest.0, rest.1))

pub only_taken : (offers : List Offer) (s : Stream) → run s (offers_of (taken (run s offers))) ≡ taken (run s offers)
only_taken offers s = (left-taken offers s).0

pub only_taken_after : (offers : List Offer) (s : Stream) → after s (offers_of (taken (run s offers))) ≡ after s offers
only_taken_after offers s = (left-taken offers s).1
