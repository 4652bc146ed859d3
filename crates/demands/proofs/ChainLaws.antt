-- Laws of steps on one state: they are the steps of the bank on the stream that the state holds, so that demand 3 is theirs too.
use Rattle.std.specs.Prelude.{◌≡◌, refl, List, [], ◌∷◌, ℕ, length, ℤ}
use Rattle.std.proofs.Math.Path.{ap}
use Rattle.std.proofs.Common.{◌∙◌}
use Rattle.stream.specs.declared.Stream.{Stream}
use Rattle.analysis.specs.declared.Route.{Route}
use Rattle.stream_calls.specs.Streams.{step}
use Rattle.stream_calls.specs.States.{entries, stream_in, fresh_code, fresh_state, step_state}
use Rattle.stream_calls.specs.StateLaws.{fresh-tabled, fresh_holds, fresh_long, same_code, same_out, same_stream, same_long}
use Rattle.demands.specs.Steps.{Offer, answered, run, after, turns, final, Recording, Numbered, Answered, Returned, WholeReturned, ReturnedOneQ, Sharper}
use Rattle.demands.specs.Chains.{called, calls, held}
use Rattle.demands.proofs.ThereAndBackLaws.{every_list, there_and_back, whole-returned, returned-one, there_and_back_sharper}

-- ---- one call is one step
module _ (state : List ℤ) (a : length state ≡ entries) (o : Offer) where
  next_stream : stream_in (step_state state o.number o.left o.right o.brought o.buffer) ≡ (answered (stream_in state) o).answer.stream
  unfolding answered
  next_stream = same_stream state o.number o.left o.right o.brought o.buffer a

  called_is : called state o ≡ answered (stream_in state) o
  unfolding called answered step
  called_is =
      let e = same_stream state o.number o.left o.right o.brought o.buffer a in
      rw (same_code state o.number o.left o.right o.brought o.buffer a, same_out state o.number o.left o.right o.brought o.buffer a, e)

-- ---- a list of calls is a list of steps
pub calls_are : (offers : List Offer) (state : List ℤ) → length state ≡ entries → calls state offers ≡ run (stream_in state) offers
unfolding calls run
calls_are [] state a = refl
calls_are (o ∷ offers) state a =
    let ih = calls_are offers (step_state state o.number o.left o.right o.brought o.buffer) (same_long state o.number o.left o.right o.brought o.buffer a) in
    rw (called_is state a o, ih, next_stream state a o)

pub held-is : (offers : List Offer) (state : List ℤ) → length state ≡ entries → held state offers ≡ after (stream_in state) offers
unfolding held after
held-is [] state a = refl
held-is (o ∷ offers) state a =
    let ih = held-is offers (step_state state o.number o.left o.right o.brought o.buffer) (same_long state o.number o.left o.right o.brought o.buffer a) in
    rw (ih, next_stream state a o)

-- ---- from a fresh state
module _ (N : ℕ) (state : List ℤ) (z : fresh_code N state ≡ 0) (offers : List Offer) where
  pub fresh-calls : calls (fresh_state N state) offers ≡ turns N offers
  unfolding turns
  fresh-calls = calls_are offers (fresh_state N state) (fresh_long N state z) ∙ ap (λ (s : Stream). run s offers) (fresh_holds N state z)

  pub fresh-held : held (fresh_state N state) offers ≡ final N offers
  unfolding final
  fresh-held = held-is offers (fresh_state N state) (fresh_long N state z) ∙ ap (λ (s : Stream). after s offers) (fresh_holds N state z)

  pub calls_answered : Answered N (calls (fresh_state N state) offers) (held (fresh_state N state) offers)
  calls_answered = rw (fresh-calls, fresh-held) (every_list N (fresh-tabled N state z) offers)

  pub calls_there_and_back : (H : ℕ) (Q : ℕ → ℕ) (routes : ℕ → Route) (x : List ℤ) → Recording N H x →
      Numbered N H Q routes x (calls (fresh_state N state) offers) → Returned N Q routes x (calls (fresh_state N state) offers) (held (fresh_state N state) offers)
  calls_there_and_back H Q routes x rec numbered =
      rw (fresh-calls, fresh-held) (there_and_back N (fresh-tabled N state z) H Q routes x rec offers (rw fresh-calls at numbered))

  pub calls-whole : (H : ℕ) (Q : ℕ → ℕ) (routes : ℕ → Route) (x : List ℤ) → Recording N H x →
      Numbered N H Q routes x (calls (fresh_state N state) offers) → WholeReturned N H Q routes x (calls (fresh_state N state) offers)
  calls-whole H Q routes x rec numbered =
      rw fresh-calls (whole-returned N (fresh-tabled N state z) H Q routes x rec offers (rw fresh-calls at numbered))

  pub calls-one : (H Q : ℕ) (routes : ℕ → Route) (x : List ℤ) → Recording N H x →
      Numbered N H (λ b. Q) routes x (calls (fresh_state N state) offers) → ReturnedOneQ N H Q routes x (calls (fresh_state N state) offers) (held (fresh_state N state) offers)
  calls-one H Q routes x rec numbered =
      rw (fresh-calls, fresh-held) (returned-one N (fresh-tabled N state z) H Q routes x rec offers (rw fresh-calls at numbered))

  pub calls_sharper : (H : ℕ) (Q : ℕ → ℕ) (routes : ℕ → Route) (x : List ℤ) → Recording N H x →
      Numbered N H Q routes x (calls (fresh_state N state) offers) → Sharper N Q routes x (calls (fresh_state N state) offers)
  calls_sharper H Q routes x rec numbered =
      rw fresh-calls (there_and_back_sharper N (fresh-tabled N state z) H Q routes x rec offers (rw fresh-calls at numbered))
