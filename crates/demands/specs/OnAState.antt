-- A list of steps on a state answers as the list of steps on the stream that the state holds: the contract of `state_follows_stream`, by ChainLaws and StoredListLaws.
use Rattle.std.specs.Prelude.{◌≡◌, List, ℕ, length, ℤ}
use Rattle.stream_calls.specs.States.{entries, stream_in, fresh_code, fresh_state}
use Rattle.demands.specs.Steps.{Offer, run, after, turns, final}
use Rattle.demands.specs.Chains.{calls, held}
use Rattle.demands.specs.StoredLists.{LoadOffer, load_run, load_after, load_turns, load_final, load_calls, load_held}

pub record StateFollowsStream : Type 0 where
  -- whatever the state's entries hold
  pub turns_are : (offers : List Offer) (state : List ℤ) → length state ≡ entries → calls state offers ≡ run (stream_in state) offers
  pub stream_is : (offers : List Offer) (state : List ℤ) → length state ≡ entries → held state offers ≡ after (stream_in state) offers
  -- so of steps that bring coefficients or levels
  pub loads_are : (offers : List LoadOffer) (state : List ℤ) → length state ≡ entries → load_calls state offers ≡ load_run (stream_in state) offers
  pub stream_of_loads : (offers : List LoadOffer) (state : List ℤ) → length state ≡ entries → load_held state offers ≡ load_after (stream_in state) offers
  -- and a state in which a stream was made holds a fresh one
  pub fresh_turns_are : (N : ℕ) (state : List ℤ) → fresh_code N state ≡ 0 → (offers : List Offer) → calls (fresh_state N state) offers ≡ turns N offers
  pub fresh_stream_is : (N : ℕ) (state : List ℤ) → fresh_code N state ≡ 0 → (offers : List Offer) → held (fresh_state N state) offers ≡ final N offers
  pub fresh_loads_are : (N : ℕ) (state : List ℤ) → fresh_code N state ≡ 0 → (offers : List LoadOffer) → load_calls (fresh_state N state) offers ≡ load_turns N offers
  pub fresh_stream_of_loads : (N : ℕ) (state : List ℤ) → fresh_code N state ≡ 0 → (offers : List LoadOffer) → load_held (fresh_state N state) offers ≡ load_final N offers
