-- Lists of steps at N = 12, by value and on a state, refused steps among them: that what the claims on lists ask for is met, and what comes back. The blocks and the lists are those of Example. `ListExamples` is the
-- contract of the function `list_examples`, by ExampleLaws.
use Rattle.std.specs.Prelude.{◌≡◌, List, [], ◌∷◌, ℕ, suc, ◌+◌, ◌/◌, ◌%◌, ◌^◌, ◌≤◌, ◌<◌, length, replicate, ℤ, pos, nat_abs, ◌-ℤ◌}
use Rattle.arithmetic.specs.Lists.{at}
use Rattle.stream.specs.Synthesis.{storage}
use Rattle.stream.specs.declared.Stream.{Stream}
use Rattle.level_calls.specs.LevelCalls as L
use Rattle.stream_calls.specs.Streams.{step_code, step}
use Rattle.stream_calls.specs.States.{entries, fresh_code, fresh_state, step_code as state_code}
use Rattle.demands.specs.Steps.{Offer, Turn, taken, turns, final, Entry, Recording, Numbered, change, Answered, Returned, WholeReturned, ReturnedOneQ, Sharper}
use Rattle.demands.specs.Chains.{calls, held}
use Rattle.demands.specs.Example.{minus, recording, routes, knock, directly, block_0, block_3, sharp_1, sharp_2, room, offer, offers, coarse_3, bounds, uneven_offers, knock_offers, at_the_last}

-- the numbers that the steps return
unfoldable pub codes_of : List Turn → List ℕ
codes_of [] = []
codes_of (t ∷ ts) = t.answer.code ∷ codes_of ts

-- what a state held before a stream was made in it
unfoldable pub nines : List ℤ
nines = replicate entries (pos 9)

-- the taken step j of a list, at which o was offered, and what is claimed of its output
pub record TakenStep (offers : List Offer) (j : ℕ) (o : Offer) (P : List ℤ → Type 0) : Type 0 where
  pub turn : Turn
  pub entry : Entry (taken (turns 12 offers)) j turn
  pub offered : turn.offer ≡ o
  pub claim : P turn.output

-- a forged stream that expects the last number and remembers a shape of 2
unfoldable pub forged : Stream
forged = record { n = 12; expected = 4294967295; shape = 2; tail = replicate storage (pos 0) }

-- a state of zeros whose expected number is -1
unfoldable pub below_zero : List ℤ
below_zero = pos 12 ∷ minus 1 ∷ pos 0 ∷ replicate storage (pos 0)

-- and one of the shape z
unfoldable pub misshapen : ℤ → List ℤ
misshapen z = pos 12 ∷ pos 3 ∷ z ∷ replicate storage (pos 0)

pub record ListExamples : Type 0 where
  -- what the steps return: blocks 0 to 3 are taken, and between them stand steps that are too early or too late, of a wrong shape, of a wrong length and too loud
  pub codes : codes_of (turns 12 offers) ≡ 7 ∷ 8 ∷ 2 ∷ 0 ∷ 7 ∷ 8 ∷ 3 ∷ 7 ∷ 0 ∷ 8 ∷ 2 ∷ 0 ∷ 7 ∷ 7 ∷ 3 ∷ 0 ∷ 3 ∷ 7 ∷ []
  -- ---- what the claims ask for: the recordings, and that the taken steps bring the blocks of their numbers
  pub recorded : Recording 12 3 recording
  pub knock_recorded : Recording 12 1 knock
  pub numbered : Numbered 12 3 (λ b. 7) routes recording (turns 12 offers)
  pub uneven_numbered : Numbered 12 3 bounds routes recording (turns 12 uneven_offers)
  pub knock_numbered : Numbered 12 1 (λ b. 7) directly knock (turns 12 knock_offers)
  -- ---- what they say
  pub returned : Returned 12 (λ b. 7) routes recording (turns 12 offers) (final 12 offers)
  pub knock_returned : Returned 12 (λ b. 7) directly knock (turns 12 knock_offers) (final 12 knock_offers)
  -- in document 01's words, Q being 7 for all blocks
  pub one_Q : ReturnedOneQ 12 3 7 routes recording (turns 12 offers) (final 12 offers)
  -- and with bounds that differ, 500 for block 3
  pub uneven : Returned 12 bounds routes recording (turns 12 uneven_offers) (final 12 uneven_offers)
  -- a list of which no recording is asked: block 3 is taken under number 0
  pub foreign : Answered 12 (turns 12 (offer 0 0 1 block_3 room ∷ offers)) (final 12 (offer 0 0 1 block_3 room ∷ offers))
  -- and beyond what is asked
  pub sharper : Sharper 12 (λ b. 7) routes recording (turns 12 offers)
  -- ---- all blocks are taken, so every sample has returned
  pub all_taken : length (taken (turns 12 offers)) ≡ 4
  pub every_sample : (i : ℕ) → i < 18 → (t : Turn) × Entry (taken (turns 12 offers)) (suc (i / 6)) t × (t.offer.number ≡ suc (i / 6)) ×
      (nat_abs (at t.output (i % 6) -ℤ at recording i) ≤ (change 7 7 (routes (i / 6)) (routes (suc (i / 6))) + 8) / 16)
  pub knock_all_taken : length (taken (turns 12 knock_offers)) ≡ 2
  -- and each of the six samples of the single hop as it was
  pub knock_back : (i : ℕ) → i < 6 → (t : Turn) × Entry (taken (turns 12 knock_offers)) (suc (i / 6)) t × (t.offer.number ≡ suc (i / 6)) × (at t.output (i % 6) ≡ at knock i)
  -- ---- the same offers to the steps in place, on a state that held nines
  pub made : fresh_code 12 nines ≡ 0
  pub on_a_state : Returned 12 (λ b. 7) routes recording (calls (fresh_state 12 nines) offers) (held (fresh_state 12 nines) offers)
  pub whole_on_a_state : WholeReturned 12 3 (λ b. 7) routes recording (calls (fresh_state 12 nines) offers)
  -- ---- some of the taken steps: the one that brings block 1 returns hop 0 of the recording, sample for sample
  pub hop_0 : TakenStep offers 1 (offer 1 0 1 sharp_1 room) (λ out. out ≡ pos 7 ∷ minus 8 ∷ pos 32767 ∷ minus 32768 ∷ pos 1 ∷ pos 0 ∷ [])
  -- the one that brings block 2, by the short route, returns hop 1 up to 1
  pub hop_1 : TakenStep offers 2 (offer 2 1 0 sharp_2 room) (λ out. (n : ℕ) → n < 6 → nat_abs (at out n -ℤ pos 5) ≤ 1)
  -- where block 3 is changed by up to 500, hop 0 returns as it was all the same, since it lies in blocks 0 and 1; hop 2, in blocks 2 and 3, returns up to 31
  pub uneven_hop_0 : TakenStep uneven_offers 1 (offer 1 0 1 sharp_1 room) (λ out. (n : ℕ) → n < 6 → at out n ≡ at recording (0 + n))
  pub uneven_hop_2 : TakenStep uneven_offers 3 (offer 3 0 0 coarse_3 room) (λ out. (n : ℕ) → n < 6 → nat_abs (at out n -ℤ at recording (12 + n)) ≤ 31)
  -- the stream after the list ends with a long joint, as the last block that was taken, and after a list of which nothing is taken it does too
  pub ends_long : (final 12 offers).shape ≡ 0
  pub none_taken : (final 12 (offer 1 0 1 sharp_1 room ∷ [])).shape ≡ 0
  -- ---- the last number is taken once; then every block is 7
  pub last_taken : step_code at_the_last 4294967295 1 0 block_0 room ≡ 0
  pub none_behind : (number l r : ℕ) → number < 2 ^ 32 → (text : List ℕ) (x out : List ℤ) →
      let s = (step at_the_last 4294967295 1 0 block_0 room).stream in (step_code s number l r x out ≡ 7) × (L.step_code s number l r text x out ≡ 7)
  -- it ends with the right shape of that block
  pub last_shape : (step at_the_last 4294967295 1 0 block_0 room).stream.shape ≡ 0
  pub last_counted : (step at_the_last 4294967295 1 0 block_0 room).stream.expected ≡ 2 ^ 32
  -- ---- a forged shape of 2 takes no block, nor does a state's of -1 or 2, and one that expects -1 takes none
  pub forged_shape : (l r : ℕ) (x out : List ℤ) → step_code forged 4294967295 l r x out ≡ 8
  pub no_shape_below : (l r : ℕ) (x out : List ℤ) → state_code (misshapen (minus 1)) 3 l r x out ≡ 8
  pub no_shape_above : (l r : ℕ) (x out : List ℤ) → state_code (misshapen (pos 2)) 3 l r x out ≡ 8
  pub none_expected : (number l r : ℕ) → number < 2 ^ 32 → (x out : List ℤ) → state_code below_zero number l r x out ≡ 7
