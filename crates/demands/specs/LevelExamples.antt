-- Blocks that are stored as levels, at N = 12: two step tables, a recording of one hop whose blocks are stored by them, with a short joint between them, and lists that bring them, by levels and by the coefficients that come
-- back, refused steps among them; the same recording with long joints, for the calls over whole recordings; and the told distances. `LevelExamples` is the contract of the function `level_examples`, by LevelExampleLaws.
use Rattle.std.specs.Prelude.{◌≡◌, List, [], ◌∷◌, ◌++◌, ℕ, zero, suc, ◌+◌, ◌/◌, ◌%◌, ◌≤◌, ◌<◌, length, ℤ, pos, nat_abs, ◌-ℤ◌}
use Rattle.arithmetic.specs.Lists.{at}
use Rattle.analysis.specs.declared.Route.{Route}
use Rattle.analysis.specs.declared.Route.TheVariants.{Direct, Short, Double}
use Rattle.orders.specs.declared.Order.TheVariants.{ByBlock}
use Rattle.text.specs.Bytes.{ascii}
use Rattle.stream_calls.specs.States.{fresh_state}
use Rattle.recording_calls.specs.Recordings.{played_code, played_out}
use Rattle.level_calls.specs.LevelCalls.{told, tell_number, tell_number_out}
use Rattle.demands.specs.Steps.{Offer, Turn, Entry, taken, turns, final}
use Rattle.demands.specs.Chains.{calls, held}
use Rattle.demands.specs.Example.{minus, knock, room, five, loud, offer}
use Rattle.demands.specs.ListExamples.{nines}
use Rattle.demands.specs.Stored.{Stored, StoredBlocks, StoredOnce, coarser, farther, ToldKept, StoredReturned, StoredBack}
use Rattle.demands.specs.StoredLists.{Load, LoadOffer, LoadTurn, load_turns, load_final, load_calls, load_held, as_turns, StoredLoads}
use Rattle.demands.specs.StoredLists.Load.{spectrum, levels}

-- ---- the tables and the blocks
-- block 0 is stored by two lines, every later one by one
unfoldable pub tables : ℕ → List ℕ
tables zero = ascii "0,2,16\n3,5,100\n"
tables (suc b) = ascii "0,5,7\n"

-- block 0 takes the direct route, every later one the short one
unfoldable pub mixed : ℕ → Route
mixed zero = Direct
mixed (suc b) = Short

-- with the short joint: the levels of block 0, and what comes back from those of both
unfoldable pub levels_0 : List ℤ
levels_0 = minus 70318 ∷ minus 65510 ∷ minus 56259 ∷ minus 6913 ∷ minus 4352 ∷ minus 1486 ∷ []

unfoldable pub back_0 : List ℤ
back_0 = minus 1125088 ∷ minus 1048160 ∷ minus 900144 ∷ minus 691300 ∷ minus 435200 ∷ minus 148600 ∷ []

unfoldable pub back_1 : List ℤ
back_1 = pos 357623 ∷ minus 1048509 ∷ pos 1667967 ∷ minus 2173794 ∷ pos 2531487 ∷ minus 2716651 ∷ []

-- with long joints: the coefficients of both, and what comes back of them, one after the other
unfoldable pub plain_0 : List ℤ
plain_0 = minus 383693 ∷ minus 357261 ∷ minus 306812 ∷ minus 235988 ∷ minus 148949 ∷ minus 50964 ∷ []

unfoldable pub plain_1 : List ℤ
plain_1 = pos 383738 ∷ minus 1125064 ∷ pos 1789764 ∷ minus 2332627 ∷ pos 2716659 ∷ minus 2915535 ∷ []

unfoldable pub long_0 : List ℤ
long_0 = minus 383696 ∷ minus 357264 ∷ minus 306816 ∷ minus 236000 ∷ minus 148900 ∷ minus 51000 ∷ []

unfoldable pub long_1 : List ℤ
long_1 = pos 383740 ∷ minus 1125061 ∷ pos 1789767 ∷ minus 2332624 ∷ pos 2716658 ∷ minus 2915535 ∷ []

unfoldable pub long_both : List ℤ
long_both = long_0 ++ long_1

-- ---- the lists
-- each block as coefficients, until it is taken
unfoldable pub back_offers : List Offer
back_offers = offer 0 0 1 five room ∷ offer 0 0 1 back_0 room ∷ offer 1 1 0 loud room ∷ offer 1 1 0 back_1 room ∷ offer 1 1 0 back_1 room ∷ []

abbrev pub load_offer : (number left right : ℕ) → Load → LoadOffer
load_offer number left right load = record { number = number; left = left; right = right; load = load; buffer = room }

-- too early; with a gap, an overlap and no line feed in the table; five levels; a shape that does not fit; block 0 by levels, and again; a coefficient that is too large; no table; and block 1 by
-- its coefficients
unfoldable pub load_offers : List LoadOffer
load_offers =
    load_offer 1 1 0 (spectrum back_1) ∷ load_offer 0 0 1 (levels (ascii "0,2,16\n4,5,100\n") levels_0) ∷ load_offer 0 0 1 (levels (ascii "0,2,16\n2,5,100\n") five) ∷
    load_offer 0 0 1 (levels (ascii "0,2,16\n3,5,100") levels_0) ∷ load_offer 0 0 1 (levels (tables 0) five) ∷ load_offer 0 1 1 (levels (tables 0) levels_0) ∷
    load_offer 0 0 1 (levels (tables 0) levels_0) ∷ load_offer 0 0 1 (levels (tables 0) levels_0) ∷ load_offer 1 1 0 (spectrum loud) ∷ load_offer 1 1 0 (levels (ascii "") levels_0) ∷
    load_offer 1 1 0 (spectrum back_1) ∷ []

-- what the calls return
unfoldable pub load_codes : List LoadTurn → List ℕ
load_codes [] = []
load_codes (t ∷ ts) = t.answer.code ∷ load_codes ts

pub record LevelExamples : Type 0 where
  -- what the calls return: block 0 is taken as levels and block 1 as coefficients
  pub codes : load_codes (load_turns 12 load_offers) ≡ 7 ∷ 10 ∷ 11 ∷ 9 ∷ 2 ∷ 8 ∷ 0 ∷ 7 ∷ 3 ∷ 10 ∷ 0 ∷ []
  -- ---- what the claims ask for: the taken ones bring the blocks as they were stored
  pub stored_backs : Stored 12 1 tables mixed knock (turns 12 back_offers)
  pub stored_loads : StoredLoads 12 1 tables mixed knock (load_turns 12 load_offers)
  -- ---- what they say
  pub backs_kept : StoredReturned 12 1 tables mixed knock (turns 12 back_offers) (final 12 back_offers)
  pub backs_on_a_state : StoredReturned 12 1 tables mixed knock (calls (fresh_state 12 nines) back_offers) (held (fresh_state 12 nines) back_offers)
  pub kept : StoredReturned 12 1 tables mixed knock (as_turns (load_turns 12 load_offers)) (load_final 12 load_offers)
  pub kept_on_a_state : StoredReturned 12 1 tables mixed knock (as_turns (load_calls (fresh_state 12 nines) load_offers)) (load_held (fresh_state 12 nines) load_offers)
  -- the coarser table's largest step is 100, and the short route tells more: (50 + 16 + 8) / 16
  pub told_4 : told (farther Direct Short) 12 (coarser 12 (tables 0) (tables 1)) ≡ record { code = 0; distance = 4 }
  pub hop_within_4 : (t : Turn) → Entry (taken (as_turns (load_turns 12 load_offers))) 1 t → (n : ℕ) → n < 6 → nat_abs (at t.output n -ℤ at knock (0 + n)) ≤ 4
  -- both blocks were taken, so every sample has returned
  pub both_taken : length (taken (as_turns (load_turns 12 load_offers))) ≡ 2
  pub every_sample : (i : ℕ) → i < 6 → (t : Turn) × Entry (taken (as_turns (load_turns 12 load_offers))) (suc (i / 6)) t × (t.offer.number ≡ suc (i / 6)) ×
      ToldKept 12 (tables (i / 6)) (tables (suc (i / 6))) (mixed (i / 6)) (mixed (suc (i / 6))) (at t.output (i % 6)) (at knock i)
  -- ---- whole recordings, with long joints
  pub played : played_code 12 1 long_both room ≡ 0
  -- analysed block by block, each by its own route, and by one call, directly
  pub long_by_blocks : StoredBlocks 12 1 tables mixed ByBlock knock long_both
  pub blocks_kept : StoredBack 12 1 tables mixed knock (played_out ByBlock 12 1 long_both room)
  pub long_by_one_call : StoredOnce 12 1 tables Direct ByBlock knock long_both
  pub once_kept : StoredBack 12 1 tables (λ b. Direct) knock (played_out ByBlock 12 1 long_both room)
  -- directly it is (50 + 8) / 16
  pub told_3 : told (farther Direct Direct) 12 (coarser 12 (tables 0) (tables 1)) ≡ record { code = 0; distance = 3 }
  -- ---- by the double route (P12) at N = 36, of a table whose largest step is 100: (50 + 32 + 8) / 16. It tells more than the short one; for C it is route 2, and no route has the number 3
  pub told_5 : told Double 36 (ascii "0,17,100\n") ≡ record { code = 0; distance = 5 }
  pub double_tells_more : (farther Short Double ≡ Double) × (farther Double Short ≡ Double)
  pub route_2 : (tell_number 2 36 (ascii "0,17,100\n") (7 ∷ []) ≡ 0) × (tell_number_out 2 36 (ascii "0,17,100\n") (7 ∷ []) ≡ 5 ∷ [])
  pub route_3 : (N : ℕ) (text room : List ℕ) → (tell_number 3 N text room ≡ 1) × (tell_number_out 3 N text room ≡ room)
  -- at N = 12 it is refused with 1, whatever the table
  pub not_told_at_12 : (text : List ℕ) → told Double 12 text ≡ record { code = 1; distance = 0 }
