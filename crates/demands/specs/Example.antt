-- Lists of steps at N = 12: a recording of three hops, through joints that pass from long to short and back, the same with one block changed more than the others, and a
-- recording of a single hop, also with one of its coefficients moved far; their blocks as they are brought, and what is offered, refused steps among it; and their blocks with long joints for the calls over whole recordings.
-- ExampleLaws, RecordingExampleLaws and SparseExampleLaws apply the theorems to them.
use Rattle.std.specs.Prelude.{List, [], ◌∷◌, ◌++◌, ℕ, zero, suc, replicate, ℤ, pos, neg_ℤ, ◌+ℤ◌}
use Rattle.analysis.specs.declared.Route.{Route}
use Rattle.analysis.specs.declared.Route.TheVariants.{Direct, Short}
use Rattle.stream.specs.declared.Stream.{Stream}
use Rattle.stream.specs.Synthesis.{storage}
use Rattle.demands.specs.Steps.{Offer}

abbrev pub minus : ℕ → ℤ
minus n = neg_ℤ (pos n)

-- three hops, so four blocks
unfoldable pub recording : List ℤ
recording =
    pos 7 ∷ minus 8 ∷ pos 32767 ∷ minus 32768 ∷ pos 1 ∷ pos 0 ∷
    pos 5 ∷ pos 5 ∷ pos 5 ∷ pos 5 ∷ pos 5 ∷ pos 5 ∷
    minus 32768 ∷ pos 32767 ∷ minus 12345 ∷ minus 12345 ∷ minus 20000 ∷ pos 32767 ∷ []

-- block 2 takes the short route, the others the direct one
unfoldable pub routes : ℕ → Route
routes zero = Direct
routes (suc zero) = Direct
routes (suc (suc zero)) = Short
routes (suc (suc (suc b))) = Direct

-- its first hop alone is a recording of one hop, so of two blocks, both by the direct route
unfoldable pub knock : List ℤ
knock = pos 7 ∷ minus 8 ∷ pos 32767 ∷ minus 32768 ∷ pos 1 ∷ pos 0 ∷ []

unfoldable pub directly : ℕ → Route
directly b = Direct

-- ---- the blocks: coefficients, and their changes
unfoldable pub changed : List ℤ → List ℤ → List ℤ
changed [] changes = []
changed (c ∷ cs) [] = c ∷ cs
changed (c ∷ cs) (d ∷ ds) = (c +ℤ d) ∷ changed cs ds

-- block 0 as it was analysed
unfoldable pub analysed_0 : List ℤ
analysed_0 = minus 383693 ∷ minus 357261 ∷ minus 306812 ∷ minus 235988 ∷ minus 148949 ∷ minus 50964 ∷ []

unfoldable pub block_0 : List ℤ
block_0 = changed analysed_0 (pos 7 ∷ minus 7 ∷ pos 3 ∷ pos 0 ∷ minus 1 ∷ pos 5 ∷ [])

unfoldable pub block_1 : List ℤ
block_1 = changed
    (pos 382622 ∷ minus 1125501 ∷ pos 1789924 ∷ minus 2332467 ∷ pos 2716542 ∷ minus 2915652 ∷ [])
    (minus 7 ∷ pos 6 ∷ pos 0 ∷ pos 7 ∷ minus 2 ∷ minus 7 ∷ [])

-- by the short route, which gives 1193024, 1775980 and 1797802 where the direct one gives 1193023, 1775981 and 1797803
unfoldable pub block_2 : List ℤ
block_2 = changed
    (pos 1193024 ∷ minus 221015 ∷ minus 357355 ∷ pos 1775980 ∷ pos 3429527 ∷ pos 1797802 ∷ [])
    (pos 1 ∷ pos 0 ∷ minus 7 ∷ pos 7 ∷ minus 4 ∷ pos 2 ∷ [])

unfoldable pub block_3 : List ℤ
block_3 = changed
    (minus 653647 ∷ pos 283986 ∷ pos 2229876 ∷ minus 3208115 ∷ pos 275489 ∷ pos 3556052 ∷ [])
    (pos 7 ∷ pos 7 ∷ minus 7 ∷ pos 2 ∷ pos 0 ∷ minus 6 ∷ [])

-- changed further, so by up to 500, where the others are changed by up to 7
unfoldable pub coarse_3 : List ℤ
coarse_3 = changed block_3 (pos 493 ∷ minus 340 ∷ pos 7 ∷ minus 502 ∷ pos 1 ∷ pos 77 ∷ [])

unfoldable pub bounds : ℕ → ℕ
bounds zero = 7
bounds (suc zero) = 7
bounds (suc (suc zero)) = 7
bounds (suc (suc (suc b))) = 500

-- blocks 1 and 2 with a short joint between them
unfoldable pub sharp_1 : List ℤ
sharp_1 = changed
    (pos 382774 ∷ minus 1125450 ∷ pos 1789872 ∷ minus 2332545 ∷ pos 2716499 ∷ minus 2915662 ∷ [])
    (minus 7 ∷ pos 6 ∷ pos 0 ∷ pos 7 ∷ minus 2 ∷ minus 7 ∷ [])

-- by the short route, which gives -357554 where the direct one gives -357555
unfoldable pub sharp_2 : List ℤ
sharp_2 = changed
    (pos 1192925 ∷ minus 220795 ∷ minus 357554 ∷ pos 1776083 ∷ pos 3429494 ∷ pos 1797816 ∷ [])
    (pos 1 ∷ pos 0 ∷ minus 7 ∷ pos 7 ∷ minus 4 ∷ pos 2 ∷ [])

-- block 0 of the single hop is block 0 above; behind it come zeros
unfoldable pub knock_1 : List ℤ
knock_1 = changed
    (pos 383738 ∷ minus 1125064 ∷ pos 1789764 ∷ minus 2332627 ∷ pos 2716659 ∷ minus 2915535 ∷ [])
    (minus 1 ∷ pos 7 ∷ pos 7 ∷ minus 7 ∷ pos 4 ∷ pos 0 ∷ [])

-- ---- sparse changes: one coefficient of a block moved far, and one that moves no sample
unfoldable pub sparse_0 : List ℤ
sparse_0 = changed analysed_0 (pos 0 ∷ pos 0 ∷ minus 1000 ∷ pos 0 ∷ pos 0 ∷ pos 0 ∷ [])

unfoldable pub slight_0 : List ℤ
slight_0 = changed analysed_0 (pos 0 ∷ pos 0 ∷ pos 0 ∷ pos 47 ∷ pos 0 ∷ pos 0 ∷ [])

-- the changes of a block in all, knock_1 being the second one, and the largest of them
unfoldable pub totals : ℕ → ℕ
totals zero = 1000
totals (suc b) = 26

unfoldable pub largests : ℕ → ℕ
largests zero = 1000
largests (suc b) = 7

unfoldable pub slight_totals : ℕ → ℕ
slight_totals zero = 47
slight_totals (suc b) = 26

-- ---- the lists
-- a buffer of six, and one of five
unfoldable pub room : List ℤ
room = pos 9 ∷ pos 9 ∷ pos 9 ∷ pos 9 ∷ pos 9 ∷ pos 9 ∷ []

unfoldable pub small_room : List ℤ
small_room = pos 9 ∷ pos 9 ∷ pos 9 ∷ pos 9 ∷ pos 9 ∷ []

-- coefficients that are refused: five, one too large, one too small
unfoldable pub five : List ℤ
five = pos 1 ∷ pos 2 ∷ pos 3 ∷ pos 4 ∷ pos 5 ∷ []

unfoldable pub loud : List ℤ
loud = pos 0 ∷ pos 0 ∷ pos 536870913 ∷ pos 0 ∷ pos 0 ∷ pos 0 ∷ []

unfoldable pub low : List ℤ
low = pos 0 ∷ pos 0 ∷ pos 0 ∷ pos 0 ∷ pos 0 ∷ minus 536870913 ∷ []

abbrev pub offer : (number left right : ℕ) → List ℤ → List ℤ → Offer
offer number left right coefficients buffer = record { number = number; left = left; right = right; brought = coefficients; buffer = buffer }

-- blocks too early, again, and with a wrong number whatever else is wrong; shapes that do not fit, and that are none; damaged ones under the right number; and
-- each of the four until it is taken
unfoldable pub offers : List Offer
offers =
    offer 1 0 1 sharp_1 room ∷ offer 0 1 0 block_0 room ∷ offer 0 0 0 five room ∷ offer 0 0 0 block_0 room ∷ offer 0 0 0 block_0 room ∷ offer 1 0 2 loud room ∷
    offer 1 0 1 loud room ∷ offer 3 0 0 block_3 room ∷ offer 1 0 1 sharp_1 room ∷ offer 2 0 0 sharp_2 room ∷ offer 2 1 0 sharp_2 small_room ∷
    offer 2 1 0 sharp_2 room ∷ offer 7 9 9 loud small_room ∷ offer 2 1 0 block_0 room ∷ offer 3 0 0 low room ∷ offer 3 0 0 block_3 room ∷ offer 4 0 0 loud room ∷
    offer 4294967295 0 0 block_0 room ∷ []

-- block 3 with the large changes, too early, and again
unfoldable pub uneven_offers : List Offer
uneven_offers = offer 0 0 0 block_0 room ∷ offer 1 0 1 sharp_1 room ∷ offer 3 0 0 coarse_3 room ∷ offer 2 1 0 sharp_2 room ∷ offer 3 0 0 coarse_3 room ∷ []

unfoldable pub knock_offers : List Offer
knock_offers = offer 0 0 0 block_0 room ∷ offer 1 0 0 loud room ∷ offer 1 0 0 knock_1 room ∷ []

-- the same with the sparse changes, the second block too early and damaged before it is taken
unfoldable pub sparse_offers : List Offer
sparse_offers = offer 1 0 0 knock_1 room ∷ offer 0 0 0 sparse_0 room ∷ offer 1 0 0 loud room ∷ offer 1 0 0 knock_1 room ∷ []

-- the first block again
unfoldable pub slight_offers : List Offer
slight_offers = offer 0 0 0 slight_0 room ∷ offer 0 0 0 slight_0 room ∷ offer 1 0 0 knock_1 room ∷ []

-- a stream that expects the last number
unfoldable pub at_the_last : Stream
at_the_last = record { n = 12; expected = 4294967295; shape = 1; tail = replicate storage (pos 0) }

-- ---- the same blocks for the calls over whole recordings: their coefficients one after the other, and a buffer for the samples
unfoldable pub whole : List ℤ
whole = block_0 ++ block_1 ++ block_2 ++ block_3

unfoldable pub hops_room : List ℤ
hops_room = room ++ room ++ room

unfoldable pub knock_whole : List ℤ
knock_whole = block_0 ++ knock_1

unfoldable pub sparse_whole : List ℤ
sparse_whole = sparse_0 ++ knock_1
