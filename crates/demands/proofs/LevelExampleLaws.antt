-- Blocks that are stored as levels, at N = 12: two step tables, a recording of one hop whose blocks are stored by them, with a short joint between them, and lists that bring them, by levels and by
-- the coefficients that come back, refused steps among it; and the same recording, with long joints, for the calls over whole recordings. The theorems applied to them, and the told distances, that of the double route at N = 36.
-- All is computed from the definitions.
use Rattle.std.specs.Prelude.{◌≡◌, List, [], ◌∷◌, ◌++◌, ℕ, zero, suc, ◌+◌, ◌/◌, ◌%◌, ◌≤◌, ◌<◌, length, ℤ, nat_abs, ◌-ℤ◌}
use Rattle.std.proofs.Math.Path.{refl}
use Rattle.std.proofs.Common.{arith, lit≤}
use Rattle.arithmetic.specs.Lists.{at}
use Rattle.analysis.specs.declared.Route.{Route}
use Rattle.analysis.specs.declared.Route.TheVariants.{Direct, Short, Double}
use Rattle.analysis.specs.Analysis.{coefficients, units_of}
use Rattle.orders.specs.declared.Order.TheVariants.{ByBlock}
use Rattle.orders.specs.Orders.{part}
use Rattle.recording.specs.Recordings.{block}
use Rattle.text.specs.Bytes.{ascii}
use Rattle.text.specs.Number.{is_digit, leading_zero, is_natural, natural_from, natural, is_signed, is_number, value}
use Rattle.text.specs.Lines.{in_front, split, ended, unended, lines, remainder, fields}
use Rattle.stream_calls.specs.States.{fresh_state}
use Rattle.recording_calls.specs.Recordings.{played_code, played_out, recorded_code, recorded_out}
use Rattle.block_calls.specs.Analysis.{analyse_code, analyse_out}
use Rattle.steps.specs.Table.{bounded, numbers_of, row_of, malformed, joints, by_lines, verdict, step_in, step_at, larger, coarsest_in, coarsest}
use Rattle.levels.specs.Levels.{level, clipped, back, levelled, restored}
use Rattle.level_calls.specs.LevelCalls.{levels_by, back_by, quantise_causes, quantise_code, quantise_out, dequantise_causes, dequantise_code, dequantise_out, told_causes, told_code, half, distance, told, tell_code, tell_out, tell_number, tell_number_out, step_causes, step_code, step_levels, step_out}
use Rattle.demands.specs.Steps.{Offer, Turn, Entry, taken, turns, final, offers_of}
use Rattle.demands.specs.Steps.Entry.{first, later}
use Rattle.demands.proofs.RunLaws.{no_entry, entry-offer}
use Rattle.demands.specs.Chains.{calls, held}
use Rattle.demands.proofs.ChainLaws.{fresh-calls}
use Rattle.demands.specs.Example.{knock, room, offer}
use Rattle.demands.proofs.ExampleLaws.{answers, knock_recorded, twelve, made}
use Rattle.demands.specs.ListExamples.{nines}
use Rattle.demands.specs.Stored.{Through, StoredBlock, Stored, StoredBlocks, StoredOnce, coarser, farther, ToldKept, StoredReturned, StoredBack}
use Rattle.demands.proofs.StoredLaws.{told-kept, told_kept_calls, stored_back, stored_once}
use Rattle.demands.specs.StoredLists.{LoadOffer, LoadTurn, step_by_load, output_by, load_answered, load_run, load_turns, load_final, taken_loads, load_calls, load_held, brought_by, bringing, as_turn, as_turns, Brings, StoredLoads}
use Rattle.demands.specs.StoredLists.Load.{spectrum, levels}
use Rattle.demands.proofs.StoredListLaws.{loads_kept, load_calls_are, load_calls_kept}
use Rattle.demands.specs.LevelExamples.{tables, mixed, levels_0, back_0, back_1, plain_0, plain_1, long_0, long_1, long_both, back_offers, load_offer, load_offers, load_codes}

-- ---- the definitions that the tests below open
unfoldable pub ruled : Unit {0}
unfolding verdict by_lines malformed joints row_of numbers_of bounded fields lines remainder split in_front ended unended is_number value is_signed natural natural_from is_natural leading_zero is_digit step_at step_in coarsest coarsest_in larger
ruled = tt

stored : Unit {0}
unfolding answers ruled level clipped back levelled restored levels_by back_by quantise_causes quantise_code quantise_out dequantise_causes dequantise_code dequantise_out told_causes told_code half distance told units_of tables mixed levels_0 back_0 back_1 plain_0 plain_1 long_0 long_1 long_both back_offers load_offers part
stored = tt

stepped : Unit {0}
unfolding stored step_causes step_code step_levels step_out step_by_load output_by load_answered load_run load_turns taken_loads
stepped = tt

pub codes : load_codes (load_turns 12 load_offers) ≡ 7 ∷ 10 ∷ 11 ∷ 9 ∷ 2 ∷ 8 ∷ 0 ∷ 7 ∷ 3 ∷ 10 ∷ 0 ∷ []
unfolding stepped load_codes
codes = refl

offered_loads : List LoadTurn → List LoadOffer
offered_loads [] = []
offered_loads (t ∷ ts) = t.offer ∷ offered_loads ts

offered-entry : {ts : List LoadTurn} {j : ℕ} {t : LoadTurn} → Entry ts j t → Entry (offered_loads ts) j t.offer
unfolding offered_loads
offered-entry first = first
offered-entry (later e) = later (offered-entry e)

taken_loads_are : offered_loads (taken_loads (load_turns 12 load_offers)) ≡ load_offer 0 0 1 (levels (tables 0) levels_0) ∷ load_offer 1 1 0 (spectrum back_1) ∷ []
unfolding stepped offered_loads
taken_loads_are = refl

taken_backs : offers_of (taken (turns 12 back_offers)) ≡ offer 0 0 1 back_0 room ∷ offer 1 1 0 back_1 room ∷ []
unfolding stored
taken_backs = refl

-- ---- they are the blocks, as they were stored
abbrev X : (ℕ → Route) → (b left right : ℕ) → List ℤ
X routes b left right = coefficients (routes b) 12 left right (block 12 knock b)

quantised_0 : (quantise_code 12 (tables 0) (X mixed 0 0 1) room ≡ 0) × (levels_0 ≡ quantise_out 12 (tables 0) (X mixed 0 0 1) room)
unfolding stored
quantised_0 = (refl, refl)

through_0 : Through 12 (tables 0) (X mixed 0 0 1) back_0
through_0 = record { levels = room; buffer = room; quantised = unfold stored in refl; dequantised = unfold stored in refl; is = unfold stored in refl }

through_1 : Through 12 (tables 1) (X mixed 1 1 0) back_1
through_1 = record { levels = room; buffer = room; quantised = unfold stored in refl; dequantised = unfold stored in refl; is = unfold stored in refl }

block_0 : StoredBlock 12 1 tables mixed knock 0 0 1 back_0
block_0 = record { exists = lit≤ tt; offers = unfold stored in tt; through = through_0 }

block_1 : StoredBlock 12 1 tables mixed knock 1 1 0 back_1
block_1 = record { exists = lit≤ tt; offers = unfold stored in tt; through = through_1 }

pub stored_backs : Stored 12 1 tables mixed knock (turns 12 back_offers)
stored_backs = record { each = λ j t e. go (rw taken_backs at (entry-offer e)) }
  where
    go : {j : ℕ} {o : Offer} → Entry (offer 0 0 1 back_0 room ∷ offer 1 1 0 back_1 room ∷ []) j o → StoredBlock 12 1 tables mixed knock o.number o.left o.right o.brought
    go first = block_0
    go (later first) = block_1
    go (later (later e)) = absurd (no_entry e refl)

pub stored_loads : StoredLoads 12 1 tables mixed knock (load_turns 12 load_offers)
unfolding Brings
stored_loads = record { each = λ j t e. go (rw taken_loads_are at (offered-entry e)) }
  where
    go : {j : ℕ} {o : LoadOffer} → Entry (load_offer 0 0 1 (levels (tables 0) levels_0) ∷ load_offer 1 1 0 (spectrum back_1) ∷ []) j o →
        Brings 12 1 tables mixed knock o.number o.left o.right o.load
    go first = record { exists = lit≤ tt; offers = unfold stored in tt; table_is = refl; room = room; quantised = quantised_0.0; levels_are = quantised_0.1 }
    go (later first) = block_1
    go (later (later e)) = absurd (no_entry e refl)

-- ---- the theorems
pub backs_kept : StoredReturned 12 1 tables mixed knock (turns 12 back_offers) (final 12 back_offers)
backs_kept = told-kept 12 twelve 1 tables mixed knock knock_recorded back_offers stored_backs

pub backs_on_a_state : StoredReturned 12 1 tables mixed knock (calls (fresh_state 12 nines) back_offers) (held (fresh_state 12 nines) back_offers)
backs_on_a_state = told_kept_calls 12 nines made 1 tables mixed knock knock_recorded back_offers (rw (fresh-calls 12 nines made back_offers) stored_backs)

pub kept : StoredReturned 12 1 tables mixed knock (as_turns (load_turns 12 load_offers)) (load_final 12 load_offers)
kept = loads_kept 12 twelve load_offers 1 tables mixed knock knock_recorded stored_loads

pub kept_on_a_state : StoredReturned 12 1 tables mixed knock (as_turns (load_calls (fresh_state 12 nines) load_offers)) (load_held (fresh_state 12 nines) load_offers)
kept_on_a_state = load_calls_kept 12 nines made load_offers 1 tables mixed knock knock_recorded (rw (load_calls_are 12 nines made load_offers) stored_loads)

-- the coarser table's largest step is 100, and the short route tells more: (50 + 16 + 8) / 16
pub told_4 : told (farther Direct Short) 12 (coarser 12 (tables 0) (tables 1)) ≡ record { code = 0; distance = 4 }
unfolding stored coarser farther
told_4 = refl

pub hop_within_4 : (t : Turn) → Entry (taken (as_turns (load_turns 12 load_offers))) 1 t → (n : ℕ) → n < 6 → nat_abs (at t.output n -ℤ at knock (0 + n)) ≤ 4
unfolding mixed
hop_within_4 t e n p = rw told_4 at (kept.hop 1 t e 0 (kept.returned.answered.numbers 1 t e) n p).near

-- both blocks were taken, so every sample has returned
pub both_taken : length (taken (as_turns (load_turns 12 load_offers))) ≡ 2
unfolding stepped brought_by bringing as_turn as_turns
both_taken = refl

pub every-sample : (i : ℕ) → i < 6 → (t : Turn) × Entry (taken (as_turns (load_turns 12 load_offers))) (suc (i / 6)) t × (t.offer.number ≡ suc (i / 6)) ×
    ToldKept 12 (tables (i / 6)) (tables (suc (i / 6))) (mixed (i / 6)) (mixed (suc (i / 6))) (at t.output (i % 6)) (at knock i)
every-sample i p = kept.whole both_taken i p

-- ---- whole recordings, with long joints
pub played : played_code 12 1 long_both room ≡ 0
unfolding stored
played = refl

-- the coefficients of the two blocks, each by its own route, and by one call
analysed_0 : (analyse_code Direct 12 0 0 (block 12 knock 0) room ≡ 0) × (analyse_out Direct 12 0 0 (block 12 knock 0) room ≡ plain_0)
unfolding stored
analysed_0 = (refl, refl)

analysed_1 : (analyse_code Short 12 0 0 (block 12 knock 1) room ≡ 0) × (analyse_out Short 12 0 0 (block 12 knock 1) room ≡ plain_1)
unfolding stored
analysed_1 = (refl, refl)

recorded_whole : recorded_out Direct ByBlock 12 1 knock (room ++ room) ≡ plain_0 ++ plain_1
unfolding stored
recorded_whole = refl

-- through levels, and as a part of both
long_through : (b : ℕ) → b ≤ 1 → Through 12 (tables b) (part ByBlock 6 2 (plain_0 ++ plain_1) b) (part ByBlock 6 2 long_both b)
long_through zero p = record { levels = room; buffer = room; quantised = unfold stored in refl; dequantised = unfold stored in refl; is = unfold stored in refl }
long_through (suc zero) p = record { levels = room; buffer = room; quantised = unfold stored in refl; dequantised = unfold stored in refl; is = unfold stored in refl }
long_through (suc (suc b)) p = absurd (omega (arith, p))

parts : (part ByBlock 6 2 (plain_0 ++ plain_1) 0 ≡ plain_0) × (part ByBlock 6 2 (plain_0 ++ plain_1) 1 ≡ plain_1)
unfolding stored
parts = (refl, refl)

-- analysed block by block, each by its own route, and by one call, directly
pub long_by_blocks : StoredBlocks 12 1 tables mixed ByBlock knock long_both
unfolding mixed
long_by_blocks = record { buffer = λ b. room; analysed = analysed; through = through }
  where
    analysed : (b : ℕ) → b ≤ 1 → analyse_code (mixed b) 12 0 0 (block 12 knock b) room ≡ 0
    analysed zero p = analysed_0.0
    analysed (suc zero) p = analysed_1.0
    analysed (suc (suc b)) p = absurd (omega (arith, p))

    through : (b : ℕ) → b ≤ 1 → Through 12 (tables b) (analyse_out (mixed b) 12 0 0 (block 12 knock b) room) (part ByBlock 6 2 long_both b)
    through zero p = rw analysed_0.1 (rw parts.0 at (long_through 0 p))
    through (suc zero) p = rw analysed_1.1 (rw parts.1 at (long_through 1 p))
    through (suc (suc b)) p = absurd (omega (arith, p))

pub blocks-kept : StoredBack 12 1 tables mixed knock (played_out ByBlock 12 1 long_both room)
blocks-kept = stored_back 12 1 tables mixed ByBlock knock long_both room played knock_recorded long_by_blocks

recorded : recorded_code Direct 12 1 knock (room ++ room) ≡ 0
unfolding stored
recorded = refl

pub long_by_one_call : StoredOnce 12 1 tables Direct ByBlock knock long_both
long_by_one_call = record { filled = ByBlock; buffer = room ++ room; analysed = recorded; through = λ b p. rw recorded_whole (long_through b p) }

pub once_kept : StoredBack 12 1 tables (λ b. Direct) knock (played_out ByBlock 12 1 long_both room)
once_kept = stored_once 12 1 tables Direct ByBlock knock long_both room played knock_recorded.sample long_by_one_call

-- directly it is (50 + 8) / 16
pub told_3 : told (farther Direct Direct) 12 (coarser 12 (tables 0) (tables 1)) ≡ record { code = 0; distance = 3 }
unfolding stored coarser farther
told_3 = refl

-- ---- by the double route (P12) at N = 36, of a table whose largest step is 100: (50 + 32 + 8) / 16. It tells more than the short one; for C it is route 2, and no route has the number 3
pub told_5 : told Double 36 (ascii "0,17,100\n") ≡ record { code = 0; distance = 5 }
unfolding stored
told_5 = refl

pub double_tells_more : (farther Short Double ≡ Double) × (farther Double Short ≡ Double)
unfolding farther units_of
double_tells_more = (refl, refl)

pub route_2 : (tell_number 2 36 (ascii "0,17,100\n") (7 ∷ []) ≡ 0) × (tell_number_out 2 36 (ascii "0,17,100\n") (7 ∷ []) ≡ 5 ∷ [])
unfolding stored tell_code tell_out tell_number tell_number_out
route_2 = (refl, refl)

pub route_3 : (N : ℕ) (text room : List ℕ) → (tell_number 3 N text room ≡ 1) × (tell_number_out 3 N text room ≡ room)
unfolding tell_number tell_number_out
route_3 N text r = (refl, refl)

-- at N = 12 it is refused with 1, whatever the table
pub not_told_at_12 : (text : List ℕ) → told Double 12 text ≡ record { code = 1; distance = 0 }
unfolding stored
not_told_at_12 text = refl
