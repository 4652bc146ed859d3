-- The theorems `there_and_back`, `whole-returned` and `returned-one` applied to the lists of Example, so that nobody has to believe that their hypotheses can be met. All is computed from the
-- definitions, the cosine from its series.
use Rattle.std.specs.Prelude.{◌≡◌, refl, Bool, false, cond, List, [], ◌∷◌, ℕ, suc, ◌+◌, ◌*◌, ◌/◌, ◌%◌, ◌^◌, ◌≤◌, ◌<◌, T, leb, length, take, drop, ℤ, pos, nat_abs, ◌-ℤ◌}
use Rattle.std.proofs.Common.{sym, ap, ◌∙◌, arith, leb→le, lit<, lit≤, ext_get_or, get_or-take, get_or-drop}
use Rattle.std.proofs.lemmas.List.{get_or-replicate}
use Rattle.std.specs.Int.Signed.{le_z, le_z_yes}
use Rattle.arithmetic.specs.Rounding.{floor, rnd, clamp, Sample, least, largest}
use Rattle.arithmetic.specs.Sums.{sum}
use Rattle.arithmetic.specs.Lists.{at, table, joined, all, every}
use Rattle.arithmetic.specs.TestLaws.{all-at, both_left, both_right}
use Rattle.cosine.specs.Cosine.{top, bottom, factorial, denominator, term, signed, series, first_quarter, reduced, to_half, to_turn, continued, C}
use Rattle.cosine.specs.Kernels.{lengths, tabled, W, short_rise, rising, falling, K, L, s, e_b, f_b, e_c, f_c, turned, short_lengths, short_tabled}
use Rattle.transform.specs.Analysis.{window, y, S, X, direct}
use Rattle.split.specs.ShortRoute as R
use Rattle.double_route.specs.Double as D
use Rattle.transform.specs.Synthesis.{U, V'}
use Rattle.stream.specs.Synthesis as Y
use Rattle.stream.specs.Synthesis.{storage}
use Rattle.analysis.specs.declared.Route.{Route}
use Rattle.analysis.specs.Analysis.{offered, spectrum, coefficients, units_of}
use Rattle.recording.specs.Recordings.{silence, padded, standing, block, analysis as recording_of}
use Rattle.orders.specs.Orders.{place, block_at, coefficient_at, part, laid}
use Rattle.stream.specs.Steps.{next, hop}
use Rattle.checks.specs.Causes.{first_cause}
use Rattle.block_calls.specs.Analysis.{analyse_causes, analyse_code, analyse_out}
use Rattle.checks.specs.Limits.{counted, within, tail_limit, in_range, are_shapes}
use Rattle.recording_calls.specs.Recordings.{recorded_causes, recorded_code, recorded_out, played_causes, played_code}
use Rattle.level_calls.specs.LevelCalls as L
use Rattle.stream_calls.specs.Streams.{fresh, sound_tail, sound, fits, step_causes, step_code, step, step_out}
use Rattle.stream_calls.specs.States.{number_in as entry_number, stream_in, fresh_causes, fresh_code, fresh_state, step_code as state_code}
use Rattle.demands.specs.Steps.{Offer, Turn, answered, run, taken, offers_of, turns, final, Entry, Recording, Brought, Numbered, change, Answered, Returned, WholeReturned, ReturnedOneQ, Sharper}
use Rattle.demands.specs.Steps.Entry.{first, later}
use Rattle.demands.proofs.RunLaws.{no_entry, entry-offer, entry-turn}
use Rattle.demands.specs.Chains.{calls, held}
use Rattle.demands.proofs.ThereAndBackLaws.{every_list, there_and_back, whole-returned, returned-one, there_and_back_sharper}
use Rattle.demands.proofs.ChainLaws.{fresh-calls, calls_there_and_back, calls-whole}
use Rattle.demands.proofs.AnswerLaws.{demand_1}
use Rattle.demands.proofs.DefinitionLaws.{demand_2}
use Rattle.demands.specs.Answers.{SoundTail}
use Rattle.demands.specs.Example.{minus, recording, routes, knock, directly, changed, analysed_0, block_0, block_1, block_2, block_3, sharp_1, sharp_2, knock_1, room, small_room, five, loud, low, offer, offers, coarse_3, bounds, uneven_offers, knock_offers, sparse_0, slight_0, sparse_offers, slight_offers, at_the_last, whole, hops_room, knock_whole, sparse_whole}
use Rattle.demands.specs.ListExamples.{codes_of, nines, TakenStep, forged, below_zero, misshapen}

-- ---- the definitions that the tests below open, under one name
cosines : Unit {0}
unfolding top bottom factorial denominator term signed series first_quarter reduced to_half to_turn continued C lengths tabled W short_rise rising falling K L s e_b f_b e_c f_c turned
cosines = tt

analysis : Unit {0}
unfolding window y S X direct R.a R.b R.c R.e R.f R.r_b R.r_c R.A R.B R.G R.D R.short_x R.short spectrum coefficients
analysis = tt

synthesis : Unit {0}
unfolding U V' Y.fresh Y.sample Y.hop Y.new_tail within tail_limit fresh sound_tail sound are_shapes fits in_range first_cause step_causes step_code next hop step step_out
synthesis = tt

example : Unit {0}
unfolding answered run taken offers_of turns silence padded standing block recording routes knock directly changed analysed_0 block_0 block_1 block_2 block_3 sharp_1 sharp_2 knock_1 room small_room five loud low offers coarse_3 bounds uneven_offers knock_offers sparse_0 slight_0 sparse_offers slight_offers
example = tt

unfoldable pub computed : Unit {0}
unfolding floor rnd clamp sum table all every cosines analysis synthesis example
computed = tt

unfoldable pub answers : Unit {0}
unfolding computed short_lengths short_tabled R.offered D.offered offered analyse_causes analyse_code analyse_out counted joined place block_at coefficient_at part laid recorded_causes recorded_code recorded_out recording_of played_causes played_code whole hops_room knock_whole sparse_whole
answers = tt

pub codes : codes_of (turns 12 offers) ≡ 7 ∷ 8 ∷ 2 ∷ 0 ∷ 7 ∷ 8 ∷ 3 ∷ 7 ∷ 0 ∷ 8 ∷ 2 ∷ 0 ∷ 7 ∷ 7 ∷ 3 ∷ 0 ∷ 3 ∷ 7 ∷ []
unfolding computed codes_of
codes = refl

-- what was offered at the taken ones
abbrev brought_offers : List Offer
brought_offers = offer 0 0 0 block_0 room ∷ offer 1 0 1 sharp_1 room ∷ offer 2 1 0 sharp_2 room ∷ offer 3 0 0 block_3 room ∷ []

taken-offers : offers_of (taken (turns 12 offers)) ≡ brought_offers
unfolding computed
taken-offers = refl

abbrev uneven_brought : List Offer
uneven_brought = offer 0 0 0 block_0 room ∷ offer 1 0 1 sharp_1 room ∷ offer 2 1 0 sharp_2 room ∷ offer 3 0 0 coarse_3 room ∷ []

uneven_taken : offers_of (taken (turns 12 uneven_offers)) ≡ uneven_brought
unfolding computed
uneven_taken = refl

abbrev knock_brought : List Offer
knock_brought = offer 0 0 0 block_0 room ∷ offer 1 0 0 knock_1 room ∷ []

knock-taken : offers_of (taken (turns 12 knock_offers)) ≡ knock_brought
unfolding computed
knock-taken = refl

-- ---- the recordings
unfoldable pub is_sample : ℤ → Bool
is_sample z = cond (le_z least z) (le_z z largest) false

pub samples_of : (x : List ℤ) → T (all (length x) (λ i. is_sample (at x i))) → (i : ℕ) → i < length x → Sample (at x i)
unfolding is_sample
samples_of x test i p =
    let t : T (is_sample (at x i)) = all-at (length x) (λ i. is_sample (at x i)) test i p in
    record {
      low = le_z_yes (both_left (le_z least (at x i)) (le_z (at x i) largest) t);
      high = le_z_yes (both_right (le_z least (at x i)) (le_z (at x i) largest) t);
    }

recorded_of : (H : ℕ) (x : List ℤ) → 1 ≤ H → length x ≡ H * 6 → T (all (length x) (λ i. is_sample (at x i))) → Recording 12 H x
recorded_of H x some long samples = record { hops = some; long = long; sample = samples_of x samples }

samples : T (all (length recording) (λ i. is_sample (at recording i)))
unfolding computed is_sample
samples = tt

pub recorded : Recording 12 3 recording
recorded = recorded_of 3 recording (lit≤ tt) (unfold recording in refl) samples

knock-samples : T (all (length knock) (λ i. is_sample (at knock i)))
unfolding computed is_sample
knock-samples = tt

pub knock_recorded : Recording 12 1 knock
knock_recorded = recorded_of 1 knock (lit≤ tt) (unfold knock in refl) knock-samples

-- ---- the blocks: each of the six coefficients is within q of what the block's own route gives, 7 for all blocks but one
unfoldable pub near : (q : ℕ) → (ℕ → Route) → List ℤ → (b left right : ℕ) → List ℤ → Bool
near q routes x b left right c = all 6 (λ k. leb (nat_abs (at c k -ℤ at (coefficients (routes b) 12 left right (block 12 x b)) k)) q)

near_0 : T (near 7 routes recording 0 0 0 block_0)
unfolding computed near
near_0 = tt

near_1 : T (near 7 routes recording 1 0 1 sharp_1)
unfolding computed near
near_1 = tt

near_2 : T (near 7 routes recording 2 1 0 sharp_2)
unfolding computed near
near_2 = tt

near_3 : T (near 7 routes recording 3 0 0 block_3)
unfolding computed near
near_3 = tt

coarse_near_3 : T (near 500 routes recording 3 0 0 coarse_3)
unfolding computed near
coarse_near_3 = tt

knock_near_0 : T (near 7 directly knock 0 0 0 block_0)
unfolding computed near
knock_near_0 = tt

pub knock_near_1 : T (near 7 directly knock 1 0 0 knock_1)
unfolding computed near
knock_near_1 = tt

pub brought : (Q : ℕ → ℕ) (routes : ℕ → Route) (H : ℕ) (x : List ℤ) (b l r : ℕ) (c : List ℤ) → b ≤ H → T (offered (routes b) 12) → length c ≡ 6 → T (near (Q b) routes x b l r c) → Brought 12 H Q routes x b l r c
unfolding near
brought Q routes H x b l r c p o e t =
    let off : ℕ → ℕ = λ k. nat_abs (at c k -ℤ at (coefficients (routes b) 12 l r (block 12 x b)) k) in
    record { exists = p; offers = o; long = e; near = λ k q. leb→le (off k) (Q b) (all-at 6 (λ k. leb (off k) (Q b)) t k q) }

-- the taken steps bring the blocks of their numbers
pub numbered : Numbered 12 3 (λ b. 7) routes recording (turns 12 offers)
numbered = record { each = λ j t e. go (rw taken-offers at (entry-offer e)) }
  where
    go : {j : ℕ} {o : Offer} → Entry brought_offers j o → Brought 12 3 (λ b. 7) routes recording o.number o.left o.right o.brought
    go first = brought (λ b. 7) routes 3 recording 0 0 0 block_0 (lit≤ tt) (unfold answers in tt) (unfold computed in refl) near_0
    go (later first) = brought (λ b. 7) routes 3 recording 1 0 1 sharp_1 (lit≤ tt) (unfold answers in tt) (unfold computed in refl) near_1
    go (later (later first)) = brought (λ b. 7) routes 3 recording 2 1 0 sharp_2 (lit≤ tt) (unfold answers in tt) (unfold computed in refl) near_2
    go (later (later (later first))) = brought (λ b. 7) routes 3 recording 3 0 0 block_3 (lit≤ tt) (unfold answers in tt) (unfold computed in refl) near_3
    go (later (later (later (later e)))) = absurd (no_entry e refl)

pub uneven_numbered : Numbered 12 3 bounds routes recording (turns 12 uneven_offers)
uneven_numbered = record { each = λ j t e. go (rw uneven_taken at (entry-offer e)) }
  where
    go : {j : ℕ} {o : Offer} → Entry uneven_brought j o → Brought 12 3 bounds routes recording o.number o.left o.right o.brought
    go first = brought bounds routes 3 recording 0 0 0 block_0 (lit≤ tt) (unfold answers in tt) (unfold computed in refl) (unfold bounds in near_0)
    go (later first) = brought bounds routes 3 recording 1 0 1 sharp_1 (lit≤ tt) (unfold answers in tt) (unfold computed in refl) (unfold bounds in near_1)
    go (later (later first)) = brought bounds routes 3 recording 2 1 0 sharp_2 (lit≤ tt) (unfold answers in tt) (unfold computed in refl) (unfold bounds in near_2)
    go (later (later (later first))) = brought bounds routes 3 recording 3 0 0 coarse_3 (lit≤ tt) (unfold answers in tt) (unfold computed in refl) (unfold bounds in coarse_near_3)
    go (later (later (later (later e)))) = absurd (no_entry e refl)

pub knock-numbered : Numbered 12 1 (λ b. 7) directly knock (turns 12 knock_offers)
knock-numbered = record { each = λ j t e. go (rw knock-taken at (entry-offer e)) }
  where
    go : {j : ℕ} {o : Offer} → Entry knock_brought j o → Brought 12 1 (λ b. 7) directly knock o.number o.left o.right o.brought
    go first = brought (λ b. 7) directly 1 knock 0 0 0 block_0 (lit≤ tt) (unfold answers in tt) (unfold computed in refl) knock_near_0
    go (later first) = brought (λ b. 7) directly 1 knock 1 0 0 knock_1 (lit≤ tt) (unfold answers in tt) (unfold computed in refl) knock_near_1
    go (later (later e)) = absurd (no_entry e refl)

-- ---- the theorem
pub twelve : T (tabled 12)
unfolding computed
twelve = tt

pub returned : Returned 12 (λ b. 7) routes recording (turns 12 offers) (final 12 offers)
returned = there_and_back 12 twelve 3 (λ b. 7) routes recording recorded offers numbered

pub knock-returned : Returned 12 (λ b. 7) directly knock (turns 12 knock_offers) (final 12 knock_offers)
knock-returned = there_and_back 12 twelve 1 (λ b. 7) directly knock knock_recorded knock_offers knock-numbered

-- in document 01's words, Q being 7 for all blocks
pub one_Q : ReturnedOneQ 12 3 7 routes recording (turns 12 offers) (final 12 offers)
one_Q = returned-one 12 twelve 3 7 routes recording recorded offers numbered

-- and with bounds that differ, 500 for block 3
pub uneven : Returned 12 bounds routes recording (turns 12 uneven_offers) (final 12 uneven_offers)
uneven = there_and_back 12 twelve 3 bounds routes recording recorded uneven_offers uneven_numbered

-- a list of which no recording is asked: block 3 is taken under number 0
pub foreign : Answered 12 (turns 12 (offer 0 0 1 block_3 room ∷ offers)) (final 12 (offer 0 0 1 block_3 room ∷ offers))
foreign = every_list 12 twelve (offer 0 0 1 block_3 room ∷ offers)

-- and beyond what is asked
pub sharper : Sharper 12 (λ b. 7) routes recording (turns 12 offers)
sharper = there_and_back_sharper 12 twelve 3 (λ b. 7) routes recording recorded offers numbered

-- ---- all blocks are taken, so every sample has returned
pub all-taken : length (taken (turns 12 offers)) ≡ 4
unfolding computed
all-taken = refl

pub every-sample : (i : ℕ) → i < 18 → (t : Turn) × Entry (taken (turns 12 offers)) (suc (i / 6)) t × (t.offer.number ≡ suc (i / 6)) ×
    (nat_abs (at t.output (i % 6) -ℤ at recording i) ≤ (change 7 7 (routes (i / 6)) (routes (suc (i / 6))) + 8) / 16)
every-sample = (whole-returned 12 twelve 3 (λ b. 7) routes recording recorded offers numbered).near all-taken

pub knock_all_taken : length (taken (turns 12 knock_offers)) ≡ 2
unfolding computed
knock_all_taken = refl

-- and each of the six samples of the single hop as it was
pub knock-back : (i : ℕ) → i < 6 → (t : Turn) × Entry (taken (turns 12 knock_offers)) (suc (i / 6)) t × (t.offer.number ≡ suc (i / 6)) × (at t.output (i % 6) ≡ at knock i)
unfolding directly
knock-back i p = (whole-returned 12 twelve 1 (λ b. 7) directly knock knock_recorded knock_offers knock-numbered).same knock_all_taken i p (lit≤ tt) (lit≤ tt) refl refl

pub made : fresh_code 12 nines ≡ 0
unfolding answers fresh_causes fresh_code nines
made = refl

pub on_a_state : Returned 12 (λ b. 7) routes recording (calls (fresh_state 12 nines) offers) (held (fresh_state 12 nines) offers)
on_a_state = calls_there_and_back 12 nines made offers 3 (λ b. 7) routes recording recorded (rw (fresh-calls 12 nines made offers) numbered)

pub whole_on_a_state : WholeReturned 12 3 (λ b. 7) routes recording (calls (fresh_state 12 nines) offers)
whole_on_a_state = calls-whole 12 nines made offers 3 (λ b. 7) routes recording recorded (rw (fresh-calls 12 nines made offers) numbered)

taken_step : (offers brought : List Offer) → offers_of (taken (turns 12 offers)) ≡ brought → (j : ℕ) (o : Offer) (P : List ℤ → Type 0) → Entry brought j o →
    ((t : Turn) → Entry (taken (turns 12 offers)) j t → P t.output) → TakenStep offers j o P
taken_step offers brought are j o P e f =
    let (t, g, h) = entry-turn (taken (turns 12 offers)) {i = j} {o = o} (rw are e) in
    record { turn = t; entry = g; offered = h; claim = f t g }

-- six samples of the recording from place m on
six-at : (m n : ℕ) → n < 6 → at recording (m + n) ≡ at (take 6 (drop m recording)) n
six-at m n p = sym (get_or-take 6 (drop m recording) n (pos 0) p ∙ get_or-drop m recording n (pos 0))

-- the step that brings block 1 returns hop 0 of the recording, sample for sample
pub hop_0 : TakenStep offers 1 (offer 1 0 1 sharp_1 room) (λ out. out ≡ pos 7 ∷ minus 8 ∷ pos 32767 ∷ minus 32768 ∷ pos 1 ∷ pos 0 ∷ [])
unfolding recording routes
hop_0 = taken_step offers brought_offers taken-offers 1 (offer 1 0 1 sharp_1 room) (λ out. out ≡ take 6 (drop 0 recording)) (later first) go
  where
    go : (t : Turn) → Entry (taken (turns 12 offers)) 1 t → t.output ≡ take 6 (drop 0 recording)
    go t e =
        let l = returned.answered.hop_long 1 t e in
        ext_get_or (pos 0) t.output (take 6 (drop 0 recording)) l (λ n p. returned.hop_same 1 t e 0 (returned.answered.numbers 1 t e) (lit≤ tt) (lit≤ tt) refl refl n (omega arith) ∙ six-at 0 n (omega arith))

-- the step that brings block 2, by the short route, returns hop 1 up to 1
pub hop_1 : TakenStep offers 2 (offer 2 1 0 sharp_2 room) (λ out. (n : ℕ) → n < 6 → nat_abs (at out n -ℤ pos 5) ≤ 1)
unfolding recording routes units_of change
hop_1 = taken_step offers brought_offers taken-offers 2 (offer 2 1 0 sharp_2 room) (λ out. (n : ℕ) → n < 6 → nat_abs (at out n -ℤ pos 5) ≤ 1) (later (later first))
    (λ t e n p. rw (six-at 6 n p, get_or-replicate 6 n (pos 5) (pos 0) p) at (returned.hop_near 2 t e 1 (returned.answered.numbers 2 t e) n p))

-- where block 3 is changed by up to 500, hop 0 returns as it was all the same, since it lies in blocks 0 and 1; hop 2, in blocks 2 and 3, returns up to 31
pub uneven_hop_0 : TakenStep uneven_offers 1 (offer 1 0 1 sharp_1 room) (λ out. (n : ℕ) → n < 6 → at out n ≡ at recording (0 + n))
unfolding routes bounds
uneven_hop_0 = taken_step uneven_offers uneven_brought uneven_taken 1 (offer 1 0 1 sharp_1 room) (λ out. (n : ℕ) → n < 6 → at out n ≡ at recording (0 + n)) (later first)
    (λ t e. uneven.hop_same 1 t e 0 (uneven.answered.numbers 1 t e) (lit≤ tt) (lit≤ tt) refl refl)

pub uneven_hop_2 : TakenStep uneven_offers 3 (offer 3 0 0 coarse_3 room) (λ out. (n : ℕ) → n < 6 → nat_abs (at out n -ℤ at recording (12 + n)) ≤ 31)
unfolding routes bounds units_of change
uneven_hop_2 = taken_step uneven_offers uneven_brought uneven_taken 3 (offer 3 0 0 coarse_3 room) (λ out. (n : ℕ) → n < 6 → nat_abs (at out n -ℤ at recording (12 + n)) ≤ 31) (later (later (later first)))
    (λ t e. uneven.hop_near 3 t e 2 (uneven.answered.numbers 3 t e))

-- the stream after the list ends with a long joint, as the last block that was taken, and after a list of which nothing is taken it does too
pub ends_long : (final 12 offers).shape ≡ 0
ends_long =
    let (t, e, f) = entry-turn (taken (turns 12 offers)) {i = 3} {o = offer 3 0 0 block_3 room} (rw taken-offers (later (later (later first)))) in
    returned.answered.final_shape 3 t e all-taken ∙ ap (λ (o : Offer). o.right) f

pub none-taken : (final 12 (offer 1 0 1 sharp_1 room ∷ [])).shape ≡ 0
none-taken = (every_list 12 twelve (offer 1 0 1 sharp_1 room ∷ [])).final_none (unfold computed in refl)

-- ---- the last number is taken once; then every block is 7
pub last_taken : step_code at_the_last 4294967295 1 0 block_0 room ≡ 0
unfolding computed at_the_last
last_taken = refl

pub none-behind : (number l r : ℕ) → number < 2 ^ 32 → (text : List ℕ) (x out : List ℤ) →
    let s = (step at_the_last 4294967295 1 0 block_0 room).stream in (step_code s number l r x out ≡ 7) × (L.step_code s number l r text x out ≡ 7)
none-behind number l r p text x out = demand_1.last_number at_the_last 1 0 block_0 room last_taken number l r p text x out

-- it ends with the right shape of that block
pub last-shape : (step at_the_last 4294967295 1 0 block_0 room).stream.shape ≡ 0
last-shape = (demand_2.stepped at_the_last 4294967295 1 0 block_0 room last_taken).remembered

pub last-counted : (step at_the_last 4294967295 1 0 block_0 room).stream.expected ≡ 2 ^ 32
unfolding at_the_last
last-counted = (demand_2.stepped at_the_last 4294967295 1 0 block_0 room last_taken).counted

forged_tail : SoundTail forged
unfolding forged tail_limit
forged_tail = record { each = λ n p. rw (get_or-replicate storage n (pos 0) (pos 0) (omega arith)) (omega arith) }

pub forged_shape : (l r : ℕ) (x out : List ℤ) → step_code forged 4294967295 l r x out ≡ 8
unfolding forged
forged_shape l r x out = (demand_1.stepped forged 4294967295 l r x out).eight_forged twelve forged_tail refl (lit< tt)

below_zero-tail : SoundTail (stream_in below_zero)
unfolding stream_in entry_number below_zero tail_limit
below_zero-tail = record { each = λ n p. rw (get_or-replicate storage n (pos 0) (pos 0) (omega arith)) (omega arith) }

misshapen-tail : (z : ℤ) → SoundTail (stream_in (misshapen z))
unfolding stream_in entry_number misshapen tail_limit
misshapen-tail z = record { each = λ n p. rw (get_or-replicate storage n (pos 0) (pos 0) (omega arith)) (omega arith) }

pub no_shape_below : (l r : ℕ) (x out : List ℤ) → state_code (misshapen (minus 1)) 3 l r x out ≡ 8
unfolding stream_in entry_number misshapen
no_shape_below l r x out = (demand_1.state_stepped (misshapen (minus 1)) 3 l r x out).eight_negative refl twelve (misshapen-tail (minus 1)) refl (record { lt = tt })

pub no_shape_above : (l r : ℕ) (x out : List ℤ) → state_code (misshapen (pos 2)) 3 l r x out ≡ 8
unfolding stream_in entry_number misshapen
no_shape_above l r x out = (demand_1.state_stepped (misshapen (pos 2)) 3 l r x out).eight_large refl twelve (misshapen-tail (pos 2)) refl (record { lt = tt })

pub none_expected : (number l r : ℕ) → number < 2 ^ 32 → (x out : List ℤ) → state_code below_zero number l r x out ≡ 7
none_expected number l r p x out =
    (demand_1.state_stepped below_zero number l r x out).seven_negative (unfold below_zero in refl) (unfold below_zero in unfold stream_in in unfold entry_number in twelve) below_zero-tail p
    (unfold below_zero in record { lt = tt })
