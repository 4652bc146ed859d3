-- The theorems `back_block_by_block`, `back_by_one_call` and `back_one` applied to the recordings of Example; short halves; a recording at N = 216; one at N = 72, by the double route; the sign rule; and pages, printed and read back. All
-- is computed from the definitions.
use Rattle.std.specs.Prelude.{◌≡◌, true, List, [], ◌∷◌, ◌++◌, ℕ, zero, suc, ◌≤◌, ◌<◌, T, eqb, leb, length, get_or, take, replicate, ℤ, pos, nat_abs, ◌-ℤ◌}
use Rattle.std.proofs.Math.Path.{refl}
use Rattle.std.proofs.Math.Nat.{div-eq_of_lt}
use Rattle.std.proofs.Common.{arith, eqb→eq, leb→le, lit<, lit≤}
use Rattle.arithmetic.specs.Lists.{at, table, all}
use Rattle.arithmetic.specs.TestLaws.{all-at}
use Rattle.cosine.specs.Kernels.{tabled, rising, falling}
use Rattle.transform.specs.Analysis.{y}
use Rattle.analysis.specs.declared.Route.TheVariants.{Direct, Short, Double}
use Rattle.analysis.specs.Analysis.{offered, units_of}
use Rattle.orders.specs.declared.Order.{Order}
use Rattle.orders.specs.declared.Order.TheVariants.{ByBlock, ByFrequency}
use Rattle.orders.specs.Orders.{place}
use Rattle.recording.specs.Recordings.{block}
use Rattle.checks.specs.Limits.{counted}
use Rattle.block_calls.specs.Analysis.{analyse_code, analyse_out}
use Rattle.recording_calls.specs.Recordings.{recorded_code, recorded_out, played_code, played_out}
use Rattle.text.specs.Bytes.{ascii, blank}
use Rattle.text.specs.Number.{digits_by, decimal, printed}
use Rattle.text.specs.Lines.{lines}
use Rattle.text.specs.Columns.{aligned}
use Rattle.page.specs.Page.{margin, columns, page_of, page_causes, page_code, page_out, number_in}
use Rattle.demands.specs.Steps.{Recording, change, proved_units, proved_change}
use Rattle.demands.specs.Recordings.{ByOneCall, BlockByBlock, Back, BackOneQ, SharperBack}
use Rattle.demands.proofs.AnswerLaws.{demand_1}
use Rattle.demands.proofs.DefinitionLaws.{demand_2}
use Rattle.demands.proofs.OrderLaws.{either_order}
use Rattle.demands.proofs.RecordingLaws.{block-sample}
use Rattle.demands.proofs.BackLaws.{back_one, back_by_one_call, back_block_by_block}
use Rattle.demands.proofs.UnchangedLaws.{unchanged_taken, unchanged_near, unchanged_sharper, unchanged_back, each-taken, each_back}
use Rattle.demands.specs.Answers.{Shapes}
use Rattle.demands.specs.Demands.{X, PlayedOn, Alike}
use Rattle.demands.specs.Turned.{opposite}
use Rattle.demands.proofs.TurnLaws.{sign_rule}
use Rattle.demands.specs.Example.{minus, recording, routes, knock, room, whole, hops_room, knock_whole}
use Rattle.demands.proofs.ExampleLaws.{computed, answers, twelve, is_sample, samples_of, recorded, knock_recorded}
use Rattle.demands.specs.RecordingExamples.{ramp, slope, double_first, double_and_short, twelve_samples, paper, counted_up, sheet}

-- ---- the calls over whole recordings: four blocks, analysed one by one, block 2 by the short route
pub played : played_code 12 3 whole hops_room ≡ 0
unfolding answers
played = refl

-- which is what steps under the numbers 0 to 3 return
pub played_on : PlayedOn ByBlock 12 3 whole hops_room (λ b. room)
played_on = demand_2.played ByBlock 12 3 whole hops_room played (λ b. room) (λ b p. unfold room in refl)

abbrev off : ℕ → ℕ → ℕ
off b k = nat_abs (at whole (place ByBlock 6 4 b k) -ℤ at (analyse_out (routes b) 12 0 0 (block 12 recording b) room) k)

changes : T (all 4 (λ b. all 6 (λ k. leb (off b k) 7)))
unfolding answers
changes = tt

analysed : T (all 4 (λ b. eqb (analyse_code (routes b) 12 0 0 (block 12 recording b) room) 0))
unfolding answers
analysed = tt

pub by_blocks : BlockByBlock 12 3 (λ b. 7) routes ByBlock recording whole
by_blocks = record {
  buffer = λ b. room;
  taken = λ b p. eqb→eq (analyse_code (routes b) 12 0 0 (block 12 recording b) room) 0
      (all-at 4 (λ b. eqb (analyse_code (routes b) 12 0 0 (block 12 recording b) room) 0) analysed b (omega arith));
  near = λ b p k q. leb→le (off b k) 7 (all-at 6 (λ k. leb (off b k) 7) (all-at 4 (λ b. all 6 (λ k. leb (off b k) 7)) changes b (omega arith)) k q);
}

pub back : Back 12 3 (λ b. 7) routes recording (played_out ByBlock 12 3 whole hops_room)
back = (back_block_by_block 12 3 (λ b. 7) routes ByBlock recording whole hops_room recorded by_blocks played).0

-- ---- the short halves at N = 12, in document 02's numbers; a shape of 2 is 8, whatever the buffers' lengths are
pub short-half : table 6 (rising 1 12) ≡ pos 0 ∷ pos 0 ∷ pos 25681450 ∷ pos 62000506 ∷ pos 67108864 ∷ pos 67108864 ∷ []
unfolding computed
short-half = refl

pub short_mirror : table 6 (falling 1 12) ≡ pos 67108864 ∷ pos 67108864 ∷ pos 62000506 ∷ pos 25681450 ∷ pos 0 ∷ pos 0 ∷ []
unfolding computed
short_mirror = refl

pub shape_of_2 : (x out : List ℤ) → analyse_code Direct 12 0 2 x out ≡ 8
unfolding offered
shape_of_2 x out = (demand_1.analyse Direct 12 0 2 x out).eight twelve (λ (h : Shapes 0 2). omega (arith, h.right_is))

-- ---- at 108 and 216 the short route is refused with 1, whatever the buffers' lengths are, and the direct one is taken
pub short_at_108 : (x out : List ℤ) → analyse_code Short 108 0 1 x out ≡ 1
unfolding answers
short_at_108 x out = refl

pub short_at_216 : (H : ℕ) (x out : List ℤ) → recorded_code Short 216 H x out ≡ 1
unfolding answers
short_at_216 H x out = refl

pub direct_at_216 : analyse_code Direct 216 1 0 (table 216 (λ i. pos 0)) (table 108 (λ i. pos 0)) ≡ 0
unfolding answers
direct_at_216 = refl

ramp-samples : T (all (length ramp) (λ i. is_sample (at ramp i)))
unfolding computed is_sample ramp
ramp-samples = tt

pub ramp-analysed : recorded_code Direct 216 1 ramp (replicate 216 (pos 9)) ≡ 0
unfolding answers ramp
ramp-analysed = refl

pub ramp_played : (out : List ℤ) → length out ≡ 108 → played_code 216 1 (recorded_out Direct ByFrequency 216 1 ramp (replicate 216 (pos 9))) out ≡ 0
ramp_played = unchanged_taken Direct ByFrequency 216 1 ramp (replicate 216 (pos 9)) (samples_of ramp ramp-samples) ramp-analysed

pub ramp-back : (out : List ℤ) → length out ≡ 108 → played_out ByFrequency 216 1 (recorded_out Direct ByFrequency 216 1 ramp (replicate 216 (pos 9))) out ≡ ramp
ramp-back = unchanged_back ByFrequency 216 1 ramp (replicate 216 (pos 9)) (samples_of ramp ramp-samples) ramp-analysed

slope-samples : T (all (length slope) (λ i. is_sample (at slope i)))
unfolding computed is_sample slope
slope-samples = tt

pub slope-analysed : recorded_code Double 72 1 slope (replicate 72 (pos 9)) ≡ 0
unfolding answers slope
slope-analysed = refl

pub slope_played : (out : List ℤ) → length out ≡ 36 → played_code 72 1 (recorded_out Double ByBlock 72 1 slope (replicate 72 (pos 9))) out ≡ 0
slope_played = unchanged_taken Double ByBlock 72 1 slope (replicate 72 (pos 9)) (samples_of slope slope-samples) slope-analysed

pub slope-back : (out : List ℤ) → length out ≡ 36 → (i : ℕ) → i < 36 →
    nat_abs (at (played_out ByBlock 72 1 (recorded_out Double ByBlock 72 1 slope (replicate 72 (pos 9))) out) i -ℤ at slope i) ≤ 2
unfolding change units_of
slope-back out l i p = (unchanged_near Double ByBlock 72 1 slope (replicate 72 (pos 9)) (samples_of slope slope-samples) slope-analysed out l).near i p

-- in fact up to 1, which is (3 × 14 + 36) / 64: 14 units are proved
pub slope_sharper : (out : List ℤ) → length out ≡ 36 → (i : ℕ) → i < 36 →
    nat_abs (at (played_out ByBlock 72 1 (recorded_out Double ByBlock 72 1 slope (replicate 72 (pos 9))) out) i -ℤ at slope i) ≤ 1
unfolding proved_change proved_units
slope_sharper out l i p = (unchanged_sharper Double ByBlock 72 1 slope (replicate 72 (pos 9)) (samples_of slope slope-samples) slope-analysed out l).near i p

pub slope_recorded : Recording 72 1 slope
slope_recorded = record { hops = lit≤ tt; long = unfold computed slope in refl; sample = samples_of slope slope-samples }

seventy_two : T (tabled 72)
unfolding computed
seventy_two = tt

-- its last block, with a short joint on its left: each coefficient lies within 32 units of the definition's
pub last_taken : analyse_code Double 72 1 0 (block 72 slope 1) (replicate 36 (pos 9)) ≡ 0
unfolding answers slope
last_taken = refl

pub slope-near : (k : ℕ) → k < 36 → nat_abs (at (analyse_out Double 72 1 0 (block 72 slope 1) (replicate 36 (pos 9))) k -ℤ X 72 1 0 (block 72 slope 1) k) ≤ 32
slope-near k p = (demand_2.coefficient 72 1 0 (block 72 slope 1) (replicate 36 (pos 9)) k p).double_near last_taken (block-sample 72 seventy_two 1 slope slope_recorded 1)

double_first-taken : (b : ℕ) → b ≤ 1 → analyse_code (double_first b) 72 0 0 (block 72 slope b) (replicate 36 (pos 9)) ≡ 0
double_first-taken zero p = unfold answers slope double_first in refl
double_first-taken (suc zero) p = unfold answers slope double_first in refl
double_first-taken (suc (suc b)) p = absurd (omega (arith, p))

one-hop : counted 1 ≡ true
unfolding counted
one-hop = refl

pub double_and_short_played : (out : List ℤ) → length out ≡ 36 → played_code 72 1 double_and_short out ≡ 0
double_and_short_played = each-taken double_first ByBlock 72 1 slope (λ b. replicate 36 (pos 9)) slope_recorded one-hop double_first-taken

abbrev double_and_short_both : (out : List ℤ) → length out ≡ 36 →
    Back 72 1 (λ b. 0) double_first slope (played_out ByBlock 72 1 double_and_short out) × SharperBack 72 1 (λ b. 0) double_first slope (played_out ByBlock 72 1 double_and_short out)
double_and_short_both = each_back double_first ByBlock 72 1 slope (λ b. replicate 36 (pos 9)) slope_recorded one-hop double_first-taken

pub double_and_short-back : (out : List ℤ) → length out ≡ 36 → (i : ℕ) → i < 36 → nat_abs (at (played_out ByBlock 72 1 double_and_short out) i -ℤ at slope i) ≤ 2
unfolding change units_of double_first
double_and_short-back out l i p = rw (div-eq_of_lt p) at ((double_and_short_both out l).0.near i p)

pub double_and_short_sharper : (out : List ℤ) → length out ≡ 36 → (i : ℕ) → i < 36 → nat_abs (at (played_out ByBlock 72 1 double_and_short out) i -ℤ at slope i) ≤ 1
unfolding proved_change proved_units double_first
double_and_short_sharper out l i p = rw (div-eq_of_lt p) at ((double_and_short_both out l).1.near i p)

-- short beside double: the larger units stand for both
pub short_beside_double : change 0 0 Short Double ≡ 32
unfolding change units_of
short_beside_double = refl

-- where the double route is not offered it is refused with 1, whatever the buffers' lengths are
pub double_at_24 : (x out : List ℤ) → analyse_code Double 24 0 2 x out ≡ 1
unfolding answers
double_at_24 x out = refl

pub double_at_12 : (H : ℕ) (x out : List ℤ) → recorded_code Double 12 H x out ≡ 1
unfolding answers
double_at_12 H x out = refl

-- ---- with its sign turned the ramp has the turned coefficients
pub turned_taken : recorded_code Direct 216 1 (opposite ramp) (replicate 216 (pos 9)) ≡ 0
unfolding answers ramp opposite
turned_taken = refl

pub ramp-turned : recorded_out Direct ByFrequency 216 1 (opposite ramp) (replicate 216 (pos 9)) ≡ opposite (recorded_out Direct ByFrequency 216 1 ramp (replicate 216 (pos 9)))
ramp-turned = sign_rule.recorded Direct ByFrequency 216 1 ramp (replicate 216 (pos 9)) (replicate 216 (pos 9)) ramp-analysed turned_taken

-- the slope too, by the double route
pub slope_turned_taken : recorded_code Double 72 1 (opposite slope) (replicate 72 (pos 9)) ≡ 0
unfolding answers slope opposite
slope_turned_taken = refl

pub slope-turned : recorded_out Double ByBlock 72 1 (opposite slope) (replicate 72 (pos 9)) ≡ opposite (recorded_out Double ByBlock 72 1 slope (replicate 72 (pos 9)))
slope-turned = sign_rule.recorded Double ByBlock 72 1 slope (replicate 72 (pos 9)) (replicate 72 (pos 9)) slope-analysed slope_turned_taken

pub short-taken : analyse_code Short 12 1 1 twelve_samples room ≡ 0
unfolding answers twelve_samples
short-taken = refl

pub short_turned_taken : analyse_code Short 12 1 1 (opposite twelve_samples) room ≡ 0
unfolding answers twelve_samples opposite
short_turned_taken = refl

pub short-turned : analyse_out Short 12 1 1 (opposite twelve_samples) room ≡ opposite (analyse_out Short 12 1 1 twelve_samples room)
short-turned = sign_rule.analysed Short 12 1 1 twelve_samples room room short-taken short_turned_taken

-- ---- a single hop at N = 12, analysed by one call, which filled by frequency; what is synthesised lies by block
pub knock_played : played_code 12 1 knock_whole room ≡ 0
unfolding answers
knock_played = refl

pub knock-analysed : recorded_code Direct 12 1 knock (room ++ room) ≡ 0
unfolding answers
knock-analysed = refl

abbrev knock_off : ℕ → ℕ → ℕ
knock_off b k = nat_abs (at knock_whole (place ByBlock 6 2 b k) -ℤ at (recorded_out Direct ByFrequency 12 1 knock (room ++ room)) (place ByFrequency 6 2 b k))

knock-changes : T (all 2 (λ b. all 6 (λ k. leb (knock_off b k) 7)))
unfolding answers
knock-changes = tt

pub by_one_call : ByOneCall 12 1 (λ b. 7) Direct ByBlock knock knock_whole
by_one_call = record {
  filled = ByFrequency;
  buffer = room ++ room;
  taken = knock-analysed;
  near = λ b p k q. leb→le (knock_off b k) 7 (all-at 6 (λ k. leb (knock_off b k) 7) (all-at 2 (λ b. all 6 (λ k. leb (knock_off b k) 7)) knock-changes b (omega arith)) k q);
}

pub knock_once : Back 12 1 (λ b. 7) (λ b. Direct) knock (played_out ByBlock 12 1 knock_whole room)
knock_once = (back_by_one_call 12 1 (λ b. 7) Direct ByBlock knock knock_whole room knock_recorded.sample by_one_call knock_played).0

pub knock_once_one : BackOneQ 12 1 7 (λ b. Direct) knock (played_out ByBlock 12 1 knock_whole room)
knock_once_one = back_one 12 1 7 (λ b. Direct) knock (played_out ByBlock 12 1 knock_whole room) knock_once

pub knock-printed : page_code 12 1 knock_whole paper ≡ 0
unfolding answers page_causes page_code paper
knock-printed = refl

pub knock_page : page_out ByBlock 12 1 knock_whole paper ≡ ascii "       0     -383686     -357268     -306809     -235988     -148950      -50959\n       1      383737    -1125057     1789771    -2332634     2716663    -2915535\n"
unfolding answers page_causes page_code page_out page_of columns margin aligned decimal digits_by printed paper
knock_page = refl

pub counted-printed : page_code 24 1 counted_up sheet ≡ 0
unfolding answers page_causes page_code counted_up sheet
counted-printed = refl

pub counted-read : number_in (get_or (lines (page_out ByBlock 24 1 counted_up sheet)) 3 []) 5 ≡ minus 23
unfolding table counted_up place
counted-read = ((demand_2.paged ByBlock 24 1 counted_up sheet counted-printed).number 1 1 5 (lit≤ tt) (lit< tt) (lit< tt)).1

pub counted_blanks : take 8 (get_or (lines (page_out ByBlock 24 1 counted_up sheet)) 3 []) ≡ replicate 8 blank
counted_blanks = (demand_2.paged ByBlock 24 1 counted_up sheet counted-printed).blanks 1 0 (lit≤ tt) (lit< tt)

-- who prints the same page has the same coefficients, in whatever order
pub counted_only : (order : Order) (y : List ℤ) (out : List ℕ) → page_code 24 1 y out ≡ 0 → page_out order 24 1 y out ≡ page_out ByBlock 24 1 counted_up sheet → Alike 24 1 order ByBlock y counted_up
counted_only order y out e same = demand_2.pages order ByBlock 24 1 y counted_up out sheet e counted-printed same

-- by block the same list
pub counted_alone : (y : List ℤ) (out : List ℕ) → page_code 24 1 y out ≡ 0 → page_out ByBlock 24 1 y out ≡ page_out ByBlock 24 1 counted_up sheet → y ≡ counted_up
counted_alone y out e same = either_order.alone (counted_only ByBlock y out e same)
