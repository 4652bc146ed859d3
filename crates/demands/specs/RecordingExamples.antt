-- Whole recordings: those of Example at N = 12, analysed block by block and by one call; the short halves; a recording at N = 216; one at N = 72, by the double route and by two routes; sound with its sign turned; and pages,
-- printed and read back. `RecordingExamples` is the contract of the function `recording_examples`, by RecordingExampleLaws.
use Rattle.std.specs.Prelude.{◌≡◌, cond, List, [], ◌∷◌, ◌++◌, ℕ, zero, suc, ◌*◌, ◌%◌, ◌≤◌, ◌<◌, eqb, length, get_or, take, replicate, ℤ, pos, nat_abs, ◌-ℤ◌}
use Rattle.arithmetic.specs.Lists.{at, table}
use Rattle.cosine.specs.Kernels.{rising, falling}
use Rattle.analysis.specs.declared.Route.{Route}
use Rattle.analysis.specs.declared.Route.TheVariants.{Direct, Short, Double}
use Rattle.orders.specs.declared.Order.{Order}
use Rattle.orders.specs.declared.Order.TheVariants.{ByBlock, ByFrequency}
use Rattle.orders.specs.Orders.{laid}
use Rattle.recording.specs.Recordings.{block}
use Rattle.block_calls.specs.Analysis.{analyse_code, analyse_out}
use Rattle.recording_calls.specs.Recordings.{recorded_code, recorded_out, played_code, played_out}
use Rattle.text.specs.Bytes.{ascii, blank}
use Rattle.text.specs.Lines.{lines}
use Rattle.page.specs.Page.{page_code, page_out, number_in}
use Rattle.demands.specs.Steps.{Recording, change}
use Rattle.demands.specs.Recordings.{ByOneCall, BlockByBlock, Back, BackOneQ}
use Rattle.demands.specs.Demands.{X, PlayedOn, Alike}
use Rattle.demands.specs.Turned.{opposite}
use Rattle.demands.specs.Example.{minus, recording, routes, knock, room, whole, hops_room, knock_whole}

-- a recording of one hop at N = 216
unfoldable pub ramp : List ℤ
ramp = table 108 (λ i. pos (300 * i))

-- and one at N = 72
unfoldable pub slope : List ℤ
slope = table 36 (λ i. minus (900 * i))

-- block 0 takes the double route, every later one the short one
unfoldable pub double_first : ℕ → Route
double_first zero = Double
double_first (suc b) = Short

-- the coefficients of the slope's blocks so, one block after the other
abbrev pub double_and_short : List ℤ
double_and_short = laid ByBlock 36 2 (λ b. analyse_out (double_first b) 72 0 0 (block 72 slope b) (replicate 36 (pos 9)))

-- the samples of a block at N = 12
unfoldable pub twelve_samples : List ℤ
twelve_samples = pos 7 ∷ minus 8 ∷ pos 32767 ∷ minus 32767 ∷ pos 1 ∷ pos 0 ∷ pos 5 ∷ pos 5 ∷ minus 5 ∷ pos 5 ∷ minus 900 ∷ pos 5 ∷ []

-- what the buffers for two pages held
unfoldable pub paper : List ℕ
paper = replicate 162 0

-- the coefficients 0, -1, 2, -3, .. of two blocks at N = 24
unfoldable pub counted_up : List ℤ
counted_up = table 24 (λ k. cond (eqb (k % 2) 0) (pos k) (minus k))

unfoldable pub sheet : List ℕ
sheet = replicate 324 7

pub record RecordingExamples : Type 0 where
  -- ---- the calls over whole recordings: four blocks, analysed one by one, block 2 by the short route
  pub played : played_code 12 3 whole hops_room ≡ 0
  -- what is synthesised is what steps under the numbers 0 to 3 return
  pub played_on : PlayedOn ByBlock 12 3 whole hops_room (λ b. room)
  pub by_blocks : BlockByBlock 12 3 (λ b. 7) routes ByBlock recording whole
  pub back : Back 12 3 (λ b. 7) routes recording (played_out ByBlock 12 3 whole hops_room)
  -- ---- the short halves at N = 12, in document 02's numbers; a shape of 2 is 8, whatever the buffers' lengths are
  pub short_half : table 6 (rising 1 12) ≡ pos 0 ∷ pos 0 ∷ pos 25681450 ∷ pos 62000506 ∷ pos 67108864 ∷ pos 67108864 ∷ []
  pub short_mirror : table 6 (falling 1 12) ≡ pos 67108864 ∷ pos 67108864 ∷ pos 62000506 ∷ pos 25681450 ∷ pos 0 ∷ pos 0 ∷ []
  pub shape_of_2 : (x out : List ℤ) → analyse_code Direct 12 0 2 x out ≡ 8
  -- ---- at 108 and 216 the short route is refused with 1, whatever the buffers' lengths are, and the direct one is taken
  pub short_at_108 : (x out : List ℤ) → analyse_code Short 108 0 1 x out ≡ 1
  pub short_at_216 : (H : ℕ) (x out : List ℤ) → recorded_code Short 216 H x out ≡ 1
  pub direct_at_216 : analyse_code Direct 216 1 0 (table 216 (λ i. pos 0)) (table 108 (λ i. pos 0)) ≡ 0
  -- a recording of one hop there, whose coefficients are played as they are, comes back as it was, whatever the buffer held
  pub ramp_analysed : recorded_code Direct 216 1 ramp (replicate 216 (pos 9)) ≡ 0
  pub ramp_played : (out : List ℤ) → length out ≡ 108 → played_code 216 1 (recorded_out Direct ByFrequency 216 1 ramp (replicate 216 (pos 9))) out ≡ 0
  pub ramp_back : (out : List ℤ) → length out ≡ 108 → played_out ByFrequency 216 1 (recorded_out Direct ByFrequency 216 1 ramp (replicate 216 (pos 9))) out ≡ ramp
  -- ---- a recording of one hop at N = 72, by the double route (P12): its coefficients are taken as they are, and each sample comes back up to 2, which is (32 + 8) / 16
  pub slope_analysed : recorded_code Double 72 1 slope (replicate 72 (pos 9)) ≡ 0
  pub slope_played : (out : List ℤ) → length out ≡ 36 → played_code 72 1 (recorded_out Double ByBlock 72 1 slope (replicate 72 (pos 9))) out ≡ 0
  pub slope_back : (out : List ℤ) → length out ≡ 36 → (i : ℕ) → i < 36 →
      nat_abs (at (played_out ByBlock 72 1 (recorded_out Double ByBlock 72 1 slope (replicate 72 (pos 9))) out) i -ℤ at slope i) ≤ 2
  -- in fact up to 1, which is (3 × 14 + 36) / 64: 14 units are proved
  pub slope_sharper : (out : List ℤ) → length out ≡ 36 → (i : ℕ) → i < 36 →
      nat_abs (at (played_out ByBlock 72 1 (recorded_out Double ByBlock 72 1 slope (replicate 72 (pos 9))) out) i -ℤ at slope i) ≤ 1
  pub slope_recorded : Recording 72 1 slope
  -- its last block, with a short joint on its left: each coefficient lies within 32 units of the definition's
  pub last_taken : analyse_code Double 72 1 0 (block 72 slope 1) (replicate 36 (pos 9)) ≡ 0
  pub slope_near : (k : ℕ) → k < 36 → nat_abs (at (analyse_out Double 72 1 0 (block 72 slope 1) (replicate 36 (pos 9))) k -ℤ X 72 1 0 (block 72 slope 1) k) ≤ 32
  -- ---- block 0 by the double route and block 1 by the short one: each sample comes back up to 2, and in fact up to 1
  pub double_and_short_played : (out : List ℤ) → length out ≡ 36 → played_code 72 1 double_and_short out ≡ 0
  pub double_and_short_back : (out : List ℤ) → length out ≡ 36 → (i : ℕ) → i < 36 → nat_abs (at (played_out ByBlock 72 1 double_and_short out) i -ℤ at slope i) ≤ 2
  pub double_and_short_sharper : (out : List ℤ) → length out ≡ 36 → (i : ℕ) → i < 36 → nat_abs (at (played_out ByBlock 72 1 double_and_short out) i -ℤ at slope i) ≤ 1
  -- short beside double: the larger units stand for both
  pub short_beside_double : change 0 0 Short Double ≡ 32
  -- where the double route is not offered it is refused with 1, whatever the buffers' lengths are
  pub double_at_24 : (x out : List ℤ) → analyse_code Double 24 0 2 x out ≡ 1
  pub double_at_12 : (H : ℕ) (x out : List ℤ) → recorded_code Double 12 H x out ≡ 1
  -- ---- with its sign turned the ramp has the turned coefficients
  pub turned_taken : recorded_code Direct 216 1 (opposite ramp) (replicate 216 (pos 9)) ≡ 0
  pub ramp_turned : recorded_out Direct ByFrequency 216 1 (opposite ramp) (replicate 216 (pos 9)) ≡ opposite (recorded_out Direct ByFrequency 216 1 ramp (replicate 216 (pos 9)))
  -- the slope too, by the double route
  pub slope_turned_taken : recorded_code Double 72 1 (opposite slope) (replicate 72 (pos 9)) ≡ 0
  pub slope_turned : recorded_out Double ByBlock 72 1 (opposite slope) (replicate 72 (pos 9)) ≡ opposite (recorded_out Double ByBlock 72 1 slope (replicate 72 (pos 9)))
  -- and a block by the short route: its own coefficients, and those of the turned block
  pub short_taken : analyse_code Short 12 1 1 twelve_samples room ≡ 0
  pub short_turned_taken : analyse_code Short 12 1 1 (opposite twelve_samples) room ≡ 0
  pub short_turned : analyse_out Short 12 1 1 (opposite twelve_samples) room ≡ opposite (analyse_out Short 12 1 1 twelve_samples room)
  -- ---- a single hop at N = 12, analysed by one call, which filled by frequency; what is synthesised lies by block
  pub knock_played : played_code 12 1 knock_whole room ≡ 0
  pub knock_analysed : recorded_code Direct 12 1 knock (room ++ room) ≡ 0
  pub by_one_call : ByOneCall 12 1 (λ b. 7) Direct ByBlock knock knock_whole
  pub knock_once : Back 12 1 (λ b. 7) (λ b. Direct) knock (played_out ByBlock 12 1 knock_whole room)
  pub knock_once_one : BackOneQ 12 1 7 (λ b. Direct) knock (played_out ByBlock 12 1 knock_whole room)
  -- ---- its coefficients on paper
  pub knock_printed : page_code 12 1 knock_whole paper ≡ 0
  pub knock_page : page_out ByBlock 12 1 knock_whole paper ≡ ascii "       0     -383686     -357268     -306809     -235988     -148950      -50959\n       1      383737    -1125057     1789771    -2332634     2716663    -2915535\n"
  -- at N = 24 a block has two lines: a page of 0, -1, 2, -3, .. is printed, a number of its last line is read back, and columns 1 to 8 of that line are blanks
  pub counted_printed : page_code 24 1 counted_up sheet ≡ 0
  pub counted_read : number_in (get_or (lines (page_out ByBlock 24 1 counted_up sheet)) 3 []) 5 ≡ minus 23
  pub counted_blanks : take 8 (get_or (lines (page_out ByBlock 24 1 counted_up sheet)) 3 []) ≡ replicate 8 blank
  -- who prints the same page has the same coefficients, in whatever order
  pub counted_only : (order : Order) (y : List ℤ) (out : List ℕ) → page_code 24 1 y out ≡ 0 → page_out order 24 1 y out ≡ page_out ByBlock 24 1 counted_up sheet → Alike 24 1 order ByBlock y counted_up
  -- by block the same list
  pub counted_alone : (y : List ℤ) (out : List ℕ) → page_code 24 1 y out ≡ 0 → page_out ByBlock 24 1 y out ≡ page_out ByBlock 24 1 counted_up sheet → y ≡ counted_up
