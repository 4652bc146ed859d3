-- What each public call answers, in words of its input: demand 1, call by call. `Demand1` of Demands gathers them.
use Rattle.std.specs.Prelude.{◌≡◌, ◌≢◌, cond, List, [], ◌∷◌, ℕ, zero, suc, ◌+◌, ◌*◌, ◌/◌, ◌^◌, ◌≤◌, ◌<◌, T, length, get_or, ℤ, pos, nat_abs, ◌<ℤ◌, Float}
use Rattle.arithmetic.specs.Lists.{at}
use Rattle.cosine.specs.Kernels.{tabled}
use Rattle.stream.specs.declared.Stream.{Stream}
use Rattle.stream.specs.Synthesis as S
use Rattle.analysis.specs.declared.Route.{Route}
use Rattle.analysis.specs.declared.Route.TheVariants.{Direct, Short, Double}
use Rattle.analysis.specs.Analysis.{offered, units_of}
use Rattle.block_calls.specs.Analysis.{analyse_code, analyse_out}
use Rattle.checks.specs.Limits.{tail_limit, coefficient_limit, hop_limit}
use Rattle.stream_calls.specs.Streams.{fresh, step_code, step, step_out}
use Rattle.orders.specs.declared.Order.{Order}
use Rattle.orders.specs.declared.Order.TheVariants.{ByBlock, ByFrequency}
use Rattle.orders.specs.Orders.{order_of, hops_in}
use Rattle.recording_calls.specs.Recordings.{recorded_code, recorded_out, played_code, played_out, reorder_code, reorder_out, inner_of}
use Rattle.stream_calls.specs.States.{entries, stream_in, fresh_code, fresh_state, step_state, step_code as state_code, step_out as state_out}
use Rattle.steps.specs.Table as G
use Rattle.steps.specs.Table.{row_of, refused, verdict, table_code, coarsest, Line}
use Rattle.level_calls.specs.LevelCalls as L
use Rattle.level_calls.specs.LevelCalls.{quantise_code, quantise_out, dequantise_code, dequantise_out, told, tell_number, tell_number_out, step_levels}
use Rattle.table_report.specs.Report.{taken_lines, report_of}
use Rattle.shares.specs.Shares.{largest_share}
use Rattle.share_calls.specs.ShareCalls.{answered_with, refused_with, share_answer, name_code, name_out}
use Rattle.share_calls.specs.RecordingShares.{share_at, numbered_from, recording_share, recording_name_code, recording_name_out}
use Rattle.coarsest.specs.Coarsest.{coarsest as coarsest_step}
use Rattle.coarsest_calls.specs.CoarsestCalls as Calls
use Rattle.coarsest_calls.specs.CoarsestCalls.{coarsest_answer, find_code, find_out}
use Rattle.coarsest_report.specs.Report as Reports
use Rattle.float_calls.specs.FloatCalls.{floats_code, floats_out, pair_of, no_pair, ends_of, pair_code, pair_out}
use Rattle.text.specs.Number.{most_digits, is_number, value}
use Rattle.text.specs.Lines.{lines, remainder}
use Rattle.page.specs.Page.{page_code, page_out}
use Rattle.listing.specs.Hops.{digits, is_hop}
use Rattle.listing.specs.Verdicts.{limit, hops_of}
use Rattle.text.specs.Refusal.{refusal}
use Rattle.listing.specs.Listing.{recording, returned_hops, table, listing}
use Rattle.listing.specs.SizeLaws.{room}

-- the causes of the table, in words of the input
abbrev pub Tabled : ℕ → Type 0
Tabled N = T (tabled N)

abbrev pub Offered : Route → ℕ → Type 0
Offered route N = T (offered route N)

pub record Counted (H : ℕ) : Type 0 where
  pub some : 1 ≤ H
  pub most : H ≤ hop_limit

pub record InRange (x : List ℤ) : Type 0 where
  pub each : (k : ℕ) → k < length x → nat_abs (at x k) ≤ coefficient_limit

pub record SoundTail (s : Stream) : Type 0 where
  pub each : (n : ℕ) → n < s.n / 2 → nat_abs (at s.tail n) ≤ tail_limit (s.n / 2)

-- the shapes of a block's joints: 0 or 1
pub record Shapes (left right : ℕ) : Type 0 where
  pub left_is : left ≤ 1
  pub right_is : right ≤ 1

-- `analyse`, by any route
pub record AnalyseAnswers (route : Route) (N left right : ℕ) (x out : List ℤ) : Type 0 where
  pub one : ¬ Offered route N → analyse_code route N left right x out ≡ 1
  pub eight : Offered route N → ¬ Shapes left right → analyse_code route N left right x out ≡ 8
  pub two_in : Offered route N → Shapes left right → length x ≢ N → analyse_code route N left right x out ≡ 2
  pub two_out : Offered route N → Shapes left right → length out ≢ N / 2 → analyse_code route N left right x out ≡ 2
  pub taken : Offered route N → Shapes left right → length x ≡ N → length out ≡ N / 2 → analyse_code route N left right x out ≡ 0
  pub kept : analyse_code route N left right x out ≢ 0 → analyse_out route N left right x out ≡ out

-- `fresh`
pub record FreshAnswers (N : ℕ) : Type 0 where
  pub one : ¬ Tabled N → fresh N ≡ record { code = 1; stream = S.fresh 0 }
  pub taken : Tabled N → fresh N ≡ record { code = 0; stream = S.fresh N }

-- what passes causes 4, 7 and 8
pub record Fitting (s : Stream) (number left right : ℕ) : Type 0 where
  pub length_is : Tabled s.n
  pub tail_is : SoundTail s
  pub number_is : number ≡ s.expected
  pub shapes : Shapes left right
  pub left_is : left ≡ s.shape

-- `step`. A number has 32 bits, so that a stream which expects 2^32 or more, as after the last number or forged, takes no block; nor does one whose shape is forged
pub record StepAnswers (s : Stream) (number left right : ℕ) (x out : List ℤ) : Type 0 where
  pub four_n : ¬ Tabled s.n → step_code s number left right x out ≡ 4
  pub four_tail : ¬ SoundTail s → step_code s number left right x out ≡ 4
  pub seven : Tabled s.n → SoundTail s → number ≢ s.expected → step_code s number left right x out ≡ 7
  pub seven_none : Tabled s.n → SoundTail s → number < 2 ^ 32 → 2 ^ 32 ≤ s.expected → step_code s number left right x out ≡ 7
  pub eight : Tabled s.n → SoundTail s → number ≡ s.expected → ¬ Shapes left right → step_code s number left right x out ≡ 8
  pub eight_left : Tabled s.n → SoundTail s → number ≡ s.expected → left ≢ s.shape → step_code s number left right x out ≡ 8
  pub eight_forged : Tabled s.n → SoundTail s → number ≡ s.expected → 1 < s.shape → step_code s number left right x out ≡ 8
  pub two_in : Fitting s number left right → length x ≢ s.n / 2 → step_code s number left right x out ≡ 2
  pub two_out : Fitting s number left right → length out ≢ s.n / 2 → step_code s number left right x out ≡ 2
  pub three : Fitting s number left right → length x ≡ s.n / 2 → length out ≡ s.n / 2 → ¬ InRange x → step_code s number left right x out ≡ 3
  pub taken : Fitting s number left right → length x ≡ s.n / 2 → length out ≡ s.n / 2 → InRange x → step_code s number left right x out ≡ 0
  pub code : (step s number left right x out).code ≡ step_code s number left right x out
  pub kept_stream : step_code s number left right x out ≢ 0 → (step s number left right x out).stream ≡ s
  pub kept : step_code s number left right x out ≢ 0 → step_out s number left right x out ≡ out

-- `fresh_in_place`: taken, the state holds the stream that `fresh` makes
pub record StateFreshAnswers (N : ℕ) (state : List ℤ) : Type 0 where
  pub one : ¬ Tabled N → fresh_code N state ≡ 1
  pub two : Tabled N → length state ≢ entries → fresh_code N state ≡ 2
  pub taken : Tabled N → length state ≡ entries → fresh_code N state ≡ 0
  pub holds : fresh_code N state ≡ 0 → stream_in (fresh_state N state) ≡ (fresh N).stream
  pub long : fresh_code N state ≡ 0 → length (fresh_state N state) ≡ entries
  pub kept : fresh_code N state ≢ 0 → fresh_state N state ≡ state

-- `step_in_place`: `step` on the stream that the state holds, which then holds the stream that `step` gives back. A negative N is 4, a negative expected
-- number is 7 for every block, and a shape below 0 or above 1 is 8 for every block that bears the expected number
pub record StateStepAnswers (state : List ℤ) (number left right : ℕ) (x out : List ℤ) : Type 0 where
  pub two_state : length state ≢ entries → state_code state number left right x out ≡ 2
  pub same : length state ≡ entries → state_code state number left right x out ≡ step_code (stream_in state) number left right x out
  pub same_stream : length state ≡ entries → stream_in (step_state state number left right x out) ≡ (step (stream_in state) number left right x out).stream
  pub same_out : length state ≡ entries → state_out state number left right x out ≡ step_out (stream_in state) number left right x out
  pub four_negative : length state ≡ entries → at state 0 <ℤ pos 0 → state_code state number left right x out ≡ 4
  pub seven_negative : length state ≡ entries → Tabled (stream_in state).n → SoundTail (stream_in state) → number < 2 ^ 32 → at state 1 <ℤ pos 0 → state_code state number left right x out ≡ 7
  pub eight_negative : length state ≡ entries → Tabled (stream_in state).n → SoundTail (stream_in state) → number ≡ (stream_in state).expected → at state 2 <ℤ pos 0 → state_code state number left right x out ≡ 8
  pub eight_large : length state ≡ entries → Tabled (stream_in state).n → SoundTail (stream_in state) → number ≡ (stream_in state).expected → pos 1 <ℤ at state 2 → state_code state number left right x out ≡ 8
  pub long : length (step_state state number left right x out) ≡ length state
  pub kept_state : state_code state number left right x out ≢ 0 → step_state state number left right x out ≡ state
  pub kept : state_code state number left right x out ≢ 0 → state_out state number left right x out ≡ out

-- `analyse_recording`, by any route: H × M samples in, the (H + 1) × M coefficients of all blocks out, in either order
pub record RecordedAnswers (route : Route) (order : Order) (N H : ℕ) (x out : List ℤ) : Type 0 where
  pub one : ¬ Offered route N → recorded_code route N H x out ≡ 1
  pub two_hops : Offered route N → ¬ Counted H → recorded_code route N H x out ≡ 2
  pub two_in : Offered route N → length x ≢ H * (N / 2) → recorded_code route N H x out ≡ 2
  pub two_out : Offered route N → length out ≢ (H + 1) * (N / 2) → recorded_code route N H x out ≡ 2
  pub taken : Offered route N → Counted H → length x ≡ H * (N / 2) → length out ≡ (H + 1) * (N / 2) → recorded_code route N H x out ≡ 0
  pub kept : recorded_code route N H x out ≢ 0 → recorded_out route order N H x out ≡ out

-- `synthesise_recording`: the other way round
pub record PlayedAnswers (order : Order) (N H : ℕ) (x out : List ℤ) : Type 0 where
  pub one : ¬ Tabled N → played_code N H x out ≡ 1
  pub two_hops : Tabled N → ¬ Counted H → played_code N H x out ≡ 2
  pub two_in : Tabled N → length x ≢ (H + 1) * (N / 2) → played_code N H x out ≡ 2
  pub two_out : Tabled N → length out ≢ H * (N / 2) → played_code N H x out ≡ 2
  pub three : Tabled N → Counted H → length x ≡ (H + 1) * (N / 2) → length out ≡ H * (N / 2) → ¬ InRange x → played_code N H x out ≡ 3
  pub taken : Tabled N → Counted H → length x ≡ (H + 1) * (N / 2) → length out ≡ H * (N / 2) → InRange x → played_code N H x out ≡ 0
  pub kept : played_code N H x out ≢ 0 → played_out order N H x out ≡ out

-- `reorder`: (H + 1) × M coefficients in, and as many out
pub record ReorderAnswers (to : Order) (N H : ℕ) (x out : List ℤ) : Type 0 where
  pub one : ¬ Tabled N → reorder_code N H x out ≡ 1
  pub two_hops : Tabled N → ¬ Counted H → reorder_code N H x out ≡ 2
  pub two_in : Tabled N → length x ≢ (H + 1) * (N / 2) → reorder_code N H x out ≡ 2
  pub two_out : Tabled N → length out ≢ (H + 1) * (N / 2) → reorder_code N H x out ≡ 2
  pub three : Tabled N → Counted H → length x ≡ (H + 1) * (N / 2) → length out ≡ (H + 1) * (N / 2) → ¬ InRange x → reorder_code N H x out ≡ 3
  pub taken : Tabled N → Counted H → length x ≡ (H + 1) * (N / 2) → length out ≡ (H + 1) * (N / 2) → InRange x → reorder_code N H x out ≡ 0
  pub kept : reorder_code N H x out ≢ 0 → reorder_out to N H x out ≡ out

-- for C an order is a number: the calls over recordings are handed `order_of order` and `hops_in order H`. With any number but 0 and 1 they are handed no hops, which each answers with 2 (`two_hops`)
pub record NumberAnswers (order H : ℕ) : Type 0 where
  pub by_block : order ≡ 0 → (order_of order ≡ ByBlock) × (hops_in order H ≡ H)
  pub by_frequency : order ≡ 1 → (order_of order ≡ ByFrequency) × (hops_in order H ≡ H)
  pub other : 1 < order → ¬ Counted (hops_in order H)

-- `inner`: what the part holds. Its contract says that it starts where the buffer does; the buffer is lent to be read, so it is as it was
pub record InnerAnswers (N H : ℕ) (out : List ℤ) : Type 0 where
  pub empty_n : ¬ Tabled N → inner_of N H out ≡ []
  pub empty_hops : ¬ Counted H → inner_of N H out ≡ []
  pub empty_long : length out ≢ H * (N / 2) → inner_of N H out ≡ []
  pub whole : Tabled N → Counted H → length out ≡ H * (N / 2) → inner_of N H out ≡ out

-- `page`: (H + 1) × M coefficients in, (H + 1) × (M / 6) lines of 81 bytes out
pub record PageAnswers (order : Order) (N H : ℕ) (x : List ℤ) (out : List ℕ) : Type 0 where
  pub one : ¬ Tabled N → page_code N H x out ≡ 1
  pub two_hops : Tabled N → ¬ Counted H → page_code N H x out ≡ 2
  pub two_in : Tabled N → length x ≢ (H + 1) * (N / 2) → page_code N H x out ≡ 2
  pub two_out : Tabled N → length out ≢ (H + 1) * (N / 2 / 6) * 81 → page_code N H x out ≡ 2
  pub three : Tabled N → Counted H → length x ≡ (H + 1) * (N / 2) → length out ≡ (H + 1) * (N / 2 / 6) * 81 → ¬ InRange x → page_code N H x out ≡ 3
  pub taken : Tabled N → Counted H → length x ≡ (H + 1) * (N / 2) → length out ≡ (H + 1) * (N / 2 / 6) * 81 → InRange x → page_code N H x out ≡ 0
  pub kept : page_code N H x out ≢ 0 → page_out order N H x out ≡ out

-- ---- step tables and levels (P8). A table that is taken
abbrev pub Ruled : ℕ → List ℕ → Type 0
Ruled N text = table_code (N / 2) text ≡ 0

-- the table's own number. Line j, counted from 0, is to start at place `start_of j`: 0, or the one behind the line before
abbrev pub line_of : ℕ → List ℕ → ℕ → Line
line_of M text j = row_of M (get_or (lines text) j [])

unfoldable pub start_of : ℕ → List ℕ → ℕ → ℕ
start_of M text zero = 0
start_of M text (suc j) = (line_of M text j).last + 1

-- every line is three numbers in their ranges, and has its line feed
pub record Rows (M : ℕ) (text : List ℕ) : Type 0 where
  pub each : (j : ℕ) → j < length (lines text) → T (line_of M text j).ok
  pub ended : length (remainder text) ≡ 0

-- the first j lines start where they are to
pub record Joined (M : ℕ) (text : List ℕ) (j : ℕ) : Type 0 where
  pub each : (i : ℕ) → i < j → (line_of M text i).first ≡ start_of M text i

-- the number, and the line beside it, counted from 1: a line that is none is the first of its kind, the last one without its line feed included; a joint at fault is the line behind it; and 0 is no line
pub record TableAnswers (M : ℕ) (text : List ℕ) : Type 0 where
  pub nine : ¬ Rows M text → table_code M text ≡ 9
  pub nine_line : (j : ℕ) → j < length (lines text) → ((i : ℕ) → i < j → T (line_of M text i).ok) → ¬ T (line_of M text j).ok → verdict M text ≡ refused 9 (j + 1)
  pub nine_last : ((i : ℕ) → i < length (lines text) → T (line_of M text i).ok) → length (remainder text) ≢ 0 → verdict M text ≡ refused 9 (length (lines text) + 1)
  pub ten : Rows M text → (j : ℕ) → j < length (lines text) → Joined M text j → start_of M text j < (line_of M text j).first → verdict M text ≡ refused 10 (j + 1)
  pub eleven : Rows M text → (j : ℕ) → j < length (lines text) → Joined M text j → (line_of M text j).first < start_of M text j → verdict M text ≡ refused 11 (j + 1)
  pub ten_end : Rows M text → Joined M text (length (lines text)) → start_of M text (length (lines text)) ≢ M → verdict M text ≡ refused 10 0
  pub taken : Rows M text → Joined M text (length (lines text)) → start_of M text (length (lines text)) ≡ M → verdict M text ≡ G.taken

-- `quantise`: the table's own number, 9, 10 or 11, comes behind 1 and before 2
pub record QuantiseAnswers (N : ℕ) (text : List ℕ) (x levels : List ℤ) : Type 0 where
  pub one : ¬ Tabled N → quantise_code N text x levels ≡ 1
  pub table_own : Tabled N → ¬ Ruled N text → quantise_code N text x levels ≡ table_code (N / 2) text
  pub two_in : Tabled N → Ruled N text → length x ≢ N / 2 → quantise_code N text x levels ≡ 2
  pub two_out : Tabled N → Ruled N text → length levels ≢ N / 2 → quantise_code N text x levels ≡ 2
  pub three : Tabled N → Ruled N text → length x ≡ N / 2 → length levels ≡ N / 2 → ¬ InRange x → quantise_code N text x levels ≡ 3
  pub taken : Tabled N → Ruled N text → length x ≡ N / 2 → length levels ≡ N / 2 → InRange x → quantise_code N text x levels ≡ 0
  pub kept : quantise_code N text x levels ≢ 0 → quantise_out N text x levels ≡ levels

-- `dequantise`: any number is a level, and what comes back is always in range
pub record DequantiseAnswers (N : ℕ) (text : List ℕ) (levels out : List ℤ) : Type 0 where
  pub one : ¬ Tabled N → dequantise_code N text levels out ≡ 1
  pub table_own : Tabled N → ¬ Ruled N text → dequantise_code N text levels out ≡ table_code (N / 2) text
  pub two_in : Tabled N → Ruled N text → length levels ≢ N / 2 → dequantise_code N text levels out ≡ 2
  pub two_out : Tabled N → Ruled N text → length out ≢ N / 2 → dequantise_code N text levels out ≡ 2
  pub taken : Tabled N → Ruled N text → length levels ≡ N / 2 → length out ≡ N / 2 → dequantise_code N text levels out ≡ 0
  pub ranged : dequantise_code N text levels out ≡ 0 → InRange (dequantise_out N text levels out)
  pub kept : dequantise_code N text levels out ≢ 0 → dequantise_out N text levels out ≡ out

-- `told_distance`: 0 stands beside a refusal
pub record ToldAnswers (route : Route) (N : ℕ) (text : List ℕ) : Type 0 where
  pub one : ¬ Offered route N → told route N text ≡ record { code = 1; distance = 0 }
  pub table_own : Offered route N → ¬ Ruled N text → told route N text ≡ record { code = table_code (N / 2) text; distance = 0 }
  pub taken : Offered route N → Ruled N text → told route N text ≡ record { code = 0; distance = (coarsest (N / 2) text / 2 + units_of route + 8) / 16 }

-- `tell`: the route by its number, any but 0, 1 and 2 being one that is not offered, and room for one distance, tested last
pub data RouteNumber : ℕ → Route → Type 0 where
  direct : RouteNumber 0 Direct
  short : RouteNumber 1 Short
  double : RouteNumber 2 Double

pub record TellAnswers (number N : ℕ) (text room : List ℕ) : Type 0 where
  pub one_number : 2 < number → tell_number number N text room ≡ 1
  pub one : (route : Route) → RouteNumber number route → ¬ Offered route N → tell_number number N text room ≡ 1
  pub table_own : (route : Route) → RouteNumber number route → Offered route N → ¬ Ruled N text → tell_number number N text room ≡ table_code (N / 2) text
  pub two : (route : Route) → RouteNumber number route → Offered route N → Ruled N text → length room ≢ 1 → tell_number number N text room ≡ 2
  pub taken : (route : Route) → RouteNumber number route → Offered route N → Ruled N text → length room ≡ 1 →
      (tell_number number N text room ≡ 0) × (tell_number_out number N text room ≡ (told route N text).distance ∷ [])
  pub kept : tell_number number N text room ≢ 0 → tell_number_out number N text room ≡ room

-- `step_levels`: the table is tested behind 4, 7 and 8 and before 2; and it is `step` on what `dequantise` gives
pub record StepLevelsAnswers (s : Stream) (number left right : ℕ) (text : List ℕ) (levels out : List ℤ) : Type 0 where
  pub four_n : ¬ Tabled s.n → L.step_code s number left right text levels out ≡ 4
  pub four_tail : ¬ SoundTail s → L.step_code s number left right text levels out ≡ 4
  pub seven : Tabled s.n → SoundTail s → number ≢ s.expected → L.step_code s number left right text levels out ≡ 7
  pub seven_none : Tabled s.n → SoundTail s → number < 2 ^ 32 → 2 ^ 32 ≤ s.expected → L.step_code s number left right text levels out ≡ 7
  pub eight : Tabled s.n → SoundTail s → number ≡ s.expected → ¬ Shapes left right → L.step_code s number left right text levels out ≡ 8
  pub eight_left : Tabled s.n → SoundTail s → number ≡ s.expected → left ≢ s.shape → L.step_code s number left right text levels out ≡ 8
  pub eight_forged : Tabled s.n → SoundTail s → number ≡ s.expected → 1 < s.shape → L.step_code s number left right text levels out ≡ 8
  pub table_own : Fitting s number left right → ¬ Ruled s.n text → L.step_code s number left right text levels out ≡ table_code (s.n / 2) text
  pub two_in : Fitting s number left right → Ruled s.n text → length levels ≢ s.n / 2 → L.step_code s number left right text levels out ≡ 2
  pub two_out : Fitting s number left right → Ruled s.n text → length out ≢ s.n / 2 → L.step_code s number left right text levels out ≡ 2
  pub taken : Fitting s number left right → Ruled s.n text → length levels ≡ s.n / 2 → length out ≡ s.n / 2 → L.step_code s number left right text levels out ≡ 0
  pub code : (step_levels s number left right text levels out).code ≡ L.step_code s number left right text levels out
  pub same : (room : List ℤ) → dequantise_code s.n text levels room ≡ 0 → step_levels s number left right text levels out ≡ step s number left right (dequantise_out s.n text levels room) out
  pub same_out : (room : List ℤ) → dequantise_code s.n text levels room ≡ 0 → L.step_out s number left right text levels out ≡ step_out s number left right (dequantise_out s.n text levels room) out
  pub kept_stream : L.step_code s number left right text levels out ≢ 0 → (step_levels s number left right text levels out).stream ≡ s
  pub kept : L.step_code s number left right text levels out ≢ 0 → L.step_out s number left right text levels out ≡ out

-- `step_levels_in_place`: `step_levels` on the stream that the state holds
pub record StateStepLevelsAnswers (state : List ℤ) (number left right : ℕ) (text : List ℕ) (levels out : List ℤ) : Type 0 where
  pub two_state : length state ≢ entries → L.state_code state number left right text levels out ≡ 2
  pub same : length state ≡ entries → L.state_code state number left right text levels out ≡ L.step_code (stream_in state) number left right text levels out
  pub same_stream : length state ≡ entries → stream_in (L.state_after state number left right text levels out) ≡ (step_levels (stream_in state) number left right text levels out).stream
  pub same_out : length state ≡ entries → L.state_out state number left right text levels out ≡ L.step_out (stream_in state) number left right text levels out
  pub four_negative : length state ≡ entries → at state 0 <ℤ pos 0 → L.state_code state number left right text levels out ≡ 4
  pub seven_negative : length state ≡ entries → Tabled (stream_in state).n → SoundTail (stream_in state) → number < 2 ^ 32 → at state 1 <ℤ pos 0 → L.state_code state number left right text levels out ≡ 7
  pub eight_negative : length state ≡ entries → Tabled (stream_in state).n → SoundTail (stream_in state) → number ≡ (stream_in state).expected → at state 2 <ℤ pos 0 → L.state_code state number left right text levels out ≡ 8
  pub eight_large : length state ≡ entries → Tabled (stream_in state).n → SoundTail (stream_in state) → number ≡ (stream_in state).expected → pos 1 <ℤ at state 2 → L.state_code state number left right text levels out ≡ 8
  pub long : length (L.state_after state number left right text levels out) ≡ length state
  pub kept_state : L.state_code state number left right text levels out ≢ 0 → L.state_after state number left right text levels out ≡ state
  pub kept : L.state_code state number left right text levels out ≢ 0 → L.state_out state number left right text levels out ≡ out

-- the calls for C answer as those above: their contracts are the same definitions, at a route by name and an order by its number, the told distance as `tell`, and on streams those of a state

-- a number as it is typed, of at most so many digits, that names n
pub record Whole (most : ℕ) (typed : List ℕ) (n : ℕ) : Type 0 where
  pub form : T (is_number most typed)
  pub named : value typed ≡ pos n

-- `table_report::report`, what the command step-table prints: for a length as it is typed, which is a number that names a tabled N, and the bytes of a table
pub record Typed (number : List ℕ) (N : ℕ) : Type 0 where
  pub whole : Whole digits number N
  pub length_is : Tabled N

pub record ReportAnswers (number text : List ℕ) : Type 0 where
  pub one : ((N : ℕ) → ¬ Typed number N) → report_of number text ≡ refusal 1 0
  pub table_own : (N : ℕ) → Typed number N → ¬ Ruled N text → report_of number text ≡ refusal (verdict (N / 2) text).code (verdict (N / 2) text).line
  pub taken : (N : ℕ) → Typed number N → Ruled N text → report_of number text ≡ taken_lines N text

-- ---- shares (P9): the lengths and the place that `largest_share` asks for
pub record Sized (N : ℕ) (first first' second second' : List ℤ) (place : ℕ) : Type 0 where
  pub first_is : length first ≡ N / 2
  pub first_changed_is : length first' ≡ N / 2
  pub second_is : length second ≡ N / 2
  pub second_changed_is : length second' ≡ N / 2
  pub place_is : place < N / 2

-- each coefficient of the four is in range
pub record InRanges (first first' second second' : List ℤ) : Type 0 where
  pub first_is : InRange first
  pub first_changed_is : InRange first'
  pub second_is : InRange second
  pub second_changed_is : InRange second'

-- `largest_share`: beside a refusal all else is 0
pub record ShareAnswers (N shape : ℕ) (first first' second second' : List ℤ) (place : ℕ) : Type 0 where
  pub one : ¬ Tabled N → share_answer N shape first first' second second' place ≡ refused_with 1
  pub eight : Tabled N → 1 < shape → share_answer N shape first first' second second' place ≡ refused_with 8
  pub two : Tabled N → shape ≤ 1 → ¬ Sized N first first' second second' place → share_answer N shape first first' second second' place ≡ refused_with 2
  pub three : Tabled N → shape ≤ 1 → Sized N first first' second second' place → ¬ InRanges first first' second second' → share_answer N shape first first' second second' place ≡ refused_with 3
  pub taken : Tabled N → shape ≤ 1 → Sized N first first' second second' place → InRanges first first' second second' →
      share_answer N shape first first' second second' place ≡ answered_with (largest_share N shape place first first' second second')

-- `name_share`, the same into room for three numbers, another length being 2, and the call for C
pub record NameAnswers (N shape : ℕ) (first first' second second' : List ℤ) (place : ℕ) (room : List ℕ) : Type 0 where
  pub one : ¬ Tabled N → name_code N shape first first' second second' place room ≡ 1
  pub eight : Tabled N → 1 < shape → name_code N shape first first' second second' place room ≡ 8
  pub two : Tabled N → shape ≤ 1 → ¬ Sized N first first' second second' place → name_code N shape first first' second second' place room ≡ 2
  pub two_room : Tabled N → shape ≤ 1 → Sized N first first' second second' place → length room ≢ 3 → name_code N shape first first' second second' place room ≡ 2
  pub three : Tabled N → shape ≤ 1 → Sized N first first' second second' place → length room ≡ 3 → ¬ InRanges first first' second second' → name_code N shape first first' second second' place room ≡ 3
  pub taken : Tabled N → shape ≤ 1 → Sized N first first' second second' place → length room ≡ 3 → InRanges first first' second second' → name_code N shape first first' second second' place room ≡ 0
  pub names : name_code N shape first first' second second' place room ≡ 0 →
      let a = share_answer N shape first first' second second' place in (a.code ≡ 0) × (name_out N shape first first' second second' place room ≡ cond a.any 1 0 ∷ a.block ∷ a.coefficient ∷ [])
  pub kept : name_code N shape first first' second second' place room ≢ 0 → name_out N shape first first' second second' place room ≡ room

-- `largest_share_recording` (P10): the lengths, the hop and the place in it
pub record PlacedIn (N H : ℕ) (X X' : List ℤ) (hop place : ℕ) : Type 0 where
  pub original_is : length X ≡ (H + 1) * (N / 2)
  pub changed_is : length X' ≡ (H + 1) * (N / 2)
  pub hop_is : hop < H
  pub place_is : place < N / 2

pub record RecordingShareAnswers (order : Order) (N H : ℕ) (X X' : List ℤ) (hop place : ℕ) : Type 0 where
  pub one : ¬ Tabled N → recording_share order N H X X' hop place ≡ refused_with 1
  pub two_hops : Tabled N → ¬ Counted H → recording_share order N H X X' hop place ≡ refused_with 2
  pub two : Tabled N → ¬ PlacedIn N H X X' hop place → recording_share order N H X X' hop place ≡ refused_with 2
  pub three : Tabled N → Counted H → PlacedIn N H X X' hop place → ¬ (InRange X × InRange X') → recording_share order N H X X' hop place ≡ refused_with 3
  pub taken : Tabled N → Counted H → PlacedIn N H X X' hop place → InRange X → InRange X' →
      recording_share order N H X X' hop place ≡ answered_with (numbered_from hop (share_at order N H X X' hop place))

-- `name_share_recording`, the same into room for three numbers, another length being 2, and the call for C
pub record RecordingNameAnswers (order : Order) (N H : ℕ) (X X' : List ℤ) (hop place : ℕ) (room : List ℕ) : Type 0 where
  pub one : ¬ Tabled N → recording_name_code N H X X' hop place room ≡ 1
  pub two_hops : Tabled N → ¬ Counted H → recording_name_code N H X X' hop place room ≡ 2
  pub two : Tabled N → ¬ PlacedIn N H X X' hop place → recording_name_code N H X X' hop place room ≡ 2
  pub two_room : Tabled N → Counted H → PlacedIn N H X X' hop place → length room ≢ 3 → recording_name_code N H X X' hop place room ≡ 2
  pub three : Tabled N → Counted H → PlacedIn N H X X' hop place → length room ≡ 3 → ¬ (InRange X × InRange X') → recording_name_code N H X X' hop place room ≡ 3
  pub taken : Tabled N → Counted H → PlacedIn N H X X' hop place → length room ≡ 3 → InRange X → InRange X' → recording_name_code N H X X' hop place room ≡ 0
  pub names : recording_name_code N H X X' hop place room ≡ 0 →
      let a = recording_share order N H X X' hop place in (a.code ≡ 0) × (recording_name_out order N H X X' hop place room ≡ cond a.any 1 0 ∷ a.block ∷ a.coefficient ∷ [])
  pub kept : recording_name_code N H X X' hop place room ≢ 0 → recording_name_out order N H X X' hop place room ≡ room

-- `listing::round_trip`: what it writes, for any bytes; a refusal is a line. Line 1 is a number that names a tabled N, and further lines stand behind it
pub record Begun (text : List ℕ) (N : ℕ) (hops : List (List ℕ)) : Type 0 where
  pub small : length text ≤ limit
  pub first : List ℕ
  pub are : lines text ≡ first ∷ hops
  pub number : T (is_number digits first)
  pub named : value first ≡ pos N
  pub length_is : Tabled N

-- the first H of them are hops of M samples
pub record Hops (N H : ℕ) (hops : List (List ℕ)) : Type 0 where
  pub each : (j : ℕ) → j < H → T (is_hop (N / 2) (get_or hops j []))

-- a listing that is taken, of these hops
pub record Listed (text : List ℕ) (N : ℕ) (hops : List (List ℕ)) : Type 0 where
  pub begun : Begun text N hops
  pub each : Hops N (length hops) hops
  pub ended : length (remainder text) ≡ 0

pub record ListingAnswers (text : List ℕ) : Type 0 where
  pub six : limit < length text → listing text ≡ refusal 6 0
  pub five_none : length text ≤ limit → lines text ≡ [] → listing text ≡ refusal 5 1
  pub five_first : length text ≤ limit → (first : List ℕ) (hops : List (List ℕ)) → lines text ≡ first ∷ hops → ¬ T (is_number digits first) → listing text ≡ refusal 5 1
  pub one : length text ≤ limit → (first : List ℕ) (hops : List (List ℕ)) → lines text ≡ first ∷ hops → T (is_number digits first) →
      ((N : ℕ) → value first ≡ pos N → ¬ Tabled N) → listing text ≡ refusal 1 1
  pub five : (N H : ℕ) (hops : List (List ℕ)) → Begun text N hops → Hops N H hops → H < length hops → ¬ T (is_hop (N / 2) (get_or hops H [])) → listing text ≡ refusal 5 (H + 2)
  pub five_last : (N : ℕ) (hops : List (List ℕ)) → Begun text N hops → Hops N (length hops) hops → length (remainder text) ≢ 0 → listing text ≡ refusal 5 (length hops + 2)
  pub taken : (N : ℕ) (hops : List (List ℕ)) → Listed text N hops → listing text ≡ table N (length hops) (returned_hops N text)
  pub fits : length (listing text) ≤ room

-- ---- the coarsest step (P13)
-- `coarsest_step`: beside a refusal all else is 0
pub record CoarsestAnswers (N H : ℕ) (x : List ℤ) (D budget : ℕ) : Type 0 where
  pub one : ¬ Tabled N → coarsest_answer N H x D budget ≡ Calls.refused_with 1
  pub two_hops : Tabled N → ¬ Counted H → coarsest_answer N H x D budget ≡ Calls.refused_with 2
  pub two : Tabled N → length x ≢ H * (N / 2) → coarsest_answer N H x D budget ≡ Calls.refused_with 2
  pub twelve : Tabled N → Counted H → length x ≡ H * (N / 2) → 32 < D → coarsest_answer N H x D budget ≡ Calls.refused_with 12
  pub taken : Tabled N → Counted H → length x ≡ H * (N / 2) → D ≤ 32 → coarsest_answer N H x D budget ≡ Calls.answered_with (coarsest_step N H x D budget)

-- `find_step`, the same into room for three numbers, another length being 2, before 12, and the call for C
pub record FindAnswers (N H : ℕ) (x : List ℤ) (D budget : ℕ) (room : List ℕ) : Type 0 where
  pub one : ¬ Tabled N → find_code N H x D room ≡ 1
  pub two_hops : Tabled N → ¬ Counted H → find_code N H x D room ≡ 2
  pub two : Tabled N → length x ≢ H * (N / 2) → find_code N H x D room ≡ 2
  pub two_room : Tabled N → length room ≢ 3 → find_code N H x D room ≡ 2
  pub twelve : Tabled N → Counted H → length x ≡ H * (N / 2) → length room ≡ 3 → 32 < D → find_code N H x D room ≡ 12
  pub taken : Tabled N → Counted H → length x ≡ H * (N / 2) → length room ≡ 3 → D ≤ 32 → find_code N H x D room ≡ 0
  pub found : find_code N H x D room ≡ 0 → let a = coarsest_answer N H x D budget in (a.code ≡ 0) × (find_out N H x D budget room ≡ a.step ∷ a.trials ∷ a.untried ∷ [])
  pub kept : find_code N H x D room ≢ 0 → find_out N H x D budget room ≡ room

-- `coarsest_report::report`, what the command coarsest-step prints: for a distance and a budget as they are typed, and the bytes of a listing
pub record FoundReportAnswers (distance budget text : List ℕ) : Type 0 where
  -- a listing that round-trip refuses is refused alike
  pub alike : ((N : ℕ) (hops : List (List ℕ)) → ¬ Listed text N hops) → Reports.report_of distance budget text ≡ listing text
  pub two : (N : ℕ) (hops : List (List ℕ)) → Listed text N hops → ¬ Counted (length hops) → Reports.report_of distance budget text ≡ refusal 2 0
  pub twelve : (N : ℕ) (hops : List (List ℕ)) → Listed text N hops → Counted (length hops) → ((D : ℕ) → D ≤ 32 → ¬ Whole digits distance D) → Reports.report_of distance budget text ≡ refusal 12 0
  pub taken : (N : ℕ) (hops : List (List ℕ)) → Listed text N hops → Counted (length hops) → (D : ℕ) → D ≤ 32 → Whole digits distance D → (b : ℕ) → Whole most_digits budget b →
      let r = coarsest_step N (length hops) (recording (hops_of text)) D b in Reports.report_of distance budget text ≡ Reports.found_lines r.step r.trials r.untried
  -- bytes that are no budget stand for none: the command asks `is_budget` before it prints anything
  pub no_budget : (N : ℕ) (hops : List (List ℕ)) → Listed text N hops → Counted (length hops) → (D : ℕ) → D ≤ 32 → Whole digits distance D → ((b : ℕ) → ¬ Whole most_digits budget b) →
      let r = coarsest_step N (length hops) (recording (hops_of text)) D 0 in Reports.report_of distance budget text ≡ Reports.found_lines r.step r.trials r.untried

-- ---- floats (P14)
-- `floats`
pub record FloatsAnswers (N : ℕ) (x : List ℤ) (out : List Float) : Type 0 where
  pub one : ¬ Tabled N → floats_code N x out ≡ 1
  pub two_in : Tabled N → length x ≢ N / 2 → floats_code N x out ≡ 2
  pub two_out : Tabled N → length out ≢ N / 2 → floats_code N x out ≡ 2
  pub three : Tabled N → length x ≡ N / 2 → length out ≡ N / 2 → ¬ InRange x → floats_code N x out ≡ 3
  pub taken : Tabled N → length x ≡ N / 2 → length out ≡ N / 2 → InRange x → floats_code N x out ≡ 0
  pub kept : floats_code N x out ≢ 0 → floats_out N x out ≡ out

-- `highest_lowest`: both are +0.0 beside a refusal
pub record EndsAnswers (N : ℕ) (x : List ℤ) : Type 0 where
  pub one : ¬ Tabled N → ends_of N x ≡ record { code = 1; pair = no_pair }
  pub two : Tabled N → length x ≢ N / 2 → ends_of N x ≡ record { code = 2; pair = no_pair }
  pub three : Tabled N → length x ≡ N / 2 → ¬ InRange x → ends_of N x ≡ record { code = 3; pair = no_pair }
  pub taken : Tabled N → length x ≡ N / 2 → InRange x → ends_of N x ≡ record { code = 0; pair = pair_of x }

-- `put_ends`, and the call for C: the same into room for two floats, another length of it being 2, before 3
pub record PairAnswers (N : ℕ) (x : List ℤ) (pair : List Float) : Type 0 where
  pub one : ¬ Tabled N → pair_code N x pair ≡ 1
  pub two : Tabled N → length x ≢ N / 2 → pair_code N x pair ≡ 2
  pub two_room : Tabled N → length pair ≢ 2 → pair_code N x pair ≡ 2
  pub three : Tabled N → length x ≡ N / 2 → length pair ≡ 2 → ¬ InRange x → pair_code N x pair ≡ 3
  pub taken : Tabled N → length x ≡ N / 2 → length pair ≡ 2 → InRange x → pair_code N x pair ≡ 0
  pub both : pair_code N x pair ≡ 0 → let a = ends_of N x in (a.code ≡ 0) × (pair_out N x pair ≡ a.pair.highest ∷ a.pair.lowest ∷ [])
  pub kept : pair_code N x pair ≢ 0 → pair_out N x pair ≡ pair
