-- THE THREE DEMANDS, for every signal, over the definitions that the contracts of the public calls cite (specs/ of block_calls, stream_calls,
-- recording_calls, level_calls, share_calls, coarsest_calls, float_calls, page, listing and, for an order's number, orders). Each record below is one demand or a part of it, and the contract of a function of src/lib.rt: `Demand1` of
-- `every_call_answers`, `Demand2` of `every_number_defined`, `EitherOrder` of `orders_answer_alike`, `OneQ` of `returned_by_one_bound`, `Demand3` of `sound_returned`, `LevelsKept` of `levels_kept`, `SparseKept` of `sparse_changes_kept`,
-- `CoarsestFound` of `coarsest_step_found`, `FloatsExact` of `floats_exact` and `Beyond` of `sound_returned_closer`. The laws of DemandLaws prove them.
--
-- What the contracts add: a call ends on any numbers and any buffer lengths and never overflows, and what it returns and leaves is what these
-- definitions say. A check of the public calls' crates proves that of the code.
use Rattle.std.specs.Prelude.{◌≡◌, true, false, cond, List, [], ◌∷◌, ◌++◌, ℕ, suc, ◌+◌, ◌-◌, ◌*◌, ◌/◌, ◌^◌, ◌≤◌, ◌<◌, max, T, ltb, length, take, drop, get_or, replicate, ℤ, pos, nat_abs, ◌+ℤ◌, ◌-ℤ◌, ◌*ℤ◌, Float}
use Rattle.arithmetic.specs.Rounding.{rnd, clamp, Sample}
use Rattle.arithmetic.specs.Sums.{sum}
use Rattle.arithmetic.specs.Lists.{at}
use Rattle.cosine.specs.Kernels.{W, rising, falling, K}
use Rattle.split.specs.ShortRoute.{short_x, units}
use Rattle.double_route.specs.Double as D
use Rattle.double_route.specs.Double.{double_x}
use Rattle.stream.specs.declared.Stream.{Stream}
use Rattle.analysis.specs.declared.Route.{Route}
use Rattle.analysis.specs.declared.Route.TheVariants.{Direct, Short, Double}
use Rattle.orders.specs.declared.Order.{Order}
use Rattle.orders.specs.Orders.{place, part, other}
use Rattle.recording.specs.Recordings.{block}
use Rattle.block_calls.specs.Analysis.{analyse_code, analyse_out}
use Rattle.stream_calls.specs.Streams.{step_code, step, step_out}
use Rattle.recording_calls.specs.Recordings.{recorded_code, recorded_out, played_code, played_out, reorder_code, reorder_out}
use Rattle.stream_calls.specs.States.{fresh_code, fresh_state}
use Rattle.steps.specs.Table.{row_of, step_at, Covered, coarsest}
use Rattle.levels.specs.Levels.{clipped}
use Rattle.level_calls.specs.LevelCalls as L
use Rattle.level_calls.specs.LevelCalls.{quantise_code, quantise_out, dequantise_code, dequantise_out}
use Rattle.shares.specs.Shares.{earlier, later, share_in, Before}
use Rattle.coarsest.specs.Coarsest.{stepped, passes}
use Rattle.coarsest_calls.specs.CoarsestCalls.{coarsest_answer}
use Rattle.step_search.specs.Search.{sure}
use Rattle.floats.specs.Floats.{sixty_fourth}
use Rattle.float_calls.specs.FloatCalls.{floats_code, ends_of}
use Rattle.share_calls.specs.Answers.{Share}
use Rattle.share_calls.specs.ShareCalls.{share_answer}
use Rattle.share_calls.specs.RecordingShares.{recording_share, recording_name_code, recording_name_out}
use Rattle.text.specs.Bytes.{line_feed, blank}
use Rattle.text.specs.Number.{is_number}
use Rattle.text.specs.Lines.{index_of, lines, remainder}
use Rattle.page.specs.Page.{columns, page_of, page_code, page_out, number_text, block_text, number_in, block_in}
use Rattle.demands.specs.Steps.{Offer, Turn, Entry, turns, final, Recording, Numbered, Answered, Returned, WholeReturned, ReturnedOneQ, proved_units, proved_change, Sharper}
use Rattle.demands.specs.Chains.{calls, held}
use Rattle.demands.specs.Stored.{Stored, StoredBlocks, StoredOnce, StoredReturned, StoredBack}
use Rattle.demands.specs.StoredLists.{LoadOffer, load_turns, load_final, load_calls, load_held, as_turns, StoredLoads}
use Rattle.demands.specs.Recordings.{ByOneCall, BlockByBlock, Back, BackOneQ, SharperBack, offering, outputs}
use Rattle.demands.specs.Sparse.{SparseNumbered, SparseOnce, SparseBlocks, sparse_distance, SparselyReturned, SparselyBack}
use Rattle.demands.specs.Coarse.{Keeps, Fails, FoundOn}
use Rattle.demands.specs.FloatValues.{Exactly, FloatsOn, EndsOn}
use Rattle.demands.specs.Answers.{Tabled, Counted, InRange, AnalyseAnswers, FreshAnswers, StepAnswers, StateFreshAnswers, StateStepAnswers, RecordedAnswers, PlayedAnswers, ReorderAnswers, NumberAnswers, InnerAnswers, PageAnswers, Ruled, TableAnswers, ShareAnswers, NameAnswers, RecordingShareAnswers, RecordingNameAnswers, QuantiseAnswers, DequantiseAnswers, ToldAnswers, TellAnswers, StepLevelsAnswers, StateStepLevelsAnswers, ReportAnswers, ListingAnswers, CoarsestAnswers, FindAnswers, FoundReportAnswers, FloatsAnswers, EndsAnswers, PairAnswers}

-- ================ DEMAND 1: the whole work, or the numbered refusal of document 01, for recordings, pages, numbered blocks, joints, step tables, shares, orders, the coarsest step and floats as document 02, P1, P2, P6, P7, P8, P9, P10, P13 and P14, has it, at P4's six lengths, the short route at four, the double route at two (P12), with stream and buffers as they were
-- each call's record is in Answers: its number by the causes, and what a refusal leaves
pub record Demand1 : Type 0 where
  pub analyse : (route : Route) (N left right : ℕ) (x out : List ℤ) → AnalyseAnswers route N left right x out
  pub made : (N : ℕ) → FreshAnswers N
  pub stepped : (s : Stream) (number left right : ℕ) (x out : List ℤ) → StepAnswers s number left right x out
  -- 4294967295 is the last number: once it is taken, every block is 7, and every block of levels
  pub last_number : (s : Stream) (l r : ℕ) (x out : List ℤ) → step_code s 4294967295 l r x out ≡ 0 → (number l' r' : ℕ) → number < 2 ^ 32 → (text : List ℕ) (y room : List ℤ) →
      let s' = (step s 4294967295 l r x out).stream in (step_code s' number l' r' y room ≡ 7) × (L.step_code s' number l' r' text y room ≡ 7)
  pub state_made : (N : ℕ) (state : List ℤ) → StateFreshAnswers N state
  pub state_stepped : (state : List ℤ) (number left right : ℕ) (x out : List ℤ) → StateStepAnswers state number left right x out
  pub recorded : (route : Route) (order : Order) (N H : ℕ) (x out : List ℤ) → RecordedAnswers route order N H x out
  pub played : (order : Order) (N H : ℕ) (x out : List ℤ) → PlayedAnswers order N H x out
  pub inner : (N H : ℕ) (out : List ℤ) → InnerAnswers N H out
  pub reordered : (to : Order) (N H : ℕ) (x out : List ℤ) → ReorderAnswers to N H x out
  pub numbered : (order H : ℕ) → NumberAnswers order H
  pub paged : (order : Order) (N H : ℕ) (x : List ℤ) (out : List ℕ) → PageAnswers order N H x out
  pub listed : (text : List ℕ) → ListingAnswers text
  pub ruled : (M : ℕ) (text : List ℕ) → TableAnswers M text
  pub quantised : (N : ℕ) (text : List ℕ) (x levels : List ℤ) → QuantiseAnswers N text x levels
  pub dequantised : (N : ℕ) (text : List ℕ) (levels out : List ℤ) → DequantiseAnswers N text levels out
  pub told_first : (route : Route) (N : ℕ) (text : List ℕ) → ToldAnswers route N text
  pub told_in : (number N : ℕ) (text room : List ℕ) → TellAnswers number N text room
  pub reported : (number text : List ℕ) → ReportAnswers number text
  pub shared : (N shape : ℕ) (first first' second second' : List ℤ) (place : ℕ) → ShareAnswers N shape first first' second second' place
  pub shared_in : (N shape : ℕ) (first first' second second' : List ℤ) (place : ℕ) (room : List ℕ) → NameAnswers N shape first first' second second' place room
  pub shared_recording : (order : Order) (N H : ℕ) (X X' : List ℤ) (hop place : ℕ) → RecordingShareAnswers order N H X X' hop place
  pub shared_recording_in : (order : Order) (N H : ℕ) (X X' : List ℤ) (hop place : ℕ) (room : List ℕ) → RecordingNameAnswers order N H X X' hop place room
  pub searched : (N H : ℕ) (x : List ℤ) (D budget : ℕ) → CoarsestAnswers N H x D budget
  pub searched_in : (N H : ℕ) (x : List ℤ) (D budget : ℕ) (room : List ℕ) → FindAnswers N H x D budget room
  pub searched_report : (distance budget text : List ℕ) → FoundReportAnswers distance budget text
  pub floated : (N : ℕ) (x : List ℤ) (out : List Float) → FloatsAnswers N x out
  pub paired : (N : ℕ) (x : List ℤ) → EndsAnswers N x
  pub paired_in : (N : ℕ) (x : List ℤ) (pair : List Float) → PairAnswers N x pair
  pub stepped_levels : (s : Stream) (number left right : ℕ) (text : List ℕ) (levels out : List ℤ) → StepLevelsAnswers s number left right text levels out
  pub state_stepped_levels : (state : List ℤ) (number left right : ℕ) (text : List ℕ) (levels out : List ℤ) → StateStepLevelsAnswers state number left right text levels out

-- ================ DEMAND 2: every coefficient and every sample is document 01's with a turn of 864 parts (P4), halves going away from zero (P5; its sign rule is in Turned), with joints of two shapes (P7), of a recording between the two hops of zeros of document 02, P1, every byte of a page is P2's, levels and what comes back from them are P8's, the largest share is P9's, and the third route is P12's
-- the window of a block with joints of the shapes left and right (P7): W(n) where both are long
abbrev pub window : (N left right : ℕ) → ℕ → ℤ
window N left right n = cond (ltb n (N / 2)) (rising left N n) (falling right N (n - N / 2))

-- y(n) = rnd(W(n) × x(n) / 2^18), with that window for W
abbrev pub y : (N left right : ℕ) → List ℤ → ℕ → ℤ
y N left right x n = rnd (window N left right n *ℤ at x n) (2 ^ 18)

-- X(k) = rnd(S(k) / 2^28), S(k) the sum over n of y(n) × K(n,k)
abbrev pub X : (N left right : ℕ) → List ℤ → ℕ → ℤ
X N left right x k = rnd (sum N (λ n. y N left right x n *ℤ K N n k)) (2 ^ 28)

-- V(n) = W(n) × U(n), U(n) = rnd((sum over k of X(k) × K(n,k)) / 2^26), with the block's window for W
abbrev pub V' : (N left right : ℕ) → List ℤ → ℕ → ℤ
V' N left right c n = window N left right n *ℤ rnd (sum (N / 2) (λ k. at c k *ℤ K N n k)) (2 ^ 26)

-- a block that `analyse` took
pub record Analysed (N left right : ℕ) (x out : List ℤ) (k : ℕ) : Type 0 where
  pub direct : analyse_code Direct N left right x out ≡ 0 → at (analyse_out Direct N left right x out) k ≡ X N left right x k
  pub short : analyse_code Short N left right x out ≡ 0 → at (analyse_out Short N left right x out) k ≡ short_x N (y N left right x) k
  -- the short route lies within 16 units of the definition ..
  pub near : analyse_code Short N left right x out ≡ 0 → ((n : ℕ) → n < N → Sample (at x n)) → nat_abs (at (analyse_out Short N left right x out) k -ℤ X N left right x k) ≤ units
  -- .. and the coefficients 3i + 1 are the definition's
  pub exact : analyse_code Short N left right x out ≡ 0 → (i : ℕ) → k ≡ 3 * i + 1 → at (analyse_out Short N left right x out) k ≡ X N left right x k
  -- the double route (P12) equals its own steps, and lies within 32 units of the definition
  pub double : analyse_code Double N left right x out ≡ 0 → at (analyse_out Double N left right x out) k ≡ double_x N (y N left right x) k
  pub double_near : analyse_code Double N left right x out ≡ 0 → ((n : ℕ) → n < N → Sample (at x n)) → nat_abs (at (analyse_out Double N left right x out) k -ℤ X N left right x k) ≤ D.units

-- a step that was taken: the hop, one more expected, the right shape remembered, the new tail, and storage beyond M as it was
pub record SteppedOn (s : Stream) (number left right : ℕ) (x out : List ℤ) : Type 0 where
  pub long : length (step_out s number left right x out) ≡ s.n / 2
  pub hop : (n : ℕ) → n < s.n / 2 → at (step_out s number left right x out) n ≡ clamp (rnd (at s.tail n +ℤ V' s.n left right x n) (s.n * 2 ^ 30))
  pub n_kept : (step s number left right x out).stream.n ≡ s.n
  pub counted : (step s number left right x out).stream.expected ≡ s.expected + 1
  pub remembered : (step s number left right x out).stream.shape ≡ right
  pub tail : (n : ℕ) → n < s.n / 2 → at (step s number left right x out).stream.tail n ≡ V' s.n left right x (s.n / 2 + n)
  pub storage : drop (s.n / 2) (step s number left right x out).stream.tail ≡ drop (s.n / 2) s.tail

-- the calls over recordings are the single-block calls and the stream, block by block, with long joints
pub record RecordedOn (route : Route) (order : Order) (N H : ℕ) (x out : List ℤ) : Type 0 where
  pub long : length (recorded_out route order N H x out) ≡ (H + 1) * (N / 2)
  pub each : (b : ℕ) → b ≤ H → (room : List ℤ) → length room ≡ N / 2 →
      (analyse_code route N 0 0 (block N x b) room ≡ 0) × (part order (N / 2) (H + 1) (recorded_out route order N H x out) b ≡ analyse_out route N 0 0 (block N x b) room)

-- every block is taken, under its number; what comes back is what the steps return, without the run-in
pub record PlayedOn (order : Order) (N H : ℕ) (x out : List ℤ) (rooms : ℕ → List ℤ) : Type 0 where
  pub taken : (i : ℕ) (t : Turn) → Entry (turns N (offering order N H x rooms 0 (H + 1))) i t → t.answer.code ≡ 0
  pub hops : played_out order N H x out ≡ drop (N / 2) (outputs (turns N (offering order N H x rooms 0 (H + 1))))

-- two lists of a recording's coefficients, each in its order, in which coefficient k of block b is the same number, for every k and b
pub record Alike (N H : ℕ) (order order' : Order) (X Y : List ℤ) : Type 0 where
  pub long : length X ≡ (H + 1) * (N / 2)
  pub long' : length Y ≡ (H + 1) * (N / 2)
  pub each : (b k : ℕ) → b ≤ H → k < N / 2 → at X (place order (N / 2) (H + 1) b k) ≡ at Y (place order' (N / 2) (H + 1) b k)

-- a page that was printed, of coefficients x: it is the page of document 02, P2, whatever the buffer held, with 81 bytes for each line. It has M / 6 lines for each
-- block, each of 80 columns, none of them a line feed, and a line feed behind. Number i of line j of block b is a well-formed number of at most nine digits, and is
-- X(6j + i); two blanks stand in front of it. Columns 1 to 8 of a block's first line are its number, those of its other lines are blanks
pub record PagedOn (order : Order) (N H : ℕ) (x : List ℤ) (page : List ℕ) : Type 0 where
  pub is : page ≡ page_of order N H x
  pub long : length page ≡ (H + 1) * (N / 2 / 6) * 81
  pub byte : (b j i : ℕ) → b ≤ H → j < N / 2 / 6 → i < 81 → get_or page ((b * (N / 2 / 6) + j) * 81 + i) 0 ≡ get_or (columns b (part order (N / 2) (H + 1) x b) j ++ (line_feed ∷ [])) i 0
  pub count : length (lines page) ≡ (H + 1) * (N / 2 / 6)
  pub ended : remainder page ≡ []
  pub columns_long : (b j : ℕ) → b ≤ H → j < N / 2 / 6 → length (get_or (lines page) (b * (N / 2 / 6) + j) []) ≡ 80
  pub no_feed : (b j : ℕ) → b ≤ H → j < N / 2 / 6 → index_of line_feed (get_or (lines page) (b * (N / 2 / 6) + j) []) ≡ 80
  pub number : (b j i : ℕ) → b ≤ H → j < N / 2 / 6 → i < 6 →
      T (is_number 9 (number_text (get_or (lines page) (b * (N / 2 / 6) + j) []) i)) × (number_in (get_or (lines page) (b * (N / 2 / 6) + j) []) i ≡ at x (place order (N / 2) (H + 1) b (6 * j + i)))
  pub apart : (b j i : ℕ) → b ≤ H → j < N / 2 / 6 → i < 6 → take 2 (drop (8 + 12 * i) (get_or (lines page) (b * (N / 2 / 6) + j) [])) ≡ replicate 2 blank
  pub block : (b : ℕ) → b ≤ H → T (is_number 4 (block_text (get_or (lines page) (b * (N / 2 / 6)) []))) × (block_in (get_or (lines page) (b * (N / 2 / 6)) []) ≡ pos b)
  pub blanks : (b j : ℕ) → b ≤ H → suc j < N / 2 / 6 → take 8 (get_or (lines page) (b * (N / 2 / 6) + suc j) []) ≡ replicate 8 blank

-- a table that is taken: exactly one of its lines covers place k, whose step is that of the place, 1 to 65,536 and at most the coarsest
pub record RuledOn (M : ℕ) (text : List ℕ) (k : ℕ) : Type 0 where
  pub covered : Covered M k (lines text)
  pub step_is : step_at M text k ≡ (row_of M (get_or (lines text) covered.line [])).step
  pub least : 1 ≤ step_at M text k
  pub most : step_at M text k ≤ 65536
  pub coarse : step_at M text k ≤ coarsest M text

-- a level is rnd(X / step), and comes back as level × step, clipped to plus or minus 536,870,912
pub record LevelledOn (N : ℕ) (text : List ℕ) (x levels : List ℤ) : Type 0 where
  pub long : length (quantise_out N text x levels) ≡ N / 2
  pub level : (k : ℕ) → k < N / 2 → at (quantise_out N text x levels) k ≡ rnd (at x k) (step_at (N / 2) text k)

pub record RestoredOn (N : ℕ) (text : List ℕ) (levels out : List ℤ) : Type 0 where
  pub long : length (dequantise_out N text levels out) ≡ N / 2
  pub back : (k : ℕ) → k < N / 2 → at (dequantise_out N text levels out) k ≡ clipped (at levels k *ℤ pos (step_at (N / 2) text k))

-- which coefficient moved a sample (P9): a is what `largest_share` answered, returning 0. The share of coefficient k of block j, 0 the earlier and 1 the later one, is the change times K times W at the
-- sample, without its sign
abbrev pub share_on : (N shape : ℕ) → (first first' second second' : List ℤ) → ℕ → ℕ → ℕ → ℕ
share_on N shape first first' second second' place = share_in (earlier N shape place first first') (later N shape place second second')

-- a hop that two blocks cover, with a joint of this shape between them: what a stream returns that takes one and then the other, whatever it took before, under whatever numbers
pub record Covering (N shape : ℕ) (first second hop : List ℤ) : Type 0 where
  pub stream : Stream
  pub n_is : stream.n ≡ N
  pub number : ℕ
  pub next : ℕ
  pub left : ℕ
  pub right : ℕ
  pub room : List ℤ
  pub next_room : List ℤ
  pub taken : step_code stream number left shape first room ≡ 0
  pub next_taken : step_code (step stream number left shape first room).stream next shape right second next_room ≡ 0
  pub is : hop ≡ step_out (step stream number left shape first room).stream next shape right second next_room

pub record ExplainedOn (N shape : ℕ) (first first' second second' : List ℤ) (place : ℕ) (a : Share) : Type 0 where
  pub inside : (a.block < 2) × (a.coefficient < N / 2)
  -- a share is named: it is not zero, no other share is larger, and every share before it in order is smaller
  pub some : a.any ≡ true → 0 < share_on N shape first first' second second' place a.block a.coefficient
  pub most : a.any ≡ true → (j k : ℕ) → j < 2 → k < N / 2 → share_on N shape first first' second second' place j k ≤ share_on N shape first first' second second' place a.block a.coefficient
  pub before : a.any ≡ true → (j k : ℕ) → k < N / 2 → Before j k a.block a.coefficient →
      share_on N shape first first' second second' place j k < share_on N shape first first' second second' place a.block a.coefficient
  -- none is: all shares are zero, and the sample is the same from the original and from the changed coefficients, in two streams that may have nothing else in common
  pub zero_all : a.any ≡ false → (j k : ℕ) → j < 2 → k < N / 2 → share_on N shape first first' second second' place j k ≡ 0
  pub same : a.any ≡ false → (hop hop' : List ℤ) → Covering N shape first second hop → Covering N shape first' second' hop' → at hop place ≡ at hop' place

-- which coefficient moved a sample of a recording (P10): what is said of the two blocks that cover hop h, h and h + 1, with a long joint between them; the block by its number in the recording. Where
-- none is named, the synthesis of the changed coefficients has the same sample there as that of the original ones
pub record ExplainedIn (order : Order) (N H : ℕ) (X X' : List ℤ) (hop place : ℕ) (a : Share) : Type 0 where
  pub between : Share
  pub between_taken : between.code ≡ 0
  pub between_is : between ≡
      share_answer N 0 (part order (N / 2) (H + 1) X hop) (part order (N / 2) (H + 1) X' hop) (part order (N / 2) (H + 1) X (suc hop)) (part order (N / 2) (H + 1) X' (suc hop)) place
  pub explained :
      ExplainedOn N 0 (part order (N / 2) (H + 1) X hop) (part order (N / 2) (H + 1) X' hop) (part order (N / 2) (H + 1) X (suc hop)) (part order (N / 2) (H + 1) X' (suc hop)) place between
  pub any_is : a.any ≡ between.any
  pub block_is : a.any ≡ true → a.block ≡ hop + between.block
  pub coefficient_is : a.coefficient ≡ between.coefficient
  pub same : a.any ≡ false → (out out' : List ℤ) → played_code N H X out ≡ 0 → played_code N H X' out' ≡ 0 →
      at (played_out order N H X out) (hop * (N / 2) + place) ≡ at (played_out order N H X' out') (hop * (N / 2) + place)

pub record Demand2 : Type 0 where
  -- a window of long joints is document 01's W
  pub long_window : (N n : ℕ) → n < N → window N 0 0 n ≡ W N n
  pub analysed : (route : Route) (N left right : ℕ) (x out : List ℤ) → analyse_code route N left right x out ≡ 0 → length (analyse_out route N left right x out) ≡ N / 2
  pub coefficient : (N left right : ℕ) (x out : List ℤ) (k : ℕ) → k < N / 2 → Analysed N left right x out k
  pub stepped : (s : Stream) (number left right : ℕ) (x out : List ℤ) → step_code s number left right x out ≡ 0 → SteppedOn s number left right x out
  pub recorded : (route : Route) (order : Order) (N H : ℕ) (x out : List ℤ) → recorded_code route N H x out ≡ 0 → RecordedOn route order N H x out
  pub played : (order : Order) (N H : ℕ) (x out : List ℤ) → played_code N H x out ≡ 0 → (rooms : ℕ → List ℤ) → ((b : ℕ) → b ≤ H → length (rooms b) ≡ N / 2) → PlayedOn order N H x out rooms
  pub paged : (order : Order) (N H : ℕ) (x : List ℤ) (out : List ℕ) → page_code N H x out ≡ 0 → PagedOn order N H x (page_out order N H x out)
  pub ruled : (N : ℕ) (text : List ℕ) → Tabled N → Ruled N text → (k : ℕ) → k < N / 2 → RuledOn (N / 2) text k
  pub quantised : (N : ℕ) (text : List ℕ) (x levels : List ℤ) → quantise_code N text x levels ≡ 0 → LevelledOn N text x levels
  pub dequantised : (N : ℕ) (text : List ℕ) (levels out : List ℤ) → dequantise_code N text levels out ≡ 0 → RestoredOn N text levels out
  pub explained : (N shape : ℕ) (first first' second second' : List ℤ) (place : ℕ) → (share_answer N shape first first' second second' place).code ≡ 0 →
      ExplainedOn N shape first first' second second' place (share_answer N shape first first' second second' place)
  pub explained_in : (order : Order) (N H : ℕ) (X X' : List ℤ) (hop place : ℕ) → (recording_share order N H X X' hop place).code ≡ 0 → ExplainedIn order N H X X' hop place (recording_share order N H X X' hop place)
  -- two different sets of coefficients give two different pages, in whatever orders they lie
  pub pages : (order order' : Order) (N H : ℕ) (x y : List ℤ) (out out' : List ℕ) → page_code N H x out ≡ 0 → page_code N H y out' ≡ 0 → page_out order N H x out ≡ page_out order' N H y out' →
      Alike N H order order' x y

-- ================ ORDERS (P10): 'every call over recordings gives the same samples, pages and explanations from either order in memory, and each order is obtained from the other without loss'
pub record EitherOrder : Type 0 where
  -- what a call gives depends on coefficient k of block b, for each of them, and not on where it lies: its number, and what it leaves
  pub samples : {N H : ℕ} {order order' : Order} {X Y : List ℤ} → Alike N H order order' X Y → (out : List ℤ) →
      (played_code N H X out ≡ played_code N H Y out) × (played_out order N H X out ≡ played_out order' N H Y out)
  pub pages : {N H : ℕ} {order order' : Order} {X Y : List ℤ} → Alike N H order order' X Y → (out : List ℕ) →
      (page_code N H X out ≡ page_code N H Y out) × (page_out order N H X out ≡ page_out order' N H Y out)
  pub explanations : {N H : ℕ} {order order' : Order} {X X' Y Y' : List ℤ} → Alike N H order order' X Y → Alike N H order order' X' Y' → (hop place : ℕ) →
      recording_share order N H X X' hop place ≡ recording_share order' N H Y Y' hop place
  pub names : {N H : ℕ} {order order' : Order} {X X' Y Y' : List ℤ} → Alike N H order order' X Y → Alike N H order order' X' Y' → (hop place : ℕ) (room : List ℕ) →
      (recording_name_code N H X X' hop place room ≡ recording_name_code N H Y Y' hop place room) × (recording_name_out order N H X X' hop place room ≡ recording_name_out order' N H Y Y' hop place room)
  -- in one order they are one list
  pub alone : {N H : ℕ} {order : Order} {X Y : List ℤ} → Alike N H order order X Y → X ≡ Y
  -- an analysis fills either order with the same coefficients
  pub analyses : (route : Route) (order order' : Order) (N H : ℕ) (x out out' : List ℤ) → recorded_code route N H x out ≡ 0 → recorded_code route N H x out' ≡ 0 →
      Alike N H order order' (recorded_out route order N H x out) (recorded_out route order' N H x out')
  -- so does `reorder`, which takes what it gave, and gives back what it took: both ways, as `to` is either
  pub reordered : (to : Order) (N H : ℕ) (X out : List ℤ) → reorder_code N H X out ≡ 0 → Alike N H to (other to) (reorder_out to N H X out) X
  pub taken_back : (to : Order) (N H : ℕ) (X out back : List ℤ) → reorder_code N H X out ≡ 0 → length back ≡ (H + 1) * (N / 2) → reorder_code N H (reorder_out to N H X out) back ≡ 0
  pub there_and_back : (to : Order) (N H : ℕ) (X out back : List ℤ) → reorder_code N H X out ≡ 0 → reorder_code N H (reorder_out to N H X out) back ≡ 0 →
      reorder_out (other to) N H (reorder_out to N H X out) back ≡ X

-- ================ DEMAND 3: sound there and back, of a recording as P1 has it, its blocks offered in any order and each known by its number (P6), in any mixture of shapes (P7)
-- in document 01's words, with one Q for all blocks: of a list of steps, by value and on one state, and of the calls over whole recordings
pub record OneQ : Type 0 where
  pub list : (N : ℕ) → Tabled N → (H Q : ℕ) (routes : ℕ → Route) (x : List ℤ) → Recording N H x → (offers : List Offer) → Numbered N H (λ b. Q) routes x (turns N offers) →
      ReturnedOneQ N H Q routes x (turns N offers) (final N offers)
  pub calls : (N : ℕ) (state : List ℤ) → fresh_code N state ≡ 0 → (H Q : ℕ) (routes : ℕ → Route) (x : List ℤ) → Recording N H x → (offers : List Offer) →
      Numbered N H (λ b. Q) routes x (calls (fresh_state N state) offers) → ReturnedOneQ N H Q routes x (calls (fresh_state N state) offers) (held (fresh_state N state) offers)
  pub once : (N H Q : ℕ) (route : Route) (order : Order) (x c out : List ℤ) → ((i : ℕ) → i < length x → Sample (at x i)) → ByOneCall N H (λ b. Q) route order x c → played_code N H c out ≡ 0 →
      BackOneQ N H Q (λ b. route) x (played_out order N H c out)
  pub blocks : (N H Q : ℕ) (routes : ℕ → Route) (order : Order) (x c out : List ℤ) → Recording N H x → BlockByBlock N H (λ b. Q) routes order x c → played_code N H c out ≡ 0 →
      BackOneQ N H Q routes x (played_out order N H c out)

pub record Demand3 : Type 0 where
  -- every list of steps, whatever they bring, by value and on one state
  pub answered : (N : ℕ) → Tabled N → (offers : List Offer) → Answered N (turns N offers) (final N offers)
  pub calls_answered : (N : ℕ) (state : List ℤ) → fresh_code N state ≡ 0 → (offers : List Offer) → Answered N (calls (fresh_state N state) offers) (held (fresh_state N state) offers)
  -- the list of steps: any recording of a hop or more, any offers in any order, refused ones anywhere, a route and any Q for each block
  pub list : (N : ℕ) → Tabled N → (H : ℕ) (Q : ℕ → ℕ) (routes : ℕ → Route) (x : List ℤ) → Recording N H x → (offers : List Offer) → Numbered N H Q routes x (turns N offers) →
      Returned N Q routes x (turns N offers) (final N offers)
  -- and once all H + 1 blocks are taken, every sample of the recording
  pub whole : (N : ℕ) → Tabled N → (H : ℕ) (Q : ℕ → ℕ) (routes : ℕ → Route) (x : List ℤ) → Recording N H x → (offers : List Offer) → Numbered N H Q routes x (turns N offers) →
      WholeReturned N H Q routes x (turns N offers)
  -- the same for steps in place, and so for the calls for C, on one state
  pub calls : (N : ℕ) (state : List ℤ) → fresh_code N state ≡ 0 → (H : ℕ) (Q : ℕ → ℕ) (routes : ℕ → Route) (x : List ℤ) → Recording N H x → (offers : List Offer) →
      Numbered N H Q routes x (calls (fresh_state N state) offers) →
      Returned N Q routes x (calls (fresh_state N state) offers) (held (fresh_state N state) offers) × WholeReturned N H Q routes x (calls (fresh_state N state) offers)
  -- the calls over whole recordings: analysed by one call, and block by block
  pub once : (N H : ℕ) (Q : ℕ → ℕ) (route : Route) (order : Order) (x c out : List ℤ) → ((i : ℕ) → i < length x → Sample (at x i)) → ByOneCall N H Q route order x c → played_code N H c out ≡ 0 →
      Back N H Q (λ b. route) x (played_out order N H c out)
  pub blocks : (N H : ℕ) (Q : ℕ → ℕ) (routes : ℕ → Route) (order : Order) (x c out : List ℤ) → Recording N H x → BlockByBlock N H Q routes order x c → played_code N H c out ≡ 0 →
      Back N H Q routes x (played_out order N H c out)
  -- and all of it in document 01's words, with one Q for all blocks
  pub one_Q : OneQ

-- ================ LEVELS (P8): no coefficient moves by more than half its step, what comes back is always one that synthesis takes, and the told distance is kept
pub record LevelsKept : Type 0 where
  pub moved : (N : ℕ) (text : List ℕ) (x levels out : List ℤ) → quantise_code N text x levels ≡ 0 → dequantise_code N text (quantise_out N text x levels) out ≡ 0 → (k : ℕ) → k < N / 2 →
      nat_abs (at (dequantise_out N text (quantise_out N text x levels) out) k -ℤ at x k) ≤ step_at (N / 2) text k / 2
  -- what `quantise` gave, `dequantise` takes
  pub goes_back : (N : ℕ) (text : List ℕ) (x levels out : List ℤ) → quantise_code N text x levels ≡ 0 → length out ≡ N / 2 → dequantise_code N text (quantise_out N text x levels) out ≡ 0
  pub always_taken : (N : ℕ) (text : List ℕ) (levels out : List ℤ) → dequantise_code N text levels out ≡ 0 → InRange (dequantise_out N text levels out)
  -- 'the told distance is kept': a recording whose blocks are brought through `quantise` and `dequantise`, each with its own table, routes, shapes and refusals as in demand 3
  pub list : (N : ℕ) → Tabled N → (H : ℕ) (tables : ℕ → List ℕ) (routes : ℕ → Route) (x : List ℤ) → Recording N H x → (offers : List Offer) → Stored N H tables routes x (turns N offers) →
      StoredReturned N H tables routes x (turns N offers) (final N offers)
  -- on one state
  pub calls : (N : ℕ) (state : List ℤ) → fresh_code N state ≡ 0 → (H : ℕ) (tables : ℕ → List ℕ) (routes : ℕ → Route) (x : List ℤ) → Recording N H x → (offers : List Offer) →
      Stored N H tables routes x (calls (fresh_state N state) offers) → StoredReturned N H tables routes x (calls (fresh_state N state) offers) (held (fresh_state N state) offers)
  -- the same where each step brings coefficients, to `step`, or levels and their table, to `step_levels`, by value and on one state: every such list answers as one of steps, and keeps what was told
  pub answered : (N : ℕ) → Tabled N → (offers : List LoadOffer) → Answered N (as_turns (load_turns N offers)) (load_final N offers)
  pub calls_answered : (N : ℕ) (state : List ℤ) → fresh_code N state ≡ 0 → (offers : List LoadOffer) → Answered N (as_turns (load_calls (fresh_state N state) offers)) (load_held (fresh_state N state) offers)
  pub levels : (N : ℕ) → Tabled N → (H : ℕ) (tables : ℕ → List ℕ) (routes : ℕ → Route) (x : List ℤ) → Recording N H x → (offers : List LoadOffer) →
      StoredLoads N H tables routes x (load_turns N offers) → StoredReturned N H tables routes x (as_turns (load_turns N offers)) (load_final N offers)
  pub level_calls : (N : ℕ) (state : List ℤ) → fresh_code N state ≡ 0 → (H : ℕ) (tables : ℕ → List ℕ) (routes : ℕ → Route) (x : List ℤ) → Recording N H x → (offers : List LoadOffer) →
      StoredLoads N H tables routes x (load_calls (fresh_state N state) offers) → StoredReturned N H tables routes x (as_turns (load_calls (fresh_state N state) offers)) (load_held (fresh_state N state) offers)
  -- and of the calls over whole recordings
  pub once : (N H : ℕ) (tables : ℕ → List ℕ) (route : Route) (order : Order) (x c out : List ℤ) → played_code N H c out ≡ 0 → ((i : ℕ) → i < length x → Sample (at x i)) → StoredOnce N H tables route order x c →
      StoredBack N H tables (λ b. route) x (played_out order N H c out)
  pub blocks : (N H : ℕ) (tables : ℕ → List ℕ) (routes : ℕ → Route) (order : Order) (x c out : List ℤ) → played_code N H c out ≡ 0 → Recording N H x → StoredBlocks N H tables routes order x c →
      StoredBack N H tables routes x (played_out order N H c out)

-- ================ SPARSE CHANGES (P11): where the changes of a block are at most T in all, each sample whose two blocks were analysed directly returns within (T + 4N) / 8N, the larger T of the two; the distance for Q holds beside it
pub record SparseKept : Type 0 where
  -- demand 3's conditions, with T for Q: of a list of steps, by value and on one state
  pub list : (N : ℕ) → Tabled N → (H : ℕ) (T : ℕ → ℕ) (routes : ℕ → Route) (x : List ℤ) → Recording N H x → (offers : List Offer) → SparseNumbered N H T routes x (turns N offers) →
      SparselyReturned N H T routes x (turns N offers) (final N offers)
  pub calls : (N : ℕ) (state : List ℤ) → fresh_code N state ≡ 0 → (H : ℕ) (T : ℕ → ℕ) (routes : ℕ → Route) (x : List ℤ) → Recording N H x → (offers : List Offer) →
      SparseNumbered N H T routes x (calls (fresh_state N state) offers) → SparselyReturned N H T routes x (calls (fresh_state N state) offers) (held (fresh_state N state) offers)
  -- of the calls over whole recordings, analysed by one call and block by block
  pub once : (N H : ℕ) (T : ℕ → ℕ) (order : Order) (x c out : List ℤ) → ((i : ℕ) → i < length x → Sample (at x i)) → SparseOnce N H T order x c → played_code N H c out ≡ 0 →
      SparselyBack N H T (λ b. Direct) x (played_out order N H c out) × ((Q : ℕ → ℕ) → ByOneCall N H Q Direct order x c → Back N H Q (λ b. Direct) x (played_out order N H c out))
  pub blocks : (N H : ℕ) (T : ℕ → ℕ) (routes : ℕ → Route) (order : Order) (x c out : List ℤ) → Recording N H x → SparseBlocks N H T routes order x c → played_code N H c out ≡ 0 →
      SparselyBack N H T routes x (played_out order N H c out) × ((Q : ℕ → ℕ) → BlockByBlock N H Q routes order x c → Back N H Q routes x (played_out order N H c out))
  -- with one T for all blocks T stands there
  pub one : (N T : ℕ) → sparse_distance N T T ≡ (T + 4 * N) / (8 * N)

-- ================ THE COARSEST STEP (P13): the sure step passes by the told distance, every step tried and failed has a sample beyond D, with none untried the step returned is the largest that passes, and the numbers add up
pub record CoarsestFound : Type 0 where
  -- what `coarsest_step` answers of a recording, returning 0
  pub found : (N H : ℕ) (x : List ℤ) (D budget : ℕ) → ((i : ℕ) → i < length x → Sample (at x i)) → (coarsest_answer N H x D budget).code ≡ 0 → FoundOn N H x D budget (coarsest_answer N H x D budget)
  -- the sure step passes whatever the recording holds, by the told distance; so does every smaller one
  pub sure_keeps : (N H : ℕ) (x : List ℤ) (D : ℕ) → ((i : ℕ) → i < length x → Sample (at x i)) → Tabled N → Counted H → length x ≡ H * (N / 2) → Keeps N H x D (sure D)
  pub told : (N H : ℕ) (x : List ℤ) (D step : ℕ) → ((i : ℕ) → i < length x → Sample (at x i)) → Tabled N → Counted H → length x ≡ H * (N / 2) → 1 ≤ step → step ≤ 32 * D + 15 → Keeps N H x D step
  -- by the sharper distance of what is beyond demand 3, 32 × D + 16 passes too: so no search ends because all steps above the sure one have failed
  pub next : (N H : ℕ) (x : List ℤ) (D : ℕ) → ((i : ℕ) → i < length x → Sample (at x i)) → Tabled N → Counted H → length x ≡ H * (N / 2) → Keeps N H x D (32 * D + 16)
  -- a trial is what it says: a step that passes keeps every sample within D, and one that does not has a sample beyond it
  pub trial : (N H : ℕ) (x : List ℤ) (D step : ℕ) → ((i : ℕ) → i < length x → Sample (at x i)) → passes N H x D step ≡ true → Keeps N H x D step
  pub trial_fails : (N H : ℕ) (x : List ℤ) (D step : ℕ) → ((i : ℕ) → i < length x → Sample (at x i)) → passes N H x D step ≡ false → Fails N H x D step
  -- 'every coefficient so stepped': what the synthesis is handed was brought block by block through `quantise` and `dequantise`, with a table that gives every coefficient this step
  pub stored : (N H : ℕ) (x : List ℤ) → ((i : ℕ) → i < length x → Sample (at x i)) → (room : List ℤ) → recorded_code Direct N H x room ≡ 0 → (order : Order) (text : List ℕ) → Ruled N text → (step : ℕ) →
      ((k : ℕ) → k < N / 2 → step_at (N / 2) text k ≡ step) → StoredOnce N H (λ b. text) Direct order x (stepped step (recorded_out Direct order N H x room))
  -- and `told_distance` tells D of a table whose largest step is the sure one
  pub told_is : (N : ℕ) (text : List ℕ) (D : ℕ) → Tabled N → Ruled N text → coarsest (N / 2) text ≡ sure D → D ≤ 32 → L.told Direct N text ≡ record { code = 0; distance = D }
  -- with D = 32 the sure step is 1,024, so that no trial is made; and what a budget of 0 gives for 31 and for 0
  pub at_32 : (N H : ℕ) (x : List ℤ) (budget : ℕ) → (coarsest_answer N H x 32 budget).code ≡ 0 → coarsest_answer N H x 32 budget ≡ record { code = 0; step = 1024; trials = 0; untried = 0 }
  pub at_31 : (N H : ℕ) (x : List ℤ) → (coarsest_answer N H x 31 0).code ≡ 0 → coarsest_answer N H x 31 0 ≡ record { code = 0; step = 1007; trials = 0; untried = 17 }
  pub at_0 : (N H : ℕ) (x : List ℤ) → (coarsest_answer N H x 0 0).code ≡ 0 → coarsest_answer N H x 0 0 ≡ record { code = 0; step = 15; trials = 0; untried = 1009 }

-- ================ FLOATS (P14): each is X/64 exactly; the highest and the lowest value occur in the block, and no coefficient lies outside them
pub record FloatsExact : Type 0 where
  -- for whatever 32 bits hold
  pub exactly : (X : ℤ) → nat_abs X ≤ 2 ^ 31 → Exactly (sixty_fourth X) X
  -- what `floats` left, returning 0
  pub floats : (N : ℕ) (x : List ℤ) (out : List Float) → floats_code N x out ≡ 0 → FloatsOn N x out
  -- and what `highest_lowest` answered
  pub ends : (N : ℕ) (x : List ℤ) → (ends_of N x).code ≡ 0 → EndsOn N x (ends_of N x)

-- ================ BEYOND DEMAND 3: each sample within (3 Q + 36) / 64, equal where both its blocks have a Q up to 9, with Q + 7 for Q after the short route and Q + 14 after the double one
pub record Beyond : Type 0 where
  pub list : (N : ℕ) → Tabled N → (H : ℕ) (Q : ℕ → ℕ) (routes : ℕ → Route) (x : List ℤ) → Recording N H x → (offers : List Offer) → Numbered N H Q routes x (turns N offers) →
      Sharper N Q routes x (turns N offers)
  pub calls : (N : ℕ) (state : List ℤ) → fresh_code N state ≡ 0 → (H : ℕ) (Q : ℕ → ℕ) (routes : ℕ → Route) (x : List ℤ) → Recording N H x → (offers : List Offer) →
      Numbered N H Q routes x (calls (fresh_state N state) offers) → Sharper N Q routes x (calls (fresh_state N state) offers)
  pub once : (N H : ℕ) (Q : ℕ → ℕ) (route : Route) (order : Order) (x c out : List ℤ) → ((i : ℕ) → i < length x → Sample (at x i)) → ByOneCall N H Q route order x c → played_code N H c out ≡ 0 →
      SharperBack N H Q (λ b. route) x (played_out order N H c out)
  pub blocks : (N H : ℕ) (Q : ℕ → ℕ) (routes : ℕ → Route) (order : Order) (x c out : List ℤ) → Recording N H x → BlockByBlock N H Q routes order x c → played_code N H c out ≡ 0 →
      SharperBack N H Q routes x (played_out order N H c out)
  -- with one Q for all blocks: Q stands there, and Q + 7 where one of the two took the short route, Q + 14 where one took the double one
  pub one : (Q : ℕ) (r r' : Route) → proved_change Q Q r r' ≡ Q + max (proved_units r) (proved_units r')
