-- Demand 3 for a list of synthesis steps on one stream: definitions. Document 01, 'Sound there and back', and document 02, P1, P6 and P7. That they hold together are
-- `there_and_back`, `whole-returned` and, for one Q, `returned-one` of ThereAndBackLaws. `fresh`, `step`, `step_out` and `coefficients` are those that the public calls' contracts cite.
use Rattle.std.specs.Prelude.{◌≡◌, ◌≢◌, cond, List, [], ◌∷◌, ℕ, suc, ◌+◌, ◌-◌, ◌*◌, ◌/◌, ◌%◌, ◌≤◌, ◌<◌, max, T, eqb, length, take, drop, replicate, ℤ, pos, nat_abs, ◌-ℤ◌}
use Rattle.arithmetic.specs.Lists.{at}
use Rattle.arithmetic.specs.Rounding.{Sample}
use Rattle.stream.specs.Synthesis.{storage}
use Rattle.stream.specs.declared.Stream.{Stream}
use Rattle.analysis.specs.declared.Route.{Route}
use Rattle.analysis.specs.declared.Route.TheVariants.{Direct, Short, Double}
use Rattle.stream_calls.specs.Answers.{Stepped}
use Rattle.analysis.specs.Analysis.{offered, coefficients, units_of}
use Rattle.recording.specs.Recordings.{block}
use Rattle.stream_calls.specs.Streams.{fresh, step, step_out}

-- ---- the list of steps
-- what one call of `step` is handed besides the stream: a block's number (a call's has 32 bits, which nothing here needs), the shapes of its left and its right
-- joint, coefficients and a buffer, of any lengths
pub record Offer : Type 0 where
  pub number : ℕ
  pub left : ℕ
  pub right : ℕ
  pub brought : List ℤ
  pub buffer : List ℤ

-- one step of the list: the stream handed in, the offer, the answer, and what the buffer holds as the step ends
pub record Turn : Type 0 where
  pub handed : Stream
  pub offer : Offer
  pub answer : Stepped
  pub output : List ℤ

unfoldable pub answered : Stream → Offer → Turn
answered s o = record {
  handed = s;
  offer = o;
  answer = step s o.number o.left o.right o.brought o.buffer;
  output = step_out s o.number o.left o.right o.brought o.buffer;
}

-- every step is handed the stream that the step before gave back, taken or refused
unfoldable pub run : Stream → List Offer → List Turn
run s [] = []
run s (o ∷ offers) = answered s o ∷ run (answered s o).answer.stream offers

-- the stream after the list
unfoldable pub after : Stream → List Offer → Stream
after s [] = s
after s (o ∷ offers) = after (answered s o).answer.stream offers

-- a step is taken if it returns 0: the taken ones, in their order
unfoldable pub taken : List Turn → List Turn
taken [] = []
taken (t ∷ turns) = cond (eqb t.answer.code 0) (t ∷ taken turns) (taken turns)

-- what was offered at each of the steps
unfoldable pub offers_of : List Turn → List Offer
offers_of [] = []
offers_of (t ∷ turns) = t.offer ∷ offers_of turns

-- the list starts from a fresh stream
unfoldable pub turns : ℕ → List Offer → List Turn
turns N offers = run (fresh N).stream offers

unfoldable pub final : ℕ → List Offer → Stream
final N offers = after (fresh N).stream offers

-- a is entry i of a list, counted from 0
pub data Entry {A : Type 0} : List A → ℕ → A → Type 0 where
  first : {a : A} {l : List A} → Entry (a ∷ l) 0 a
  later : {a b : A} {l : List A} {i : ℕ} → Entry l i a → Entry (b ∷ l) (suc i) a

-- ---- the recording
-- x is a recording of H hops of M samples. It has H + 1 blocks, of which block b covers hops b - 1 and b, zeros where there is no such hop
pub record Recording (N H : ℕ) (x : List ℤ) : Type 0 where
  pub hops : 1 ≤ H
  pub long : length x ≡ H * (N / 2)
  pub sample : (i : ℕ) → i < length x → Sample (at x i)

-- c are the M coefficients of block b of x, analysed by its own route, which is offered at N, with joints of the shapes left and right, each changed by a whole
-- number from -Q to Q, where Q b is the block's own Q. That they are in range isn't asked: a step that takes them says so
pub record Brought (N H : ℕ) (Q : ℕ → ℕ) (routes : ℕ → Route) (x : List ℤ) (b left right : ℕ) (c : List ℤ) : Type 0 where
  pub exists : b ≤ H
  pub offers : T (offered (routes b) N)
  pub long : length c ≡ N / 2
  pub near : (k : ℕ) → k < N / 2 → nat_abs (at c k -ℤ at (coefficients (routes b) N left right (block N x b)) k) ≤ Q b

-- each step that is taken under number b brings block b, changed within its own Q and analysed with the shapes that it is offered with. Nothing is asked of the order of the offers, of how often a block is offered, or of the refused ones
pub record Numbered (N H : ℕ) (Q : ℕ → ℕ) (routes : ℕ → Route) (x : List ℤ) (us : List Turn) : Type 0 where
  pub each : (j : ℕ) (t : Turn) → Entry (taken us) j t → Brought N H Q routes x t.offer.number t.offer.left t.offer.right t.offer.brought

-- ---- the claim
-- what stands for Q where two blocks meet, of which the first has Q and the second Q': the larger of the two, each with its route's units
unfoldable pub change : (Q Q' : ℕ) → Route → Route → ℕ
change Q Q' r r' = max (Q + units_of r) (Q' + units_of r')

-- of a list of steps as a whole, us its turns and last the stream after it, whatever its taken steps bring
pub record Answered (N : ℕ) (us : List Turn) (last : Stream) : Type 0 where
  -- the stream was made, and no step returns 4
  pub made : (fresh N).code ≡ 0
  pub no_four : (i : ℕ) (t : Turn) → Entry us i t → t.answer.code ≢ 4
  -- the taken numbers are 0, 1, 2 .. without a gap
  pub numbers : (j : ℕ) (t : Turn) → Entry (taken us) j t → t.offer.number ≡ j
  -- each joint has one shape: the first block that is taken begins with a long one, and the others begin as the one before ends
  pub first_joint : (t : Turn) → Entry (taken us) 0 t → t.offer.left ≡ 0
  pub joints : (j : ℕ) (t u : Turn) → Entry (taken us) j t → Entry (taken us) (suc j) u → u.offer.left ≡ t.offer.right
  -- a step is refused with 7 exactly if its number is not the number of steps that were taken before it
  pub seven : (i : ℕ) (t : Turn) → Entry us i t → t.offer.number ≢ length (taken (take i us)) → t.answer.code ≡ 7
  pub only_seven : (i : ℕ) (t : Turn) → Entry us i t → t.answer.code ≡ 7 → t.offer.number ≢ length (taken (take i us))
  -- a refused step leaves the stream and the buffer as they were: a block that is never taken returns no hop
  pub refused_stream : (i : ℕ) (t : Turn) → Entry us i t → t.answer.code ≢ 0 → t.answer.stream ≡ t.handed
  pub refused_buffer : (i : ℕ) (t : Turn) → Entry us i t → t.answer.code ≢ 0 → t.output ≡ t.offer.buffer
  -- a taken one returns a hop of M samples
  pub hop_long : (j : ℕ) (t : Turn) → Entry (taken us) j t → length t.output ≡ N / 2
  -- the stream after the list is one of N, expects as many as were taken, ends with the right shape of the last one taken, which is long where none was, and its
  -- storage from M on is zero
  pub final_n : last.n ≡ N
  pub final_expected : last.expected ≡ length (taken us)
  pub final_shape : (j : ℕ) (t : Turn) → Entry (taken us) j t → length (taken us) ≡ suc j → last.shape ≡ t.offer.right
  pub final_none : length (taken us) ≡ 0 → last.shape ≡ 0
  pub final_long : length last.tail ≡ storage
  pub final_zero : drop (N / 2) last.tail ≡ replicate (storage - N / 2) (pos 0)

-- and where each taken step brings the block of its number: the step that is taken under number b + 1 returns hop b of the recording, which blocks b and
-- b + 1 share
pub record Returned (N : ℕ) (Q : ℕ → ℕ) (routes : ℕ → Route) (x : List ℤ) (us : List Turn) (last : Stream) : Type 0 where
  pub answered : Answered N us last
  pub hop_near : (j : ℕ) (t : Turn) → Entry (taken us) j t → (b : ℕ) → t.offer.number ≡ suc b → (n : ℕ) → n < N / 2 →
      nat_abs (at t.output n -ℤ at x (b * (N / 2) + n)) ≤ (change (Q b) (Q (suc b)) (routes b) (routes (suc b)) + 8) / 16
  pub hop_same : (j : ℕ) (t : Turn) → Entry (taken us) j t → (b : ℕ) → t.offer.number ≡ suc b → Q b ≤ 7 → Q (suc b) ≤ 7 → routes b ≡ Direct → routes (suc b) ≡ Direct →
      (n : ℕ) → n < N / 2 → at t.output n ≡ at x (b * (N / 2) + n)

-- in the customer's words: once all H + 1 blocks are taken, every sample of the recording has returned. Sample i is place i % M of hop i / M, and
-- stands there in the buffer of the step that was taken under number i / M + 1
pub record WholeReturned (N H : ℕ) (Q : ℕ → ℕ) (routes : ℕ → Route) (x : List ℤ) (us : List Turn) : Type 0 where
  pub near : length (taken us) ≡ H + 1 → (i : ℕ) → i < H * (N / 2) → (t : Turn) × Entry (taken us) (suc (i / (N / 2))) t × (t.offer.number ≡ suc (i / (N / 2))) ×
      (nat_abs (at t.output (i % (N / 2)) -ℤ at x i) ≤ (change (Q (i / (N / 2))) (Q (suc (i / (N / 2)))) (routes (i / (N / 2))) (routes (suc (i / (N / 2)))) + 8) / 16)
  pub same : length (taken us) ≡ H + 1 → (i : ℕ) → i < H * (N / 2) → Q (i / (N / 2)) ≤ 7 → Q (suc (i / (N / 2))) ≤ 7 → routes (i / (N / 2)) ≡ Direct → routes (suc (i / (N / 2))) ≡ Direct →
      (t : Turn) × Entry (taken us) (suc (i / (N / 2))) t × (t.offer.number ≡ suc (i / (N / 2))) × (at t.output (i % (N / 2)) ≡ at x i)

-- ---- the claim in document 01's words, with one Q for all blocks: λ b. Q in the records above
-- of a sample that two blocks cover, analysed by the routes r and r': z, which comes back in the place of a, is within (Q + 8) / 16 of it, with Q + 16 for Q where one
-- of the routes is the short one, and Q + 32 where one is the double one (P12); up to Q = 7 and by direct routes it is a
pub record Restored (Q : ℕ) (r r' : Route) (z a : ℤ) : Type 0 where
  pub near : nat_abs (z -ℤ a) ≤ (Q + max (units_of r) (units_of r') + 8) / 16
  pub same : Q ≤ 7 → r ≡ Direct → r' ≡ Direct → z ≡ a

-- so of each hop that the list returns, and, once all H + 1 blocks are taken, of every sample of the recording
pub record ReturnedOneQ (N H Q : ℕ) (routes : ℕ → Route) (x : List ℤ) (us : List Turn) (last : Stream) : Type 0 where
  pub returned : Returned N (λ b. Q) routes x us last
  pub hop : (j : ℕ) (t : Turn) → Entry (taken us) j t → (b : ℕ) → t.offer.number ≡ suc b → (n : ℕ) → n < N / 2 →
      Restored Q (routes b) (routes (suc b)) (at t.output n) (at x (b * (N / 2) + n))
  pub whole : length (taken us) ≡ H + 1 → (i : ℕ) → i < H * (N / 2) → (t : Turn) × Entry (taken us) (suc (i / (N / 2))) t × (t.offer.number ≡ suc (i / (N / 2))) ×
      Restored Q (routes (i / (N / 2))) (routes (suc (i / (N / 2)))) (at t.output (i % (N / 2))) (at x i)

-- ---- beyond what is asked, of the same list: (3 Q + 36) / 64, equal where both blocks have a Q up to 9, with 7 units for the short route and 14 for the double one
unfoldable pub proved_units : Route → ℕ
proved_units Direct = 0
proved_units Short = 7
proved_units Double = 14

unfoldable pub proved_change : (Q Q' : ℕ) → Route → Route → ℕ
proved_change Q Q' r r' = max (Q + proved_units r) (Q' + proved_units r')

pub record Sharper (N : ℕ) (Q : ℕ → ℕ) (routes : ℕ → Route) (x : List ℤ) (us : List Turn) : Type 0 where
  pub hop_near : (j : ℕ) (t : Turn) → Entry (taken us) j t → (b : ℕ) → t.offer.number ≡ suc b → (n : ℕ) → n < N / 2 →
      nat_abs (at t.output n -ℤ at x (b * (N / 2) + n)) ≤ (3 * proved_change (Q b) (Q (suc b)) (routes b) (routes (suc b)) + 36) / 64
  pub hop_same : (j : ℕ) (t : Turn) → Entry (taken us) j t → (b : ℕ) → t.offer.number ≡ suc b → Q b ≤ 9 → Q (suc b) ≤ 9 → routes b ≡ Direct → routes (suc b) ≡ Direct →
      (n : ℕ) → n < N / 2 → at t.output n ≡ at x (b * (N / 2) + n)
