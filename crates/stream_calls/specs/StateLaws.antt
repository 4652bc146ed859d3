-- Laws of the stream that a state holds: what the calls on a state answer by their causes; a fresh state holds the stream that `fresh` makes, and a step leaves
-- the state of the stream that `step` gives back, with the same number and the same hop.
use Rattle.std.specs.Prelude.{◌≡◌, ◌≢◌, Bool, List, [], ◌∷◌, ◌++◌, ℕ, ◌+◌, ◌-◌, ◌≤◌, T, take, drop, set, replicate, ℤ, pos, negsuc}
use Rattle.std.proofs.Math.Path.{refl, sym}
use Rattle.std.proofs.Common.{ap, ◌∙◌, append-nil, not-suc-le-zero, arith, drop_of_length-le, take-append-drop}
use Rattle.std.proofs.Math.Bool.{true, false, cond}
use borrow.Author.Tests.{le-ltb, ne_eqb}
use borrow.Author.Rules.{part_to_end}
use borrow.Rule.Slice.PartMut.{put_mid}
use Rattle.std.proofs.Math.Dec.{eqb, eqb→eq}
use Rattle.std.proofs.Math.ListN.{length, length-drop, length-replicate}
use Rattle.arithmetic.specs.Lists.{at, table}
use Rattle.arithmetic.specs.TestLaws.{is_true}
use Rattle.cosine.specs.Kernels.{tabled, rising, falling}
use Rattle.cosine.specs.LengthLaws.{tabled_length}
use Rattle.stream.specs.declared.Stream.{Stream}
use Rattle.stream.specs.Synthesis as Y
use Rattle.stream.specs.Steps.{next, hop}
use Rattle.stream.specs.NextLaws.{next_long}
use Rattle.stream.specs.StepLaws.{Valid}
use Rattle.checks.specs.Causes.{First, first_cause}
use Rattle.checks.specs.CauseLaws.{first_is, is-first, same, differs, spared, Passed, passed, leaves}
use Rattle.stream_calls.specs.Streams as S
use Rattle.stream_calls.specs.StreamLaws.{step-number, step-tabled, step-shape, step_valid}
use Rattle.stream_calls.specs.States.{entries, none, number_in, shape_in, stream_in, state_of, fresh_causes, fresh_code, fresh_state, admit_causes, admit_code, step_causes, step_code, step_state, step_out}

-- ---- numbers in entries
number-pos : (n other : ℕ) → number_in (pos n) other ≡ n
unfolding number_in
number-pos n other = rw (le-ltb n 0 (omega arith))

-- a number that does not stand for a negative one is the entry's own
number-own : (z : ℤ) → number_in z 0 ≢ 0 → z ≡ pos (number_in z 0)
unfolding number_in
number-own (pos n) h = rw (le-ltb n 0 (omega arith))
number-own (negsuc n) h = absurd (h refl)

shape-pos : (n : ℕ) → n ≤ 1 → shape_in (pos n) ≡ n
unfolding shape_in
shape-pos n h = rw (le-ltb n 0 (omega arith), le-ltb 1 n h)

-- of a stream with a shape
pub state_holds : (s : Stream) → s.shape ≤ 1 → stream_in (state_of s) ≡ s
unfolding stream_in state_of
state_holds s h = rw (number-pos s.n 0, number-pos s.expected none, shape-pos s.shape h)

-- the stream of the numbers read from a state and of what stands behind them
pub held-is : (state : List ℤ) (n expected shape : ℕ) → n ≡ number_in (at state 0) 0 → expected ≡ number_in (at state 1) none → shape ≡ shape_in (at state 2) →
    S.stream_of n expected shape (take (length state - 3) (drop 3 state)) ≡ stream_in state
unfolding stream_in
held-is state n expected shape e f g = rw (e, f, g, part_to_end state 3)

-- ---- a fresh state: N written to one of zeros
pub fresh-made : (N : ℕ) → set (table entries (λ _. pos 0)) 0 (pos N) ≡ state_of (Y.fresh N)
unfolding table state_of Y.fresh
fresh-made N = refl

pub fresh_filled : (N : ℕ) → set (replicate entries (pos 0)) 0 (pos N) ≡ state_of (Y.fresh N)
unfolding state_of Y.fresh
fresh_filled N = refl

module _ (N : ℕ) (state : List ℤ) where
  -- for k = 0 a fresh stream, for every other k what the state held
  pub fresh-answer : {k : ℕ} → First (fresh_causes N state) k → (k ≡ fresh_code N state) × (cond (eqb k 0) (state_of (Y.fresh N)) state ≡ fresh_state N state)
  unfolding fresh_code fresh_state
  fresh-answer f = let cs = fresh_causes N state in (sym (first_is cs f), leaves cs (state_of (Y.fresh N)) state f)

  module _ (z : fresh_code N state ≡ 0) where
    pub fresh-tabled : T (tabled N)
    unfolding fresh_code fresh_causes spared Passed
    fresh-tabled = (passed (fresh_causes N state) tt z).0

    taken-state : fresh_state N state ≡ state_of (Y.fresh N)
    unfolding fresh_state
    taken-state = rw z

    pub fresh_holds : stream_in (fresh_state N state) ≡ (S.fresh N).stream
    unfolding S.fresh
    fresh_holds = let e : tabled N ≡ true = is_true fresh-tabled in rw (taken-state, e) (unfold Y.fresh in state_holds (Y.fresh N) (omega arith))

    pub fresh_long : length (fresh_state N state) ≡ entries
    unfolding state_of Y.fresh
    fresh_long = rw taken-state (let e = length-replicate Y.storage (pos 0) in omega (arith, e))

-- ---- what the code writes: ys behind the first three entries, v in the second and w in the third
pub put_tail : (xs ys : List ℤ) → put_mid 3 (length xs - 3) xs ys ≡ take 3 xs ++ ys
put_tail xs ys =
    let e : drop (length xs - 3) (drop 3 xs) ≡ [] = drop_of_length-le (drop 3 xs) {i = length xs - 3} (omega (arith, length-drop 3 xs)) in
    ap (λ (z : List ℤ). take 3 xs ++ z) (ap (λ (z : List ℤ). ys ++ z) e ∙ append-nil ys)

set_both : (xs ys : List ℤ) (v w : ℤ) → 3 ≤ length xs → set (set (take 3 xs ++ ys) 1 v) 2 w ≡ at xs 0 ∷ v ∷ w ∷ ys
set_both [] ys v w h = absurd (not-suc-le-zero h)
set_both (a ∷ []) ys v w h = absurd (omega arith)
set_both (a ∷ b ∷ []) ys v w h = absurd (omega arith)
set_both (a ∷ b ∷ c ∷ xs) ys v w h = refl

-- ---- a step
module _ (state : List ℤ) (number l r : ℕ) (x out : List ℤ) where
  abbrev s : Stream
  s = stream_in state

  abbrev code : ℕ
  code = step_code state number l r x out

  pub step_2 : length state ≢ entries → (2 ≡ code) × ((state ≡ step_state state number l r x out) × (out ≡ step_out state number l r x out))
  unfolding step_code step_causes step_state step_out
  step_2 a =
      let cs = step_causes state number l r x out in
      let f : First cs 2 = differs a in
      (sym (first_is cs f), (leaves cs (state_of (next s l r x)) state f, leaves cs (hop s l r x) out f))

  -- on a state of the right length it is `step` by value
  module _ (a : length state ≡ entries) where
    pub same_code : code ≡ S.step_code s number l r x out
    unfolding step_code step_causes S.step_code
    same_code = first_is (step_causes state number l r x out) (same a (is-first (S.step_causes s number l r x out)))

    pub same_out : step_out state number l r x out ≡ S.step_out s number l r x out
    unfolding step_out S.step_out
    same_out = rw same_code

    pub same_stream : stream_in (step_state state number l r x out) ≡ (S.step s number l r x out).stream
    unfolding step_state S.step
    same_stream = rw same_code (by_test (eqb (S.step_code s number l r x out) 0) refl)
      where
        by_test : (b : Bool) → eqb (S.step_code s number l r x out) 0 ≡ b → stream_in (cond b (state_of (next s l r x)) state) ≡ cond b (next s l r x) s
        by_test true e = state_holds (next s l r x) (unfold next in step-shape s number l r x out (eqb→eq (S.step_code s number l r x out) 0 (rw e tt)))
        by_test false e = refl

    pub refused-state : code ≢ 0 → take 3 state ++ (S.step s number l r x out).stream.tail ≡ step_state state number l r x out
    unfolding step_state S.step stream_in
    refused-state n =
        let e = ne_eqb code 0 n in
        let f = ne_eqb (S.step_code s number l r x out) 0 (λ z. n (same_code ∙ z)) in
        rw (e, f) (take-append-drop 3 state)

    module _ (z : code ≡ 0) where
      zero_code : S.step_code s number l r x out ≡ 0
      zero_code = sym same_code ∙ z

      taken-tabled : T (tabled s.n)
      taken-tabled = step-tabled s number l r x out zero_code

      pub taken-number : number ≡ s.expected
      taken-number = step-number s number l r x out zero_code

      -- N is as it was
      own : at state 0 ≡ pos s.n
      unfolding stream_in
      own = number-own (at state 0) (λ e. let h = (tabled_length s.n taken-tabled).some in absurd (omega (arith, h, e)))

      pub taken_state_is : set (set (take 3 state ++ (S.step s number l r x out).stream.tail) 1 (pos (number + 1))) 2 (pos r) ≡ step_state state number l r x out
      unfolding step_state S.step state_of next
      taken_state_is =
          let e = own in
          let f = taken-number in
          set_both state (S.step s number l r x out).stream.tail (pos (number + 1)) (pos r) (omega (arith, a)) ∙ rw (z, zero_code, e, f)

      taken_long : length (state_of (next s l r x)) ≡ entries
      unfolding state_of stream_in
      taken_long =
          let stored : length s.tail ≡ Y.storage = omega (arith, length-drop 3 state, a) in
          omega (arith, stored, next_long s.n s refl l r x (omega (arith, stored, (tabled_length s.n taken-tabled).most)))

    pub same_long : length (step_state state number l r x out) ≡ entries
    unfolding step_state
    same_long = by_test (eqb code 0) refl
      where
        by_test : (b : Bool) → eqb code 0 ≡ b → length (cond b (state_of (next s l r x)) state) ≡ entries
        by_test true e = taken_long (eqb→eq code 0 (rw e tt))
        by_test false e = a

-- ---- a step that is taken: the state is whole, and what it works on is valid
module _ (state : List ℤ) (number l r : ℕ) (x out : List ℤ) (z : step_code state number l r x out ≡ 0) where
  pub taken_whole : length state ≡ entries
  unfolding step_code step_causes first_cause
  taken_whole = go (eqb (length state) entries) refl z
    where
      go : (b : Bool) → eqb (length state) entries ≡ b → cond b (first_cause (S.step_causes (stream_in state) number l r x out)) 2 ≡ 0 → length state ≡ entries
      go true e z = eqb→eq (length state) entries (rw e tt)
      go false e z = absurd (omega (arith, z))

  pub taken_valid : Valid (stream_in state).n x (drop 3 state) out
  unfolding stream_in
  taken_valid = step_valid (stream_in state) number l r x out (sym (same_code state number l r x out taken_whole) ∙ z) (omega (arith, length-drop 3 state, taken_whole))

  -- the new tail and the hop, as the work leaves them
  pub taken_tail : Y.new_tail (stream_in state).n (rising l (stream_in state).n) (falling r (stream_in state).n) (drop 3 state) x ≡ (S.step (stream_in state) number l r x out).stream.tail
  unfolding stream_in S.step next
  taken_tail = let e = sym (same_code state number l r x out taken_whole) ∙ z in rw e

  pub taken_out : Y.hop (stream_in state).n (rising l (stream_in state).n) (falling r (stream_in state).n) (drop 3 state) x ≡ step_out state number l r x out
  unfolding stream_in step_out hop
  taken_out = rw z

-- ---- `admit_in`
module _ (state : List ℤ) (number l r : ℕ) where
  pub admit_2 : length state ≢ entries → 2 ≡ admit_code state number l r
  unfolding admit_code admit_causes
  admit_2 n = sym (first_is (admit_causes state number l r) (differs n))

  pub admit_same : length state ≡ entries → S.admit_code (stream_in state) number l r ≡ admit_code state number l r
  unfolding admit_code admit_causes S.admit_code
  admit_same e = sym (first_is (admit_causes state number l r) (same e (is-first (S.admit_causes (stream_in state) number l r))))
