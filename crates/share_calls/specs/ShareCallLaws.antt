-- Laws of the calls on shares: what they answer by their causes.
use Rattle.std.specs.Prelude.{◌≡◌, refl, ◌≢◌, Bool, true, false, not, cond, List, [], ◌∷◌, ◌++◌, ℕ, ◌/◌, ◌^◌, ◌≤◌, ◌<◌, T, length, ℤ}
use Rattle.std.proofs.Common.{◌∙◌, arith, eq-eqb, ne_eqb}
use Rattle.std.proofs.Math.Dec.{eqb, eqb→eq, leb→le, ltb→lt}
use Rattle.arithmetic.specs.Lists.{every, Small}
use Rattle.arithmetic.specs.TestLaws.{both_left, both_right, is_T, is_true}
use Rattle.cosine.specs.Kernels.{tabled}
use Rattle.checks.specs.Limits.{in_range}
use Rattle.checks.specs.LimitLaws.{range_small}
use Rattle.checks.specs.Causes.{Cause, ◌unless◌, first_cause}
use Rattle.checks.specs.CauseLaws.{spared, Passed, passed}
use Rattle.shares.specs.Shares.{Named, largest_share}
use Rattle.shares.specs.LargestLaws.{named-first}
use Rattle.share_calls.specs.Answers.{Share}
use Rattle.share_calls.specs.ShareCalls.{size_causes, size_code, ranged, share_causes, share_code, answered_with, refused_with, share_answer, name_causes, name_code, numbers_of, name_out}

-- ---- causes behind causes, none of which has the number 0
abbrev pub some : Cause → Bool
some c = not (eqb c.number 0)

behind : (xs ys : List Cause) → T (every some xs) → first_cause (xs ++ ys) ≡ cond (eqb (first_cause xs) 0) (first_cause ys) (first_cause xs)
unfolding first_cause every
behind [] ys t = refl
behind (c ∷ xs) ys t = go c.passes (behind xs ys (both_right (some c) (every some xs) t))
  where
    own : (b : Bool) → eqb c.number 0 ≡ b → T (not b) → c.number ≡ cond (eqb c.number 0) (first_cause ys) c.number
    own false e s = rw e
    own true e s = absurd s

    go : (b : Bool) → first_cause (xs ++ ys) ≡ cond (eqb (first_cause xs) 0) (first_cause ys) (first_cause xs) →
        cond b (first_cause (xs ++ ys)) c.number ≡ cond (eqb (cond b (first_cause xs) c.number) 0) (first_cause ys) (cond b (first_cause xs) c.number)
    go true ih = ih
    go false ih = own (eqb c.number 0) refl (both_left (some c) (every some xs) t)

-- ---- what is answered behind the tests of the lengths: 3 where a coefficient is out of range, and then what was found
module _ (sizes : List Cause) (t : T (every some sizes)) (inside : Bool) (found : Named) where
  abbrev size : ℕ
  size = first_cause sizes

  abbrev code : ℕ
  code = first_cause (sizes ++ (3 unless inside ∷ []))

  code_is : code ≡ cond (eqb size 0) (cond inside 0 3) size
  unfolding first_cause
  code_is = behind sizes (3 unless inside ∷ []) t

  abbrev answer : Share
  answer = cond (eqb code 0) (answered_with found) (refused_with code)

  pub answer_sized : size ≢ 0 → refused_with size ≡ answer
  answer_sized n = let e = ne_eqb size 0 n in rw (code_is, e, e)

  pub answer-ranged : size ≡ 0 → inside ≡ false → refused_with 3 ≡ answer
  answer-ranged z r = rw (code_is, z, r)

  pub answer-taken : size ≡ 0 → inside ≡ true → answered_with found ≡ answer
  answer-taken z r = rw (code_is, z, r)

  -- into room for three numbers
  module _ (named : List ℕ) where
    abbrev number : ℕ
    number = first_cause (sizes ++ (2 unless eqb (length named) 3 ∷ 3 unless inside ∷ []))

    number_is : number ≡ cond (eqb size 0) (cond (eqb (length named) 3) (cond inside 0 3) 2) size
    unfolding first_cause
    number_is = behind sizes (2 unless eqb (length named) 3 ∷ 3 unless inside ∷ []) t

    abbrev room : List ℕ
    room = cond (eqb number 0) (numbers_of found) named

    pub room_sized : size ≢ 0 → (size ≡ number) × (named ≡ room)
    room_sized n = let e = ne_eqb size 0 n in (rw (number_is, e), rw (number_is, e, e))

    pub room_long : size ≡ 0 → length named ≢ 3 → (2 ≡ number) × (named ≡ room)
    room_long z n = let e = ne_eqb (length named) 3 n in (rw (number_is, z, e), rw (number_is, z, e))

    pub room-ranged : size ≡ 0 → length named ≡ 3 → inside ≡ false → (3 ≡ number) × (named ≡ room)
    room-ranged z l r = let e = eq-eqb (length named) 3 l in (rw (number_is, z, e, r), rw (number_is, z, e, r))

    pub room-taken : size ≡ 0 → length named ≡ 3 → inside ≡ true → (0 ≡ number) × (numbers_of found ≡ room)
    room-taken z l r = let e = eq-eqb (length named) 3 l in (rw (number_is, z, e, r), rw (number_is, z, e, r))

-- ---- the same of a number that is tested
module _ (sizes : List Cause) (t : T (every some sizes)) (inside : Bool) where
  pub sized_first : eqb (first_cause sizes) 0 ≡ false → first_cause (sizes ++ (3 unless inside ∷ [])) ≡ first_cause sizes
  sized_first e = behind sizes (3 unless inside ∷ []) t ∙ rw e

  pub then_ranged : first_cause sizes ≡ 0 → first_cause (sizes ++ (3 unless inside ∷ [])) ≡ cond inside 0 3
  unfolding first_cause
  then_ranged e = behind sizes (3 unless inside ∷ []) t ∙ rw e

  pub sized_before_room : (long : Bool) → eqb (first_cause sizes) 0 ≡ false → first_cause (sizes ++ (2 unless long ∷ 3 unless inside ∷ [])) ≡ first_cause sizes
  sized_before_room long e = behind sizes (2 unless long ∷ 3 unless inside ∷ []) t ∙ rw e

  pub then_room : (long : Bool) → first_cause sizes ≡ 0 → first_cause (sizes ++ (2 unless long ∷ 3 unless inside ∷ [])) ≡ cond long (cond inside 0 3) 2
  unfolding first_cause
  then_room long e = behind sizes (2 unless long ∷ 3 unless inside ∷ []) t ∙ rw e

-- one of the two blocks is named
pub named_block : (N shape : ℕ) (first first' second second' : List ℤ) (place : ℕ) → place < N / 2 → (largest_share N shape place first first' second second').block < 2
unfolding largest_share
named_block N shape first first' second second' place p = ((named-first _ _ (N / 2)).inside (omega arith)).0

-- ---- of two blocks
module _ (N shape : ℕ) (first first' second second' : List ℤ) (place : ℕ) where
  abbrev tests : List Cause
  tests = size_causes N shape first first' second second' place

  abbrev inside : Bool
  inside = ranged (N / 2) first first' second second'

  abbrev found : Named
  found = largest_share N shape place first first' second second'

  tested : T (every some tests)
  unfolding size_causes every
  tested = tt

  pub sized_away : size_code N shape first first' second second' place ≢ 0 → refused_with (size_code N shape first first' second second' place) ≡ share_answer N shape first first' second second' place
  unfolding share_answer share_code share_causes size_code
  sized_away = answer_sized tests tested inside found

  pub out_of_range : size_code N shape first first' second second' place ≡ 0 → inside ≡ false → refused_with 3 ≡ share_answer N shape first first' second second' place
  unfolding share_answer share_code share_causes size_code
  out_of_range = answer-ranged tests tested inside found

  pub share_taken : size_code N shape first first' second second' place ≡ 0 → inside ≡ true → answered_with found ≡ share_answer N shape first first' second second' place
  unfolding share_answer share_code share_causes size_code
  share_taken = answer-taken tests tested inside found

  pub share_sized : eqb (size_code N shape first first' second second' place) 0 ≡ false → share_code N shape first first' second second' place ≡ size_code N shape first first' second second' place
  unfolding share_code share_causes size_code
  share_sized = sized_first tests tested inside

  pub share_rest : size_code N shape first first' second second' place ≡ 0 → share_code N shape first first' second second' place ≡ cond inside 0 3
  unfolding share_code share_causes size_code
  share_rest = then_ranged tests tested inside

  pub name_sized : (named : List ℕ) → eqb (size_code N shape first first' second second' place) 0 ≡ false → name_code N shape first first' second second' place named ≡ size_code N shape first first' second second' place
  unfolding name_code name_causes size_code
  name_sized named = sized_before_room tests tested inside (eqb (length named) 3)

  pub name_rest : (named : List ℕ) → size_code N shape first first' second second' place ≡ 0 → name_code N shape first first' second second' place named ≡ cond (eqb (length named) 3) (cond inside 0 3) 2
  unfolding name_code name_causes size_code
  name_rest named = then_room tests tested inside (eqb (length named) 3)

  module _ (named : List ℕ) where
    pub name_sized_away : size_code N shape first first' second second' place ≢ 0 →
        (size_code N shape first first' second second' place ≡ name_code N shape first first' second second' place named) × (named ≡ name_out N shape first first' second second' place named)
    unfolding name_out name_code name_causes size_code
    name_sized_away = room_sized tests tested inside found named

    pub name_long : size_code N shape first first' second second' place ≡ 0 → length named ≢ 3 →
        (2 ≡ name_code N shape first first' second second' place named) × (named ≡ name_out N shape first first' second second' place named)
    unfolding name_out name_code name_causes size_code
    name_long = room_long tests tested inside found named

    pub name_out_of_range : size_code N shape first first' second second' place ≡ 0 → length named ≡ 3 → inside ≡ false →
        (3 ≡ name_code N shape first first' second second' place named) × (named ≡ name_out N shape first first' second second' place named)
    unfolding name_out name_code name_causes size_code
    name_out_of_range = room-ranged tests tested inside found named

    pub name-taken : size_code N shape first first' second second' place ≡ 0 → length named ≡ 3 → inside ≡ true →
        (0 ≡ name_code N shape first first' second second' place named) × (numbers_of found ≡ name_out N shape first first' second second' place named)
    unfolding name_out name_code name_causes size_code
    name-taken = room-taken tests tested inside found named

  -- what passes the tests of the lengths
  pub record Sizes : Type 0 where
    pub length_is : T (tabled N)
    pub shape_is : shape ≤ 1
    pub first_is : length first ≡ N / 2
    pub first_changed_is : length first' ≡ N / 2
    pub second_is : length second ≡ N / 2
    pub second_changed_is : length second' ≡ N / 2
    pub place_is : place < N / 2

  pub sizes : size_code N shape first first' second second' place ≡ 0 → Sizes
  unfolding size_code size_causes spared Passed
  sizes z =
      let p = passed (size_causes N shape first first' second second' place) tt z in
      record {
        length_is = p.0;
        shape_is = leb→le shape 1 p.1.0;
        first_is = eqb→eq (length first) (N / 2) p.1.1.0;
        first_changed_is = eqb→eq (length first') (N / 2) p.1.1.1.0;
        second_is = eqb→eq (length second) (N / 2) p.1.1.1.1.0;
        second_changed_is = eqb→eq (length second') (N / 2) p.1.1.1.1.1.0;
        place_is = ltb→lt place (N / 2) p.1.1.1.1.1.1.0;
      }

  -- and, of coefficients that are in range
  pub ranges : size_code N shape first first' second second' place ≡ 0 → inside ≡ true → Small first (2 ^ 29) × Small first' (2 ^ 29) × Small second (2 ^ 29) × Small second' (2 ^ 29)
  unfolding ranged
  ranges z r =
      let s = sizes z in
      let a = in_range (N / 2) first in
      let b = in_range (N / 2) first' in
      let c = in_range (N / 2) second in
      let d = in_range (N / 2) second' in
      let t = is_T r in
      let u = both_right a (cond b (cond c d false) false) t in
      let v = both_right b (cond c d false) u in (
        range_small first (N / 2) s.first_is (is_true (both_left a (cond b (cond c d false) false) t)),
        range_small first' (N / 2) s.first_changed_is (is_true (both_left b (cond c d false) u)),
        range_small second (N / 2) s.second_is (is_true (both_left c d v)),
        range_small second' (N / 2) s.second_changed_is (is_true (both_right c d v)),
      )
