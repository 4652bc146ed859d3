-- Laws of the calls on shares over recordings: what they answer by their causes.
use Rattle.std.specs.Prelude.{◌≡◌, ◌≢◌, true, false, cond, List, ◌++◌, ℕ, eqb, ◌+◌, ◌*◌, ◌/◌, ◌^◌, ◌≤◌, ◌<◌, T, length, take, ℤ}
use Rattle.std.proofs.Common.{ap, ◌∙◌, arith, length-append}
use Rattle.std.proofs.Math.Seq.{take_at}
use Rattle.std.proofs.Math.Dec.{eqb→eq, ltb→lt}
use Rattle.arithmetic.specs.Lists.{every, Small}
use Rattle.arithmetic.specs.TestLaws.{both_left, both_right, is_T, is_true}
use Rattle.cosine.specs.Kernels.{tabled}
use Rattle.orders.specs.declared.Order.{Order}
use Rattle.orders.specs.Orders.{part}
use Rattle.orders.specs.OrderLaws.{part_long, part_small}
use Rattle.checks.specs.Limits.{in_range, counted}
use Rattle.checks.specs.LimitLaws.{range_small}
use Rattle.checks.specs.Causes.{Cause}
use Rattle.checks.specs.CauseLaws.{spared, Passed, passed}
use Rattle.shares.specs.Shares.{Named, largest_share}
use Rattle.shares.specs.LargestLaws.{named-first}
use Rattle.share_calls.specs.ShareCalls.{answered_with, refused_with, numbers_of}
use Rattle.share_calls.specs.ShareCallLaws.{some, answer_sized, answer-ranged, answer-taken, room_sized, room_long, room-ranged, room-taken, sized_first, then_ranged, sized_before_room, then_room}
use Rattle.share_calls.specs.RecordingShares.{share_at, numbered_from, place_causes, place_code, both_ranged, recording_share_code, recording_share, recording_name_code, recording_name_out}

-- ---- a block in front of room for the longest
pub record Gathered (M : ℕ) (block room : List ℤ) : Type 0 where
  pub front : take M room ≡ block
  pub long : length (take M room) ≡ M
  pub fits : M ≤ length room
  pub small : Small (take M room) (2 ^ 29)

pub gathered_block : (order : Order) (N H : ℕ) (x : List ℤ) (b : ℕ) (room rest : List ℤ) → b ≤ H → length x ≡ (H + 1) * (N / 2) → Small x (2 ^ 29) →
    room ≡ part order (N / 2) (H + 1) x b ++ rest → Gathered (N / 2) (part order (N / 2) (H + 1) x b) room
gathered_block order N H x b room rest p l r e =
    let block = part order (N / 2) (H + 1) x b in
    let long : length block ≡ N / 2 = part_long (N / 2) (H + 1) order x b in
    let f : take (N / 2) room ≡ block = ap (take (N / 2)) e ∙ take_at block rest (N / 2) long in
    record {
      front = f;
      long = ap length f ∙ long;
      fits = omega (arith, ap length e, length-append block rest, long);
      small = rw f (part_small (N / 2) (H + 1) order x l (2 ^ 29) r b (omega arith));
    }

module _ (N H : ℕ) (X X' : List ℤ) (hop place : ℕ) where
  abbrev tests : List Cause
  tests = place_causes N H X X' hop place

  tested : T (every some tests)
  unfolding place_causes every
  tested = tt

  -- of a number that is tested
  pub share_placed : eqb (place_code N H X X' hop place) 0 ≡ false → recording_share_code N H X X' hop place ≡ place_code N H X X' hop place
  unfolding recording_share_code place_code
  share_placed = sized_first tests tested (both_ranged N H X X')

  pub share_rest : place_code N H X X' hop place ≡ 0 → recording_share_code N H X X' hop place ≡ cond (both_ranged N H X X') 0 3
  unfolding recording_share_code place_code
  share_rest = then_ranged tests tested (both_ranged N H X X')

  pub name_placed : (named : List ℕ) → eqb (place_code N H X X' hop place) 0 ≡ false → recording_name_code N H X X' hop place named ≡ place_code N H X X' hop place
  unfolding recording_name_code place_code
  name_placed named = sized_before_room tests tested (both_ranged N H X X') (eqb (length named) 3)

  pub name_rest : (named : List ℕ) → place_code N H X X' hop place ≡ 0 → recording_name_code N H X X' hop place named ≡ cond (eqb (length named) 3) (cond (both_ranged N H X X') 0 3) 2
  unfolding recording_name_code place_code
  name_rest named = then_room tests tested (both_ranged N H X X') (eqb (length named) 3)

  module _ (order : Order) where
    abbrev found : Named
    found = numbered_from hop (share_at order N H X X' hop place)

    -- one of the two blocks is named
    pub share_block : place < N / 2 → (share_at order N H X X' hop place).block < 2
    unfolding share_at largest_share
    share_block p = ((named-first _ _ (N / 2)).inside (omega arith)).0

    pub placed_away : place_code N H X X' hop place ≢ 0 → refused_with (place_code N H X X' hop place) ≡ recording_share order N H X X' hop place
    unfolding recording_share recording_share_code place_code
    placed_away = answer_sized tests tested (both_ranged N H X X') found

    pub out_of_range : place_code N H X X' hop place ≡ 0 → both_ranged N H X X' ≡ false → refused_with 3 ≡ recording_share order N H X X' hop place
    unfolding recording_share recording_share_code place_code
    out_of_range = answer-ranged tests tested (both_ranged N H X X') found

    pub share_taken : place_code N H X X' hop place ≡ 0 → both_ranged N H X X' ≡ true → answered_with found ≡ recording_share order N H X X' hop place
    unfolding recording_share recording_share_code place_code
    share_taken = answer-taken tests tested (both_ranged N H X X') found

    module _ (named : List ℕ) where
      pub name_placed_away : place_code N H X X' hop place ≢ 0 →
          (place_code N H X X' hop place ≡ recording_name_code N H X X' hop place named) × (named ≡ recording_name_out order N H X X' hop place named)
      unfolding recording_name_out recording_name_code place_code
      name_placed_away = room_sized tests tested (both_ranged N H X X') found named

      pub name_long : place_code N H X X' hop place ≡ 0 → length named ≢ 3 → (2 ≡ recording_name_code N H X X' hop place named) × (named ≡ recording_name_out order N H X X' hop place named)
      unfolding recording_name_out recording_name_code place_code
      name_long = room_long tests tested (both_ranged N H X X') found named

      pub name_out_of_range : place_code N H X X' hop place ≡ 0 → length named ≡ 3 → both_ranged N H X X' ≡ false →
          (3 ≡ recording_name_code N H X X' hop place named) × (named ≡ recording_name_out order N H X X' hop place named)
      unfolding recording_name_out recording_name_code place_code
      name_out_of_range = room-ranged tests tested (both_ranged N H X X') found named

      pub name-taken : place_code N H X X' hop place ≡ 0 → length named ≡ 3 → both_ranged N H X X' ≡ true →
          (0 ≡ recording_name_code N H X X' hop place named) × (numbers_of found ≡ recording_name_out order N H X X' hop place named)
      unfolding recording_name_out recording_name_code place_code
      name-taken = room-taken tests tested (both_ranged N H X X') found named

  -- what passes the tests of the lengths
  pub record Placed : Type 0 where
    pub length_is : T (tabled N)
    pub hops : counted H ≡ true
    pub original_is : length X ≡ (H + 1) * (N / 2)
    pub changed_is : length X' ≡ (H + 1) * (N / 2)
    pub hop_is : hop < H
    pub place_is : place < N / 2

  pub places : place_code N H X X' hop place ≡ 0 → Placed
  unfolding place_code place_causes spared Passed
  places z =
      let p = passed (place_causes N H X X' hop place) tt z in
      record {
        length_is = p.0;
        hops = is_true p.1.0;
        original_is = eqb→eq (length X) ((H + 1) * (N / 2)) p.1.1.0;
        changed_is = eqb→eq (length X') ((H + 1) * (N / 2)) p.1.1.1.0;
        hop_is = ltb→lt hop H p.1.1.1.1.0;
        place_is = ltb→lt place (N / 2) p.1.1.1.1.1.0;
      }

  -- and, of coefficients that are in range
  pub both_ranges : place_code N H X X' hop place ≡ 0 → both_ranged N H X X' ≡ true → Small X (2 ^ 29) × Small X' (2 ^ 29)
  unfolding both_ranged
  both_ranges z r =
      let s = places z in
      let m = (H + 1) * (N / 2) in
      let t = is_T r in
      (range_small X m s.original_is (is_true (both_left (in_range m X) (in_range m X') t)), range_small X' m s.changed_is (is_true (both_right (in_range m X) (in_range m X') t)))
