-- Shares at N = 12: blocks whose largest share is in the earlier or in the later block, equal shares, and a sample that did not move although a block was changed, since W is zero there. What
-- `explained` says, applied to them. All is computed from the definitions.
use Rattle.std.specs.Prelude.{◌≡◌, refl, List, ℕ, ◌+◌, ◌<◌, ℤ}
use Rattle.std.proofs.Common.{lit≤}
use Rattle.arithmetic.specs.Lists.{at}
use Rattle.stream.specs.declared.Stream.{Stream}
use Rattle.stream_calls.specs.Streams.{step_code, step}
use Rattle.shares.specs.Shares.{share_of, earlier, later, share_in, best, none, named, largest_share}
use Rattle.shares.specs.Shares.Before.{block, coefficient}
use Rattle.share_calls.specs.ShareCalls.{size_causes, size_code, ranged, share_causes, share_code, answered_with, refused_with, share_answer}
use Rattle.demands.proofs.AnswerLaws.{demand_1}
use Rattle.demands.proofs.DefinitionLaws.{demand_2}
use Rattle.demands.specs.Demands.{share_on, Covering}
use Rattle.demands.specs.Example.{sharp_1, sharp_2, block_2, room, loud}
use Rattle.demands.proofs.ExampleLaws.{computed, twelve}
use Rattle.demands.specs.LevelExamples.{plain_0, plain_1, long_0, long_1}
use Rattle.demands.specs.ShareExamples.{names, zeros, up, down, even, new, running, hop_of}

shares : Unit {0}
unfolding computed share_of earlier later share_in best named largest_share size_causes size_code ranged share_causes share_code share_answer plain_0 plain_1 long_0 long_1
shares = tt

-- ---- what storing two blocks changed
pub in_the_earlier : share_answer 12 0 plain_0 long_0 plain_1 long_1 5 ≡ names 0 4
unfolding shares
in_the_earlier = refl

-- the same blocks the other way round
pub in_the_later : share_answer 12 0 plain_1 long_1 plain_0 long_0 1 ≡ names 1 5
unfolding shares
in_the_later = refl

-- so that every share of the earlier block is smaller
pub smaller-earlier : (k : ℕ) → k < 6 → share_on 12 0 plain_1 long_1 plain_0 long_0 1 0 k < share_on 12 0 plain_1 long_1 plain_0 long_0 1 1 5
smaller-earlier k p = rw in_the_later at (demand_2.explained 12 0 plain_1 long_1 plain_0 long_0 1 (rw in_the_later refl)).before refl 0 k p block

pub equal : (even 0 1 ≡ 7961314474068500) × (even 0 2 ≡ 7961314474068500) × (even 1 1 ≡ 7961314474068500) × (even 1 2 ≡ 7961314474068500)
unfolding shares up down
equal = (refl, refl, refl, refl)

pub first_of_equal : share_answer 12 0 zeros up zeros down 1 ≡ names 0 1
unfolding shares up down
first_of_equal = refl

-- what stands before it is smaller: coefficient 0 of the earlier block
pub smaller_before : even 0 0 < even 0 1
smaller_before = rw first_of_equal at (demand_2.explained 12 0 zeros up zeros down 1 (rw first_of_equal refl)).before refl 0 0 (lit≤ tt) (coefficient (lit≤ tt))

-- ---- a short joint: W of the later block is zero at place 0, so that no change of it moves the sample there
pub none_there : share_answer 12 1 sharp_1 sharp_1 sharp_2 block_2 0 ≡ answered_with none
unfolding shares
none_there = refl

covering : (s : Stream) (number : ℕ) (x y : List ℤ) → s.n ≡ 12 → step_code s number 0 1 x room ≡ 0 → step_code (step s number 0 1 x room).stream (number + 1) 1 0 y room ≡ 0 →
    Covering 12 1 x y (hop_of s number x y)
covering s number x y e c d = record {
  stream = s;
  n_is = e;
  number = number;
  next = number + 1;
  left = 0;
  right = 0;
  room = room;
  next_room = room;
  taken = c;
  next_taken = d;
  is = refl;
}

pub first_then_second : Covering 12 1 sharp_1 sharp_2 (hop_of new 0 sharp_1 sharp_2)
unfolding shares
first_then_second = covering new 0 sharp_1 sharp_2 refl refl refl

pub first_then_another : Covering 12 1 sharp_1 block_2 (hop_of running 1 sharp_1 block_2)
unfolding shares
first_then_another = covering running 1 sharp_1 block_2 refl refl refl

pub same_there : at (hop_of new 0 sharp_1 sharp_2) 0 ≡ at (hop_of running 1 sharp_1 block_2) 0
same_there =
    (demand_2.explained 12 1 sharp_1 sharp_1 sharp_2 block_2 0 (rw none_there refl)).same (rw none_there refl) (hop_of new 0 sharp_1 sharp_2) (hop_of running 1 sharp_1 block_2)
    first_then_second first_then_another

-- and W of the earlier block is zero at place 5, so that there no change of the earlier one does: two different tails, and the same sample
pub none_at_the_end : share_answer 12 1 sharp_1 block_2 sharp_2 sharp_2 5 ≡ answered_with none
unfolding shares
none_at_the_end = refl

pub another_then_second : Covering 12 1 block_2 sharp_2 (hop_of running 1 block_2 sharp_2)
unfolding shares
another_then_second = covering running 1 block_2 sharp_2 refl refl refl

pub same_at_the_end : at (hop_of new 0 sharp_1 sharp_2) 5 ≡ at (hop_of running 1 block_2 sharp_2) 5
same_at_the_end =
    (demand_2.explained 12 1 sharp_1 block_2 sharp_2 sharp_2 5 (rw none_at_the_end refl)).same (rw none_at_the_end refl) (hop_of new 0 sharp_1 sharp_2) (hop_of running 1 block_2 sharp_2)
    first_then_second another_then_second

-- at place 3 both blocks count, and there the later one's change is named
pub some_there : share_answer 12 1 sharp_1 sharp_1 sharp_2 block_2 3 ≡ names 1 2
unfolding shares
some_there = refl

-- ---- a shape above 1 is refused first, whatever the coefficients are
pub no_shape : (n : ℕ) (first second : List ℤ) → share_answer 12 2 first loud second loud n ≡ refused_with 8
no_shape n first second = (demand_1.shared 12 2 first loud second loud n).eight twelve (lit≤ tt)
