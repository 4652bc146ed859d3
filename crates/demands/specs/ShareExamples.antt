-- Shares at N = 12: blocks whose largest share is in the earlier or in the later block, equal shares, and a sample that did not move although a block was changed, since W is zero there. `ShareExamples` is the contract of the
-- function `share_examples`, by ShareExampleLaws.
use Rattle.std.specs.Prelude.{◌≡◌, true, List, [], ◌∷◌, ℕ, ◌+◌, ◌<◌, replicate, ℤ, pos}
use Rattle.arithmetic.specs.Lists.{at}
use Rattle.stream.specs.declared.Stream.{Stream}
use Rattle.stream.specs.Synthesis as S
use Rattle.stream_calls.specs.Streams.{step, step_out}
use Rattle.shares.specs.Shares.{none}
use Rattle.share_calls.specs.Answers.{Share}
use Rattle.share_calls.specs.ShareCalls.{answered_with, refused_with, share_answer}
use Rattle.demands.specs.Demands.{share_on, Covering}
use Rattle.demands.specs.Example.{minus, block_0, sharp_1, sharp_2, block_2, room, loud}
use Rattle.demands.specs.LevelExamples.{plain_0, plain_1, long_0, long_1}

-- an answer that names a share
abbrev pub names : (block coefficient : ℕ) → Share
names b k = record { code = 0; any = true; block = b; coefficient = k }

-- no coefficients, and two changes of the same size of each of two of them
abbrev pub zeros : List ℤ
zeros = replicate 6 (pos 0)

unfoldable pub up : List ℤ
up = pos 0 ∷ pos 5 ∷ minus 5 ∷ pos 0 ∷ pos 0 ∷ pos 0 ∷ []

unfoldable pub down : List ℤ
down = pos 0 ∷ minus 5 ∷ pos 5 ∷ pos 0 ∷ pos 0 ∷ pos 0 ∷ []

-- the shares of those changes in sample 1
abbrev pub even : ℕ → ℕ → ℕ
even = share_on 12 0 zeros up zeros down 1

-- a fresh stream, and one that has taken a block
abbrev pub new : Stream
new = S.fresh 12

abbrev pub running : Stream
running = (step new 0 0 0 block_0 room).stream

-- the hop that a stream returns when it takes both blocks, the first under this number
abbrev pub hop_of : Stream → ℕ → List ℤ → List ℤ → List ℤ
hop_of s number x y = step_out (step s number 0 1 x room).stream (number + 1) 1 0 y room

pub record ShareExamples : Type 0 where
  -- ---- what storing two blocks changed
  pub in_the_earlier : share_answer 12 0 plain_0 long_0 plain_1 long_1 5 ≡ names 0 4
  -- the same blocks the other way round
  pub in_the_later : share_answer 12 0 plain_1 long_1 plain_0 long_0 1 ≡ names 1 5
  -- so that every share of the earlier block is smaller
  pub smaller_earlier : (k : ℕ) → k < 6 → share_on 12 0 plain_1 long_1 plain_0 long_0 1 0 k < share_on 12 0 plain_1 long_1 plain_0 long_0 1 1 5
  -- ---- four equal shares: the earlier block's is named, and of its two the lower coefficient's
  pub equal : (even 0 1 ≡ 7961314474068500) × (even 0 2 ≡ 7961314474068500) × (even 1 1 ≡ 7961314474068500) × (even 1 2 ≡ 7961314474068500)
  pub first_of_equal : share_answer 12 0 zeros up zeros down 1 ≡ names 0 1
  -- what stands before it is smaller: coefficient 0 of the earlier block
  pub smaller_before : even 0 0 < even 0 1
  -- ---- a short joint: W of the later block is zero at place 0, so that no change of it moves the sample there
  pub none_there : share_answer 12 1 sharp_1 sharp_1 sharp_2 block_2 0 ≡ answered_with none
  pub first_then_second : Covering 12 1 sharp_1 sharp_2 (hop_of new 0 sharp_1 sharp_2)
  pub first_then_another : Covering 12 1 sharp_1 block_2 (hop_of running 1 sharp_1 block_2)
  pub same_there : at (hop_of new 0 sharp_1 sharp_2) 0 ≡ at (hop_of running 1 sharp_1 block_2) 0
  -- and W of the earlier block is zero at place 5, so that there no change of the earlier one does: two different tails, and the same sample
  pub none_at_the_end : share_answer 12 1 sharp_1 block_2 sharp_2 sharp_2 5 ≡ answered_with none
  pub another_then_second : Covering 12 1 block_2 sharp_2 (hop_of running 1 block_2 sharp_2)
  pub same_at_the_end : at (hop_of new 0 sharp_1 sharp_2) 5 ≡ at (hop_of running 1 block_2 sharp_2) 5
  -- at place 3 both blocks count, and there the later one's change is named
  pub some_there : share_answer 12 1 sharp_1 sharp_1 sharp_2 block_2 3 ≡ names 1 2
  -- ---- a shape above 1 is refused first, whatever the coefficients are
  pub no_shape : (n : ℕ) (first second : List ℤ) → share_answer 12 2 first loud second loud n ≡ refused_with 8
