-- Floats at N = 12, computed, and a block whose highest and lowest stand at the ends of the range. `FloatExamples` is the contract of the function `float_examples`, by FloatExampleLaws.
use Rattle.std.specs.Prelude.{◌≡◌, true, false, List, [], ◌∷◌, replicate, ℤ, pos, negsuc, Float}
use Rattle.std.specs.Float.{nan, fin}
use Rattle.floats.specs.Floats.{sixty_fourth, plus_zero}
use Rattle.float_calls.specs.FloatCalls.{floats_code, floats_out, ends_of, pair_code, pair_out}
use Rattle.demands.specs.FloatValues.{Exactly, float_at, FloatsOn, EndsOn}
use Rattle.demands.specs.Example.{minus}

-- a block whose highest stands last and whose lowest stands first, each at the end of the range, with 0 and 1 between them
unfoldable pub steep : List ℤ
steep = minus 536870912 ∷ pos 0 ∷ pos 1 ∷ minus 1 ∷ pos 64 ∷ pos 536870912 ∷ []

-- what a buffer held
unfoldable pub rubbish : List Float
rubbish = replicate 6 nan

-- a coefficient beyond the range, at the end
unfoldable pub beyond : List ℤ
beyond = pos 0 ∷ pos 0 ∷ pos 0 ∷ pos 0 ∷ pos 0 ∷ pos 536870913 ∷ []

pub record FloatExamples : Type 0 where
  -- ---- it is taken
  pub steep_taken : floats_code 12 steep rubbish ≡ 0
  pub steep_floats : FloatsOn 12 steep rubbish
  -- 536,870,912 / 64 is 2^23, and -1 / 64 is -2^(-6)
  pub as_2_to_the_23 : sixty_fourth (pos 536870912) ≡ fin false 1 (pos 23)
  pub minus_a_64th : sixty_fourth (minus 1) ≡ fin true 1 (negsuc 5)
  -- the last of the six is the first of these
  pub last_float : Exactly (float_at (floats_out 12 steep rubbish) 5) (pos 536870912)
  -- and 0 is +0.0
  pub zero_float : float_at (floats_out 12 steep rubbish) 1 ≡ plus_zero
  -- ---- the highest and the lowest
  pub steep_ends : ends_of 12 steep ≡ record { code = 0; pair = record { highest = sixty_fourth (pos 536870912); lowest = sixty_fourth (minus 536870912) } }
  pub steep_named : EndsOn 12 steep (ends_of 12 steep)
  -- the highest is the float that stands at its place among all six
  pub highest_there : (e : EndsOn 12 steep (ends_of 12 steep)) → float_at (floats_out 12 steep rubbish) e.highest.place ≡ (ends_of 12 steep).pair.highest
  -- into room for two
  pub pair_taken : pair_code 12 steep (nan ∷ nan ∷ []) ≡ 0
  pub into_two : pair_out 12 steep (nan ∷ nan ∷ []) ≡ sixty_fourth (pos 536870912) ∷ sixty_fourth (minus 536870912) ∷ []
  -- ---- a coefficient beyond the range is refused; 2 is answered before 3
  pub beyond_ends : ends_of 12 beyond ≡ record { code = 3; pair = record { highest = plus_zero; lowest = plus_zero } }
  pub room_first : pair_code 12 beyond (nan ∷ []) ≡ 2
