-- The theorems of floats applied to blocks at N = 12, so that nobody has to believe that their hypotheses can be met, and floats computed from the definitions.
use Rattle.std.specs.Prelude.{◌≡◌, refl, true, false, [], ◌∷◌, pos, negsuc}
use Rattle.std.proofs.Common.{ap, ◌∙◌, arith, lit<}
use Rattle.std.specs.Float.{nan, fin}
use Rattle.std.specs.Float.Ieee.{round, units, odd, size, span, climb}
use Rattle.floats.specs.Floats.{negative, sixty_fourth, plus_zero, larger, smaller, picked, highest_of, lowest_of}
use Rattle.float_calls.specs.Answers.{Ends}
use Rattle.float_calls.specs.FloatCalls.{block_causes, block_code, floats_code, floats_out, ends_causes, ends_code, ends_of, pair_code, pair_out}
use Rattle.demands.specs.FloatAnswerLaws.{pair_answers}
use Rattle.demands.specs.FloatValues.{Exactly, float_at, FloatsOn, EndsOn}
use Rattle.demands.proofs.FloatValueLaws.{floats_on, ends_on}
use Rattle.demands.specs.Example.{minus}
use Rattle.demands.proofs.ExampleLaws.{answers, twelve}
use Rattle.demands.specs.FloatExamples.{steep, rubbish, beyond}

-- ---- it is taken
pub steep-taken : floats_code 12 steep rubbish ≡ 0
unfolding answers block_causes block_code steep rubbish
steep-taken = refl

pub steep-floats : FloatsOn 12 steep rubbish
steep-floats = floats_on 12 steep rubbish steep-taken

-- 536,870,912 / 64 is 2^23, and -1 / 64 is -2^(-6)
pub as_2_to_the_23 : sixty_fourth (pos 536870912) ≡ fin false 1 (pos 23)
unfolding sixty_fourth negative round units odd size span climb
as_2_to_the_23 = refl

pub minus_a_64th : sixty_fourth (minus 1) ≡ fin true 1 (negsuc 5)
unfolding sixty_fourth negative round units odd size span climb
minus_a_64th = refl

-- the last of the six is the first of these
pub last_float : Exactly (float_at (floats_out 12 steep rubbish) 5) (pos 536870912)
last_float = unfold steep in steep-floats.each 5 (lit< tt)

-- and 0 is +0.0
pub zero_float : float_at (floats_out 12 steep rubbish) 1 ≡ plus_zero
zero_float = (steep-floats.each 1 (lit< tt)).zero (unfold steep in refl)

-- ---- the highest and the lowest
pub steep_ends : ends_of 12 steep ≡ record { code = 0; pair = record { highest = sixty_fourth (pos 536870912); lowest = sixty_fourth (minus 536870912) } }
unfolding answers ends_causes ends_code ends_of larger smaller picked highest_of lowest_of steep
steep_ends = refl

pub steep-named : EndsOn 12 steep (ends_of 12 steep)
steep-named = ends_on 12 steep (ap (λ (r : Ends). r.code) steep_ends)

-- the highest is the float that stands at its place among all six
pub highest_there : float_at (floats_out 12 steep rubbish) steep-named.highest.place ≡ (ends_of 12 steep).pair.highest
highest_there = steep-named.highest.same rubbish steep-taken

-- into room for two
pub pair_taken : pair_code 12 steep (nan ∷ nan ∷ []) ≡ 0
unfolding answers block_causes block_code steep
pair_taken = refl

pub into_two : pair_out 12 steep (nan ∷ nan ∷ []) ≡ sixty_fourth (pos 536870912) ∷ sixty_fourth (minus 536870912) ∷ []
into_two = let p = pair_answers 12 steep (nan ∷ nan ∷ []) in (p.both pair_taken).1 ∙ ap (λ (r : Ends). r.pair.highest ∷ r.pair.lowest ∷ []) steep_ends

pub beyond_ends : ends_of 12 beyond ≡ record { code = 3; pair = record { highest = plus_zero; lowest = plus_zero } }
unfolding answers ends_causes ends_code ends_of beyond
beyond_ends = refl

pub room-first : pair_code 12 beyond (nan ∷ []) ≡ 2
room-first = (pair_answers 12 beyond (nan ∷ [])).two_room twelve (λ e. omega (arith, e))
