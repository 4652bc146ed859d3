use Rattle.arithmetic.specs.Rounding.{floor}
use Rattle.arithmetic.specs.Lists.{at}
use Rattle.arithmetic.specs.ListLaws.{Filled}
use Rattle.level.specs.Levels.{low_part}
use Rattle.level.proofs.part.Given as goal

abbrev pub invariant-loop-i : goal.invariant-loop-i
invariant-loop-i g l = record {
  high : Filled (λ i. floor (at l.w i) 256) l.i l.high_parts l.initial.high_parts;
  low : Filled (λ i. low_part (at l.w i)) l.i l.low_parts l.initial.low_parts;
}
