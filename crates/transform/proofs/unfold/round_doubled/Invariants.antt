use Rattle.std.specs.Prelude.{◌^◌}
use Rattle.arithmetic.specs.Rounding.{rnd}
use Rattle.arithmetic.specs.Lists.{at}
use Rattle.arithmetic.specs.ListLaws.{Filled}
use Rattle.transform.proofs.unfold.round_doubled.Given as goal

abbrev pub invariant-loop-sum : goal.invariant-loop-sum
invariant-loop-sum l = Filled (λ j. rnd (at l.initial.t j) (2 ^ 27)) l.sum-index l.t l.initial.t
