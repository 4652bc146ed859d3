use Rattle.std.specs.Prelude.{◌^◌}
use Rattle.arithmetic.specs.Rounding.{rnd}
use Rattle.arithmetic.specs.Lists.{at}
use Rattle.arithmetic.specs.ListLaws.{Filled}
use Rattle.transform.proofs.rounding.spectrum.Given as goal

abbrev pub invariant-loop-i : goal.invariant-loop-i
invariant-loop-i l = Filled (λ i. rnd (at l.t i) (2 ^ l.k)) l.i l.out l.initial.out
