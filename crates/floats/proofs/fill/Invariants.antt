use Rattle.arithmetic.specs.Lists.{at}
use Rattle.arithmetic.specs.ListLaws.{Filled}
use Rattle.floats.specs.Floats.{sixty_fourth}
use Rattle.floats.proofs.fill.Given as goal

abbrev pub invariant-loop-k : goal.invariant-loop-k
invariant-loop-k l = Filled (λ j. sixty_fourth (at l.x j)) l.k l.out l.initial.out
