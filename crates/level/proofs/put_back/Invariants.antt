use Rattle.arithmetic.specs.ListLaws.{Filled}
use Rattle.level.specs.Levels.{place_at}
use Rattle.level.specs.Places.{signed_at}
use Rattle.level.proofs.put_back.Given as goal

abbrev pub invariant-loop-j : goal.invariant-loop-j
invariant-loop-j g l = Filled (λ j. signed_at l.u (place_at l.of j)) l.j l.t l.initial.t
