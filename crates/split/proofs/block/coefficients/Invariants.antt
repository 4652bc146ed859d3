use Rattle.std.specs.Prelude.{◌*◌}
use Rattle.arithmetic.specs.ListLaws.{Filled}
use Rattle.split.specs.ShortStepLaws.{interleaved}
use Rattle.split.proofs.block.coefficients.Given as goal

abbrev pub invariant-loop-k : goal.invariant-loop-k
invariant-loop-k l = Filled (interleaved l.a l.plus l.minus) (3 * l.k) l.out l.initial.out
