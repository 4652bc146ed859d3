use Rattle.std.proofs.Common.{arith}
use Rattle.arithmetic.specs.QuotientLaws.{splits-few}
use Rattle.check_values.proofs.scale.Goals as goal

-- n is below 217.
pub overflow_mul-n : goal.overflow_mul-n
overflow_mul-n g c = omega (arith, (splits-few c.args.n c.requires).1)
