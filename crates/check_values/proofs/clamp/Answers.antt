use Rattle.arithmetic.specs.QuotientLaws.{splits, quarters}
use Rattle.check_values.proofs.clamp.Goals as goal

-- 12 is four times 3.
pub sample-requires-clause-splits : goal.sample-requires-clause-splits
unfolding splits quarters
sample-requires-clause-splits g c = tt
