-- `fresh` meets its contract: a tail of zeros.
use mathlib.Core.Path.{refl}
use Rattle.stream.specs.Synthesis.{fresh}
use Rattle.stream.proofs.fresh.Statement.{statement}
use Rattle.stream.proofs.fresh.Tie as tie

returns : tie.Need-returns
unfolding fresh
returns c = refl

pub fresh_spec : {M : Type 1} → statement M
fresh_spec = tie.close (tie.spec returns)
