-- `quarter_turn` meets its contract: the code's table is that of specs/.
use mathlib.Core.Path.{refl}
use Rattle.cosine.specs.TableLaws.{numbers}
use Rattle.cosine.proofs.quarter_turn.Statement.{statement}
use Rattle.cosine.proofs.quarter_turn.Tie as tie

returns : tie.Need-returns
unfolding numbers
returns c = refl

pub quarter_turn_spec : {M : Type 1} → statement M
quarter_turn_spec = tie.close (tie.spec returns)
