use Rattle.arithmetic.specs.Lists.{table}
use Rattle.cosine.specs.Cosine.{reduced, to_half, to_turn, continued}
use Rattle.cosine.specs.CosineLaws.{table_c}
use Rattle.cosine.specs.Kernels.{s}
use Rattle.cosine.specs.TableLaws.{numbers}
use Rattle.split.specs.TurnLists.{lent, turns_of}
use Rattle.split.proofs.turns_36.Goals as goal

pub invariant_of-result : goal.invariant_of-result
unfolding lent s table table_c continued to_turn to_half reduced numbers
invariant_of-result c = record { is_turns = turns_of 36 }
