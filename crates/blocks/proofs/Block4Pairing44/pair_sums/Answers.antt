use Rattle.std.proofs.Common.{arith, lit<}
use Rattle.arithmetic.specs.Lists.{table}
use Rattle.cosine.specs.Cosine.{reduced, to_half, to_turn, continued}
use Rattle.cosine.specs.CosineLaws.{table_c}
use Rattle.cosine.specs.TableLaws.{numbers}
use Rattle.level.specs.Spots.{near_4, far_4}
use Rattle.level.proofs.Tested.{doubled_is, tabled_doubled, read_kernel}
use Rattle.blocks.proofs.Block4Pairing44.pair_sums.Goals as goal

pub by_itself-requires : goal.by_itself-requires
unfolding tabled_doubled table read_kernel table_c continued to_turn to_half reduced numbers
by_itself-requires c =
    (lit< tt, (lit< tt, (lit< tt, ((lit< tt, omega arith), (record { small = λ i p. omega (arith, c.requires.small.small i p) }, doubled_is 4)))))

pub returns-clause-sums : goal.returns-clause-sums
unfolding table near_4 far_4
returns-clause-sums c = c.by_itself.ensures.sums

pub returns-clause-differences : goal.returns-clause-differences
unfolding table near_4 far_4
returns-clause-differences c = c.by_itself.ensures.differences
