use Rattle.std.proofs.Common.{arith, refl, lit<}
use Rattle.arithmetic.specs.Lists.{table}
use Rattle.cosine.specs.Cosine.{reduced, to_half, to_turn, continued}
use Rattle.cosine.specs.CosineLaws.{table_c}
use Rattle.cosine.specs.TableLaws.{numbers}
use Rattle.level.specs.Spots.{near_2, far_2, near_6, far_6}
use Rattle.level.proofs.Tested.{level_of, pairs_6, tabled_plus, tabled_minus, read_kernel}
use Rattle.blocks.proofs.Block6Pairing62.pair_sums.Goals as goal

pub by_third-requires : goal.by_third-requires
unfolding tabled_plus tabled_minus table read_kernel table_c continued to_turn to_half reduced numbers near_6 far_6
by_third-requires c =
    (lit< tt, (lit< tt, (lit< tt, (refl, ((omega arith, lit< tt, omega arith), (c.requires.small, level_of 2 2 near_6 far_6 near_2 far_2 refl refl pairs_6))))))

pub returns-clause-sums : goal.returns-clause-sums
unfolding near_6 far_6
returns-clause-sums c = c.by_third.ensures.sums

pub returns-clause-differences : goal.returns-clause-differences
unfolding near_6 far_6
returns-clause-differences c = c.by_third.ensures.differences
