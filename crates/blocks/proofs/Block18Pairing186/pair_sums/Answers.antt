use Rattle.std.proofs.Common.{arith, refl, lit<}
use Rattle.arithmetic.specs.Lists.{table}
use Rattle.cosine.specs.Cosine.{reduced, to_half, to_turn, continued}
use Rattle.cosine.specs.CosineLaws.{table_c}
use Rattle.cosine.specs.TableLaws.{numbers}
use Rattle.level.specs.Spots.{near_6, far_6, near_18, far_18}
use Rattle.level.proofs.Tested.{level_of, pairs_18, tabled_plus, tabled_minus, read_kernel}
use Rattle.blocks.proofs.Block18Pairing186.pair_sums.Goals as goal

pub by_third-requires : goal.by_third-requires
unfolding tabled_plus tabled_minus table read_kernel table_c continued to_turn to_half reduced numbers near_18 far_18
by_third-requires c =
    (lit< tt, (lit< tt, (lit< tt, (refl, ((omega arith, lit< tt, omega arith), (c.requires.small, level_of 6 2 near_18 far_18 near_6 far_6 refl refl pairs_18))))))

pub returns-clause-sums : goal.returns-clause-sums
unfolding near_18 far_18
returns-clause-sums c = c.by_third.ensures.sums

pub returns-clause-differences : goal.returns-clause-differences
unfolding near_18 far_18
returns-clause-differences c = c.by_third.ensures.differences
