use Rattle.std.proofs.Common.{arith, refl, lit<}
use Rattle.arithmetic.specs.Lists.{table}
use Rattle.cosine.specs.Cosine.{reduced, to_half, to_turn, continued}
use Rattle.cosine.specs.CosineLaws.{table_c}
use Rattle.cosine.specs.TableLaws.{numbers}
use Rattle.level.specs.Spots.{near_18, far_18, near_54, far_54}
use Rattle.level.proofs.Tested.{level_of, pairs_54, tabled_plus, tabled_minus, read_kernel}
use Rattle.blocks.proofs.Block54Pairing5418.pair_sums.Goals as goal

pub by_third-requires : goal.by_third-requires
unfolding tabled_plus tabled_minus table read_kernel table_c continued to_turn to_half reduced numbers near_54 far_54
by_third-requires c =
    (lit< tt, (lit< tt, (lit< tt, (refl, ((omega arith, lit< tt, omega arith), (c.requires.small, level_of 18 6 near_54 far_54 near_18 far_18 refl refl pairs_54))))))

pub returns-clause-sums : goal.returns-clause-sums
unfolding near_54 far_54
returns-clause-sums c = c.by_third.ensures.sums

pub returns-clause-differences : goal.returns-clause-differences
unfolding near_54 far_54
returns-clause-differences c = c.by_third.ensures.differences
