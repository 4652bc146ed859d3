use Rattle.std.proofs.Common.{arith, refl, lit<}
use Rattle.arithmetic.specs.Lists.{table}
use Rattle.cosine.specs.Cosine.{reduced, to_half, to_turn, continued}
use Rattle.cosine.specs.CosineLaws.{table_c}
use Rattle.cosine.specs.TableLaws.{numbers}
use Rattle.level.specs.Spots.{near_36, far_36, near_108, far_108}
use Rattle.level.proofs.Tested.{level_of, pairs_108, tabled_plus, tabled_minus, read_kernel}
use Rattle.blocks.proofs.Block108Pairing10836.pair_sums.Goals as goal

pub by_third-requires : goal.by_third-requires
unfolding tabled_plus tabled_minus table read_kernel table_c continued to_turn to_half reduced numbers near_108 far_108
by_third-requires c =
    (lit< tt, (lit< tt, (lit< tt, (refl, ((omega arith, lit< tt, omega arith), (c.requires.small, level_of 36 12 near_108 far_108 near_36 far_36 refl refl pairs_108))))))

pub returns-clause-sums : goal.returns-clause-sums
unfolding near_108 far_108
returns-clause-sums c = c.by_third.ensures.sums

pub returns-clause-differences : goal.returns-clause-differences
unfolding near_108 far_108
returns-clause-differences c = c.by_third.ensures.differences
