use Rattle.std.proofs.Common.{arith, refl, lit<}
use Rattle.level.specs.Spots.{near_108, far_108}
use Rattle.blocks.proofs.Joins.{join_108}
use Rattle.blocks.proofs.Block108Summing108.block_sums.Goals as goal

pub all_by_third-requires : goal.all_by_third-requires
unfolding near_108 far_108
all_by_third-requires c = (lit< tt, (lit< tt, (lit< tt, (refl, ((omega arith, omega arith), (c.requires.small, join_108))))))
