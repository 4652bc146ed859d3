use Rattle.std.proofs.Common.{arith, refl, lit<}
use Rattle.level.specs.Spots.{near_36, far_36}
use Rattle.blocks.proofs.Joins.{join_36}
use Rattle.blocks.proofs.Block36Summing36.block_sums.Goals as goal

pub all_by_third-requires : goal.all_by_third-requires
unfolding near_36 far_36
all_by_third-requires c = (lit< tt, (lit< tt, (lit< tt, (refl, ((omega arith, omega arith), (c.requires.small, join_36))))))
