use Rattle.std.proofs.Common.{arith, refl, lit<}
use Rattle.level.specs.Spots.{near_12, far_12}
use Rattle.blocks.proofs.Joins.{join_12}
use Rattle.blocks.proofs.Block12WideSumming12.wide_sums.Goals as goal

pub all_of_wide-requires : goal.all_of_wide-requires
unfolding near_12 far_12
all_of_wide-requires c = (lit< tt, (lit< tt, (lit< tt, (refl, ((omega arith, omega arith), (c.requires.small, join_12))))))
