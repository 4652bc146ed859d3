use Rattle.std.proofs.Common.{arith, refl, lit<}
use Rattle.level.specs.Spots.{near_6, far_6}
use Rattle.blocks.proofs.Joins.{join_6}
use Rattle.blocks.proofs.Block6WideSumming6.wide_sums.Goals as goal

pub all_of_wide-requires : goal.all_of_wide-requires
unfolding near_6 far_6
all_of_wide-requires c = (lit< tt, (lit< tt, (lit< tt, (refl, ((omega arith, omega arith), (c.requires.small, join_6))))))
