use Rattle.std.proofs.Common.{arith, refl, lit<}
use Rattle.level.specs.Spots.{near_36, far_36}
use Rattle.blocks.proofs.Joins.{join_36}
use Rattle.blocks.proofs.Block36WideSumming36.wide_sums.Goals as goal

pub all_of_wide-requires : goal.all_of_wide-requires
unfolding near_36 far_36
all_of_wide-requires c = (lit< tt, (lit< tt, (lit< tt, (refl, ((omega arith, omega arith), (c.requires.small, join_36))))))
