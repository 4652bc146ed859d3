use Rattle.std.proofs.Common.{w64}
use Rattle.std.proofs.Math.Facts.{to_z-of_z}
use Rattle.level.proofs.Wide.{whole_fits, high_times}
use Rattle.level.proofs.whole.Goals as goal

pub overflow_mul-result : goal.overflow_mul-result
overflow_mul-result c = rw (to_z-of_z c.ranges.high) (high_times c.args.high c.requires.high)

pub overflow_add-result : goal.overflow_add-result
overflow_add-result c =
    rw (to_z-of_z c.ranges.high, to_z-of_z c.ranges.low, to_z-of_z {w = w64} (high_times c.args.high c.requires.high)) (whole_fits c.args.high c.args.low c.requires.high c.requires.low)

pub returns : goal.returns
returns c =
    rw (to_z-of_z c.ranges.high, to_z-of_z c.ranges.low, to_z-of_z {w = w64} (high_times c.args.high c.requires.high)) (to_z-of_z {w = w64} (whole_fits c.args.high c.args.low c.requires.high c.requires.low))
