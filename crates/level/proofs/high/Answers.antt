use Rattle.std.proofs.Common.{◌∙◌, w32}
use Rattle.std.proofs.Math.Facts.{to_z-of_z}
use Rattle.arithmetic.specs.OrderLaws.{sfits_shr}
use Rattle.arithmetic.specs.RoundingLaws.{floor_shr}
use Rattle.level.proofs.high.Goals as goal

pub returns : goal.returns
returns c = rw (to_z-of_z c.ranges.x) (to_z-of_z {w = w32} (sfits_shr c.args.x 256 c.ranges.x) ∙ floor_shr c.args.x 256)
