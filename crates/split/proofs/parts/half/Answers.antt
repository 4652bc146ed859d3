use Rattle.std.proofs.Common.{◌∙◌, w64}
use Rattle.std.proofs.Math.Facts.{to_z-of_z}
use Rattle.arithmetic.specs.OrderLaws.{sfits_shr}
use Rattle.arithmetic.specs.RoundingLaws.{floor_shr}
use Rattle.split.proofs.parts.half.Goals as goal

pub returns : goal.returns
returns c = rw (to_z-of_z c.ranges.sum) (to_z-of_z {w = w64} (sfits_shr c.args.sum 2 c.ranges.sum) ∙ floor_shr c.args.sum 2)
