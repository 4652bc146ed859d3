use Rattle.std.proofs.Common.{arith}
use Rattle.cosine.specs.KernelLaws.{falling-size}
use Rattle.check_shares.proofs.fall_size.Goals as goal

pub returns : goal.returns
returns c = grind (arith, falling-size c.args.shape c.args.n c.args.place)
