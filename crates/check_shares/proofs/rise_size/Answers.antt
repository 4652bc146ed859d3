use Rattle.std.proofs.Common.{arith}
use Rattle.cosine.specs.KernelLaws.{rising-size}
use Rattle.check_shares.proofs.rise_size.Goals as goal

pub returns : goal.returns
returns c = grind (arith, rising-size c.args.shape c.args.n c.args.place)
