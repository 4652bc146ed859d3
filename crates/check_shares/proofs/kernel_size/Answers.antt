use Rattle.std.proofs.Common.{arith}
use Rattle.cosine.specs.KernelLaws.{K-size}
use Rattle.check_shares.proofs.kernel_size.Goals as goal

pub returns : goal.returns
returns c = grind (arith, K-size c.args.n c.args.i c.args.k)
