use Rattle.std.proofs.Common.{refl, length-set}
use Rattle.text.specs.BufferLaws.{put_byte}
use Rattle.text.proofs.output.Output.byte.Goals as goal

pub returns : goal.returns
returns c =
    let s = c.args.self.now in
    record { same = refl; put = put_byte c.args.b; long = length-set s.bytes.now s.at c.args.b }
