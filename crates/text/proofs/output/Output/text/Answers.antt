use Rattle.std.proofs.Common.{refl, arith}
use Rattle.std.specs.Prelude.{◌+◌, ◌-◌, length}
use Rattle.text.specs.BufferLaws.{put_length}
use Rattle.text.proofs.OutputLaws.{put_copied}
use Rattle.text.proofs.output.Output.text.Goals as goal

pub returns : goal.returns
returns c =
    let s = c.args.self.now in
    let size = length c.args.text.now in
    let put = put_copied s.bytes.now c.args.text.now c.copy_from_slice.new.self s.at (s.at + size - s.at) (omega arith) (omega arith) c.copy_from_slice.ensures.after in
    record { same = refl; put = put; long = put_length put }
