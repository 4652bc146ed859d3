use Rattle.std.proofs.Common.{arith}
use Rattle.text.specs.BufferLaws.{in_room}
use Rattle.table_report.proofs.report.Goals as goal

pub returns : goal.returns
returns c = in_room (omega arith) c.put_report.ensures.puts.put
