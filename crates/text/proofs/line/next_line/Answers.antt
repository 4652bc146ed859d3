use Rattle.std.proofs.Common.{arith, sym}
use Rattle.text.specs.Bytes.{line_feed}
use Rattle.text.specs.LineLaws.{end-most, next-is}
use Rattle.text.proofs.line.next_line.Goals as goal

pub overflow_add-result : goal.overflow_add-result
overflow_add-result c = omega (arith, end-most line_feed c.args.input.now c.args.at c.find.result c.requires c.find.ensures)

pub returns : goal.returns
returns c = sym (next-is c.args.input.now c.args.at c.find.result c.find.ensures)
