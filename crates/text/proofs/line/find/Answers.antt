use Rattle.std.proofs.Common.{arith, drop, length-drop}
use Rattle.text.specs.LineLaws.{index_of-most}
use Rattle.text.specs.ScanLaws.{rest-is}
use Rattle.text.proofs.line.find.Goals as goal

pub overflow_add-result : goal.overflow_add-result
overflow_add-result c =
    let s = c.args.s.now in
    let i = c.args.from in
    omega (arith, rw (rest-is s i) at c.index_of.ensures, index_of-most c.args.b (drop i s), length-drop i s)
