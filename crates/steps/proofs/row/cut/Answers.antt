-- `cut`: the two commas are where the first two fields end.
use Rattle.std.proofs.Common.{arith, ◌<◌, length}
use Rattle.steps.specs.RowLaws.{a-most, b-most, cut_one, cut_two, cut_three, cut_more}
use Rattle.steps.proofs.row.cut.Goals as goal

pub returns-then-a-line : goal.returns-then-a-line
returns-then-a-line c = cut_one c.args.line.now c.find-a.result c.find-a.ensures c.if-a-line.true

a_less : (c : goal.Else-a-line) → c.find-a.result < length c.args.line.now
a_less c = omega (arith, c.if-a-line.false, a-most c.args.line.now c.find-a.result c.find-a.ensures)

pub overflow_add-a : goal.overflow_add-a
overflow_add-a c = omega (arith, a_less c)

pub find-b-requires : goal.find-b-requires
find-b-requires c = omega (arith, c.if-a-line.false, a-most c.args.line.now c.find-a.result c.find-a.ensures)

pub returns-then-b-line : goal.returns-then-b-line
returns-then-b-line c =
    cut_two c.args.line.now c.find-a.result c.find-a.ensures (omega (arith, c.if-a-line.false, a-most c.args.line.now c.find-a.result c.find-a.ensures)) c.find-b.result c.find-b.ensures c.if-b-line.true

b_less : (c : goal.Else-b-line) → c.find-b.result < length c.args.line.now
b_less c =
    omega
    (arith, c.if-b-line.false, b-most c.args.line.now c.find-a.result c.find-a.ensures (omega (arith, c.if-a-line.false, a-most c.args.line.now c.find-a.result c.find-a.ensures)) c.find-b.result c.find-b.ensures)

pub overflow_add-b : goal.overflow_add-b
overflow_add-b c = omega (arith, b_less c)

pub find-requires : goal.find-requires
find-requires c = omega (arith, b_less c)

pub returns-then-find-line : goal.returns-then-find-line
returns-then-find-line c =
    let x = c.args.line.now in
    let h : c.find-a.result < length x = omega (arith, c.if-a-line.false, a-most x c.find-a.result c.find-a.ensures) in
    let g : c.find-b.result < length x = omega (arith, c.if-b-line.false, b-most x c.find-a.result c.find-a.ensures h c.find-b.result c.find-b.ensures) in
    cut_three x c.find-a.result c.find-a.ensures h c.find-b.result c.find-b.ensures g c.find.result c.find.ensures c.if-find-line.true

pub returns : goal.returns
returns c =
    let x = c.args.line.now in
    let h : c.find-a.result < length x = omega (arith, c.if-a-line.false, a-most x c.find-a.result c.find-a.ensures) in
    let g : c.find-b.result < length x = omega (arith, c.if-b-line.false, b-most x c.find-a.result c.find-a.ensures h c.find-b.result c.find-b.ensures) in
    cut_more x c.find-a.result c.find-a.ensures h c.find-b.result c.find-b.ensures g c.find.result c.find.ensures c.if-find-line.false
