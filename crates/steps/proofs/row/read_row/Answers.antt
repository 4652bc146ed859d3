-- `read_row`: the fields are the parts of the line that `cut` leaves.
use Rattle.std.proofs.Common.{◌∙◌, ◌+◌, ap, List, ℕ}
use Rattle.text.specs.LineLaws.{part}
use Rattle.text.specs.ScanLaws.{rest-is}
use Rattle.steps.specs.Table.{numbers_of}
use Rattle.steps.specs.RowLaws.{row-none, row-some, first_part}
use Rattle.steps.proofs.row.read_row.Goals as goal

pub returns-in_err-a : goal.returns-in_err-a
returns-in_err-a c = rw c.from_residual.ensures (row-none c.args.m c.args.line.now c.in_err-a.ensures)

pub returns : goal.returns
returns c =
    let x = c.args.line.now in
    let k = c.in_ok-a.field-0 in
    c.numbers.ensures
    ∙ rw (first_part x k.a) (ap (λ (l : List ℕ). numbers_of c.args.m (part x 0 k.a) (part x (k.a + 1) k.b) l) (rest-is x (k.b + 1)))
    ∙ row-some c.args.m x k c.in_ok-a.ensures
