-- `bounded_number`: a bounded number can be read.
use Rattle.std.proofs.Common.{sym, ◌∙◌}
use mir.Facts.{to_z-of_z}
use Rattle.steps.specs.RowLaws.{bounded-number}
use Rattle.steps.proofs.row.bounded_number.Goals as goal

pub value-requires : goal.value-requires
value-requires c =
    let a = c.args in
    let fits = c.is_bounded.ensures in
    bounded-number a.least a.most a.field.now (rw (to_z-of_z c.ranges.least, to_z-of_z c.ranges.most) at (sym fits ∙ c.if-is_bounded.true))
