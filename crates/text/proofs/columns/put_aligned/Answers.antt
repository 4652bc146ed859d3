-- Blanks up to where the number starts, and the number, which ends where the columns end.
use Rattle.std.specs.Prelude.{◌≡◌, ◌-◌, ◌≤◌, length, replicate}
use Rattle.std.proofs.Common.{rules, arith, ap, ◌∙◌, length-take-le}
use mir.Facts.{to_z-of_z}
use Rattle.text.specs.Bytes.{blank}
use Rattle.text.specs.Number.{printed}
use Rattle.text.specs.ColumnLaws.{put_columns}
use Rattle.text.proofs.columns.put_aligned.Goals as goal

pub returns : goal.returns
returns c =
    let text = printed c.args.v in
    let columns = c.args.out.now in
    let wide : c.width.result ≡ length text = c.width.ensures ∙ ap (λ z. length (printed z)) (to_z-of_z c.ranges.v) in
    let place = length columns - c.width.result in
    let inside : place ≤ length columns = omega arith in
    let blanks = c.put_blanks.ensures ∙ ap (λ n. replicate n blank) (length-take-le place columns inside) in
    ◌∙◌ {b = c.number.new.self.bytes.now} (search rules) (put_columns text columns place (omega arith) (rw (to_z-of_z c.ranges.v, blanks) at c.number.ensures.put))
