-- The digits of the number's size, behind a minus where it is below 0.
use Rattle.std.proofs.Common.{arith, ◌≡◌, ap, length, ◌∙◌}
use Rattle.std.specs.Prelude.{nat_abs}
use mir.Facts.{to_z-of_z}
use Rattle.text.specs.NumberLaws.{printed-negative, printed-other}
use Rattle.text.proofs.OutputLaws.{puts_then}
use Rattle.text.proofs.output.Output.number.Goals as goal
use Rattle.text.proofs.output.Output.number.Goals.{then-v-lt0, else-v-lt0}

pub byte-requires : goal.byte-requires
byte-requires c = omega (arith, ap length (printed-negative c.args.v (rw (to_z-of_z c.ranges.v) at c.if-v-lt0.true)))

pub digits-requires : goal.digits-requires
digits-requires c =
    let size : c.size.result ≡ nat_abs c.args.v = c.size.ensures ∙ ap nat_abs (to_z-of_z c.ranges.v) in
    elim c.if-v-lt0.branch [
      | then-v-lt0 w ↦ rw (w.self-is, size) (omega (arith, ap length (printed-negative c.args.v (rw (to_z-of_z c.ranges.v) at w.if-v-lt0.true)), w.byte.ensures.put.behind, w.byte.ensures.long))
      | else-v-lt0 w ↦ rw (w.self-is, size) (omega (arith, ap length (printed-other c.args.v (rw (to_z-of_z c.ranges.v) at w.if-v-lt0.false))))
    ]

pub returns : goal.returns
returns c =
    let size : c.size.result ≡ nat_abs c.args.v = c.size.ensures ∙ ap nat_abs (to_z-of_z c.ranges.v) in
    elim c.if-v-lt0.branch [
      | then-v-lt0 w ↦ rw (printed-negative c.args.v (rw (to_z-of_z c.ranges.v) at w.if-v-lt0.true)) (puts_then w.byte.ensures (rw (size, w.self-is) at c.digits.ensures))
      | else-v-lt0 w ↦ rw (printed-other c.args.v (rw (to_z-of_z c.ranges.v) at w.if-v-lt0.false)) (rw (size, w.self-is) at c.digits.ensures)
    ]
