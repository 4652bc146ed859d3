-- The digits of the number's size, and one byte more for a minus.
use Rattle.std.specs.Prelude.{◌≡◌, length, nat_abs}
use Rattle.std.proofs.Common.{arith, ap, ◌∙◌}
use mir.Facts.{to_z-of_z}
use Rattle.text.specs.Number.{decimal}
use Rattle.text.specs.NumberLaws.{printed-negative, printed-other}
use Rattle.text.specs.RefusalLaws.{decimal_machine}
use Rattle.text.proofs.columns.width.Goals as goal

-- what `digits` counts
pub overflow_add-result : goal.overflow_add-result
overflow_add-result c = omega (arith, c.digits-count.ensures, decimal_machine c.size.result (omega arith))

pub returns-then-v-lt0 : goal.returns-then-v-lt0
returns-then-v-lt0 c =
    let counted : c.digits-count.result ≡ length (decimal (nat_abs c.args.v)) = c.digits-count.ensures ∙ ap (λ n. length (decimal n)) (c.size.ensures ∙ ap nat_abs (to_z-of_z c.ranges.v)) in
    omega (arith, counted, ap length (printed-negative c.args.v (rw (to_z-of_z c.ranges.v) at c.if-v-lt0.true)))

pub returns-else-v-lt0 : goal.returns-else-v-lt0
returns-else-v-lt0 c =
    let counted : c.digits-count.result ≡ length (decimal (nat_abs c.args.v)) = c.digits-count.ensures ∙ ap (λ n. length (decimal n)) (c.size.ensures ∙ ap nat_abs (to_z-of_z c.ranges.v)) in
    omega (arith, counted, ap length (printed-other c.args.v (rw (to_z-of_z c.ranges.v) at c.if-v-lt0.false)))
