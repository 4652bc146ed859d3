-- `numbers`: a step is at most 65,536.
use Rattle.std.proofs.Common.{arith, ◌≤◌}
use Rattle.std.specs.Prelude.{nat_abs}
use Rattle.std.proofs.lemmas.Grind.{common_steps}
use Rattle.steps.specs.RowLaws.{within_size}
use Rattle.steps.proofs.row.numbers.Goals as goal

pub overflow_cast-result : goal.overflow_cast-result
overflow_cast-result c =
    let h : nat_abs c.in_ok-step.step ≤ 65536 = within_size _ 65536 _ c.in_ok-step.step c.in_ok-step.ensures in
    grind (arith, common_steps, h)
