-- `fill_restored` meets its contract: the first k coefficients are written.
use Rattle.std.proofs.Common.{rules, arith, ◌≡◌, ◌∙◌, sym, ap, ℕ, length, to_z, of_z, w32}
use Rattle.arithmetic.specs.Lists.{at, table}
use Rattle.arithmetic.specs.ListLaws.{filled_none, filled_more, filled-all}
use Rattle.levels.specs.Levels.{back, restored, step_at}
use Rattle.levels.proofs.fill_restored.Goals as goal

pub loop-k-init : goal.loop-k-init
loop-k-init c = filled_none _ _

pub loop-k-preserved : goal.loop-k-preserved
loop-k-preserved c =
    let value : to_z w32 (of_z w32 c.back.result) ≡ back (step_at c.args.steps.now c.loop-k.k) (at c.args.levels.now c.loop-k.k) = search rules in
    filled_more _ c.loop-k.k c.loop-k.out _ (to_z w32 (of_z w32 c.back.result)) c.loop-k.invariant (omega (arith, c.loop-k.invariant.room)) value

pub returns : goal.returns
unfolding restored
returns c =
    let end : c.loop-k.k ≡ length c.args.out.now = omega (arith, c.loop-k.invariant.room) in
    filled-all _ c.loop-k.k c.loop-k.out c.args.out.now c.loop-k.invariant (sym end) ∙ ap (λ (m : ℕ). table m (λ j. back (step_at c.args.steps.now j) (at c.args.levels.now j))) end
