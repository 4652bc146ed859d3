-- `coarsest`: each line that is read is the next one of a table that is taken.
use Rattle.std.proofs.Common.{arith, ap, ◌∙◌}
use Rattle.steps.specs.TakenLaws.{left-next}
use Rattle.steps.specs.Table.{larger}
use Rattle.steps.specs.StepLaws.{larger_max}
use Rattle.steps.specs.PassLaws.{coarse_whole, coarse_next, coarse_end}
use Rattle.steps.proofs.coarsest.Goals as goal

pub loop-at-init : goal.loop-at-init
loop-at-init c = coarse_whole c.args.m c.args.table.now c.requires.table_taken

pub slice_bounds-step_of-end : goal.slice_bounds-step_of-end
slice_bounds-step_of-end c =
    let l = c.loop-at in
    omega (arith, (left-next l.invariant.left c.find-end.result c.loop-at-test.true c.find-end.ensures).ended)

pub loop-at-preserved : goal.loop-at-preserved
loop-at-preserved c =
    let l = c.loop-at in
    let n = left-next l.invariant.left c.find-end.result c.loop-at-test.true c.find-end.ensures in
    rw (c.max-most.ensures ∙ larger_max l.most c.step_of.result ∙ ap (larger l.most) c.step_of.ensures) (coarse_next l.invariant n)

pub returns : goal.returns
returns c = coarse_end c.loop-at.invariant c.loop-at-test.false
