-- `lowest` meets its contract: what is picked of the first entries.
use Rattle.std.proofs.Common.{rules, arith, ◌≡◌, ◌∙◌, sym, ap, length, to_z, of_z, to_z-of_z, w32}
use Rattle.std.proofs.Math.Path.{ap₂}
use Rattle.arithmetic.specs.Lists.{at}
use Rattle.floats.specs.Floats.{picked, smaller, lowest_of}
use Rattle.floats.specs.EndLaws.{picked_none, picked_more}
use Rattle.floats.proofs.Picks.{min_is}
use Rattle.floats.proofs.lowest.Goals as goal

pub loop-value-init : goal.loop-value-init
loop-value-init c =
    let first : to_z w32 (of_z w32 (at c.args.x.now 0)) ≡ at c.args.x.now 0 = search rules in
    first ∙ sym (picked_none smaller c.args.x.now)

pub loop-value-preserved : goal.loop-value-preserved
loop-value-preserved c =
    let k = c.loop-value.value-index in
    let x = c.args.x.now in
    let entry : to_z w32 (of_z w32 (at x k)) ≡ at x k = search rules in
    to_z-of_z {w = w32} (record { sfits = c.min-best.type_inv })
    ∙ c.min-best.ensures.value
    ∙ min_is _ _
    ∙ ap₂ smaller c.loop-value.invariant entry
    ∙ sym (picked_more smaller x k)

pub returns : goal.returns
unfolding lowest_of
returns c = let end : c.loop-value.value-index ≡ length c.args.x.now = omega arith in c.loop-value.invariant ∙ ap (picked smaller c.args.x.now) end
