-- `gather` meets its contract: the first k coefficients are taken.
use Rattle.std.proofs.Common.{rules, arith, ◌≡◌, refl, ◌*◌, ◌<◌, length, mul-le-mul, to_z, of_z, w32}
use Rattle.arithmetic.specs.Lists.{at}
use Rattle.arithmetic.specs.ListLaws.{filled_none, filled_more, filled-all}
use Rattle.orders.specs.Orders.{place, part}
use Rattle.orders.specs.OrderLaws.{place-less}
use Rattle.orders.proofs.gather.Goals as goal

pub loop-k-init : goal.loop-k-init
loop-k-init c = filled_none _ _

pub offset_bounds-x-place : goal.offset_bounds-x-place
offset_bounds-x-place c =
    let lies : c.place.result < c.args.blocks * length c.args.block.now = rw c.place.ensures (place-less (length c.args.block.now) c.args.blocks c.args.b c.loop-k.k (omega (arith, c.requires.2)) c.loop-k-test.true c.args.order) in
    record { fits = omega (arith, mul-le-mul c.requires.1 c.requires.0) }

pub bounds-x-place : goal.bounds-x-place
bounds-x-place c =
    let lies : c.place.result < c.args.blocks * length c.args.block.now = rw c.place.ensures (place-less (length c.args.block.now) c.args.blocks c.args.b c.loop-k.k (omega (arith, c.requires.2)) c.loop-k-test.true c.args.order) in
    omega (arith, c.requires.3)

pub loop-k-preserved : goal.loop-k-preserved
loop-k-preserved c =
    let value : to_z w32 (of_z w32 (at c.args.x.now c.place.result)) ≡ at c.args.x.now (place c.args.order (length c.args.block.now) c.args.blocks c.args.b c.loop-k.k) = search rules in
    filled_more _ c.loop-k.k c.loop-k.block _ _ c.loop-k.invariant (omega (arith, c.loop-k.invariant.room)) value

pub returns : goal.returns
unfolding part
returns c =
    let end : c.loop-k.k ≡ length c.args.block.now = omega (arith, c.loop-k.invariant.room) in
    filled-all _ (length c.args.block.now) c.loop-k.block c.args.block.now (rw end at c.loop-k.invariant) refl
