-- `put_band` meets its contract: the first j entries are put.
use Rattle.std.proofs.Common.{rules, arith, ◌≡◌, ◌+◌, ◌*◌, to_z, of_z, w32}
use Rattle.arithmetic.specs.Lists.{at}
use Rattle.arithmetic.specs.ListLaws.{filled_none, filled_more}
use Rattle.orders.proofs.put_band.Goals as goal

pub loop-j-init : goal.loop-j-init
loop-j-init c = filled_none _ _

pub loop-j-preserved : goal.loop-j-preserved
loop-j-preserved c =
    let value : to_z w32 (of_z w32 (at c.args.tile.now (c.loop-j.j * c.args.m + c.args.k))) ≡ at c.args.tile.now (c.loop-j.j * c.args.m + c.args.k) = search rules in
    filled_more _ c.loop-j.j c.loop-j.out _ _ c.loop-j.invariant (omega (arith, c.loop-j.invariant.room)) value
