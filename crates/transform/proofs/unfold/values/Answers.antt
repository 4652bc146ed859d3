use Rattle.std.specs.Prelude.{◌≡◌, length}
use Rattle.std.proofs.Common.{arith, ◌∙◌, refl, w64}
use Rattle.std.proofs.Math.Facts.{to_z-of_z}
use Rattle.arithmetic.specs.ListLaws.{filled_none, filled_more, filled-all}
use Rattle.transform.specs.InverseLaws.{value_at}
use Rattle.transform.proofs.unfold.values.Goals as goal

pub loop-n-init : goal.loop-n-init
loop-n-init c = filled_none (value_at c.args.rise.now c.args.fall.now c.args.t.now) c.args.v.now

pub loop-n-preserved : goal.loop-n-preserved
loop-n-preserved c =
    filled_more (value_at c.args.rise.now c.args.fall.now c.args.t.now) c.loop-n.n c.loop-n.v c.args.v.now _ c.loop-n.invariant (omega (arith, c.loop-n.invariant.room))
    (to_z-of_z {w = w64} {z = c.value.result} (record { sfits = c.value.type_inv }) ∙ c.value.ensures)

pub returns : goal.returns
returns c =
    let e : c.loop-n.n ≡ length c.args.v.now = omega (arith, c.loop-n.auto.n-end) in
    filled-all (value_at c.args.rise.now c.args.fall.now c.args.t.now) (length c.args.v.now) c.loop-n.v c.args.v.now (rw e at c.loop-n.invariant) refl
