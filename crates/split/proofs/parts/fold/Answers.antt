use Rattle.std.specs.Prelude.{◌≡◌, length}
use Rattle.std.proofs.Common.{arith, ◌∙◌, refl, w32}
use Rattle.std.proofs.Math.Facts.{to_z-of_z}
use Rattle.arithmetic.specs.Lists.{at}
use Rattle.arithmetic.specs.ListLaws.{filled_none, filled_more, filled-all}
use Rattle.transform.specs.FoldLaws.{folded}
use Rattle.split.proofs.parts.fold.Goals as goal

pub loop-j-init : goal.loop-j-init
loop-j-init c = filled_none (folded (length c.args.w.now) (at c.args.w.now)) c.args.z.now

pub loop-j-preserved : goal.loop-j-preserved
loop-j-preserved c =
    filled_more (folded (length c.args.w.now) (at c.args.w.now)) c.loop-j.j c.loop-j.z c.args.z.now _ c.loop-j.invariant (omega (arith, c.loop-j.invariant.room))
    (to_z-of_z {w = w32} {z = c.folded_at.result} (record { sfits = c.folded_at.type_inv }) ∙ c.folded_at.ensures)

pub returns : goal.returns
returns c =
    let e : c.loop-j.j ≡ length c.args.z.now = omega (arith, c.loop-j.auto.j-end) in
    filled-all (folded (length c.args.w.now) (at c.args.w.now)) (length c.args.z.now) c.loop-j.z c.args.z.now (rw e at c.loop-j.invariant) refl
