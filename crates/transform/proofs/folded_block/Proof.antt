-- `folded_block` meets its contract: the halves that are lent are those of the block's joints.
use native.Mathlib.Omega.{arith}
use lib.ListN.{length}
use Rattle.windows.specs.HalfLaws.{lent_halves}
use Rattle.transform.specs.DirectLaws.{folded-step}
use Rattle.transform.specs.Stages.{Folded, folded_ready}
use borrow.Author.Rules.{rules}
use Rattle.transform.proofs.folded_block.Statement.{statement}
use Rattle.transform.proofs.folded_block.Tie as tie

fold_requires : tie.Need-fold-requires
fold_requires c κs =
    let s = c.before in
    let n = s.args.n in
    let q = s.requires in
    let w = q.0.whole.twelve in
    (lent_halves n s.args.joints.left s.args.joints.right (length s.args.z.now) s.args.rise.now s.args.fall.now q.0 q.1.1, (omega (arith, q.1.0, q.1.1, w), omega (arith, q.1.1, w)))

same_length : tie.Need-shape_of-z
same_length c = search rules

returns : tie.Need-returns
returns c =
    let f = c.before in
    let s = f.before.before in
    let q = s.requires in
    let is = folded-step s.args.n s.args.joints.left s.args.joints.right q.0.whole s.args.x.now (length s.args.z.now) s.args.rise.now s.args.fall.now _ q.1.1 q.0.rise q.0.fall f.fold.ensures.0 in
    let made : Folded s.args.n s.args.joints.left s.args.joints.right s.args.x.now f.fold.new.z = record { whole = q.0.whole; is = is; small = f.fold.ensures.1 } in
    (made, folded_ready s.args.n s.args.joints.left s.args.joints.right s.args.x.now _ made)

pub folded_block_spec : {M : Type 1} → statement M
folded_block_spec = tie.close (tie.spec fold_requires same_length returns)
