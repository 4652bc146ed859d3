-- `double_block` meets its contract: the double route depends on the block windowed as the tables lend it.
use mathlib.Core.Path.{◌∙◌}
use native.Mathlib.Omega.{arith}
use borrow.Author.Rules.{rules}
use Rattle.double_route.specs.StepLaws.{block_is}
use Rattle.double_route.proofs.double_block.Statement.{statement}
use Rattle.double_route.proofs.double_block.Tie as tie

analyse_requires : tie.Need-analyse-requires
analyse_requires c κs =
    let s = c.before in
    let q = s.requires in
    let g = q.1.0.given in
    (rw g.all q.0, (g.small, q.1.1 ∙ omega (arith, g.all)))

same_length : tie.Need-shape_of-out
same_length c = search rules

returns : tie.Need-returns
returns c =
    let s = c.before.before.before in
    let w = s.requires.1.0 in
    block_is s.args.n s.args.joints.left s.args.joints.right w.given.whole s.args.x.now s.args.block.now w.given.all w.is _ c.before.analyse.ensures

pub double_block_spec : {M : Type 1} → statement M
double_block_spec = tie.close (tie.spec analyse_requires same_length returns)
