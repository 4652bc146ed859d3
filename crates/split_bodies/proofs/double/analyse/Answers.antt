use Rattle.std.proofs.Common.{arith, refl, lit<, lit≤, ◌∙◌}
use Rattle.arithmetic.specs.Lists.{every}
use Rattle.cosine.specs.Kernels.{lengths, tabled}
use Rattle.cosine.specs.LengthLaws.{tabled_length}
use Rattle.double_route.specs.Double.{offered}
use Rattle.split_bodies.specs.DoubleLaws.{last-double, double-at}
use Rattle.split_bodies.proofs.double.analyse.Goals as goal

pub double_of-requires : goal.double_of-requires
unfolding tabled every lengths offered
double_of-requires c =
    let e = c.if-n-eq36.true in
    (lit< tt, (tabled_length 36 tt, ((refl, lit≤ tt), (tt, (c.requires.1 ∙ e, c.requires.2 ∙ omega (arith, e))))))

pub double_of-requires-else-n-eq36 : goal.double_of-requires-else-n-eq36
unfolding tabled every lengths offered
double_of-requires-else-n-eq36 c =
    let e = last-double c.args.n c.requires.0 c.if-n-eq36.false in
    (lit< tt, (tabled_length 72 tt, ((refl, lit≤ tt), (tt, (c.requires.1 ∙ e, c.requires.2 ∙ omega (arith, e))))))

pub returns-else-n-eq36 : goal.returns-else-n-eq36
returns-else-n-eq36 c =
    let e = last-double c.args.n c.requires.0 c.if-n-eq36.false in
    double-at c.args.n 72 c.args.joints.left c.args.joints.right c.args.x.now c.double_of-else-n-eq36.new.out e c.double_of-else-n-eq36.ensures
