use Rattle.std.proofs.Common.{arith, refl, lit<, ◌∙◌}
use Rattle.arithmetic.specs.Lists.{every}
use Rattle.cosine.specs.Kernels.{lengths, tabled}
use Rattle.cosine.specs.LengthLaws.{tabled_length, last-length}
use Rattle.transform.specs.DirectLaws.{direct-at}
use Rattle.direct_bodies.proofs.analyse.Goals as goal

pub direct-requires : goal.direct-requires
unfolding tabled every lengths
direct-requires c =
    let e = c.if-n-eq12.true in
    (lit< tt, (tabled_length 12 tt, (refl, (c.requires.1 ∙ e, c.requires.2 ∙ omega (arith, e)))))

pub direct-requires-then-n-eq24 : goal.direct-requires-then-n-eq24
unfolding tabled every lengths
direct-requires-then-n-eq24 c =
    let e = c.if-n-eq24.true in
    (lit< tt, (tabled_length 24 tt, (refl, (c.requires.1 ∙ e, c.requires.2 ∙ omega (arith, e)))))

pub direct-requires-then-n-eq36 : goal.direct-requires-then-n-eq36
unfolding tabled every lengths
direct-requires-then-n-eq36 c =
    let e = c.if-n-eq36.true in
    (lit< tt, (tabled_length 36 tt, (refl, (c.requires.1 ∙ e, c.requires.2 ∙ omega (arith, e)))))

pub direct-requires-then-n-eq72 : goal.direct-requires-then-n-eq72
unfolding tabled every lengths
direct-requires-then-n-eq72 c =
    let e = c.if-n-eq72.true in
    (lit< tt, (tabled_length 72 tt, (refl, (c.requires.1 ∙ e, c.requires.2 ∙ omega (arith, e)))))

pub direct-requires-then-n-eq108 : goal.direct-requires-then-n-eq108
unfolding tabled every lengths
direct-requires-then-n-eq108 c =
    let e = c.if-n-eq108.true in
    (lit< tt, (tabled_length 108 tt, (refl, (c.requires.1 ∙ e, c.requires.2 ∙ omega (arith, e)))))

pub direct-requires-else-n-eq108 : goal.direct-requires-else-n-eq108
unfolding tabled every lengths
direct-requires-else-n-eq108 c =
    let e = last-length c.args.n c.requires.0 c.if-n-eq12.false c.if-n-eq24.false c.if-n-eq36.false c.if-n-eq72.false c.if-n-eq108.false in
    (lit< tt, (tabled_length 216 tt, (refl, (c.requires.1 ∙ e, c.requires.2 ∙ omega (arith, e)))))

pub returns-else-n-eq108 : goal.returns-else-n-eq108
returns-else-n-eq108 c =
    let e = last-length c.args.n c.requires.0 c.if-n-eq12.false c.if-n-eq24.false c.if-n-eq36.false c.if-n-eq72.false c.if-n-eq108.false in
    direct-at c.args.n 216 c.args.joints.left c.args.joints.right c.args.x.now c.direct-else-n-eq108.new.out e c.direct-else-n-eq108.ensures
