use Rattle.std.proofs.Common.{arith, refl, lit<, lit≤, ◌∙◌}
use Rattle.arithmetic.specs.Lists.{every}
use Rattle.cosine.specs.Kernels.{lengths, tabled}
use Rattle.cosine.specs.LengthLaws.{tabled_length, last-short}
use Rattle.split.specs.OfferLaws.{offered-short}
use Rattle.split.specs.ShortStepLaws.{short-at}
use Rattle.split_bodies.proofs.short.analyse.Goals as goal

pub short_block-requires : goal.short_block-requires
unfolding tabled every lengths
short_block-requires c =
    let e = c.if-n-eq12.true in
    (lit< tt, (lit< tt, (tabled_length 12 tt, ((refl, lit≤ tt), ((refl, refl, lit≤ tt), (c.requires.1 ∙ e, c.requires.2 ∙ omega (arith, e)))))))

pub short_block-requires-then-n-eq24 : goal.short_block-requires-then-n-eq24
unfolding tabled every lengths
short_block-requires-then-n-eq24 c =
    let e = c.if-n-eq24.true in
    (lit< tt, (lit< tt, (tabled_length 24 tt, ((refl, lit≤ tt), ((refl, refl, lit≤ tt), (c.requires.1 ∙ e, c.requires.2 ∙ omega (arith, e)))))))

pub short_block-requires-then-n-eq36 : goal.short_block-requires-then-n-eq36
unfolding tabled every lengths
short_block-requires-then-n-eq36 c =
    let e = c.if-n-eq36.true in
    (lit< tt, (lit< tt, (tabled_length 36 tt, ((refl, lit≤ tt), ((refl, refl, lit≤ tt), (c.requires.1 ∙ e, c.requires.2 ∙ omega (arith, e)))))))

pub short_block-requires-else-n-eq36 : goal.short_block-requires-else-n-eq36
unfolding tabled every lengths
short_block-requires-else-n-eq36 c =
    let e = last-short c.args.n (offered-short c.args.n c.requires.0) c.if-n-eq12.false c.if-n-eq24.false c.if-n-eq36.false in
    (lit< tt, (lit< tt, (tabled_length 72 tt, ((refl, lit≤ tt), ((refl, refl, lit≤ tt), (c.requires.1 ∙ e, c.requires.2 ∙ omega (arith, e)))))))

pub returns-else-n-eq36 : goal.returns-else-n-eq36
returns-else-n-eq36 c =
    let e = last-short c.args.n (offered-short c.args.n c.requires.0) c.if-n-eq12.false c.if-n-eq24.false c.if-n-eq36.false in
    short-at c.args.n 72 c.args.joints.left c.args.joints.right c.args.x.now c.short_block-else-n-eq36.new.out e c.short_block-else-n-eq36.ensures
