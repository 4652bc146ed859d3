use Rattle.std.proofs.Common.{arith, refl, lit<}
use Rattle.std.specs.Prelude.{length}
use Rattle.cosine.specs.LengthLaws.{last-short}
use Rattle.double_route.specs.StepLaws.{given-at}
use Rattle.double_route.proofs.thirds.thirds.Goals as goal

pub thirds_of-requires : goal.thirds_of-requires
thirds_of-requires c =
    (lit< tt, (refl, given-at (length c.args.y.now) 72 c.args.y.now _ _ _ c.if-n-eq72.true c.requires.piece c.requires.rooms))

pub thirds_of-requires-then-n-eq36 : goal.thirds_of-requires-then-n-eq36
thirds_of-requires-then-n-eq36 c =
    (lit< tt, (refl, given-at (length c.args.y.now) 36 c.args.y.now _ _ _ c.if-n-eq36.true c.requires.piece c.requires.rooms))

-- nothing is left
pub returns-else-n-eq36 : goal.returns-else-n-eq36
returns-else-n-eq36 c =
    let more = c.requires.y_long in
    absurd (c.if-n-eq72.false (last-short (length c.args.y.now) c.requires.piece.short (λ e. omega (arith, e, more)) (λ e. omega (arith, e, more)) c.if-n-eq36.false))
