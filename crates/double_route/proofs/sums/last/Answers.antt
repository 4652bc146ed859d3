use Rattle.std.proofs.Common.{arith, refl, lit<, ◌∙◌}
use Rattle.std.specs.Prelude.{length}
use Rattle.double_route.specs.PieceLaws.{short-length}
use Rattle.double_route.specs.StepLaws.{piece-at}
use Rattle.double_route.proofs.sums.last.Goals as goal

pub last_of-requires : goal.last_of-requires
last_of-requires c =
    let e = c.if-n-eq24.true in
    (lit< tt, ((refl, refl, lit< tt), (piece-at (length c.args.y.now) 24 c.args.y.now e c.requires.piece, c.requires.out_len ∙ omega (arith, e))))

pub last_of-requires-then-n-eq12 : goal.last_of-requires-then-n-eq12
last_of-requires-then-n-eq12 c =
    let e = c.if-n-eq12.true in
    (lit< tt, ((refl, refl, lit< tt), (piece-at (length c.args.y.now) 12 c.args.y.now e c.requires.piece, c.requires.out_len ∙ omega (arith, e))))

-- nothing is left
pub returns-else-n-eq12 : goal.returns-else-n-eq12
returns-else-n-eq12 c =
    let l = short-length (length c.args.y.now) c.requires.piece.short in
    absurd (c.if-n-eq24.false (omega (arith, l.twelve, l.some, c.requires.y_len_bound, c.if-n-eq12.false)))
