-- `middle` meets its contract: a part with room is within the limit.
use native.Mathlib.Nat.{le_trans}
use borrow.Author.Rules.{rules}
use Rattle.double_route.specs.PieceLaws.{room-limit}
use Rattle.double_route.specs.StepLaws.{third_of}
use Rattle.double_route.proofs.thirds.middle.Statement.{statement}
use Rattle.double_route.proofs.thirds.middle.Tie as tie

middle_third_requires : tie.Need-middle_third-requires
middle_third_requires c κs =
    let q = c.before.requires in
    (q.0.all, (record { small = λ i l. le_trans (q.0.small.small i l) (room-limit c.before.args.n q.0.short) }, q.1))

same_length : tie.Need-shape_of-w
same_length c = search rules

returns : tie.Need-returns
returns c =
    let s = c.before.before.before in
    third_of s.args.n s.args.y.now s.requires.0 0 _ c.before.middle_third.ensures

pub middle_spec : {M : Type 1} → statement M
middle_spec = tie.close (tie.spec middle_third_requires same_length returns)
