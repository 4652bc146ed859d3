-- `fill_middle` meets its contract: a windowed block is within the limit.
use native.Mathlib.Nat.{le_trans}
use borrow.Author.Rules.{rules}
use Rattle.split.specs.TurnLaws.{limit-least}
use Rattle.split.specs.PartLaws.{third-made}
use Rattle.split.proofs.thirds.fill_middle.Statement.{statement}
use Rattle.split.proofs.thirds.fill_middle.Tie as tie

middle_third_requires : tie.Need-middle_third-requires
middle_third_requires c κs =
    let q = c.before.requires in
    (q.0.all, (record { small = λ i l. le_trans (q.0.small.small i l) (limit-least c.before.args.n) }, q.1))

same_length : tie.Need-shape_of-w
same_length c = search rules

returns : tie.Need-returns
returns c =
    let s = c.before.before.before in
    third-made 0 s.args.n s.args.y.now _ s.requires.0 c.before.middle_third.ensures

pub fill_middle_spec : {M : Type 1} → statement M
fill_middle_spec = tie.close (tie.spec middle_third_requires same_length returns)
