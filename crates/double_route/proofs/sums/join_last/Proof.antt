-- `join_last` meets its contract: the sums of last parts are those of any parts.
use mathlib.Core.Path.{sym, ◌∙◌}
use borrow.Author.Rules.{rules}
use Rattle.double_route.specs.StepLaws.{Sums, ended-sums, a_long, b_long, g_long, a_small, b_small, g_small, half, join_sums}
use Rattle.double_route.proofs.sums.join_last.Statement.{statement}
use Rattle.double_route.proofs.sums.join_last.Tie as tie

module _ (c : tie.Start) where
  sums : Sums c.args.n c.args.y.now c.args.a.now c.args.b.now c.args.g.now
  sums = ended-sums c.args.n c.args.y.now c.args.a.now c.args.b.now c.args.g.now c.requires.0 c.requires.1.0

join_requires : tie.Need-join-requires
join_requires c κs =
    let s = c.before in
    let n = s.args.n in
    let y = s.args.y.now in
    let a = s.args.a.now in
    let b = s.args.b.now in
    let g = s.args.g.now in
    let h = sums s in
    (b_long n y a b g h ∙ sym (a_long n y a b g h), (g_long n y a b g h ∙ sym (a_long n y a b g h), (s.requires.1.1 ∙ sym (half n y a b g h), (a_small n y a b g h, (b_small n y a b g h, g_small n y a b g h)))))

same_length : tie.Need-shape_of-out
same_length c = search rules

returns : tie.Need-returns
returns c =
    let s = c.before.before.before in
    join_sums s.args.n s.args.y.now s.args.a.now s.args.b.now s.args.g.now (sums s) _ c.before.join.ensures

pub join_last_spec : {M : Type 1} → statement M
join_last_spec = tie.close (tie.spec join_requires same_length returns)
