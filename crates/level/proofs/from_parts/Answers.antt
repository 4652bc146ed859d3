use Rattle.std.proofs.Common.{arith, ◌∙◌, ◌*◌, ◌<◌}
use Rattle.std.specs.Prelude.{◌+ℤ◌}
use Rattle.arithmetic.specs.ListLaws.{table_ext}
use Rattle.level.specs.Places.{signed_at, sum_at, twice}
use Rattle.level.specs.Levels.{place_at, AreSpots}
use Rattle.level.proofs.Joins.{joinable, line_small, line_is}
use Rattle.level.proofs.from_parts.Goals as goal

pub line_up-requires : goal.line_up-requires
line_up-requires g c =
    let q = c.requires in
    let few = q.some.1 in
    let three = q.three in
    let a : g.row.H * 8 < 9223372036854775808 = omega arith in
    let b : g.row.M * 8 < 9223372036854775808 = omega arith in
    let j =
    joinable g.row.M g.row.H g.P.Pairing.near g.P.Pairing.far c.args.of.now c.args.z.now c.pair_sums.new.p c.pair_sums.new.m c.args.s.now three few q.join c.told-z q.small c.pair_sums.ensures.sums c.pair_sums.ensures.differences q.folded
    in
    (a, (b, (three, (few, j))))

pub put_back-requires : goal.put_back-requires
put_back-requires g c =
    let q = c.requires in
    let few = q.some.1 in
    let three = q.three in
    let a : g.row.M * 8 < 9223372036854775808 = omega arith in
    let b : g.row.M * 1 < 9223372036854775808 = omega arith in
    let o : AreSpots g.row.M c.args.of.now = record { less = λ i p. let r = q.join.spots i (omega (arith, q.join.long)) in omega arith } in
    let s =
    line_small g.row.M g.row.H g.P.Pairing.near g.P.Pairing.far c.args.of.now c.args.z.now c.pair_sums.new.p c.pair_sums.new.m c.args.s.now three few q.join c.told-z q.small c.pair_sums.ensures.sums c.pair_sums.ensures.differences q.folded
    c.line_up.new.u c.line_up.ensures
    in
    (a, (b, (o, s)))

pub returns : goal.returns
unfolding twice
returns g c =
    let q = c.requires in
    let l =
    line_is g.row.M g.row.H g.P.Pairing.near g.P.Pairing.far c.args.of.now c.args.z.now c.pair_sums.new.p c.pair_sums.new.m c.args.s.now q.three q.some.1 q.join c.told-z q.small c.pair_sums.ensures.sums c.pair_sums.ensures.differences q.folded
    c.line_up.new.u c.line_up.ensures
    in
    c.put_back.ensures
    ∙ table_ext g.row.M (λ j. signed_at c.line_up.new.u (place_at c.args.of.now j)) (λ k. sum_at g.row.M c.args.z.now k +ℤ sum_at g.row.M c.args.z.now k) l
