use Rattle.std.proofs.Common.{arith, ◌≡◌, ◌+◌, ◌*◌, ◌<◌}
use Rattle.std.specs.Prelude.{length}
use Rattle.level.proofs.Joins.{folded_light}
use Rattle.level.proofs.all_of_wide.Goals as goal

pub sums_by_parts-requires : goal.sums_by_parts-requires
sums_by_parts-requires g c =
    let z = c.args.z.now in
    let some = c.requires.some in
    let three = c.requires.three in
    let long : length z ≡ g.row.H + (g.row.H + g.row.H) = omega (arith, c.told-z) in
    let a : g.row.H * 4 < 9223372036854775808 = omega arith in
    let b : g.row.H * 8 < 9223372036854775808 = omega arith in
    (a, (b, (some, folded_light g.row.H z c.fold_three.new.w long c.fold_three.ensures c.requires.small)))
