use Rattle.std.proofs.Common.{arith, ◌≡◌, ◌+◌, ◌^◌, ◌*◌, ◌/◌, ◌<◌}
use Rattle.std.specs.Prelude.{length}
use Rattle.arithmetic.specs.Lists.{Small}
use Rattle.level.proofs.Joins.{folded_small}
use Rattle.level.proofs.all_by_third.Goals as goal

pub block_sums-requires : goal.block_sums-requires
block_sums-requires g c =
    let z = c.args.z.now in
    let some = c.requires.some in
    let three = c.requires.three in
    let long : length z ≡ g.row.H + (g.row.H + g.row.H) = omega (arith, c.told-z) in
    let s : Small z (2 ^ 31 / (g.row.H + (g.row.H + g.row.H))) = rw three at c.requires.small in
    let a : g.row.H * 4 < 9223372036854775808 = omega arith in
    let b : g.row.H * 8 < 9223372036854775808 = omega arith in
    (a, (b, folded_small g.row.H z c.fold_three.new.w (omega arith) long c.fold_three.ensures s))
