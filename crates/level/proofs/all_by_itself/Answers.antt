use Rattle.std.proofs.Common.{arith, ◌∙◌, ◌*◌, ◌<◌}
use native.Mathlib.Nat.{mul-le-mul_right}
use Rattle.arithmetic.specs.ListLaws.{table_ext}
use Rattle.level.specs.Places.{twice}
use Rattle.level.proofs.Levels.{doubled_sum, doubled_small}
use Rattle.level.proofs.all_by_itself.Goals as goal

pub product_sums-requires : goal.product_sums-requires
product_sums-requires g c =
    let few = c.requires.some.1 in
    let a : g.row.D * 4 < 9223372036854775808 = omega arith in
    let b : g.row.D * (g.row.D * 4) < 9223372036854775808 = omega (arith, mul-le-mul_right (g.row.D * 4) few) in
    let d : g.row.D * 8 < 9223372036854775808 = omega arith in
    (a, (b, (d, (few, (c.requires.small, rw c.requires.kernel (doubled_small g.row.D))))))

pub returns : goal.returns
unfolding twice
returns g c =
    c.product_sums.ensures
    ∙ table_ext g.row.D _ _ (λ k p. rw c.requires.kernel (doubled_sum g.row.D c.args.z.now k p))
