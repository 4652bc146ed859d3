use Rattle.std.proofs.Common.{arith, ap, sym, ◌∙◌, ◌*◌, ◌<◌, ext_get_or}
use Rattle.std.specs.Prelude.{ℕ, pos, replicate, ◌-ℤ◌}
use Rattle.std.proofs.lemmas.List.{length-replicate, get_or-replicate}
use Rattle.arithmetic.specs.Lists.{table}
use native.Mathlib.Nat.{mul-le-mul_right}
use Rattle.arithmetic.specs.ListLaws.{length-table, get_d_table, table_ext}
use Rattle.level.specs.Places.{sum_at}
use Rattle.level.proofs.Levels.{doubled_sum, doubled_small, none_left}
use Rattle.level.proofs.by_itself.Goals as goal

pub product_sums-requires : goal.product_sums-requires
product_sums-requires g c =
    let few = c.requires.some.1 in
    let a : g.row.D * 4 < 9223372036854775808 = omega arith in
    let b : g.row.D * (g.row.D * 4) < 9223372036854775808 = omega (arith, mul-le-mul_right (g.row.D * 4) few) in
    let d : g.row.D * 8 < 9223372036854775808 = omega arith in
    (a, (b, (d, (few, (c.requires.small, rw c.requires.kernel (doubled_small g.row.D))))))

pub returns-clause-sums : goal.returns-clause-sums
returns-clause-sums g c =
    c.product_sums.ensures
    ∙ table_ext g.row.D _ _ (λ k p. rw c.requires.kernel (doubled_sum g.row.D c.args.z.now k p))

pub returns-clause-differences : goal.returns-clause-differences
returns-clause-differences g c =
    let d = g.row.D in
    c.fill.ensures.after (λ y e. e) ∙ ap (λ (n : ℕ). replicate n (pos 0)) c.told-m
    ∙ ext_get_or (pos 0) (replicate d (pos 0)) (table d (λ k. sum_at d c.args.z.now k -ℤ sum_at d c.args.z.now k))
    (length-replicate d (pos 0) ∙ sym (length-table (λ k. sum_at d c.args.z.now k -ℤ sum_at d c.args.z.now k) d))
    (λ i p.
    let q : i < d = omega (arith, length-replicate d (pos 0)) in
    get_or-replicate d i (pos 0) (pos 0) q ∙ none_left (sum_at d c.args.z.now i)
    ∙ sym (get_d_table (λ k. sum_at d c.args.z.now k -ℤ sum_at d c.args.z.now k) (pos 0) d i q))
