use Rattle.std.proofs.Common.{arith, ◌∙◌, ◌^◌, ◌*◌, ◌%◌, ◌≤◌}
use Rattle.std.specs.Prelude.{ℤ, nat_abs, ◌+ℤ◌}
use Rattle.std.proofs.Math.Path.{ap}
use Rattle.std.proofs.Math.Nat.{mod-lt}
use Rattle.arithmetic.specs.Lists.{at}
use Rattle.arithmetic.specs.ListLaws.{filled_none, filled_more}
use Rattle.inner_products.specs.Products.{products, row}
use Rattle.level.proofs.Sizes.{start_fits, start_reads}
use Rattle.level.proofs.add_products.Goals as goal

pub loop-k-init : goal.loop-k-init
loop-k-init g c = filled_none (λ k. at c.args.third.now (k % g.row.L) +ℤ products g.row.H c.args.a.now (row c.args.kernel.now k)) c.args.out.now

pub overflow_add-sum : goal.overflow_add-sum
overflow_add-sum g c =
    let k = c.loop-k.k in
    let p : nat_abs (at c.args.third.now (k % g.row.L)) ≤ 36 * 2 ^ 56 =
    c.requires.third_small.small (k % g.row.L) (let h = mod-lt k c.requires.some in omega arith) in
    start_fits (at c.args.third.now (k % g.row.L)) c.product_sum.result p (omega (arith, c.product_sum.ensures.size))

pub loop-k-preserved : goal.loop-k-preserved
loop-k-preserved g c =
    let a = c.args.a.now in
    let w = c.args.kernel.now in
    let t = c.args.third.now in
    let k = c.loop-k.k in
    let p : nat_abs (at t (k % g.row.L)) ≤ 36 * 2 ^ 56 = c.requires.third_small.small (k % g.row.L) (let h = mod-lt k c.requires.some in omega arith) in
    let q : nat_abs c.product_sum.result ≤ 36 * 2 ^ 57 = omega (arith, c.product_sum.ensures.size) in
    filled_more (λ k. at t (k % g.row.L) +ℤ products g.row.H a (row w k)) k c.loop-k.out c.args.out.now _ c.loop-k.invariant
    (omega (arith, c.loop-k.invariant.room))
    (start_reads (at t (k % g.row.L)) c.product_sum.result p q ∙ ap (λ (z : ℤ). at t (k % g.row.L) +ℤ z) c.product_sum.ensures.value)
