use Rattle.std.proofs.Common.{arith, ◌∙◌, w64, rules}
use Rattle.std.proofs.Math.Facts.{to_z-of_z}
use mir.Val.{SFits}
use Rattle.arithmetic.specs.ListLaws.{filled_none, filled_more}
use Rattle.inner_products.specs.Products.{products, row}
use Rattle.inner_products.proofs.product_sums.Goals as goal

pub loop-k-init : goal.loop-k-init
loop-k-init g c = filled_none (λ k. products g.row.M c.args.z.now (row c.args.kernel.now k)) c.args.t.now

pub loop-k-preserved : goal.loop-k-preserved
loop-k-preserved g c =
    let r = c.product_sum.result in
    let fits : SFits w64 r = search rules in
    filled_more (λ k. products g.row.M c.args.z.now (row c.args.kernel.now k)) c.loop-k.k c.loop-k.t c.args.t.now _ c.loop-k.invariant
    (omega (arith, c.loop-k.invariant.room))
    (to_z-of_z {w = w64} fits ∙ c.product_sum.ensures.value)
