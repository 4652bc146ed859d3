use Rattle.arithmetic.specs.ListLaws.{Filled}
use Rattle.inner_products.specs.Products.{products, row}
use Rattle.inner_products.proofs.product_sums.Given as goal

abbrev pub invariant-loop-k : goal.invariant-loop-k
invariant-loop-k g l = Filled (λ k. products g.row.M l.z (row l.kernel k)) l.k l.t l.initial.t
