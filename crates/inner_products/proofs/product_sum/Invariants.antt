use Rattle.std.proofs.Common.{◌≡◌}
use Rattle.inner_products.specs.Products.{products}
use Rattle.inner_products.proofs.product_sum.Given as goal

abbrev pub invariant-loop-j : goal.invariant-loop-j
invariant-loop-j g l = l.sum ≡ products l.j l.z l.kernel
