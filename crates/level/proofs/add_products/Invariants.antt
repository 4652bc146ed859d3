use Rattle.std.proofs.Common.{◌+ℤ◌, ◌%◌}
use Rattle.arithmetic.specs.Lists.{at}
use Rattle.arithmetic.specs.ListLaws.{Filled}
use Rattle.inner_products.specs.Products.{products, row}
use Rattle.level.proofs.add_products.Given as goal

abbrev pub invariant-loop-k : goal.invariant-loop-k
invariant-loop-k g l = Filled (λ k. at l.third (k % g.row.L) +ℤ products g.row.H l.a (row l.kernel k)) l.k l.out l.initial.out
