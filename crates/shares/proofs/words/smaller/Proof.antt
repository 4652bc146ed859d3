-- `smaller` meets its contract: the upper words decide, and the lower ones where these are the same.
use Rattle.shares.specs.ProductLaws.{high-less, high-more, high_same}
use borrow.Author.Rules.{rules}
use Rattle.shares.proofs.words.smaller.Statement.{statement}
use Rattle.shares.proofs.words.smaller.Tie as tie

product_requires : tie.Need-product-p-requires
product_requires c κs = search rules

product_requires_2 : tie.Need-product-q-requires
product_requires_2 c κs = search rules

returns : tie.Need-returns-then-p-q
returns c =
    let s = c.before.before.before in
    let a = s.before.before.args in
    high-less a.a a.b a.c a.d s.before.product-p.result s.product-q.result s.before.product-p.ensures s.product-q.ensures c.if-p-q.true

returns_2 : tie.Need-returns-then-q-p
returns_2 c =
    let s = c.before.before.before.before.before.before in
    let a = s.before.before.args in
    high-more a.a a.b a.c a.d s.before.product-p.result s.product-q.result s.before.product-p.ensures s.product-q.ensures c.if-q-p.true

returns_3 : tie.Need-returns
returns_3 c =
    let s = c.before.before.before.before.before.before.before.before in
    let a = s.before.before.args in
    high_same a.a a.b a.c a.d s.before.product-p.result s.product-q.result s.before.product-p.ensures s.product-q.ensures c.before.before.before.before.before.if-p-q.false c.before.before.if-q-p.false

pub smaller_spec : {M : Type 1} → statement M
smaller_spec = tie.close (tie.spec product_requires product_requires_2 returns returns_2 returns_3)
