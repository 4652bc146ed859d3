use Rattle.std.proofs.Common.{arith, ◌∙◌, ◌≡◌, ◌^◌, ◌≤◌, ◌*◌}
use Rattle.std.specs.Prelude.{nat_abs, ◌*ℤ◌}
use Rattle.std.proofs.Math.Path.{sym}
use Rattle.arithmetic.specs.Lists.{at}
use Rattle.arithmetic.specs.SumLaws.{sum-zero, sum-next}
use Rattle.inner_products.specs.Products.{products}
use Rattle.inner_products.proofs.Laws.{size_of_products, next_fits, next_is}
use Rattle.inner_products.proofs.product_sum.Goals as goal

pub loop-j-init : goal.loop-j-init
unfolding products
loop-j-init g c = sym (sum-zero (λ j. at c.args.z.now j *ℤ at c.args.kernel.now j))

pub overflow_add-sum : goal.overflow_add-sum
overflow_add-sum g c =
    let z = c.args.z.now in
    let w = c.args.kernel.now in
    let j = c.loop-j.j in
    let b : nat_abs (products j z w) ≤ j * 2 ^ 57 = size_of_products j z w (omega arith) (omega arith) c.requires.small c.requires.kernel_small in
    rw
    c.loop-j.invariant
    (next_fits (products j z w) (at z j) (at w j) j (omega arith) b (c.requires.small.small j (omega arith)) (c.requires.kernel_small.small j (omega arith)))

pub loop-j-preserved : goal.loop-j-preserved
unfolding products
loop-j-preserved g c =
    let z = c.args.z.now in
    let w = c.args.kernel.now in
    let j = c.loop-j.j in
    let b : nat_abs (products j z w) ≤ j * 2 ^ 57 = size_of_products j z w (omega arith) (omega arith) c.requires.small c.requires.kernel_small in
    let e = next_is (products j z w) (at z j) (at w j) j (omega arith) b (c.requires.small.small j (omega arith)) (c.requires.kernel_small.small j (omega arith)) in
    rw c.loop-j.invariant (e ∙ sym (sum-next j (λ i. at z i *ℤ at w i)))

pub returns-clause-size : goal.returns-clause-size
returns-clause-size g c =
    let z = c.args.z.now in
    let w = c.args.kernel.now in
    let e : c.loop-j.j ≡ g.row.M = omega arith in
    let b : nat_abs (products c.loop-j.j z w) ≤ c.loop-j.j * 2 ^ 57 = size_of_products c.loop-j.j z w (omega arith) (omega arith) c.requires.small c.requires.kernel_small in
    rw c.loop-j.invariant (omega arith)
