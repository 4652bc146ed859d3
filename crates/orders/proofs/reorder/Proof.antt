-- `reorder` meets its contract. The invariant: the first b blocks are in their places.
use mathlib.Core.Path.{◌≡◌, sym, ◌∙◌}
use Prim.Native.Nat.{◌-◌, ◌≤◌}
use native.Mathlib.Omega.{arith}
use Rattle.orders.specs.Orders.{part, other, reordered}
use Rattle.orders.specs.OrderLaws.{part_long, Laid, laid_none, laid_more, laid-all}
use Rattle.orders.proofs.reorder.Statement.{statement}
use Rattle.orders.proofs.reorder.Tie as tie

abbrev invariant-loop : tie.invariant-loop-b
invariant-loop to m blocks x out₀ b₀ out b = (b ≤ blocks) × Laid m blocks to (part (other to) m blocks x) b out

abbrev decreases-loop : tie.decreases-loop-b
decreases-loop to m blocks x out₀ b₀ out b = blocks - b

loop-holds : tie.Need-loop-b-init invariant-loop decreases-loop
loop-holds c = let a = c.args in (omega arith, laid_none a.m a.blocks a.to (part (other a.to) a.m a.blocks a.x.now) a.out.now c.requires.3)

move_block_requires : tie.Need-move_block-requires invariant-loop decreases-loop
move_block_requires c κs = let l = c.before.before in let s = l.before in (s.requires.0, s.requires.1, c.before.loop-b-test.true, s.requires.2, l.loop-b.invariant.1.long)

add_b : tie.Need-overflow_step-b invariant-loop decreases-loop
add_b c = let i = c.before.before.before in record { fits = omega (arith, i.loop-b-test.true, i.before.before.requires.1) }

loop-less : tie.Need-loop-b-smaller invariant-loop decreases-loop
loop-less c = omega (arith, c.before.before.before.loop-b-test.true)

loop-again : tie.Need-loop-b-preserved invariant-loop decreases-loop
loop-again c =
    let i = c.before.before.before in
    let l = i.before in
    let a = l.before.args in (
      omega (arith, i.loop-b-test.true),
      rw c.before.move_block.ensures (laid_more a.m a.blocks a.to (part (other a.to) a.m a.blocks a.x.now) l.loop-b.b l.loop-b.out i.loop-b-test.true
          (λ c p. part_long a.m a.blocks (other a.to) a.x.now c) l.loop-b.invariant.1),
    )

same_length : tie.Need-shape_of-out invariant-loop decreases-loop
same_length c = c.before.loop-b.invariant.1.long ∙ sym c.before.before.requires.3

returns : tie.Need-returns invariant-loop decreases-loop
unfolding reordered
returns c =
    let s = c.before.before in
    let a = s.args in
    let e : c.before.loop-b.b ≡ a.blocks = omega (arith, c.before.loop-b.invariant.0, c.loop-b-test.false) in
    laid-all a.m a.blocks a.to (part (other a.to) a.m a.blocks a.x.now) c.before.loop-b.out (rw e at c.before.loop-b.invariant.1)

pub reorder_spec : {M : Type 1} → statement M
reorder_spec = tie.close (tie.spec invariant-loop decreases-loop loop-holds move_block_requires add_b loop-less loop-again same_length returns)
