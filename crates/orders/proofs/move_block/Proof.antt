-- `move_block` meets its contract. The invariant: the first k coefficients are in their new places, and nothing else has moved.
use mathlib.Core.Path.{◌≡◌, sym, ap, ◌∙◌}
use mathlib.Core.List.{List}
use Prim.Native.Nat.{◌*◌, ◌-◌, ◌≤◌, ◌<◌}
use native.Mathlib.Nat.{mul-le-mul}
use native.Mathlib.Omega.{arith}
use borrow.Author.Rules.{rules}
use lib.IntN.{ℤ}
use mir.Syntax.{w32}
use mir.Facts.{to_z-of_z}
use Rattle.arithmetic.specs.Lists.{at}
use Rattle.orders.specs.declared.Order.{Order}
use Rattle.orders.specs.Orders.{place, part, other}
use Rattle.orders.specs.OrderLaws.{place-less, part_at, Put, put_none, put_more, put_all}
use Rattle.orders.proofs.move_block.Statement.{statement}
use Rattle.orders.proofs.move_block.Tie as tie

abbrev invariant-loop : tie.invariant-loop-k
invariant-loop to m blocks b x out₀ from k₀ out k = (k ≤ m) × Put m blocks to b (part (other to) m blocks x b) out₀ k out

abbrev decreases-loop : tie.decreases-loop-k
decreases-loop to m blocks b x out₀ from k₀ out k = m - k

-- the block
abbrev taken : tie.Start invariant-loop decreases-loop → List ℤ
taken s = part (other s.args.to) s.args.m s.args.blocks s.args.x.now s.args.b

other_requires : tie.Need-other-from-requires invariant-loop decreases-loop
other_requires c κs = search rules

loop-holds : tie.Need-loop-k-init invariant-loop decreases-loop
loop-holds c = let s = c.before in let a = s.args in (omega arith, put_none a.m a.blocks a.to a.b (taken s) a.out.now)

place_requires : tie.Need-place-requires invariant-loop decreases-loop
place_requires c κs = let s = c.before.before.before in (s.requires.0, s.requires.1, s.requires.2, c.loop-k-test.true)

-- where it lies, and where it is put
lies : (c : tie.After-place invariant-loop decreases-loop) → let a = c.before.before.before.before.args in c.place.result < a.blocks * a.m
lies c =
    let s = c.before.before.before.before in
    let a = s.args in
    rw c.place.ensures (place-less a.m a.blocks a.b c.before.before.loop-k.k s.requires.2 c.before.loop-k-test.true _)

goes : (c : tie.After-place-in-loop-k invariant-loop decreases-loop) → let a = c.before.before.before.before.before.before.args in c.place-in-loop-k.result < a.blocks * a.m
goes c =
    let s = c.before.before.before.before.before.before in
    let a = s.args in
    rw c.place-in-loop-k.ensures (place-less a.m a.blocks a.b c.before.before.before.before.loop-k.k s.requires.2 c.before.before.before.loop-k-test.true _)

mul_out : tie.Need-offset_bounds-x-place invariant-loop decreases-loop
mul_out c = let s = c.before.before.before.before in record { fits = omega (arith, lies c, mul-le-mul s.requires.1 s.requires.0) }

shared_slice_copy_out_out : tie.Need-bounds-x-place invariant-loop decreases-loop
shared_slice_copy_out_out c = omega (arith, lies c, c.before.before.before.before.requires.3)

place_requires_2 : tie.Need-place-requires-in-loop-k invariant-loop decreases-loop
place_requires_2 c κs = let s = c.before.before.before.before.before in (s.requires.0, s.requires.1, s.requires.2, c.before.before.loop-k-test.true)

mul_t15 : tie.Need-offset_bounds-out-place invariant-loop decreases-loop
mul_t15 c = let s = c.before.before.before.before.before.before in record { fits = omega (arith, goes c, mul-le-mul s.requires.1 s.requires.0) }

slice_set_from_out : tie.Need-bounds-out-place invariant-loop decreases-loop
slice_set_from_out c = omega (arith, goes c, c.before.before.before.before.loop-k.invariant.1.long, c.before.before.before.before.before.before.requires.4)

add_k : tie.Need-overflow_step-k invariant-loop decreases-loop
add_k c = record { fits = omega (arith, c.before.before.before.loop-k-test.true, c.before.before.before.before.before.before.requires.0) }

loop-less : tie.Need-loop-k-smaller invariant-loop decreases-loop
loop-less c = omega (arith, c.before.before.before.loop-k-test.true)

loop-again : tie.Need-loop-k-preserved invariant-loop decreases-loop
loop-again c =
    let l = c.before.before.before.before in
    let s = l.before.before in
    let a = s.args in
    let k = l.loop-k.k in
    let less = c.before.before.before.loop-k-test.true in (
      omega (arith, less),
      rw c.place-in-loop-k.ensures (put_more a.m a.blocks a.to a.b (taken s) a.out.now s.requires.2 s.requires.4 k l.loop-k.out _ less l.loop-k.invariant.1
          (to_z-of_z {w = w32} (record { sfits = c.before.out-1.given })
          ∙ ap (at a.x.now) c.before.before.place.ensures
          ∙ ap (λ (o : Order). at a.x.now (place o a.m a.blocks a.b k)) l.before.other-from.ensures
          ∙ sym (part_at a.m a.blocks (other a.to) a.x.now a.b k less))),
    )

same_length : tie.Need-shape_of-out invariant-loop decreases-loop
same_length c = c.before.loop-k.invariant.1.long

returns : tie.Need-returns invariant-loop decreases-loop
returns c =
    let s = c.before.before.before in
    let a = s.args in
    let e : c.before.loop-k.k ≡ a.m = omega (arith, c.before.loop-k.invariant.0, c.loop-k-test.false) in
    put_all a.m a.blocks a.to a.b (taken s) a.out.now s.requires.2 s.requires.4 c.before.loop-k.out (rw e at c.before.loop-k.invariant.1)

pub move_block_spec : {M : Type 1} → statement M
move_block_spec =
    tie.close
    (tie.spec
    invariant-loop
    decreases-loop
    other_requires
    loop-holds
    place_requires
    mul_out
    shared_slice_copy_out_out
    place_requires_2
    mul_t15
    slice_set_from_out
    add_k
    loop-less
    loop-again
    same_length
    returns)
