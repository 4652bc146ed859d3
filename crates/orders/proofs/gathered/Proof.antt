-- `gathered` meets its contract: the block is taken into the front of a room of zeros.
use mathlib.Core.Path.{◌≡◌, sym, ap, ap₂, ◌∙◌}
use mathlib.Core.List.{List, ◌++◌}
use Prim.Native.Nat.{ℕ, ◌+◌, ◌*◌, ◌-◌, ◌≤◌}
use native.Mathlib.Omega.{arith}
use borrow.Author.Rules.{rules}
use lib.ListN.{length, take, drop, replicate, length-replicate, replicate-append-replicate}
use lib.Seq.{length-take-le, drop_at}
use lib.IntN.{ℤ, pos}
use Rattle.orders.specs.Orders.{part}
use Rattle.orders.proofs.gathered.Statement.{statement}
use Rattle.orders.proofs.gathered.Tie as tie

-- behind the first m of 108 zeros
drop-zeros : (m : ℕ) → m ≤ 108 → drop m (replicate 108 (pos 0)) ≡ replicate (108 - m) (pos 0)
drop-zeros m p =
    let e : 108 ≡ m + (108 - m) = omega arith in
    ap (λ (k : ℕ). drop m (replicate k (pos 0))) e
    ∙ ap (drop m) (sym (replicate-append-replicate m (108 - m) (pos 0)))
    ∙ drop_at (replicate m (pos 0)) (replicate (108 - m) (pos 0)) m (length-replicate m (pos 0))

room_requires : tie.Need-room-block-requires
room_requires c κs = search rules

array_borrow_prefix_block : tie.Need-slice_bounds-block-end
array_borrow_prefix_block c = search rules

-- the part of the room that is lent has m entries
lent_long : (c : tie.After-room-block) → length (take c.before.args.m c.room-block.result) ≡ c.before.args.m
lent_long c = length-take-le c.before.args.m c.room-block.result (omega (arith, c.before.requires.0, ap length c.room-block.ensures, length-replicate 108 (pos 0)))

slice_aggregate_gather : tie.Need-slice_bounds-gather-end
slice_aggregate_gather c = sym (lent_long c.before)

gather_requires : tie.Need-gather-requires
gather_requires c κs =
    let s = c.before.before in
    let l = lent_long c.before in
    (omega (arith, l, s.requires.0), s.requires.1, s.requires.2, s.requires.3 ∙ ap (λ (m : ℕ). s.args.blocks * m) (sym l))

returns : tie.Need-returns
returns c =
    let r = c.before.before.before in
    let a = r.before.args in
    ap₂ (λ (x y : List ℤ). x ++ y)
    (c.before.gather.ensures ∙ ap (λ (m : ℕ). part a.order m a.blocks a.x.now a.b) (lent_long r))
    (ap (drop a.m) r.room-block.ensures ∙ drop-zeros a.m r.before.requires.0)

pub gathered_spec : {M : Type 1} → statement M
gathered_spec = tie.close (tie.spec room_requires array_borrow_prefix_block slice_aggregate_gather gather_requires returns)
