-- `gather` meets its contract: the room has space for the block, which is in front.
use Rattle.std.proofs.Common.{◌≡◌, sym, ap, ◌∙◌, arith, ◌+◌, ◌*◌, ◌/◌, ◌≤◌, ◌++◌, length, take, drop, List, ℕ, T}
use Rattle.std.proofs.Math.Seq.{length-take-le}
use Rattle.std.specs.Prelude.{ℤ}
use Rattle.cosine.specs.Kernels.{tabled}
use Rattle.cosine.specs.LengthLaws.{tabled_length}
use Rattle.orders.specs.Orders.{part}
use Rattle.share_calls.specs.RecordingShareLaws.{gathered_block}
use Rattle.share_calls.proofs.recording.gather.Goals as goal

fits : (N : ℕ) (room : List ℤ) → T (tabled N) → length room ≡ 108 → N / 2 ≤ length room
fits N room t long = omega (arith, (tabled_length N t).most, long)

-- the part of the room that is lent has a place for each coefficient of the block
lent : (N : ℕ) (room : List ℤ) → T (tabled N) → length room ≡ 108 → length (take (N / 2) room) ≡ N / 2
lent N room t long = length-take-le (N / 2) room (fits N room t long)

pub slice_bounds-gather-end : goal.slice_bounds-gather-end
slice_bounds-gather-end c = fits c.args.n c.args.room.now c.requires.placed.0 c.requires.room

pub slice_bounds-gather-end-2 : goal.slice_bounds-gather-end-2
slice_bounds-gather-end-2 c = sym (lent c.args.n c.args.room.now c.requires.placed.0 c.requires.room)

pub gather-requires : goal.gather-requires
gather-requires c =
    let p = c.requires.placed in
    let l = lent c.args.n c.args.room.now p.0 c.requires.room in
    (omega (arith, l, (tabled_length c.args.n p.0).most), omega (arith, p.1), omega (arith, p.2), c.requires.long ∙ ap (λ (m : ℕ). (c.args.hops + 1) * m) (sym l))

pub returns : goal.returns
returns c =
    let a = c.args in
    let r = c.requires in
    let front = c.gather.ensures ∙ ap (λ (m : ℕ). part a.order m (a.hops + 1) a.x.now a.b) (lent a.n a.room.now r.placed.0 r.room) in
    let rest = drop (a.n / 2) a.room.now in
    gathered_block a.order a.n a.hops a.x.now a.b _ rest r.placed.2 r.long r.small (ap (λ (block : List ℤ). block ++ rest) front)
