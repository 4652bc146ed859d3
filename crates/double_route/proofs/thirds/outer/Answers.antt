use Rattle.std.specs.Prelude.{◌≡◌, ℕ, List, ◌/◌, ◌≤◌, length, ℤ}
use Rattle.std.proofs.Common.{arith, sym, ap, ◌∙◌, length-take-le}
use native.Mathlib.Nat.{le_trans}
use Rattle.arithmetic.specs.Lists.{at}
use Rattle.split.specs.PartLaws.{third, third_length}
use Rattle.double_route.specs.PieceLaws.{Piece, short-most, room-limit}
use Rattle.double_route.specs.StepLaws.{third_of}
use Rattle.double_route.specs.FrontLaws.{front_long, front_is, front_room}
use Rattle.double_route.proofs.thirds.outer.Goals as goal

-- a third of a part with room fits the scratch array
fits : (n : ℕ) (y : List ℤ) → Piece n y → n / 3 ≤ 24
fits n y p = omega (arith, short-most n p.short)

long : (which n : ℕ) (y w : List ℤ) → w ≡ third which n (at y) → length w ≡ n / 3
long which n y w e = ap length e ∙ third_length which n (at y)

pub slice_bounds-room-end : goal.slice_bounds-room-end
slice_bounds-room-end c = fits c.args.n c.args.y.now c.requires.piece

pub slice_bounds-turned_third-end : goal.slice_bounds-turned_third-end
slice_bounds-turned_third-end c = front_long (c.args.n / 3) _ (fits c.args.n c.args.y.now c.requires.piece)

pub turned_third-requires-clause-small : goal.turned_third-requires-clause-small
turned_third-requires-clause-small c =
    let p = c.requires.piece in
    record { small = λ i l. le_trans (p.small.small i l) (room-limit c.args.n p.short) }

pub turned_third-requires-clause-w_len : goal.turned_third-requires-clause-w_len
turned_third-requires-clause-w_len c = length-take-le (c.args.n / 3) _ (fits c.args.n c.args.y.now c.requires.piece)

pub slice_bounds-room-end-2 : goal.slice_bounds-room-end-2
slice_bounds-room-end-2 c = front_room (c.args.n / 3) c.turned_third.new.w _ (long c.args.which c.args.n c.args.y.now c.turned_third.new.w c.turned_third.ensures)

pub slice_bounds-copy_from_slice-end : goal.slice_bounds-copy_from_slice-end
slice_bounds-copy_from_slice-end c =
    front_long (c.args.n / 3) _ (front_room (c.args.n / 3) c.turned_third.new.w _ (long c.args.which c.args.n c.args.y.now c.turned_third.new.w c.turned_third.ensures))

pub copy_from_slice-requires : goal.copy_from_slice-requires
copy_from_slice-requires c =
    let l = long c.args.which c.args.n c.args.y.now c.turned_third.new.w c.turned_third.ensures in
    rw (front_is (c.args.n / 3) c.turned_third.new.w _ l) (c.requires.w_len ∙ sym l)

pub returns : goal.returns
returns c =
    let l = long c.args.which c.args.n c.args.y.now c.turned_third.new.w c.turned_third.ensures in
    third_of c.args.n c.args.y.now c.requires.piece c.args.which _ (rw (front_is (c.args.n / 3) c.turned_third.new.w _ l) at c.copy_from_slice.ensures.after ∙ c.turned_third.ensures)
