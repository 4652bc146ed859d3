-- `put_page` meets its contract. The invariant: the first b blocks are put, and the rest is as it was.
use mathlib.Core.Path.{◌≡◌, sym, ap, ◌∙◌}
use mathlib.Core.List.{List, [], ◌∷◌, ◌++◌}
use Prim.Native.Nat.{ℕ, ◌+◌, ◌-◌, ◌*◌, ◌/◌, ◌≤◌, ◌<◌}
use native.Mathlib.Nat.{mul-le-mul, mul_assoc}
use native.Mathlib.Omega.{arith}
use lib.ListN.{length, take, drop, length-append, length-drop, length-replicate}
use lib.Seq.{length-take-le}
use borrow.Author.Rules.{rules}
use lib.IntN.{ℤ, pos}
use Rattle.arithmetic.specs.Lists.{joined}
use Rattle.arithmetic.specs.ListLaws.{part_length}
use Rattle.arithmetic.specs.JoinLaws.{within, Joined, joined-none, joined-more, joined-all, joined_length}
use Rattle.cosine.specs.LengthLaws.{tabled_length}
use Rattle.orders.specs.declared.Order.{Order}
use Rattle.orders.specs.Orders.{part}
use Rattle.recording.specs.RecordingLaws.{part_range}
use Rattle.text.specs.Bytes.{line_feed}
use Rattle.page.specs.Page.{columns}
use Rattle.page.specs.PageLaws.{line_long}
use Rattle.page.proofs.lines.put_page.Statement.{statement}
use Rattle.page.proofs.lines.put_page.Tie as tie

-- the lines of block b
abbrev block : Order → (n blocks : ℕ) → List ℤ → ℕ → List ℕ
block order n blocks x b = joined (n / 2 / 6) (λ j. columns b (part order (n / 2) blocks x b) j ++ (line_feed ∷ []))

abbrev invariant-loop : tie.invariant-loop-b
invariant-loop order n blocks x out₀ m size room₀ b₀ out room b = (b ≤ blocks) × Joined (block order n blocks x) (n / 2 / 6 * 81) b out out₀ × (length room ≡ 108)

abbrev decreases-loop : tie.decreases-loop-b
decreases-loop order n blocks x out₀ m size room₀ b₀ out room b = blocks - b

module _ (s : tie.Start invariant-loop decreases-loop) where
  abbrev n : ℕ
  n = s.args.n

  abbrev x : List ℤ
  x = s.args.x.now

  abbrev lines : ℕ
  lines = n / 2 / 6

  fit : lines * 6 ≡ n / 2
  fit = omega (arith, (tabled_length n s.requires.0.0).twelve)

  few : lines ≤ 18
  few = omega (arith, fit, (tabled_length n s.requires.0.0).most)

  out-room : length s.args.out.now ≡ s.args.blocks * (lines * 81)
  out-room = s.requires.1.1 ∙ mul_assoc s.args.blocks lines 81

  abbrev here : ℕ → List ℕ
  here = block s.args.order n s.args.blocks x

  block_long : (b : ℕ) → b < s.args.blocks → length (here b) ≡ lines * 81
  block_long b p =
      let c = part s.args.order (n / 2) s.args.blocks x b in
      joined_length (λ j. columns b c j ++ (line_feed ∷ [])) 81 lines
      (λ j q. line_long b (omega (arith, s.requires.0.1)) c (part_range n s.requires.0.0 s.args.blocks s.args.order x s.requires.1.0 s.requires.0.2 b p) j) lines (omega arith)

mul_size : tie.Need-overflow_mul-size invariant-loop decreases-loop
mul_size c = omega (arith, few c.before)

room_requires : tie.Need-room-room-requires invariant-loop decreases-loop
room_requires c κs = search rules

loop-holds : tie.Need-loop-b-init invariant-loop decreases-loop
loop-holds c = let s = c.before.before in (omega arith, joined-none (here s) (lines s * 81) s.args.out.now, ap length c.room-room.ensures ∙ length-replicate 108 (pos 0))

module _ (c : tie.In-loop-b invariant-loop decreases-loop) where
  abbrev begin : tie.Start invariant-loop decreases-loop
  begin = c.before.before.before.before

  abbrev turn : ℕ
  turn = c.before.loop-b.b

  abbrev size : ℕ
  size = lines begin * 81

  less : turn < begin.args.blocks
  less = c.loop-b-test.true

  room : turn * size + size ≤ length begin.args.out.now
  room = omega (arith, out-room begin, within turn begin.args.blocks size less)

  out_long : length c.before.loop-b.out ≡ length begin.args.out.now
  out_long = c.before.loop-b.invariant.1.room

  -- the products that the code makes are small
  turn-most : turn ≤ 4096
  turn-most = omega (arith, less, begin.requires.0.1)

  place-few : turn * size ≤ 4096 * 1458
  place-few = mul-le-mul turn-most (let h : size ≤ 1458 = omega (arith, few begin) in h)

mul_place : tie.Need-overflow_mul-place invariant-loop decreases-loop
mul_place c =
    let s : tie.Start invariant-loop decreases-loop = c.before.before.before.before in
    let turn : c.before.loop-b.b ≤ 4096 = omega (arith, c.loop-b-test.true, s.requires.0.1) in
    let size : lines s * 81 ≤ 1458 = omega (arith, few s) in
    omega (arith, mul-le-mul turn size)

-- the part of the room that is lent
lent_long : (c : tie.In-loop-b invariant-loop decreases-loop) → let m = n (begin c) / 2 in length (take m c.before.loop-b.room) ≡ m
lent_long c = length-take-le (n (begin c) / 2) c.before.loop-b.room (omega (arith, c.before.loop-b.invariant.2, fit (begin c), few (begin c)))

array_borrow_prefix_room : tie.Need-slice_bounds-room-end invariant-loop decreases-loop
array_borrow_prefix_room c = omega (arith, c.before.loop-b.invariant.2, fit (begin c), few (begin c))

slice_aggregate_put_part : tie.Need-slice_bounds-put_part-end invariant-loop decreases-loop
slice_aggregate_put_part c = sym (lent_long c.before)

add_put_part : tie.Need-overflow_add-place invariant-loop decreases-loop
add_put_part c = let i = c.before in omega (arith, place-few i, few (begin i))

sub_put_part : tie.Need-slice_bounds-put_part-count invariant-loop decreases-loop
sub_put_part c = omega arith

part_put_part_start : tie.Need-slice_bounds-put_part-start invariant-loop decreases-loop
part_put_part_start c = omega arith

part_put_part_end : tie.Need-slice_bounds-put_part-end-in-loop-b invariant-loop decreases-loop
part_put_part_end c = let i = c.before in omega (arith, room i, out_long i)

put_part_requires : tie.Need-put_part-requires invariant-loop decreases-loop
put_part_requires c κs =
    let i = c.before.before in
    let s = begin i in
    let b = turn i in (
      (fit s, omega (arith, fit s, few s), s.requires.0.1, less i),
      (s.requires.0.2, s.requires.1.0, lent_long i, part_length i.before.loop-b.out (b * size i) (b * size i + size i - b * size i) (size i) (omega arith) (omega (arith, room i, out_long i))),
    )

add_b : tie.Need-overflow_step-b invariant-loop decreases-loop
add_b c = omega (arith, turn-most c.before.before.before.before.before.before)

loop-less : tie.Need-loop-b-smaller invariant-loop decreases-loop
loop-less c = omega (arith, less c.before.before.before.before.before.before)

loop-again : tie.Need-loop-b-preserved invariant-loop decreases-loop
loop-again c =
    let i = c.before.before.before.before.before.before in
    let s = begin i in
    let b = turn i in
    let m = n s / 2 in
    let y = c.before.before.before.put_part in
    let lent = y.new.room in (
      omega (arith, less i),
      joined-more (here s) (size i) s.args.blocks (block_long s) b (b * size i + size i - b * size i) (less i) i.before.loop-b.out s.args.out.now y.new.out i.before.loop-b.invariant.1
          (room i) (omega arith) y.ensures,
      length-append lent (drop m i.before.loop-b.room) ∙ omega (arith, y.auto.room, lent_long i, length-drop m i.before.loop-b.room, i.before.loop-b.invariant.2, fit s, few s),
    )

same_length : tie.Need-shape_of-out invariant-loop decreases-loop
same_length c = c.before.loop-b.invariant.1.room

returns : tie.Need-returns invariant-loop decreases-loop
returns c =
    let s = c.before.before.before.before in
    let g = here s in
    let e : c.before.loop-b.b ≡ s.args.blocks = omega arith in
    joined-all g (lines s * 81) c.before.loop-b.b c.before.loop-b.out s.args.out.now c.before.loop-b.invariant.1 (out-room s ∙ ap (λ (k : ℕ). k * (lines s * 81)) (sym e)) ∙ ap (λ (k : ℕ). joined k g) e

pub put_page_spec : {M : Type 1} → statement M
put_page_spec =
    tie.close
    (tie.spec
    invariant-loop
    decreases-loop
    mul_size
    room_requires
    loop-holds
    mul_place
    array_borrow_prefix_room
    slice_aggregate_put_part
    add_put_part
    sub_put_part
    part_put_part_start
    part_put_part_end
    put_part_requires
    add_b
    loop-less
    loop-again
    same_length
    returns)
