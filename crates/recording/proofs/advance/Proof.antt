-- `advance` meets its contract: by block the coefficients stand in x as they are, by frequency they are gathered.
use mathlib.Core.Path.{◌≡◌, sym, ap, ◌∙◌}
use mathlib.Core.List.{List}
use Prim.Native.Nat.{ℕ, ◌+◌, ◌-◌, ◌*◌, ◌/◌, ◌^◌, ◌≤◌}
use native.Mathlib.Nat.{mul-le-mul}
use native.Mathlib.Omega.{arith}
use borrow.Author.Rules.{rules}
use lib.ListN.{length, take, drop}
use lib.IntN.{ℤ}
use Rattle.arithmetic.specs.Lists.{Small}
use Rattle.cosine.specs.Kernels.{rising, falling}
use Rattle.cosine.specs.LengthLaws.{tabled_length}
use Rattle.orders.specs.declared.Order.{Order}
use Rattle.orders.specs.declared.Order.TheVariants.{ByBlock}
use Rattle.orders.specs.Orders.{part}
use Rattle.orders.specs.OrderLaws.{part_long, part_small, covered, lent-part}
use Rattle.stream.specs.Synthesis.{new_tail, hop}
use Rattle.recording.specs.RecordingLaws.{part_range}
use Rattle.recording.proofs.advance.Statement.{statement}
use Rattle.recording.proofs.advance.Tie as tie

module _ (s : tie.Start) where
  abbrev n : ℕ
  n = s.args.n

  abbrev M : ℕ
  M = n / 2

  abbrev x : List ℤ
  x = s.args.x.now

  -- the coefficients of block b
  abbrev here : Order → List ℤ
  here order = part order M s.args.blocks x s.args.b

  small : M ≤ 108
  small = omega (arith, (tabled_length n s.requires.0.0).most)

  here_long : (order : Order) → length (here order) ≡ M
  here_long order = part_long M s.args.blocks order x s.args.b

  here_small : (order : Order) → Small (here order) (2 ^ 29)
  here_small order = part_range n s.requires.0.0 s.args.blocks order x s.requires.0.4 s.requires.0.3 s.args.b s.requires.0.2

  -- by block: where they stand
  ends : s.args.b * M + M ≤ length x
  ends = covered M s.args.blocks x s.requires.0.4 s.args.b s.requires.0.2

  few : length x ≤ 4096 * 108
  few = omega (arith, s.requires.0.4, mul-le-mul s.requires.0.1 small)

  lent_is : take (s.args.b * M + M - s.args.b * M) (drop (s.args.b * M) x) ≡ here ByBlock
  lent_is = lent-part M s.args.blocks x s.requires.0.4 s.args.b s.requires.0.2

  -- by frequency: what was gathered in the room
  gathered : (order : Order) (b : ℕ) (room : List ℤ) → room ≡ part order (length s.args.room.now) s.args.blocks x b → room ≡ part order M s.args.blocks x b
  gathered order b room e = e ∙ ap (λ (m : ℕ). part order m s.args.blocks x b) s.requires.1.0

-- ---- by block
enum_told : tie.Need-enum_told-1
enum_told c = search rules

mul_first : tie.Need-overflow_mul-first
mul_first c = let s = c.before in record { fits = omega (arith, ends s, few s) }

add_advance_tail : tie.Need-overflow_add-first
add_advance_tail c = let s = c.before in record { fits = omega (arith, ends s, few s) }

mul_advance_tail : tie.Need-offset_bounds-x-first
mul_advance_tail c = let s = c.before in record { fits = omega (arith, ends s, few s) }

sub_advance_tail : tie.Need-slice_bounds-advance_tail-count
sub_advance_tail c = search rules

part_advance_tail_start : tie.Need-slice_bounds-advance_tail-start
part_advance_tail_start c = search rules

part_advance_tail_end : tie.Need-slice_bounds-advance_tail-end
part_advance_tail_end c = omega (arith, ends c.before)

advance_tail_requires : tie.Need-advance_tail-requires
advance_tail_requires c κs =
    let s = c.before.before.before.before in
    (s.requires.0.0, ap length (lent_is s) ∙ here_long s ByBlock, rw (lent_is s) (here_small s ByBlock), s.requires.1.1, s.requires.1.2, s.requires.1.3)

same_length : tie.Need-shape_of-tail-in-ByBlock
same_length c = search rules

same_length_2 : tie.Need-shape_of-out-in-ByBlock
same_length_2 c = search rules

returns : tie.Need-returns-in-ByBlock
returns c =
    let s = c.before.before.before.before.before.before.before in
    let e : s.args.order ≡ ByBlock = c.before.before.before.before.before.before.in-ByBlock.is in
    let y = c.before.before.advance_tail.ensures in
    let t = s.args.tail.now in
    rw e
    (y.0 ∙ ap (new_tail (n s) (rising 0 (n s)) (falling 0 (n s)) t) (lent_is s), y.1 ∙ ap (hop (n s) (rising 0 (n s)) (falling 0 (n s)) t) (lent_is s))

-- ---- by frequency
enum_told_2 : tie.Need-enum_told-in-ByFrequency
enum_told_2 c = search rules

gather_requires : tie.Need-gather-requires
gather_requires c κs =
    let s = c.before.before in
    (omega (arith, s.requires.1.0, small s), s.requires.0.1, omega (arith, s.requires.0.2), s.requires.0.4 ∙ ap (λ (m : ℕ). s.args.blocks * m) (sym s.requires.1.0))

advance_tail_requires_2 : tie.Need-advance_tail-requires-in-ByFrequency
advance_tail_requires_2 c κs =
    let s = c.before.before.before.before.before.before in
    let g = c.before.before.before.gather in
    let f = gathered s _ _ g.new.block g.ensures in (
      s.requires.0.0,
      ap length f ∙ part_long (M s) s.args.blocks _ (x s) _,
      rw f (part_small (M s) s.args.blocks _ (x s) s.requires.0.4 (2 ^ 29) s.requires.0.3 _ (omega (arith, s.requires.0.2))),
      s.requires.1.1,
      s.requires.1.2,
      s.requires.1.3,
    )

same_length_3 : tie.Need-shape_of-room
same_length_3 c = let s = c.before.before.before.before.before.before.before.before.before in let g = c.before.before.before.before.before.before.gather in ap length (gathered s _ _ g.new.block g.ensures) ∙ part_long (M s) s.args.blocks _ (x s) _ ∙ sym s.requires.1.0

same_length_4 : tie.Need-shape_of-tail-in-ByFrequency
same_length_4 c = search rules

same_length_5 : tie.Need-shape_of-out-in-ByFrequency
same_length_5 c = search rules

returns_2 : tie.Need-returns-in-ByFrequency
returns_2 c =
    let s = c.before.before.before.before.before.before.before.before.before in
    let g = c.before.before.before.before.before.before.gather in
    let f = gathered s _ _ g.new.block g.ensures in
    let y = c.before.before.advance_tail-in-ByFrequency.ensures in
    let t = s.args.tail.now in
    (y.0 ∙ ap (new_tail (n s) (rising 0 (n s)) (falling 0 (n s)) t) f, y.1 ∙ ap (hop (n s) (rising 0 (n s)) (falling 0 (n s)) t) f)

pub advance_spec : {M : Type 1} → statement M
advance_spec =
    tie.close
    (tie.spec
    enum_told
    mul_first
    add_advance_tail
    mul_advance_tail
    sub_advance_tail
    part_advance_tail_start
    part_advance_tail_end
    advance_tail_requires
    enum_told_2
    gather_requires
    advance_tail_requires_2
    same_length
    same_length_2
    returns
    same_length_3
    same_length_4
    same_length_5
    returns_2)
