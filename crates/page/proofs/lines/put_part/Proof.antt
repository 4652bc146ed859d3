-- `put_part` meets its contract: by block the coefficients stand in x as they are, by frequency they are gathered.
use mathlib.Core.Path.{◌≡◌, sym, ap, ◌∙◌}
use mathlib.Core.List.{List, [], ◌∷◌, ◌++◌}
use Prim.Native.Nat.{ℕ, ◌+◌, ◌-◌, ◌*◌, ◌/◌, ◌^◌, ◌≤◌}
use native.Mathlib.Nat.{mul-le-mul}
use native.Mathlib.Omega.{arith}
use borrow.Author.Rules.{rules}
use lib.ListN.{length, take, drop}
use lib.IntN.{ℤ}
use Rattle.arithmetic.specs.Lists.{Small, joined}
use Rattle.orders.specs.declared.Order.{Order}
use Rattle.orders.specs.declared.Order.TheVariants.{ByBlock}
use Rattle.orders.specs.Orders.{part}
use Rattle.orders.specs.OrderLaws.{part_long, part_small, covered, lent-part}
use Rattle.text.specs.Bytes.{line_feed}
use Rattle.page.specs.Page.{columns}
use Rattle.page.proofs.lines.put_part.Statement.{statement}
use Rattle.page.proofs.lines.put_part.Tie as tie

module _ (s : tie.Start) where
  abbrev m : ℕ
  m = s.args.m

  abbrev x : List ℤ
  x = s.args.x.now

  -- the coefficients of block b, and its lines
  abbrev here : Order → List ℤ
  here order = part order m s.args.blocks x s.args.b

  abbrev lines : List ℤ → List ℕ
  lines c = joined (m / 6) (λ j. columns s.args.b c j ++ (line_feed ∷ []))

  here_long : (order : Order) → length (here order) ≡ m / 6 * 6
  here_long order = part_long m s.args.blocks order x s.args.b ∙ sym s.requires.0.0

  here_small : (order : Order) → Small (here order) (2 ^ 29)
  here_small order = part_small m s.args.blocks order x s.requires.1.1 (2 ^ 29) s.requires.1.0 s.args.b s.requires.0.3

  -- by block: where they stand
  ends : s.args.b * m + m ≤ length x
  ends = covered m s.args.blocks x s.requires.1.1 s.args.b s.requires.0.3

  few : length x ≤ 4096 * 108
  few = omega (arith, s.requires.1.1, mul-le-mul s.requires.0.2 s.requires.0.1)

  lent_is : take (s.args.b * m + m - s.args.b * m) (drop (s.args.b * m) x) ≡ here ByBlock
  lent_is = lent-part m s.args.blocks x s.requires.1.1 s.args.b s.requires.0.3

  -- by frequency: what was gathered in the room
  gathered : (order : Order) (b : ℕ) (room : List ℤ) → room ≡ part order (length s.args.room.now) s.args.blocks x b → room ≡ part order m s.args.blocks x b
  gathered order b room e = e ∙ ap (λ (k : ℕ). part order k s.args.blocks x b) s.requires.1.2

-- ---- by block
enum_told : tie.Need-enum_told-1
enum_told c = search rules

mul_first : tie.Need-overflow_mul-first
mul_first c = let s = c.before.before in record { fits = omega (arith, ends s, few s) }

add_put_block : tie.Need-overflow_add-first
add_put_block c = let s = c.before.before in record { fits = omega (arith, ends s, few s) }

mul_put_block : tie.Need-offset_bounds-x-first
mul_put_block c = let s = c.before.before in record { fits = omega (arith, ends s, few s) }

sub_put_block : tie.Need-slice_bounds-put_block-count
sub_put_block c = search rules

part_put_block_start : tie.Need-slice_bounds-put_block-start
part_put_block_start c = search rules

part_put_block_end : tie.Need-slice_bounds-put_block-end
part_put_block_end c = omega (arith, ends c.before.before)

put_block_requires : tie.Need-put_block-requires
put_block_requires c κs =
    let s = c.before.before.before.before in
    (omega (arith, s.requires.0.2, s.requires.0.3), omega (arith, s.requires.0.1), ap length (lent_is s) ∙ here_long s ByBlock, rw (lent_is s) (here_small s ByBlock), s.requires.1.3)

same_length : tie.Need-shape_of-out-in-ByBlock
same_length c = search rules

returns : tie.Need-returns-in-ByBlock
returns c =
    let s = c.before.before.before.before.before.before.before in
    let e : s.args.order ≡ ByBlock = c.before.before.before.before.before.in-ByBlock.is in
    rw e (c.before.before.put_block.ensures ∙ ap (lines s) (lent_is s))

-- ---- by frequency
enum_told_2 : tie.Need-enum_told-in-ByFrequency
enum_told_2 c = search rules

gather_requires : tie.Need-gather-requires
gather_requires c κs =
    let s = c.before.before.before in
    (omega (arith, s.requires.1.2, s.requires.0.1), s.requires.0.2, omega (arith, s.requires.0.3), s.requires.1.1 ∙ ap (λ (k : ℕ). s.args.blocks * k) (sym s.requires.1.2))

put_block_requires_2 : tie.Need-put_block-requires-in-ByFrequency
put_block_requires_2 c κs =
    let s = c.before.before.before.before.before.before in
    let g = c.before.before.gather in
    let f = gathered s _ _ g.new.block g.ensures in (
      omega (arith, s.requires.0.2, s.requires.0.3),
      omega (arith, s.requires.0.1),
      ap length f ∙ part_long (m s) s.args.blocks _ (x s) _ ∙ sym s.requires.0.0,
      rw f (part_small (m s) s.args.blocks _ (x s) s.requires.1.1 (2 ^ 29) s.requires.1.0 _ (omega (arith, s.requires.0.3))),
      s.requires.1.3,
    )

same_length_2 : tie.Need-shape_of-room
same_length_2 c = let s = c.before.before.before.before.before.before.before.before.before in let g = c.before.before.before.before.before.gather in ap length (gathered s _ _ g.new.block g.ensures) ∙ part_long (m s) s.args.blocks _ (x s) _ ∙ sym s.requires.1.2

same_length_3 : tie.Need-shape_of-out-in-ByFrequency
same_length_3 c = search rules

returns_2 : tie.Need-returns-in-ByFrequency
returns_2 c =
    let s = c.before.before.before.before.before.before.before.before.before in
    let g = c.before.before.before.before.before.gather in
    c.before.before.put_block-in-ByFrequency.ensures ∙ ap (lines s) (gathered s _ _ g.new.block g.ensures)

pub put_part_spec : {M : Type 1} → statement M
put_part_spec =
    tie.close
    (tie.spec
    enum_told
    mul_first
    add_put_block
    mul_put_block
    sub_put_block
    part_put_block_start
    part_put_block_end
    put_block_requires
    enum_told_2
    gather_requires
    put_block_requires_2
    same_length
    returns
    same_length_2
    same_length_3
    returns_2)
