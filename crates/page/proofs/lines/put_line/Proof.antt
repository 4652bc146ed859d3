-- `put_line` meets its contract: the margin, the numbers behind it, and the line feed in the last place.
use mathlib.Core.Path.{◌≡◌, sym, ap, ap₂, ◌∙◌}
use mathlib.Core.List.{List, [], ◌∷◌, ◌++◌}
use Prim.Native.Nat.{ℕ}
use native.Mathlib.Omega.{arith}
use borrow.Author.Rules.{rules}
use lib.ListN.{length, get_or, take, drop, set, length-append, length-set, drop_of_length-le}
use lib.Seq.{length-take-le, drop-cons, set_at}
use lib.IntN.{ℤ}
use Rattle.arithmetic.specs.Lists.{at, joined}
use Rattle.arithmetic.specs.JoinLaws.{two_is, two_long, joined_length}
use Rattle.text.specs.Bytes.{line_feed}
use Rattle.text.specs.Number.{printed}
use Rattle.text.specs.Columns.{aligned}
use Rattle.page.specs.Page.{margin}
use Rattle.page.specs.PageLaws.{small_at, number_long, margin_long}
use Rattle.page.proofs.lines.put_line.Statement.{statement}
use Rattle.page.proofs.lines.put_line.Tie as tie

module _ (s : tie.Start) where
  abbrev x : List ℤ
  x = s.args.x.now

  abbrev out : List ℕ
  out = s.args.out.now

  abbrev numbers : List ℕ
  numbers = joined 6 (λ i. aligned 12 (printed (at x i)))

  room : length (take 8 out) ≡ 8
  room = length-take-le 8 out (omega (arith, s.requires.3))

  module _ (X Y : List ℕ) (is_x : X ≡ margin s.args.b s.args.j) (is_y : Y ≡ numbers) where
    X_long : length X ≡ 8
    X_long = ap length is_x ∙ margin_long s.args.b s.args.j s.requires.0

    Y_long : length Y ≡ 72
    Y_long = ap length is_y ∙ joined_length (λ i. aligned 12 (printed (at x i))) 12 6 (λ i p. number_long (at x i) (small_at x s.requires.2 i)) 6 (omega arith)

    -- the margin and the numbers are written
    abbrev written : List ℕ
    written = take 8 (X ++ drop 8 out) ++ (Y ++ drop 72 (drop 8 (X ++ drop 8 out)))

    written_is : written ≡ (X ++ Y) ++ drop 80 out
    written_is = two_is X Y (line_feed ∷ []) out 8 80 X_long (omega (arith, Y_long)) s.requires.3

    written_long : length written ≡ 81
    written_long = two_long X Y (line_feed ∷ []) out 8 80 X_long (omega (arith, Y_long)) s.requires.3 ∙ s.requires.3

    -- one place is left
    last : drop 80 out ≡ get_or out 80 0 ∷ []
    last =
        let e : drop 81 out ≡ [] = drop_of_length-le out {i = 81} (omega (arith, s.requires.3)) in
        drop-cons out 80 0 (omega (arith, s.requires.3)) ∙ ap (λ (l : List ℕ). get_or out 80 0 ∷ l) e

    whole : set written 80 line_feed ≡ (margin s.args.b s.args.j ++ numbers) ++ (line_feed ∷ [])
    whole =
        ap (λ (l : List ℕ). set l 80 line_feed) (written_is ∙ ap (λ (l : List ℕ). (X ++ Y) ++ l) last)
        ∙ set_at (X ++ Y) (get_or out 80 0) [] line_feed 80 (length-append X Y ∙ omega (arith, X_long, Y_long))
        ∙ ap (λ (l : List ℕ). l ++ (line_feed ∷ [])) (ap₂ (λ (a b : List ℕ). a ++ b) is_x is_y)

slice_relend_prefix_put_margin : tie.Need-slice_bounds-put_margin-end
slice_relend_prefix_put_margin c = search rules

slice_aggregate_put_margin : tie.Need-slice_bounds-put_margin-end-2
slice_aggregate_put_margin c = sym (room c.before.before)

put_margin_requires : tie.Need-put_margin-requires
put_margin_requires c κs = let s = c.before.before in (s.requires.0, room s)

sub_put_numbers : tie.Need-overflow_sub-put_numbers
sub_put_numbers c = search rules

sub_put_numbers_2 : tie.Need-slice_bounds-put_numbers-count
sub_put_numbers_2 c = search rules

part_put_numbers_start : tie.Need-slice_bounds-put_numbers-start
part_put_numbers_start c = search rules

part_put_numbers_end : tie.Need-slice_bounds-put_numbers-end
part_put_numbers_end c = search rules

put_numbers_requires : tie.Need-put_numbers-requires
put_numbers_requires c κs = search rules

sub_out : tie.Need-overflow_sub-out
sub_out c = search rules

slice_write_out : tie.Need-bounds-out
slice_write_out c = search rules

same_length : tie.Need-shape_of-out
same_length c =
    let s = c.before.before.before.before.before.before.before.before.before in
    let m = c.before.before.before.before.before.before.put_margin in
    let n = c.before.before.put_numbers in
    length-set (written s m.new.out n.new.out m.ensures n.ensures) 80 line_feed ∙ written_long s m.new.out n.new.out m.ensures n.ensures ∙ sym s.requires.3

returns : tie.Need-returns
returns c =
    let s = c.before.before.before.before.before.before.before.before.before in
    let m = c.before.before.before.before.before.before.put_margin in
    let n = c.before.before.put_numbers in
    whole s m.new.out n.new.out m.ensures n.ensures

pub put_line_spec : {M : Type 1} → statement M
put_line_spec =
    tie.close
    (tie.spec
    slice_relend_prefix_put_margin
    slice_aggregate_put_margin
    put_margin_requires
    sub_put_numbers
    sub_put_numbers_2
    part_put_numbers_start
    part_put_numbers_end
    put_numbers_requires
    sub_out
    slice_write_out
    same_length
    returns)
