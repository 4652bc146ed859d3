-- `analyse` meets its contract: the block has room, and its sums fit once divided by 2^30.
use mathlib.Core.Path.{◌≡◌, refl, sym, ◌∙◌}
use mathlib.Core.List.{List}
use Prim.Native.Nat.{ℕ, ◌/◌, ◌≤◌}
use native.Mathlib.Nat.{le_trans}
use native.Mathlib.Omega.{arith}
use lib.ListN.{length}
use lib.Dec.{lit≤}
use lib.Seq.{length-take-le}
use lib.IntN.{ℤ}
use Rattle.arithmetic.specs.Lists.{at, table}
use Rattle.double_route.specs.Double.{scaled}
use Rattle.double_route.specs.PieceLaws.{Piece, offered-short, offered-room, short-most}
use Rattle.double_route.specs.StepLaws.{whole_long, whole_small, rounded-is}
use Rattle.double_route.specs.FrontLaws.{front_long, front_is, front_room}
use borrow.Author.Rules.{rules}
use Rattle.double_route.proofs.analyse.Statement.{statement}
use Rattle.double_route.proofs.analyse.Tie as tie

module _ (c : tie.Start) where
  abbrev y : List ℤ
  y = c.args.y.now

  abbrev N : ℕ
  N = length y

  abbrev h : ℕ
  h = length c.args.out.now

  given : Piece N y
  given = record { short = offered-short N c.requires.0; all = refl; small = record { small = λ i p. le_trans (c.requires.1.0.small i p) (offered-room N c.requires.0) } }

  room_36 : h ≤ 36
  room_36 = omega (arith, c.requires.1.1, short-most N given.short)

module _ (c : tie.After-split) where
  abbrev x : tie.Start
  x = c.before.before

  abbrev sums : List ℤ
  sums = c.split.new.out

  is : sums ≡ table (N x / 2) (scaled (N x) (at (y x)))
  is = c.split.ensures

  long : length sums ≡ h x
  long = whole_long (N x) (y x) (given x) sums is ∙ sym x.requires.1.1

array_borrow_prefix_s : tie.Need-slice_bounds-s-end
array_borrow_prefix_s c = room_36 c

slice_aggregate_split : tie.Need-slice_bounds-split-end
slice_aggregate_split c = front_long (h c.before) _ (room_36 c.before)

split_requires : tie.Need-split-requires
split_requires c κs = let x = c.before in (given x, length-take-le (h x) _ (room_36 x) ∙ x.requires.1.1)

array_share_prefix_s : tie.Need-slice_bounds-s-end-2
array_share_prefix_s c = let p = c.before in front_room (h (x p)) (sums p) _ (long p)

slice_aggregate_spectrum : tie.Need-slice_bounds-spectrum-end
slice_aggregate_spectrum c = let p = c.before.before in front_long (h (x p)) _ (front_room (h (x p)) (sums p) _ (long p))

spectrum_requires : tie.Need-spectrum-requires
spectrum_requires c κs =
    let p = c.before.before.before in
    rw (front_is (h (x p)) (sums p) _ (long p)) (sym (long p), (lit≤ tt, (lit≤ tt, whole_small (N (x p)) (y (x p)) (given (x p)) (sums p) (is p))))

same_length : tie.Need-shape_of-out
same_length c = search rules

returns : tie.Need-returns
returns c =
    let p = c.before.before.before.before.before in
    rounded-is (N (x p)) (y (x p)) (given (x p)) (sums p) (is p) _ (rw (front_is (h (x p)) (sums p) _ (long p)) at c.before.spectrum.ensures)

pub analyse_spec : {M : Type 1} → statement M
analyse_spec =
    tie.close
    (tie.spec
    array_borrow_prefix_s
    slice_aggregate_split
    split_requires
    array_share_prefix_s
    slice_aggregate_spectrum
    spectrum_requires
    same_length
    returns)
