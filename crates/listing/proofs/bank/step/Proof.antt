-- `step` meets its contract: the block is analysed directly, and its coefficients go to the stream as they are.
use mathlib.Core.Path.{◌≡◌, sym, ap, ◌∙◌}
use mathlib.Core.List.{List, ◌++◌}
use Prim.Native.Nat.{ℕ, ◌/◌, ◌≤◌}
use native.Mathlib.Omega.{arith}
use borrow.Author.Rules.{rules}
use lib.ListN.{length, take, drop, length-append}
use lib.Seq.{length-take-le, take_at}
use lib.IntN.{ℤ}
use Rattle.cosine.specs.LengthLaws.{tabled_length}
use Rattle.stream.specs.Steps.{next, hop}
use Rattle.analysis.specs.declared.Route.TheVariants.{Direct}
use Rattle.analysis.specs.Analysis.{spectrum, coefficients}
use Rattle.listing.specs.BankLaws.{coefficients_long, coefficients_small}
use Rattle.listing.proofs.bank.step.Statement.{statement}
use Rattle.listing.proofs.bank.step.Tie as tie

-- room for the coefficients
module _ (c : tie.After-spectrum_room-x) where
  abbrev start : tie.Start
  start = c.before

  abbrev n : ℕ
  n = start.args.s.n

  abbrev room : List ℤ
  room = c.spectrum_room-x.result

  room≤ : n / 2 ≤ length room
  room≤ = omega (arith, c.spectrum_room-x.ensures, (tabled_length n start.requires.0.0).most)

  room_long : length (take (n / 2) room) ≡ n / 2
  room_long = length-take-le (n / 2) room room≤

-- the coefficients, in front of it
module _ (c : tie.After-analyse) where
  abbrev rooms : tie.After-spectrum_room-x
  rooms = c.before.before

  abbrev N : ℕ
  N = n rooms

  abbrev block : List ℤ
  block = (start rooms).args.block.now

  abbrev x : List ℤ
  x = c.analyse.new.out

  abbrev beyond : List ℤ
  beyond = drop (N / 2) (room rooms)

  x-is : x ≡ coefficients Direct N 0 0 block
  unfolding coefficients spectrum
  x-is = c.analyse.ensures

  long : length (coefficients Direct N 0 0 block) ≡ N / 2
  long = coefficients_long N (start rooms).requires.0.0 block (start rooms).requires.0.2

  x_long : length x ≡ N / 2
  x_long = ap length x-is ∙ long

  brought : take (N / 2) (x ++ beyond) ≡ coefficients Direct N 0 0 block
  brought = take_at x beyond (N / 2) x_long ∙ x-is

  brought_long : length (take (N / 2) (x ++ beyond)) ≡ N / 2
  brought_long = ap length brought ∙ long

spectrum_room_requires : tie.Need-spectrum_room-x-requires
spectrum_room_requires c κs = search rules

array_borrow_prefix_x : tie.Need-slice_bounds-x-end
array_borrow_prefix_x c = room≤ c

slice_aggregate_analyse : tie.Need-slice_bounds-analyse-end
slice_aggregate_analyse c = sym (room_long c.before)

analyse_requires : tie.Need-analyse-requires
analyse_requires c κs = let s = start c.before in (s.requires.0.0, s.requires.0.2.long, room_long c.before)

array_share_prefix_x : tie.Need-slice_bounds-x-end-2
array_share_prefix_x c = let a = c.before in omega (arith, length-append (x a) (beyond a), x_long a)

slice_aggregate_advance : tie.Need-slice_bounds-advance-end
slice_aggregate_advance c = sym (brought_long c.before.before)

advance_requires : tie.Need-advance-requires
advance_requires c κs =
    let a = c.before.before.before in
    let s = start (rooms a) in
    ((s.requires.0.0, brought_long a, rw (brought a) (coefficients_small (N a) s.requires.0.0 (block a) s.requires.0.2), s.requires.0.3, s.requires.0.1), s.requires.1)

same_length : tie.Need-shape_of-out
same_length c = search rules

returns : tie.Need-returns
unfolding next hop
returns c =
    let a = c.before.before.before.before.before in
    let s = (start (rooms a)).args.s in (
      c.before.advance.ensures.0 ∙ ap (λ (l : List ℤ). next s 0 0 l) (brought a),
      c.before.advance.ensures.1 ∙ ap (λ (l : List ℤ). hop s 0 0 l) (brought a),
    )

pub step_spec : {M : Type 1} → statement M
step_spec =
    tie.close
    (tie.spec
    spectrum_room_requires
    array_borrow_prefix_x
    slice_aggregate_analyse
    analyse_requires
    array_share_prefix_x
    slice_aggregate_advance
    advance_requires
    same_length
    returns)
