-- `largest_share` meets its contract: W is the same within a block, so the largest products times W are the largest shares.
use mathlib.Core.Path.{◌≡◌, ◌∙◌, ap₂}
use Prim.Native.Nat.{ℕ, ◌+◌, ◌*◌, ◌/◌, ◌≤◌}
use native.Mathlib.Omega.{arith}
use borrow.Author.Rules.{rules}
use lib.IntN.{ℤ, pos, nat_abs}
use lib.Signed.{◌≤ℤ◌}
use mir.Syntax.{w64}
use mir.Val.{to_z, of_z}
use mir.Facts.{to_z-of_z}
use Rattle.cosine.specs.Kernels.{rising, falling}
use Rattle.cosine.specs.LengthLaws.{tabled_length, part_of}
use Rattle.cosine.specs.KernelLaws.{rising-low, falling-low, rising-size, falling-size}
use Rattle.shares.specs.Products.{change_times, largest_in, named_of}
use Rattle.shares.specs.ProductLaws.{non_negative}
use Rattle.shares.specs.LargestLaws.{share_is}
use Rattle.shares.specs.declared.Largest.{Largest}
use Rattle.shares.proofs.largest_share.Statement.{statement}
use Rattle.shares.proofs.largest_share.Tie as tie

quarter_turn_requires : tie.Need-quarter_turn-cos-requires
quarter_turn_requires c κs = search rules

-- N of a tabled length
module _ (s : tie.Start) where
  whole : 2 * (s.args.n / 2) ≡ s.args.n
  whole = omega (arith, (tabled_length s.args.n s.requires.0.0).twelve)

  few : s.args.n / 2 ≤ 108
  few = omega (arith, (tabled_length s.args.n s.requires.0.0).most)

add_largest_in : tie.Need-overflow_add-n
add_largest_in c = let s = c.before.before in omega (arith, few s, s.requires.0.1)

largest_in_requires : tie.Need-largest_in-a-requires
largest_in_requires c κs =
    let s = c.before.before in
    ((c.before.quarter_turn-cos.ensures, s.requires.0.0, omega (arith, whole s, s.requires.0.1)), (s.requires.1.0.0, s.requires.1.0.1, s.requires.1.1.0, s.requires.1.1.1))

largest_in_requires_2 : tie.Need-largest_in-b-requires
largest_in_requires_2 c κs =
    let q = c.before.before.before in
    let s = q.before in
    ((q.quarter_turn-cos.ensures, s.requires.0.0, omega (arith, whole s, s.requires.0.1)), (s.requires.1.0.2, s.requires.1.0.3, s.requires.1.1.2, s.requires.1.1.3))

falling_requires : tie.Need-falling-v-requires
falling_requires c κs = let q = c.before.before.before.before.before in (q.quarter_turn-cos.ensures, q.before.requires.0)

rising_requires : tie.Need-rising-w-requires
rising_requires c κs = let q = c.before.before.before.before.before.before.before in (q.quarter_turn-cos.ensures, q.before.requires.0)

-- W on either side of the joint, as the machine has it
module _ (c : tie.After-rising-w) where
  abbrev fell : tie.After-falling-v
  fell = c.before.before

  abbrev start : tie.Start
  start = fell.before.before.before.before.before.before.before

  abbrev N : ℕ
  N = start.args.n

  abbrev shape : ℕ
  shape = start.args.shape

  abbrev place : ℕ
  place = start.args.place

  fall_is : to_z w64 (of_z w64 fell.falling-v.result) ≡ falling shape N place
  fall_is = to_z-of_z {w = w64} (record { sfits = fell.falling-v.type_inv }) ∙ fell.falling-v.ensures

  rise_is : to_z w64 (of_z w64 c.rising-w.result) ≡ rising shape N place
  rise_is = to_z-of_z {w = w64} (record { sfits = c.rising-w.type_inv }) ∙ c.rising-w.ensures

  fall_low : pos 0 ≤ℤ falling shape N place
  fall_low = falling-low N (part_of N start.requires.0.0) shape place start.requires.0.1

  rise_low : pos 0 ≤ℤ rising shape N place
  rise_low = rising-low N (part_of N start.requires.0.0) shape place start.requires.0.1

cast_larger_of_two : tie.Need-overflow_cast-v
cast_larger_of_two c = rw (fall_is c) (non_negative (falling (shape c) (N c) (place c)) (fall_low c), record { fits = omega (arith, falling-size (shape c) (N c) (place c)) })

cast_larger_of_two_2 : tie.Need-overflow_cast-w
cast_larger_of_two_2 c = rw (rise_is c) (non_negative (rising (shape c) (N c) (place c)) (rise_low c), record { fits = omega (arith, rising-size (shape c) (N c) (place c)) })

larger_of_two_requires : tie.Need-larger_of_two-requires
larger_of_two_requires c κs =
    let b = c.before.before.before.before.largest_in-b.ensures in
    let a = c.before.before.before.before.before.before.largest_in-a.ensures in (
      (a.1, rw (fall_is c) (falling-size (shape c) (N c) (place c)), b.1, rw (rise_is c) (rising-size (shape c) (N c) (place c))),
      (omega (arith, a.2, few (start c)), omega (arith, b.2, few (start c))),
    )

returns : tie.Need-returns
returns c =
    let r = c.before in
    let s = start r in
    let g = s.args in
    let b = r.before.before.before.before.largest_in-b.ensures in
    let a = r.before.before.before.before.before.before.largest_in-a.ensures in
    c.larger_of_two.ensures
    ∙ ap₂ (λ (p q : Largest). named_of p (nat_abs (to_z w64 (of_z w64 (fell r).falling-v.result))) q (nat_abs (to_z w64 (of_z w64 r.rising-w.result)))) a.0 b.0
    ∙ ap₂
    (λ (v w : ℤ).
    named_of (largest_in (N r / 2) (change_times (N r) (N r / 2 + place r) g.first.now g.first_changed.now)) (nat_abs v)
    (largest_in (N r / 2) (change_times (N r) (place r) g.second.now g.second_changed.now)) (nat_abs w))
    (fall_is r) (rise_is r)
    ∙ share_is (N r) (shape r) (place r) g.first.now g.first_changed.now g.second.now g.second_changed.now

pub largest_share_spec : {M : Type 1} → statement M
largest_share_spec =
    tie.close
    (tie.spec
    quarter_turn_requires
    add_largest_in
    largest_in_requires
    largest_in_requires_2
    falling_requires
    rising_requires
    cast_larger_of_two
    cast_larger_of_two_2
    larger_of_two_requires
    returns)
