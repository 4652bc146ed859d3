-- `join` meets its contract. The invariant: the first k sums and differences are written.
use mathlib.Core.Path.{◌≡◌}
use mathlib.Core.List.{List}
use Prim.Native.Nat.{ℕ, ◌-◌, ◌≤◌}
use native.Mathlib.Omega.{arith}
use lib.ListN.{length}
use lib.IntN.{ℤ, ◌+ℤ◌, ◌-ℤ◌}
use mir.Syntax.{w64}
use mir.Val.{SFits, to_z, of_z}
use mir.Facts.{to_z-of_z}
use Rattle.arithmetic.specs.Lists.{at}
use Rattle.arithmetic.specs.OrderLaws.{sfits_abs, abs_add, abs_sub}
use Rattle.arithmetic.specs.ListLaws.{Filled, filled_none, filled_more, filled-all}
use Rattle.split.proofs.thirds.join.Statement.{statement}
use Rattle.split.proofs.thirds.join.Tie as tie

-- B(k) + D(k) and B(k) - D(k)
abbrev more : List ℤ → List ℤ → ℕ → ℤ
more b g k = at b k +ℤ at g (length b - 1 - k)

abbrev less : List ℤ → List ℤ → ℕ → ℤ
less b g k = at b k -ℤ at g (length b - 1 - k)

abbrev invariant-loop : tie.invariant-loop-k
invariant-loop b g plus₀ minus₀ h k₀ plus minus k = (k ≤ length b) × Filled (more b g) k plus plus₀ × Filled (less b g) k minus minus₀

abbrev decreases-loop : tie.decreases-loop-k
decreases-loop b g plus₀ minus₀ h k₀ plus minus k = length b - k

loop-holds : tie.Need-loop-k-init invariant-loop decreases-loop
loop-holds c =
    let a = c.args in
    (omega arith, filled_none (more a.b.now a.g.now) a.plus.now, filled_none (less a.b.now a.g.now) a.minus.now)

sub_d : tie.Need-overflow_sub-d invariant-loop decreases-loop
sub_d c = omega arith

sub_d_2 : tie.Need-overflow_sub-d-in-loop-k invariant-loop decreases-loop
sub_d_2 c = omega arith

mul_d : tie.Need-offset_bounds-g-h invariant-loop decreases-loop
mul_d c = omega arith

shared_slice_copy_out_d : tie.Need-bounds-g-h invariant-loop decreases-loop
shared_slice_copy_out_d c = omega (arith, c.before.before.requires.0)

mul_plus : tie.Need-offset_bounds-b-k invariant-loop decreases-loop
mul_plus c = omega arith

shared_slice_copy_out_plus : tie.Need-bounds-b-k invariant-loop decreases-loop
shared_slice_copy_out_plus c = omega arith

-- both fit
module _ (c : tie.In-loop-k invariant-loop decreases-loop) where
  abbrev b : List ℤ
  b = c.before.before.args.b.now

  abbrev g : List ℤ
  g = c.before.before.args.g.now

  abbrev k : ℕ
  k = c.before.loop-k.k

  more-fits : SFits w64 (more b g k)
  more-fits =
      let q = c.before.before.requires in
      sfits_abs (more b g k)
      (omega (arith, abs_add (at b k) (at g (length b - 1 - k)), q.1.1.1.0.small k (omega arith), q.1.1.1.1.small (length b - 1 - k) (omega (arith, q.0))))

  less-fits : SFits w64 (less b g k)
  less-fits =
      let q = c.before.before.requires in
      sfits_abs (less b g k)
      (omega (arith, abs_sub (at b k) (at g (length b - 1 - k)), q.1.1.1.0.small k (omega arith), q.1.1.1.1.small (length b - 1 - k) (omega (arith, q.0))))

-- the entries, as the machine has them
d_is : (c : tie.After-d-1 invariant-loop decreases-loop) → let l = c.before in to_z w64 (of_z w64 (at (g l) (length (b l) - 1 - k l))) ≡ at (g l) (length (b l) - 1 - k l)
d_is c = let l = c.before in to_z-of_z {w = w64} {z = at (g l) (length (b l) - 1 - k l)} (record { sfits = c.d-1.given })

b_is : (c : tie.After-plus-1 invariant-loop decreases-loop) → let l = c.before.before in to_z w64 (of_z w64 (at (b l) (k l))) ≡ at (b l) (k l)
b_is c = let l = c.before.before in to_z-of_z {w = w64} {z = at (b l) (k l)} (record { sfits = c.plus-1.given })

add_plus : tie.Need-overflow_add-plus invariant-loop decreases-loop
add_plus c = rw (b_is c, d_is c.before) (more-fits c.before.before)

mul_minus : tie.Need-offset_bounds-plus-k invariant-loop decreases-loop
mul_minus c = omega arith

slice_set_from_minus : tie.Need-bounds-plus-k invariant-loop decreases-loop
slice_set_from_minus c = omega (arith, c.before.before.before.loop-k.invariant.1.room, c.before.before.before.before.requires.1.0)

mul_minus_2 : tie.Need-offset_bounds-b-k-in-loop-k invariant-loop decreases-loop
mul_minus_2 c = omega arith

shared_slice_copy_out_minus : tie.Need-bounds-b-k-in-loop-k invariant-loop decreases-loop
shared_slice_copy_out_minus c = omega arith

sub_minus : tie.Need-overflow_sub-minus invariant-loop decreases-loop
sub_minus c = rw (b_is c.before, d_is c.before.before) (less-fits c.before.before.before)

mul_t11 : tie.Need-offset_bounds-minus-k invariant-loop decreases-loop
mul_t11 c = omega arith

slice_set_from_minus_2 : tie.Need-bounds-minus-k invariant-loop decreases-loop
slice_set_from_minus_2 c = omega (arith, c.before.before.before.before.loop-k.invariant.2.room, c.before.before.before.before.before.requires.1.1.0)

add_k : tie.Need-overflow_step-k invariant-loop decreases-loop
add_k c = omega arith

loop-less : tie.Need-loop-k-smaller invariant-loop decreases-loop
loop-less c = omega arith

loop-again : tie.Need-loop-k-preserved invariant-loop decreases-loop
loop-again c =
    let i = c.before.before.before in
    let l = i.before in
    let a = l.before.args in
    let q = l.before.requires in (
      omega arith,
      filled_more (more (b i) (g i)) (k i) l.loop-k.plus a.plus.now _ l.loop-k.invariant.1
          (omega (arith, l.loop-k.invariant.1.room, q.1.0))
          (rw (b_is c.before, d_is c.before.before) (to_z-of_z (more-fits i))),
      filled_more (less (b i) (g i)) (k i) l.loop-k.minus a.minus.now _ l.loop-k.invariant.2
          (omega (arith, l.loop-k.invariant.2.room, q.1.1.0))
          (rw (b_is c.before, d_is c.before.before) (to_z-of_z (less-fits i))),
    )

same_length : tie.Need-shape_of-plus invariant-loop decreases-loop
same_length c = c.before.loop-k.invariant.1.room

same_length_2 : tie.Need-shape_of-minus invariant-loop decreases-loop
same_length_2 c = c.before.loop-k.invariant.2.room

returns : tie.Need-returns invariant-loop decreases-loop
returns c =
    let a = c.before.before.args in
    let q = c.before.before.requires in
    let l = c.before.loop-k in
    let m = length a.b.now in
    let e : l.k ≡ m = omega arith in (
      filled-all (more a.b.now a.g.now) m l.plus a.plus.now (rw e at l.invariant.1) q.1.0,
      filled-all (less a.b.now a.g.now) m l.minus a.minus.now (rw e at l.invariant.2) q.1.1.0,
    )

pub join_spec : {M : Type 1} → statement M
join_spec =
    tie.close
    (tie.spec
    invariant-loop
    decreases-loop
    loop-holds
    sub_d
    sub_d_2
    mul_d
    shared_slice_copy_out_d
    mul_plus
    shared_slice_copy_out_plus
    add_plus
    mul_minus
    slice_set_from_minus
    mul_minus_2
    shared_slice_copy_out_minus
    sub_minus
    mul_t11
    slice_set_from_minus_2
    add_k
    loop-less
    loop-again
    same_length
    same_length_2
    returns)
