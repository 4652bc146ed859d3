-- `turned_third` meets its contract. The invariant: the first i inputs are those of the part.
use mathlib.Core.Path.{◌≡◌, ◌∙◌}
use Prim.Native.Nat.{◌-◌, ◌/◌, ◌≤◌}
use native.Mathlib.Omega.{arith}
use mir.Syntax.{w32}
use mir.Facts.{to_z-of_z}
use Rattle.arithmetic.specs.Lists.{at}
use Rattle.arithmetic.specs.ListLaws.{Filled, filled_none, filled_more, filled-all}
use Rattle.split.specs.TurnLaws.{turns}
use Rattle.split.specs.PartLaws.{place, third, place-rotated}
use Rattle.split.proofs.thirds.turned_third.Statement.{statement}
use Rattle.split.proofs.thirds.turned_third.Tie as tie

abbrev invariant-loop : tie.invariant-loop-i
invariant-loop n which y p q w₀ i₀ i_end w i = (i ≤ n / 3) × Filled (place which n (at y)) i w w₀

abbrev decreases-loop : tie.decreases-loop-i
decreases-loop n which y p q w₀ i₀ i_end w i = n / 3 - i

loop-holds : tie.Need-loop-i-init invariant-loop decreases-loop
loop-holds c = let a = c.args in (omega arith, filled_none (place a.which a.n (at a.y.now)) a.w.now)

outer_at_requires : tie.Need-outer_at-requires invariant-loop decreases-loop
outer_at_requires c κs =
    let s = c.before.before in
    let q = s.requires in
    (omega (arith, q.0), (q.1.0, rw (q.0, q.1.1.0.p_is, q.1.1.0.q_is) (turns s.args.which s.args.n)))

mul_t11 : tie.Need-offset_bounds-w-i invariant-loop decreases-loop
mul_t11 c = omega arith

slice_set_from_w : tie.Need-bounds-w-i invariant-loop decreases-loop
slice_set_from_w c = omega (arith, c.before.before.loop-i.invariant.1.room, c.before.before.before.requires.1.1.1)

add_i : tie.Need-overflow_step-i invariant-loop decreases-loop
add_i c = omega arith

loop-less : tie.Need-loop-i-smaller invariant-loop decreases-loop
loop-less c = omega arith

loop-again : tie.Need-loop-i-preserved invariant-loop decreases-loop
loop-again c =
    let l = c.before.before in
    let a = l.before.args in
    let q = l.before.requires in (
      omega arith,
      filled_more (place a.which a.n (at a.y.now)) l.loop-i.i l.loop-i.w a.w.now _ l.loop-i.invariant.1
          (omega (arith, l.loop-i.invariant.1.room, l.before.requires.1.1.1))
          (to_z-of_z {w = w32} {z = c.outer_at.result} (record { sfits = c.outer_at.type_inv })
          ∙ c.outer_at.ensures
          ∙ rw (q.0, q.1.1.0.p_is, q.1.1.0.q_is) (place-rotated a.n (at a.y.now) a.which q.1.1.0.outer l.loop-i.i (omega arith))),
    )

same_length : tie.Need-shape_of-w invariant-loop decreases-loop
same_length c = c.before.loop-i.invariant.1.room

returns : tie.Need-returns invariant-loop decreases-loop
unfolding third
returns c =
    let s = c.before.before in
    let a = s.args in
    let q = s.requires in
    let e : c.before.loop-i.i ≡ a.n / 3 = omega arith in
    filled-all (place a.which a.n (at a.y.now)) (a.n / 3) c.before.loop-i.w a.w.now (rw e at c.before.loop-i.invariant.1) q.1.1.1

pub turned_third_spec : {M : Type 1} → statement M
turned_third_spec =
    tie.close
    (tie.spec
    invariant-loop
    decreases-loop
    loop-holds
    outer_at_requires
    mul_t11
    slice_set_from_w
    add_i
    loop-less
    loop-again
    same_length
    returns)
