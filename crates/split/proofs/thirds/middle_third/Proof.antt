-- `middle_third` meets its contract. The invariant: the first i inputs are those of the middle third.
use mathlib.Core.Path.{◌≡◌, sym, ◌∙◌}
use Prim.Native.Nat.{◌-◌, ◌/◌, ◌≤◌}
use native.Mathlib.Nat.{le_trans}
use native.Mathlib.Omega.{arith}
use lib.ListN.{length}
use mir.Syntax.{w32}
use mir.Facts.{to_z-of_z}
use Rattle.arithmetic.specs.Lists.{at}
use Rattle.arithmetic.specs.ListLaws.{Filled, filled_none, filled_more, filled-all}
use Rattle.split.specs.Parts.{middle}
use Rattle.split.specs.TurnLaws.{limit-most}
use Rattle.split.specs.PartLaws.{third-middle}
use Rattle.split.proofs.thirds.middle_third.Statement.{statement}
use Rattle.split.proofs.thirds.middle_third.Tie as tie

abbrev invariant-loop : tie.invariant-loop-i
invariant-loop n y w₀ i₀ i_end w i = (i ≤ n / 3) × Filled (middle (length y) (at y)) i w w₀

abbrev decreases-loop : tie.decreases-loop-i
decreases-loop n y w₀ i₀ i_end w i = n / 3 - i

loop-holds : tie.Need-loop-i-init invariant-loop decreases-loop
loop-holds c = let a = c.args in (omega arith, filled_none (middle (length a.y.now) (at a.y.now)) a.w.now)

middle_at_requires : tie.Need-middle_at-requires invariant-loop decreases-loop
middle_at_requires c κs =
    let s = c.before.before in
    let q = s.requires in
    (omega (arith, q.0), record { small = λ i l. le_trans (q.1.0.small i l) (limit-most s.args.n) })

mul_t8 : tie.Need-offset_bounds-w-i invariant-loop decreases-loop
mul_t8 c = omega arith

slice_set_from_w : tie.Need-bounds-w-i invariant-loop decreases-loop
slice_set_from_w c = omega (arith, c.before.before.loop-i.invariant.1.room, c.before.before.before.requires.1.1)

add_i : tie.Need-overflow_step-i invariant-loop decreases-loop
add_i c = omega arith

loop-less : tie.Need-loop-i-smaller invariant-loop decreases-loop
loop-less c = omega arith

loop-again : tie.Need-loop-i-preserved invariant-loop decreases-loop
loop-again c =
    let l = c.before.before in
    let a = l.before.args in (
      omega arith,
      filled_more (middle (length a.y.now) (at a.y.now)) l.loop-i.i l.loop-i.w a.w.now _ l.loop-i.invariant.1
          (omega (arith, l.loop-i.invariant.1.room, l.before.requires.1.1))
          (to_z-of_z {w = w32} {z = c.middle_at.result} (record { sfits = c.middle_at.type_inv }) ∙ c.middle_at.ensures),
    )

same_length : tie.Need-shape_of-w invariant-loop decreases-loop
same_length c = c.before.loop-i.invariant.1.room

returns : tie.Need-returns invariant-loop decreases-loop
returns c =
    let s = c.before.before in
    let a = s.args in
    let y = a.y.now in
    let n = a.n in
    let q = s.requires in
    let e : c.before.loop-i.i ≡ n / 3 = omega arith in
    let is = rw q.0 at (filled-all (middle (length y) (at y)) (n / 3) c.before.loop-i.w a.w.now (rw e at c.before.loop-i.invariant.1) q.1.1) in
    is ∙ sym (third-middle n (at y))

pub middle_third_spec : {M : Type 1} → statement M
middle_third_spec =
    tie.close
    (tie.spec
    invariant-loop
    decreases-loop
    loop-holds
    middle_at_requires
    mul_t8
    slice_set_from_w
    add_i
    loop-less
    loop-again
    same_length
    returns)
