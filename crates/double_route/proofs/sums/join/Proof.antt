-- `join` meets its contract. The invariant: the first 3k sums are written.
use mathlib.Core.Path.{◌≡◌, sym, ap, ◌∙◌}
use Prim.Native.Nat.{ℕ, ◌+◌, ◌-◌, ◌*◌, ◌/◌, ◌≤◌, ◌<◌}
use native.Mathlib.Omega.{arith}
use lib.ListN.{length, length-set}
use lib.IntN.{◌+ℤ◌, ◌-ℤ◌}
use mir.Syntax.{w64}
use mir.Facts.{to_z-of_z}
use Rattle.arithmetic.specs.Lists.{at}
use Rattle.arithmetic.specs.ListLaws.{Filled, filled_none, filled-three, filled-all}
use Rattle.double_route.specs.Double.{joined}
use Rattle.double_route.specs.DoubleLaws.{joined-first, joined-middle, joined-last}
use Rattle.double_route.proofs.sums.join.Statement.{statement}
use Rattle.double_route.proofs.sums.join.Tie as tie

abbrev invariant-loop : tie.invariant-loop-k
invariant-loop a b g out₀ k₀ k_end out k = (k ≤ length a) × Filled (joined (6 * length a) (at a) (at b) (at g)) (3 * k) out out₀

abbrev decreases-loop : tie.decreases-loop-k
decreases-loop a b g out₀ k₀ k_end out k = length a - k

-- the buffer has room for three more
room : (c : tie.In-loop-k invariant-loop decreases-loop) → 3 * c.before.loop-k.k + 2 < length c.before.loop-k.out
room c = omega (arith, c.before.loop-k.invariant.1.room, c.before.before.requires.1.1.0)

loop-holds : tie.Need-loop-k-init invariant-loop decreases-loop
loop-holds c = let a = c.args in (omega arith, filled_none (joined (6 * length a.a.now) (at a.a.now) (at a.b.now) (at a.g.now)) a.out.now)

first_at_requires : tie.Need-first_at-requires invariant-loop decreases-loop
first_at_requires c κs = let q = c.before.before.requires in (q.1.0 ∙ sym q.0, (omega (arith, q.0), (q.1.1.1.1.0, q.1.1.1.1.1)))

mul_out : tie.Need-overflow_mul-out invariant-loop decreases-loop
mul_out c = omega (arith, c.before.before.before.requires.1.1.0)

mul_out_2 : tie.Need-offset_bounds-out-k invariant-loop decreases-loop
mul_out_2 c = omega (arith, c.before.before.before.requires.1.1.0)

slice_set_from_out : tie.Need-bounds-out-k invariant-loop decreases-loop
slice_set_from_out c = omega (arith, room c.before)

middle_at_requires : tie.Need-middle_at-requires invariant-loop decreases-loop
middle_at_requires c κs = let q = c.before.before.before.requires in (omega arith, q.1.1.1.0)

mul_out_3 : tie.Need-overflow_mul-out-in-loop-k invariant-loop decreases-loop
mul_out_3 c = omega (arith, c.before.before.before.before.requires.1.1.0)

add_out : tie.Need-overflow_add-out invariant-loop decreases-loop
add_out c = omega (arith, c.before.before.before.before.requires.1.1.0)

mul_out_4 : tie.Need-offset_bounds-out-k-in-loop-k invariant-loop decreases-loop
mul_out_4 c = omega (arith, c.before.before.before.before.requires.1.1.0)

slice_set_from_out_2 : tie.Need-bounds-out-k-in-loop-k invariant-loop decreases-loop
slice_set_from_out_2 c = rw length-set (omega (arith, room c.before.before))

last_at_requires : tie.Need-last_at-requires invariant-loop decreases-loop
last_at_requires c κs = let q = c.before.before.before.before.requires in (q.1.0 ∙ sym q.0, (omega (arith, q.0), (q.1.1.1.1.0, q.1.1.1.1.1)))

mul_t12 : tie.Need-overflow_mul-k invariant-loop decreases-loop
mul_t12 c = omega (arith, c.before.before.before.before.before.requires.1.1.0)

add_t9 : tie.Need-overflow_add-k invariant-loop decreases-loop
add_t9 c = omega (arith, c.before.before.before.before.before.requires.1.1.0)

mul_t10 : tie.Need-offset_bounds-out-k-in-loop-k-2 invariant-loop decreases-loop
mul_t10 c = omega (arith, c.before.before.before.before.before.requires.1.1.0)

slice_set_from_out_3 : tie.Need-bounds-out-k-in-loop-k-2 invariant-loop decreases-loop
slice_set_from_out_3 c = simp length-set (omega (arith, room c.before.before.before))

add_k : tie.Need-overflow_step-k invariant-loop decreases-loop
add_k c = omega arith

loop-less : tie.Need-loop-k-smaller invariant-loop decreases-loop
loop-less c = omega arith

loop-again : tie.Need-loop-k-preserved invariant-loop decreases-loop
loop-again c =
    let second = c.before in
    let first = second.before in
    let i = first.before in
    let l = i.before in
    let a = l.before.args in
    let q = l.before.requires in
    let n = 6 * length a.a.now in
    let k = l.loop-k.k in
    let back : length a.b.now - 1 - k ≡ n / 6 - 1 - k = omega (arith, q.0) in (
      omega arith,
      filled-three (joined (6 * length a.a.now) (at a.a.now) (at a.b.now) (at a.g.now)) k l.loop-k.out a.out.now _ _ _ l.loop-k.invariant.1 (room i)
          (to_z-of_z {w = w64} {z = first.first_at.result} (record { sfits = first.first_at.type_inv })
          ∙ first.first_at.ensures
          ∙ ap (λ (j : ℕ). at a.b.now k +ℤ at a.g.now j) back
          ∙ sym (joined-first n (at a.a.now) (at a.b.now) (at a.g.now) k))
          (to_z-of_z {w = w64} {z = second.middle_at.result} (record { sfits = second.middle_at.type_inv })
          ∙ second.middle_at.ensures
          ∙ sym (joined-middle n (at a.a.now) (at a.b.now) (at a.g.now) k))
          (to_z-of_z {w = w64} {z = c.last_at.result} (record { sfits = c.last_at.type_inv })
          ∙ c.last_at.ensures
          ∙ ap (λ (j : ℕ). at a.b.now k -ℤ at a.g.now j) back
          ∙ sym (joined-last n (at a.a.now) (at a.b.now) (at a.g.now) k)),
    )

same_length : tie.Need-shape_of-out invariant-loop decreases-loop
same_length c = c.before.loop-k.invariant.1.room

returns : tie.Need-returns invariant-loop decreases-loop
returns c =
    let a = c.before.before.args in
    let l = c.before.loop-k in
    let e : l.k ≡ length a.a.now = omega arith in
    filled-all (joined (6 * length a.a.now) (at a.a.now) (at a.b.now) (at a.g.now)) (3 * length a.a.now) l.out a.out.now (rw e at l.invariant.1) c.before.before.requires.1.1.0

pub join_spec : {M : Type 1} → statement M
join_spec =
    tie.close
    (tie.spec
    invariant-loop
    decreases-loop
    loop-holds
    first_at_requires
    mul_out
    mul_out_2
    slice_set_from_out
    middle_at_requires
    mul_out_3
    add_out
    mul_out_4
    slice_set_from_out_2
    last_at_requires
    mul_t12
    add_t9
    mul_t10
    slice_set_from_out_3
    add_k
    loop-less
    loop-again
    same_length
    returns)
