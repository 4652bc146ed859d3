-- `fill_hop` meets its contract. The invariant: the first i samples are written.
use mathlib.Core.Path.{◌≡◌, ◌∙◌}
use mathlib.Core.List.{List}
use Prim.Native.Nat.{ℕ, ◌-◌, ◌*◌, ◌/◌, ◌^◌, ◌≤◌}
use native.Mathlib.Omega.{arith}
use lib.IntN.{ℤ, ◌+ℤ◌}
use mir.Syntax.{w16, w64}
use mir.Facts.{to_z-of_z}
use Rattle.arithmetic.specs.Rounding.{rnd, clamp}
use Rattle.arithmetic.specs.Lists.{at}
use Rattle.arithmetic.specs.ListLaws.{Filled, filled_none, filled_more, filled-all}
use Rattle.stream.proofs.fill_hop.Statement.{statement}
use Rattle.stream.proofs.fill_hop.Tie as tie

-- sample i
abbrev value : ℕ → List ℤ → List ℤ → ℕ → ℤ
value n tail v i = clamp (rnd (at tail i +ℤ at v i) (n * 2 ^ 30))

abbrev invariant-loop : tie.invariant-loop-i
invariant-loop n tail v out₀ i₀ i_end out i = (i ≤ n / 2) × Filled (value n tail v) i out out₀

abbrev decreases-loop : tie.decreases-loop-i
decreases-loop n tail v out₀ i₀ i_end out i = n / 2 - i

loop-holds : tie.Need-loop-i-init invariant-loop decreases-loop
loop-holds c = (omega arith, filled_none (value c.args.n c.args.tail.now c.args.v.now) c.args.out.now)

mul_sample : tie.Need-offset_bounds-tail-i invariant-loop decreases-loop
mul_sample c = omega arith

shared_slice_copy_out_sample : tie.Need-bounds-tail-i invariant-loop decreases-loop
shared_slice_copy_out_sample c = omega (arith, c.before.before.requires.1.1.0.long)

mul_sample_2 : tie.Need-offset_bounds-v-i invariant-loop decreases-loop
mul_sample_2 c = omega arith

shared_slice_copy_out_sample_2 : tie.Need-bounds-v-i invariant-loop decreases-loop
shared_slice_copy_out_sample_2 c = omega (arith, c.before.before.before.requires.1.1.1.0.long)

sample_requires : tie.Need-sample-requires invariant-loop decreases-loop
sample_requires c κs =
    let s = c.before.before.before.before in
    let i = c.before.before.before.loop-i.i in (s.requires.0, (s.requires.1.0, (rw (to_z-of_z {w = w64} (record { sfits = c.before.sample-arg-1.given })) (s.requires.1.1.0.bounded.within i (omega arith)), rw (to_z-of_z {w = w64} (record { sfits = c.sample-arg-in-loop-i-1.given })) (s.requires.1.1.1.0.bounded.within i (omega arith)))))

mul_t15 : tie.Need-offset_bounds-out-i invariant-loop decreases-loop
mul_t15 c = omega arith

slice_set_from_out : tie.Need-bounds-out-i invariant-loop decreases-loop
slice_set_from_out c = omega (arith, c.before.before.before.before.loop-i.invariant.1.room, c.before.before.before.before.before.requires.1.1.1.1)

add_i : tie.Need-overflow_step-i invariant-loop decreases-loop
add_i c = omega arith

loop-less : tie.Need-loop-i-smaller invariant-loop decreases-loop
loop-less c = omega arith

loop-again : tie.Need-loop-i-preserved invariant-loop decreases-loop
loop-again c =
    let l = c.before.before.before.before in
    let a = l.before.args in (
      omega arith,
      filled_more (value a.n a.tail.now a.v.now) l.loop-i.i l.loop-i.out a.out.now _ l.loop-i.invariant.1
          (omega (arith, l.loop-i.invariant.1.room, l.before.requires.1.1.1.1))
          (to_z-of_z {w = w16} {z = c.sample.result} (record { sfits = c.sample.type_inv }) ∙ c.sample.ensures
          ∙ rw (to_z-of_z {w = w64} (record { sfits = c.before.before.sample-arg-1.given }), to_z-of_z {w = w64} (record { sfits = c.before.sample-arg-in-loop-i-1.given }))),
    )

same_length : tie.Need-shape_of-out invariant-loop decreases-loop
same_length c = c.before.loop-i.invariant.1.room

returns : tie.Need-returns invariant-loop decreases-loop
returns c =
    let s = c.before.before in
    let a = s.args in
    let e : c.before.loop-i.i ≡ a.n / 2 = omega arith in
    filled-all (value a.n a.tail.now a.v.now) (a.n / 2) c.before.loop-i.out a.out.now (rw e at c.before.loop-i.invariant.1) s.requires.1.1.1.1

pub fill_hop_spec : {M : Type 1} → statement M
fill_hop_spec =
    tie.close
    (tie.spec
    invariant-loop
    decreases-loop
    loop-holds
    mul_sample
    shared_slice_copy_out_sample
    mul_sample_2
    shared_slice_copy_out_sample_2
    sample_requires
    mul_t15
    slice_set_from_out
    add_i
    loop-less
    loop-again
    same_length
    returns)
