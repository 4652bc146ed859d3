-- `put_numbers` meets its contract. The invariant: the first i numbers are put, and the rest is as it was.
use mathlib.Core.Path.{◌≡◌, ap, ◌∙◌}
use mathlib.Core.List.{List}
use Prim.Native.Nat.{ℕ, ◌+◌, ◌-◌, ◌*◌, ◌≤◌, ◌<◌}
use native.Mathlib.Omega.{arith}
use lib.ListN.{length, take, drop}
use lib.IntN.{ℤ}
use mir.Syntax.{w32, w64}
use mir.Val.{SFits, to_z, of_z}
use mir.Facts.{to_z-of_z, sfits_widen}
use Rattle.arithmetic.specs.Lists.{at, joined}
use Rattle.arithmetic.specs.ListLaws.{part_length}
use Rattle.arithmetic.specs.JoinLaws.{Joined, joined-none, joined-more, joined-all}
use Rattle.text.specs.Number.{printed}
use Rattle.text.specs.Columns.{aligned}
use Rattle.page.specs.PageLaws.{small_at, number-most, number_long}
use Rattle.page.proofs.lines.put_numbers.Statement.{statement}
use Rattle.page.proofs.lines.put_numbers.Tie as tie

-- number i in its columns
abbrev number : List ℤ → ℕ → List ℕ
number x i = aligned 12 (printed (at x i))

abbrev invariant-loop : tie.invariant-loop-i
invariant-loop x out₀ i₀ out i = (i ≤ 6) × Joined (number x) 12 i out out₀

abbrev decreases-loop : tie.decreases-loop-i
decreases-loop x out₀ i₀ out i = 6 - i

loop-holds : tie.Need-loop-i-init invariant-loop decreases-loop
loop-holds c = (omega arith, joined-none (number c.before.args.x.now) 12 c.before.args.out.now)

mul_place : tie.Need-overflow_mul-place invariant-loop decreases-loop
mul_place c = omega (arith, c.loop-i-test.true)

mul_put_aligned : tie.Need-offset_bounds-x-i invariant-loop decreases-loop
mul_put_aligned c = omega (arith, c.loop-i-test.true)

shared_slice_copy_out_put_aligned : tie.Need-bounds-x-i invariant-loop decreases-loop
shared_slice_copy_out_put_aligned c = omega (arith, c.loop-i-test.true, c.before.before.before.requires.0)

-- the number at i, as the machine has it
module _ (c : tie.After-put_aligned-arg-1 invariant-loop decreases-loop) where
  abbrev begin : tie.Start invariant-loop decreases-loop
  begin = c.before.before.before.before

  abbrev i : ℕ
  i = c.before.before.loop-i.i

  abbrev z : ℤ
  z = at begin.args.x.now i

  fits : SFits w32 z
  fits = record { sfits = c.put_aligned-arg-1.given }

  wide : SFits w64 z
  wide = sfits_widen tt fits

  is : to_z w64 (of_z w64 (to_z w32 (of_z w32 z))) ≡ z
  is = rw (to_z-of_z fits) (to_z-of_z wide)

  less : i < 6
  less = c.before.loop-i-test.true

  room : length c.before.before.loop-i.out ≡ 72
  room = c.before.before.loop-i.invariant.1.room ∙ begin.requires.2

  lent_long : length (take (i * 12 + 12 - i * 12) (drop (i * 12) c.before.before.loop-i.out)) ≡ 12
  lent_long = part_length c.before.before.loop-i.out (i * 12) (i * 12 + 12 - i * 12) 12 (omega arith) (omega (arith, less, room))

cast_put_aligned : tie.Need-overflow_cast-x invariant-loop decreases-loop
cast_put_aligned c = rw (to_z-of_z (fits c)) (wide c)

add_put_aligned : tie.Need-overflow_add-place invariant-loop decreases-loop
add_put_aligned c = omega (arith, less c)

sub_put_aligned : tie.Need-slice_bounds-put_aligned-count invariant-loop decreases-loop
sub_put_aligned c = omega arith

part_put_aligned_start : tie.Need-slice_bounds-put_aligned-start invariant-loop decreases-loop
part_put_aligned_start c = omega arith

part_put_aligned_end : tie.Need-slice_bounds-put_aligned-end invariant-loop decreases-loop
part_put_aligned_end c = omega (arith, less c, room c)

put_aligned_requires : tie.Need-put_aligned-requires invariant-loop decreases-loop
put_aligned_requires c κs =
    let a = c.before in
    rw (is a) (omega (arith, lent_long a, number-most (z a) (small_at (begin a).args.x.now (begin a).requires.1 (i a))))

add_i : tie.Need-overflow_step-i invariant-loop decreases-loop
add_i c = omega arith

loop-less : tie.Need-loop-i-smaller invariant-loop decreases-loop
loop-less c = omega arith

loop-again : tie.Need-loop-i-preserved invariant-loop decreases-loop
loop-again c =
    let a = c.before.before.before.before in
    let x = (begin a).args.x.now in (
      omega arith,
      joined-more (number x) 12 6 (λ j p. number_long (at x j) (small_at x (begin a).requires.1 j)) (i a) (i a * 12 + 12 - i a * 12) (less a) a.before.before.loop-i.out (begin a).args.out.now
          c.before.before.put_aligned.new.out a.before.before.loop-i.invariant.1 (omega (arith, less a, (begin a).requires.2)) (omega arith)
          (c.before.before.put_aligned.ensures ∙ ap (λ (w : ℕ). aligned w (printed (to_z w64 (of_z w64 (to_z w32 (of_z w32 (z a))))))) (lent_long a) ∙ ap (λ (v : ℤ). aligned 12 (printed v)) (is a)),
    )

same_length : tie.Need-shape_of-out invariant-loop decreases-loop
same_length c = c.before.loop-i.invariant.1.room

returns : tie.Need-returns invariant-loop decreases-loop
returns c =
    let s = c.before.before.before in
    let g = number s.args.x.now in
    let e : c.before.loop-i.i ≡ 6 = omega arith in
    joined-all g 12 c.before.loop-i.i c.before.loop-i.out s.args.out.now c.before.loop-i.invariant.1 (omega (arith, s.requires.2)) ∙ ap (λ (k : ℕ). joined k g) e

pub put_numbers_spec : {M : Type 1} → statement M
put_numbers_spec =
    tie.close
    (tie.spec
    invariant-loop
    decreases-loop
    loop-holds
    mul_place
    mul_put_aligned
    shared_slice_copy_out_put_aligned
    cast_put_aligned
    add_put_aligned
    sub_put_aligned
    part_put_aligned_start
    part_put_aligned_end
    put_aligned_requires
    add_i
    loop-less
    loop-again
    same_length
    returns)
