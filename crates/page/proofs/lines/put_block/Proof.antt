-- `put_block` meets its contract. The invariant: the first j lines are put, and the rest is as it was.
use mathlib.Core.Path.{◌≡◌, sym, ap, ◌∙◌}
use mathlib.Core.List.{List, [], ◌∷◌, ◌++◌}
use Prim.Native.Nat.{ℕ, ◌+◌, ◌-◌, ◌*◌, ◌^◌, ◌≤◌, ◌<◌}
use native.Mathlib.Omega.{arith}
use lib.ListN.{length}
use lib.IntN.{ℤ}
use Rattle.arithmetic.specs.Lists.{joined}
use Rattle.arithmetic.specs.ListLaws.{part_length, part_small}
use Rattle.arithmetic.specs.JoinLaws.{Joined, joined-none, joined-more, joined-all}
use Rattle.text.specs.Bytes.{line_feed}
use Rattle.page.specs.Page.{columns}
use Rattle.page.specs.PageLaws.{columns-part, line_long}
use Rattle.page.proofs.lines.put_block.Statement.{statement}
use Rattle.page.proofs.lines.put_block.Tie as tie

-- line j
abbrev line : ℕ → List ℤ → ℕ → List ℕ
line b x j = columns b x j ++ (line_feed ∷ [])

abbrev invariant-loop : tie.invariant-loop-j
invariant-loop b lines x out₀ j₀ out j = (j ≤ lines) × Joined (line b x) 81 j out out₀

abbrev decreases-loop : tie.decreases-loop-j
decreases-loop b lines x out₀ j₀ out j = lines - j

loop-holds : tie.Need-loop-j-init invariant-loop decreases-loop
loop-holds c = let a = c.before.args in (omega arith, joined-none (line a.b a.x.now) 81 a.out.now)

module _ (c : tie.In-loop-j invariant-loop decreases-loop) where
  abbrev begin : tie.Start invariant-loop decreases-loop
  begin = c.before.before.before

  abbrev turn : ℕ
  turn = c.before.loop-j.j

  few : turn < 18
  few = omega (arith, c.loop-j-test.true, begin.requires.1)

  covered : turn * 6 + 6 ≤ length begin.args.x.now
  covered = omega (arith, c.loop-j-test.true, begin.requires.2)

  room : turn * 81 + 81 ≤ length begin.args.out.now
  room = omega (arith, c.loop-j-test.true, begin.requires.4)

  out_long : length c.before.loop-j.out ≡ length begin.args.out.now
  out_long = c.before.loop-j.invariant.1.room

mul_at : tie.Need-overflow_mul-at invariant-loop decreases-loop
mul_at c = omega (arith, few c)

mul_place : tie.Need-overflow_mul-place invariant-loop decreases-loop
mul_place c = omega (arith, few c)

add_put_line : tie.Need-overflow_add-at invariant-loop decreases-loop
add_put_line c = omega (arith, few c)

mul_put_line : tie.Need-offset_bounds-x-at invariant-loop decreases-loop
mul_put_line c = omega (arith, few c)

sub_put_line : tie.Need-slice_bounds-put_line-count invariant-loop decreases-loop
sub_put_line c = omega arith

part_put_line_start : tie.Need-slice_bounds-put_line-start invariant-loop decreases-loop
part_put_line_start c = omega arith

part_put_line_end : tie.Need-slice_bounds-put_line-end invariant-loop decreases-loop
part_put_line_end c = omega (arith, covered c)

add_put_line_2 : tie.Need-overflow_add-place invariant-loop decreases-loop
add_put_line_2 c = omega (arith, few c.before)

sub_put_line_2 : tie.Need-slice_bounds-put_line-count-in-loop-j invariant-loop decreases-loop
sub_put_line_2 c = omega arith

part_put_line_start_2 : tie.Need-slice_bounds-put_line-start-in-loop-j invariant-loop decreases-loop
part_put_line_start_2 c = omega arith

part_put_line_end_2 : tie.Need-slice_bounds-put_line-end-in-loop-j invariant-loop decreases-loop
part_put_line_end_2 c = omega (arith, room c.before, out_long c.before)

put_line_requires : tie.Need-put_line-requires invariant-loop decreases-loop
put_line_requires c κs =
    let i = c.before.before in
    let s = begin i in
    let j = turn i in
    let x = s.args.x.now in
    let k : j * 6 + 6 - j * 6 ≡ 6 = omega arith in (
      s.requires.0,
      part_length x (j * 6) (j * 6 + 6 - j * 6) 6 k (covered i),
      part_small x (j * 6) (j * 6 + 6 - j * 6) 6 k (covered i) (2 ^ 29) s.requires.3,
      part_length i.before.loop-j.out (j * 81) (j * 81 + 81 - j * 81) 81 (omega arith) (omega (arith, room i, out_long i)),
    )

add_j : tie.Need-overflow_step-j invariant-loop decreases-loop
add_j c = omega (arith, few c.before.before.before.before.before)

loop-less : tie.Need-loop-j-smaller invariant-loop decreases-loop
loop-less c = omega (arith, c.before.before.before.before.before.loop-j-test.true)

loop-again : tie.Need-loop-j-preserved invariant-loop decreases-loop
loop-again c =
    let i = c.before.before.before.before.before in
    let s = begin i in
    let j = turn i in
    let b = s.args.b in
    let x = s.args.x.now in
    let less = i.loop-j-test.true in
    let y = c.before.before.put_line in (
      omega arith,
      joined-more (line b x) 81 s.args.lines (λ j p. line_long b s.requires.0 x s.requires.3 j) j (j * 81 + 81 - j * 81) less i.before.loop-j.out s.args.out.now y.new.out i.before.loop-j.invariant.1
          (room i) (omega arith) (y.ensures ∙ ap (λ (l : List ℕ). l ++ (line_feed ∷ [])) (columns-part b x j (j * 6 + 6 - j * 6) (omega arith) (covered i))),
    )

same_length : tie.Need-shape_of-out invariant-loop decreases-loop
same_length c = c.before.loop-j.invariant.1.room

returns : tie.Need-returns invariant-loop decreases-loop
returns c =
    let s = c.before.before.before in
    let g = line s.args.b s.args.x.now in
    let e : c.before.loop-j.j ≡ s.args.lines = omega arith in
    joined-all g 81 c.before.loop-j.j c.before.loop-j.out s.args.out.now c.before.loop-j.invariant.1 (s.requires.4 ∙ ap (λ (k : ℕ). k * 81) (sym e)) ∙ ap (λ (k : ℕ). joined k g) e

pub put_block_spec : {M : Type 1} → statement M
put_block_spec =
    tie.close
    (tie.spec
    invariant-loop
    decreases-loop
    loop-holds
    mul_at
    mul_place
    add_put_line
    mul_put_line
    sub_put_line
    part_put_line_start
    part_put_line_end
    add_put_line_2
    sub_put_line_2
    part_put_line_start_2
    part_put_line_end_2
    put_line_requires
    add_j
    loop-less
    loop-again
    same_length
    returns)
