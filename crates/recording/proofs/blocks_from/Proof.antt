-- `blocks_from` meets its contract. The invariant: the coefficients of the first j blocks are written, and the rest is as it was.
use mathlib.Core.Path.{◌≡◌, sym, ap, ◌∙◌}
use mathlib.Core.List.{List}
use Prim.Native.Nat.{ℕ, ◌+◌, ◌-◌, ◌*◌, ◌/◌, ◌≤◌}
use native.Mathlib.Nat.{mul-le-mul}
use native.Mathlib.Omega.{arith}
use lib.ListN.{length}
use lib.IntN.{ℤ}
use Rattle.arithmetic.specs.Lists.{joined}
use Rattle.arithmetic.specs.ListLaws.{part_length}
use Rattle.arithmetic.specs.JoinLaws.{within, Joined, joined-none, joined-more, joined-all}
use Rattle.analysis.specs.declared.Route.{Route}
use Rattle.analysis.specs.Analysis.{coefficients}
use Rattle.analysis.specs.AnalysisLaws.{offered-tabled, coefficients-length}
use Rattle.cosine.specs.LengthLaws.{tabled_length}
use Rattle.recording.specs.Recordings.{block}
use Rattle.recording.proofs.blocks_from.Statement.{statement}
use Rattle.recording.proofs.blocks_from.Tie as tie

-- what block first + j gives
abbrev given : Route → ℕ → List ℤ → ℕ → ℕ → List ℤ
given route n x first j = coefficients route n 0 0 (block n x (first + j))

abbrev invariant-loop : tie.invariant-loop-j
invariant-loop route n hops x first count out₀ m j₀ out j = (j ≤ count) × Joined (given route n x first) (n / 2) j out out₀

abbrev decreases-loop : tie.decreases-loop-j
decreases-loop route n hops x first count out₀ m j₀ out j = count - j

loop-holds : tie.Need-loop-j-init invariant-loop decreases-loop
loop-holds c = let a = c.args in (omega arith, joined-none (given a.route a.n a.x.now a.first) (a.n / 2) a.out.now)

module _ (c : tie.In-loop-j invariant-loop decreases-loop) where
  abbrev start : tie.Start invariant-loop decreases-loop
  start = c.before.before

  abbrev M : ℕ
  M = start.args.n / 2

  abbrev j : ℕ
  j = c.before.loop-j.j

  -- where block j lies
  ends_here : j * M + M ≤ length c.before.loop-j.out
  ends_here = omega (arith, within j start.args.count M c.loop-j-test.true, start.requires.1.1, c.before.loop-j.invariant.1.room)

  few : length c.before.loop-j.out ≤ 4096 * 108
  few =
      let s = start in
      omega (
        arith,
        s.requires.1.1,
        c.before.loop-j.invariant.1.room,
        mul-le-mul (let h : s.args.count ≤ 4096 = omega (arith, s.requires.0.3, s.requires.0.2) in h)
            (let h : M ≤ 108 = omega (arith, (tabled_length s.args.n (offered-tabled s.args.route s.args.n s.requires.0.0)).most) in h),
      )

mul_at : tie.Need-overflow_mul-at invariant-loop decreases-loop
mul_at c = omega (arith, ends_here c, few c)

add_block_at : tie.Need-overflow_add-first invariant-loop decreases-loop
add_block_at c = let s = start c in omega (arith, c.loop-j-test.true, s.requires.0.3, s.requires.0.2)

add_block_at_2 : tie.Need-overflow_add-at invariant-loop decreases-loop
add_block_at_2 c = omega (arith, ends_here c, few c)

mul_block_at : tie.Need-offset_bounds-out-at invariant-loop decreases-loop
mul_block_at c = omega (arith, ends_here c, few c)

sub_block_at : tie.Need-slice_bounds-block_at-count invariant-loop decreases-loop
sub_block_at c = omega (arith, ends_here c, few c)

part_block_at_start : tie.Need-slice_bounds-block_at-start invariant-loop decreases-loop
part_block_at_start c = omega (arith, ends_here c, few c)

part_block_at_end : tie.Need-slice_bounds-block_at-end invariant-loop decreases-loop
part_block_at_end c = omega (arith, ends_here c, few c)

block_at_requires : tie.Need-block_at-requires invariant-loop decreases-loop
block_at_requires c κs =
    let i = c.before in
    let s = start i in
    let at = j i * M i in
    ((s.requires.0.0, s.requires.0.1, s.requires.0.2, omega (arith, i.loop-j-test.true, s.requires.0.3)), (s.requires.1.0, part_length i.before.loop-j.out at (at + M i - at) (M i) (omega arith) (ends_here i)))

add_j : tie.Need-overflow_step-j invariant-loop decreases-loop
add_j c = let i = c.before.before.before in omega (arith, i.loop-j-test.true, (start i).requires.0.3, (start i).requires.0.2)

loop-less : tie.Need-loop-j-smaller invariant-loop decreases-loop
loop-less c = omega (arith, c.before.before.before.loop-j-test.true)

loop-again : tie.Need-loop-j-preserved invariant-loop decreases-loop
loop-again c =
    let i = c.before.before.before in
    let s = start i in
    let a = s.args in
    let at = j i * M i in
    let g = given a.route a.n a.x.now a.first in
    let y = c.before.block_at in (
      omega (arith, i.loop-j-test.true),
      joined-more g (M i) a.count (λ k p. coefficients-length a.route a.n 0 0 (block a.n a.x.now (a.first + k))) (j i) (at + M i - at) i.loop-j-test.true i.before.loop-j.out a.out.now
          y.new.out i.before.loop-j.invariant.1 (omega (arith, ends_here i, i.before.loop-j.invariant.1.room)) (omega arith) y.ensures,
    )

same_length : tie.Need-shape_of-out invariant-loop decreases-loop
same_length c = c.before.loop-j.invariant.1.room

returns : tie.Need-returns invariant-loop decreases-loop
returns c =
    let s = c.before.before in
    let a = s.args in
    let g = given a.route a.n a.x.now a.first in
    let e : c.before.loop-j.j ≡ a.count = omega (arith, c.before.loop-j.invariant.0, c.loop-j-test.false) in
    joined-all g (a.n / 2) c.before.loop-j.j c.before.loop-j.out a.out.now c.before.loop-j.invariant.1 (s.requires.1.1 ∙ ap (λ (k : ℕ). k * (a.n / 2)) (sym e)) ∙ ap (λ (k : ℕ). joined k g) e

pub blocks_from_spec : {M : Type 1} → statement M
blocks_from_spec =
    tie.close
    (tie.spec
    invariant-loop
    decreases-loop
    loop-holds
    mul_at
    add_block_at
    add_block_at_2
    mul_block_at
    sub_block_at
    part_block_at_start
    part_block_at_end
    block_at_requires
    add_j
    loop-less
    loop-again
    same_length
    returns)
