-- `scatter` meets its contract. The invariant: the bands before k are in their places, and nothing else has moved.
use mathlib.Core.Path.{◌≡◌, sym, ap, ◌∙◌}
use Prim.Native.Nat.{ℕ, ◌+◌, ◌*◌, ◌-◌, ◌≤◌}
use native.Mathlib.Nat.{mul-le-mul, mul_comm}
use native.Mathlib.Omega.{arith}
use lib.ListN.{length, take, drop}
use Rattle.arithmetic.specs.Lists.{at, table}
use Rattle.arithmetic.specs.ListLaws.{part_length}
use Rattle.arithmetic.specs.JoinLaws.{within}
use Rattle.orders.specs.OrderLaws.{Banded, banded_none, banded_more, banded_all}
use Rattle.orders.proofs.scatter.Statement.{statement}
use Rattle.orders.proofs.scatter.Tie as tie

abbrev invariant-loop : tie.invariant-loop-k
invariant-loop m blocks first count tile out₀ k₀ out k = (k ≤ m) × Banded m blocks first count tile out₀ k out

abbrev decreases-loop : tie.decreases-loop-k
decreases-loop m blocks first count tile out₀ k₀ out k = m - k

loop-holds : tie.Need-loop-k-init invariant-loop decreases-loop
loop-holds c = let a = c.args in (omega arith, banded_none a.m a.blocks a.first a.count a.tile.now a.out.now c.requires.4)

module _ (c : tie.In-loop-k invariant-loop decreases-loop) where
  abbrev start : tie.Start invariant-loop decreases-loop
  start = c.before.before

  abbrev place : ℕ
  place = c.before.loop-k.k * start.args.blocks + start.args.first

  -- where the band lies
  covered : place + start.args.count ≤ length c.before.loop-k.out
  covered =
      let a = start.args in
      omega (arith, within c.before.loop-k.k a.m a.blocks c.loop-k-test.true, mul_comm a.m a.blocks, c.before.loop-k.invariant.1.long, start.requires.2)

  few : length c.before.loop-k.out ≤ 4096 * 108
  few = omega (arith, c.before.loop-k.invariant.1.long, mul-le-mul start.requires.1 start.requires.0)

mul_place : tie.Need-overflow_mul-place invariant-loop decreases-loop
mul_place c = omega (arith, covered c, few c)

add_place : tie.Need-overflow_add-place invariant-loop decreases-loop
add_place c = omega (arith, covered c, few c)

add_put_band : tie.Need-overflow_add-place-in-loop-k invariant-loop decreases-loop
add_put_band c = omega (arith, covered c, few c)

mul_put_band : tie.Need-offset_bounds-out-place invariant-loop decreases-loop
mul_put_band c = omega (arith, covered c, few c)

sub_put_band : tie.Need-slice_bounds-put_band-count invariant-loop decreases-loop
sub_put_band c = omega (arith, covered c, few c)

part_put_band_start : tie.Need-slice_bounds-put_band-start invariant-loop decreases-loop
part_put_band_start c = omega (arith, covered c, few c)

part_put_band_end : tie.Need-slice_bounds-put_band-end invariant-loop decreases-loop
part_put_band_end c = omega (arith, covered c, few c)

-- the part that is lent
lent_long : (c : tie.In-loop-k invariant-loop decreases-loop) → let p = place c in let n = (start c).args.count in length (take (p + n - p) (drop p c.before.loop-k.out)) ≡ n
lent_long c = let p = place c in let n = (start c).args.count in part_length c.before.loop-k.out p (p + n - p) n (omega arith) (covered c)

put_band_requires : tie.Need-put_band-requires invariant-loop decreases-loop
put_band_requires c κs =
    let i = c.before in
    let s = start i in
    let l = lent_long i in
    (s.requires.0, i.loop-k-test.true, omega (arith, l, s.requires.1, s.requires.2), s.requires.3 ∙ ap (λ (n : ℕ). n * s.args.m) (sym l))

add_k : tie.Need-overflow_step-k invariant-loop decreases-loop
add_k c = let i = c.before.before.before in omega (arith, i.loop-k-test.true, (start i).requires.0)

loop-less : tie.Need-loop-k-smaller invariant-loop decreases-loop
loop-less c = omega (arith, c.before.before.before.loop-k-test.true)

loop-again : tie.Need-loop-k-preserved invariant-loop decreases-loop
loop-again c =
    let i = c.before.before.before in
    let s = start i in
    let a = s.args in
    let k = i.before.loop-k.k in
    let y = c.before.put_band in (
      omega (arith, i.loop-k-test.true),
      banded_more a.m a.blocks a.first a.count a.tile.now a.out.now s.requires.2 k i.before.loop-k.out y.new.out (place i + a.count - place i) i.loop-k-test.true (omega arith)
          i.before.loop-k.invariant.1 (y.ensures ∙ ap (λ (n : ℕ). table n (λ j. at a.tile.now (j * a.m + k))) (lent_long i)),
    )

same_length : tie.Need-shape_of-out invariant-loop decreases-loop
same_length c = c.before.loop-k.invariant.1.long ∙ sym c.before.before.requires.4

returns : tie.Need-returns invariant-loop decreases-loop
returns c =
    let s = c.before.before in
    let a = s.args in
    let e : c.before.loop-k.k ≡ a.m = omega (arith, c.before.loop-k.invariant.0, c.loop-k-test.false) in
    banded_all a.m a.blocks a.first a.count a.tile.now a.out.now s.requires.2 c.before.loop-k.out (rw e at c.before.loop-k.invariant.1)

pub scatter_spec : {M : Type 1} → statement M
scatter_spec =
    tie.close
    (tie.spec
    invariant-loop
    decreases-loop
    loop-holds
    mul_place
    add_place
    add_put_band
    mul_put_band
    sub_put_band
    part_put_band_start
    part_put_band_end
    put_band_requires
    add_k
    loop-less
    loop-again
    same_length
    returns)
