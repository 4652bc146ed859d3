use Rattle.std.proofs.Common.{arith, ◌∙◌, ◌^◌, ◌≤◌}
use Rattle.std.specs.Prelude.{ℤ, nat_abs, ◌+ℤ◌, ◌-ℤ◌}
use Rattle.std.proofs.Math.Path.{ap₂}
use Rattle.arithmetic.specs.ListLaws.{filled_none, filled_more}
use Rattle.level.specs.Places.{signed_at}
use Rattle.level.specs.Levels.{place_at}
use Rattle.level.proofs.Sizes.{signed_size, sum_reads, difference_reads}
use Rattle.level.proofs.gather.Goals as goal

pub loop-i-init : goal.loop-i-init
loop-i-init g c =
    let z = c.args.z.now in
    let n = c.args.near.now in
    let f = c.args.far.now in
    record {
      sums = filled_none (λ i. signed_at z (place_at n i) +ℤ signed_at z (place_at f i)) c.args.a.now;
      differences = filled_none (λ i. signed_at z (place_at n i) -ℤ signed_at z (place_at f i)) c.args.b.now;
    }

pub loop-i-preserved : goal.loop-i-preserved
loop-i-preserved g c =
    let z = c.args.z.now in
    let n = c.args.near.now in
    let f = c.args.far.now in
    let i = c.loop-i.i in
    let x = c.signed-x.result in
    let y = c.signed-y.result in
    let p : nat_abs x ≤ 2 ^ 29 = rw c.signed-x.ensures (signed_size z (place_at n i) (2 ^ 29) c.requires.small (let q = c.requires.near.less i (omega arith) in omega arith)) in
    let q : nat_abs y ≤ 2 ^ 29 = rw c.signed-y.ensures (signed_size z (place_at f i) (2 ^ 29) c.requires.small (let q = c.requires.far.less i (omega arith) in omega arith)) in
    record {
      sums =
          filled_more (λ i. signed_at z (place_at n i) +ℤ signed_at z (place_at f i)) i c.loop-i.a c.args.a.now _ c.loop-i.invariant.sums
          (omega (arith, c.loop-i.invariant.sums.room))
          (sum_reads x y p q ∙ ap₂ (λ (s t : ℤ). s +ℤ t) c.signed-x.ensures c.signed-y.ensures);
      differences =
          filled_more (λ i. signed_at z (place_at n i) -ℤ signed_at z (place_at f i)) i c.loop-i.b c.args.b.now _ c.loop-i.invariant.differences
          (omega (arith, c.loop-i.invariant.differences.room))
          (difference_reads x y p q ∙ ap₂ (λ (s t : ℤ). s -ℤ t) c.signed-x.ensures c.signed-y.ensures);
    }
