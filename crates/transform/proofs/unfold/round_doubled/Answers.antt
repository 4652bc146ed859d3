use Rattle.std.specs.Prelude.{◌≡◌, List, ℕ, ◌*◌, ◌^◌, ◌<◌, length, pos}
use Rattle.std.proofs.Common.{arith, ap, ◌∙◌, ℤ, w64, to_z, of_z, lit≤, lit<}
use Rattle.std.proofs.Math.Facts.{to_z-of_z}
use Rattle.arithmetic.specs.Rounding.{rnd}
use Rattle.arithmetic.specs.Lists.{at, Small}
use Rattle.arithmetic.specs.OrderLaws.{sfits_abs}
use Rattle.arithmetic.specs.ListLaws.{Filled, filled_none, filled_more, filled-rest}
use Rattle.transform.proofs.unfold.round_doubled.Goals as goal

-- a sum as the machine has it: as it was before the loop
read : (t t' : List ℤ) (j : ℕ) → Small t (108 * 2 ^ 56) → Filled (λ j. rnd (at t j) (2 ^ 27)) j t' t → j < length t → to_z w64 (of_z w64 (at t' j)) ≡ at t j
read t t' j s so less =
    rw (filled-rest (λ j. rnd (at t j) (2 ^ 27)) j t' t (pos 0) so) (to_z-of_z {w = w64} (sfits_abs (at t j) (omega (arith, s.small j less))))

pub loop-sum-init : goal.loop-sum-init
loop-sum-init c = filled_none (λ j. rnd (at c.args.t.now j) (2 ^ 27)) c.args.t.now

pub rnd_shift-requires : goal.rnd_shift-requires
rnd_shift-requires c =
    let less : c.loop-sum.sum-index < length c.args.t.now = omega arith in
    (lit≤ tt, lit< tt, rw (read c.args.t.now c.loop-sum.t c.loop-sum.sum-index c.requires c.loop-sum.invariant less) (omega (arith, c.requires.small c.loop-sum.sum-index less)))

pub loop-sum-preserved : goal.loop-sum-preserved
loop-sum-preserved c =
    let less : c.loop-sum.sum-index < length c.args.t.now = omega arith in
    filled_more (λ j. rnd (at c.args.t.now j) (2 ^ 27)) c.loop-sum.sum-index c.loop-sum.t c.args.t.now _ c.loop-sum.invariant (omega (arith, c.loop-sum.invariant.room))
    (to_z-of_z {w = w64} {z = c.rnd_shift.result} (record { sfits = c.rnd_shift.type_inv }) ∙ c.rnd_shift.ensures
    ∙ ap (λ (z : ℤ). rnd z (2 ^ 27)) (read c.args.t.now c.loop-sum.t c.loop-sum.sum-index c.requires c.loop-sum.invariant less))
