-- `step_block` meets its contract: the first coefficients are stepped, and the others are as they were.
use Rattle.std.proofs.Common.{arith, ◌≡◌, ◌∙◌, sym, ap, ℕ, ◌*◌, ◌^◌, ◌≤◌, length, nat_abs, ℤ, pos, to_z, of_z, to_z-of_z, w32, List, ◌<◌}
use Rattle.arithmetic.specs.Lists.{at, table, Small}
use Rattle.arithmetic.specs.ListLaws.{Filled, filled_none, filled_more, filled-all, filled-rest}
use Rattle.arithmetic.specs.OrderLaws.{sfits_abs}
use Rattle.levels.specs.Levels.{level, back}
use Rattle.coarsest.specs.Coarsest.{stepped}
use Rattle.coarsest.proofs.stepped.step_block.Goals as goal

-- a coefficient as the machine has it
read : (z : ℤ) → nat_abs z ≤ 216 * 2 ^ 21 → to_z w32 (of_z w32 z) ≡ z
read z h = to_z-of_z (sfits_abs {w = w32} z (omega (arith, h)))

pub loop-entry-init : goal.loop-entry-init
loop-entry-init c = filled_none _ _

-- the next one is as it was before the loop
module _ (step k : ℕ) (x x₀ : List ℤ) (f : Filled (λ j. back step (level step (at x₀ j))) k x x₀) (small : Small x₀ (216 * 2 ^ 21)) (less : k < length x₀) where
  few : nat_abs (at x₀ k) ≤ 216 * 2 ^ 21
  few = small.small k less

  kept : to_z w32 (of_z w32 (at x k)) ≡ at x₀ k
  kept = rw (filled-rest (λ j. back step (level step (at x₀ j))) k x x₀ (pos 0) f) (read (at x₀ k) few)

pub stepped-requires-clause-x_bound : goal.stepped-requires-clause-x_bound
stepped-requires-clause-x_bound c =
    let l = c.loop-entry in
    rw (kept c.args.step l.entry-index l.x c.args.x.now l.invariant c.requires.small c.loop-entry-test.true) (few c.args.step l.entry-index l.x c.args.x.now l.invariant c.requires.small c.loop-entry-test.true)

pub loop-entry-preserved : goal.loop-entry-preserved
loop-entry-preserved c =
    let l = c.loop-entry in
    let same = kept c.args.step l.entry-index l.x c.args.x.now l.invariant c.requires.small c.loop-entry-test.true in
    filled_more _ l.entry-index l.x _ _ l.invariant (omega (arith, l.invariant.room))
    (to_z-of_z {w = w32} {z = c.stepped.result} (record { sfits = c.stepped.type_inv }) ∙ c.stepped.ensures ∙ ap (λ (z : ℤ). back c.args.step (level c.args.step z)) same)

pub returns : goal.returns
unfolding stepped
returns c =
    let end : c.loop-entry.entry-index ≡ length c.args.x.now = omega (arith, c.loop-entry.invariant.room) in
    filled-all _ c.loop-entry.entry-index c.loop-entry.x c.args.x.now c.loop-entry.invariant (sym end) ∙ ap (λ (m : ℕ). table m (λ k. back c.args.step (level c.args.step (at c.args.x.now k)))) end
