-- `advance` meets its contract: the room holds the block's coefficients, then what comes back from them.
use Rattle.std.proofs.Common.{arith, ◌≡◌, ◌∙◌, sym, ap, ℕ, ◌+◌, ◌/◌, List, ℤ, length}
use Rattle.std.proofs.Math.Nat.{one-mul}
use Rattle.arithmetic.specs.Lists.{joined}
use Rattle.cosine.specs.Kernels.{rising, falling}
use Rattle.stream.specs.Synthesis.{new_tail, hop}
use Rattle.analysis.specs.Analysis.{offered}
use Rattle.coarsest.specs.Coarsest.{stepped}
use Rattle.coarsest.specs.SteppedLaws.{stepped_small}
use Rattle.coarsest.specs.TrialLaws.{block_of, stepped_block_long, block-few}
use Rattle.coarsest.proofs.trial.Trial.advance.Goals as goal

-- one block, block after block
one : (g : ℕ → List ℤ) (b : ℕ) → joined 1 (λ j. g (b + j)) ≡ g b
unfolding joined
one g b = let e : b + 0 ≡ b = omega arith in rw e

pub blocks_from-requires-clause-offered : goal.blocks_from-requires-clause-offered
unfolding offered
blocks_from-requires-clause-offered c = (c.requires.trial.length_is, c.requires.trial.some, c.requires.trial.most, omega (arith, c.requires.block))

pub blocks_from-requires-clause-x_len : goal.blocks_from-requires-clause-x_len
blocks_from-requires-clause-x_len c = (c.requires.trial.long, c.requires.room_len.0 ∙ sym (one-mul (c.args.self.n / 2)))

-- what the analysis leaves, and then the step and back
made-is : (N : ℕ) (x : List ℤ) (b : ℕ) (made : List ℤ) → made ≡ joined 1 (λ j. block_of N x (b + j)) → made ≡ block_of N x b
made-is N x b made e = e ∙ one (block_of N x) b

pub step_block-requires-clause-small : goal.step_block-requires-clause-small
step_block-requires-clause-small c =
    let t = c.requires.trial in
    rw (made-is c.args.self.n c.args.self.x.now c.args.b _ c.blocks_from.ensures) (block-few c.args.self.n t.length_is c.args.self.x.now t.samples c.args.b)

pub advance_tail-requires : goal.advance_tail-requires
advance_tail-requires c =
    let t = c.args.self in
    let back = c.step_block.ensures ∙ ap (stepped t.step) (made-is t.n t.x.now c.args.b _ c.blocks_from.ensures) in (
      c.requires.trial.length_is,
      ap length back ∙ stepped_block_long t.step t.n t.x.now c.args.b,
      rw back (stepped_small t.step (block_of t.n t.x.now c.args.b)),
      c.requires.room_len.1,
      c.requires.room_len.2,
      c.requires.room_len.3,
    )

pub returns-clause-tail_after : goal.returns-clause-tail_after
returns-clause-tail_after c =
    let t = c.args.self in
    let back = c.step_block.ensures ∙ ap (stepped t.step) (made-is t.n t.x.now c.args.b _ c.blocks_from.ensures) in
    c.advance_tail.ensures.tail_after ∙ ap (new_tail t.n (rising 0 t.n) (falling 0 t.n) c.args.tail.now) back

pub returns-clause-out_after : goal.returns-clause-out_after
returns-clause-out_after c =
    let t = c.args.self in
    let back = c.step_block.ensures ∙ ap (stepped t.step) (made-is t.n t.x.now c.args.b _ c.blocks_from.ensures) in
    c.advance_tail.ensures.out_after ∙ ap (hop t.n (rising 0 t.n) (falling 0 t.n) c.args.tail.now) back
