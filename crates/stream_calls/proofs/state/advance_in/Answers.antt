-- `advance_in`: the step on the tail behind the first three entries, and then the number and the shape.
use Rattle.std.proofs.Common.{◌≡◌, ◌∙◌, ap, ap₂, arith, ◌++◌, ◌+◌, take, set, List, ℤ, ℕ, pos}
use borrow.Author.Rules.{part_to_end}
use mir.Syntax.{w64}
use mir.Val.{to_z}
use Rattle.std.proofs.lemmas.Grind.{common_steps}
use Rattle.cosine.specs.Kernels.{rising, falling}
use Rattle.stream.specs.Synthesis.{new_tail, hop}
use Rattle.stream_calls.specs.StateLaws.{put_tail, taken_whole, taken_valid, taken_tail, taken_out, taken_state_is}
use Rattle.stream_calls.proofs.state.advance_in.Goals as goal

pub advance_tail-requires : goal.advance_tail-requires
advance_tail-requires c =
    let a = c.args in
    rw (c.length_in-n.ensures, part_to_end a.state.now 3) (taken_valid a.state.now a.offer.number a.offer.joints.left a.offer.joints.right a.x.now a.out.now c.requires)

pub returns-clause-out_after : goal.returns-clause-out_after
returns-clause-out_after c =
    let a = c.args in
    c.advance_tail.ensures.out_after
    ∙ ap₂ (λ (k : ℕ) (t : List ℤ). hop k (rising a.offer.joints.left k) (falling a.offer.joints.right k) t a.x.now) c.length_in-n.ensures (part_to_end a.state.now 3)
    ∙ taken_out a.state.now a.offer.number a.offer.joints.left a.offer.joints.right a.x.now a.out.now c.requires

pub returns-clause-state_after : goal.returns-clause-state_after
returns-clause-state_after c =
    let a = c.args in
    let v : to_z w64 (a.offer.number + 1) ≡ pos (a.offer.number + 1) = grind (arith, common_steps) in
    let w : to_z w64 a.offer.joints.right ≡ pos a.offer.joints.right = grind (arith, common_steps) in
    let tail_is = put_tail a.state.now c.advance_tail.new.tail
    ∙ ap (λ (t : List ℤ). take 3 a.state.now ++ t)
    (c.advance_tail.ensures.tail_after
    ∙ ap₂ (λ (k : ℕ) (t : List ℤ). new_tail k (rising a.offer.joints.left k) (falling a.offer.joints.right k) t a.x.now) c.length_in-n.ensures (part_to_end a.state.now 3)
    ∙ taken_tail a.state.now a.offer.number a.offer.joints.left a.offer.joints.right a.x.now a.out.now c.requires) in
    rw (v, w, tail_is)
    (taken_state_is a.state.now a.offer.number a.offer.joints.left a.offer.joints.right a.x.now a.out.now (taken_whole a.state.now a.offer.number a.offer.joints.left a.offer.joints.right a.x.now a.out.now c.requires) c.requires)
