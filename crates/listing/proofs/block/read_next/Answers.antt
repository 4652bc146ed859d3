use Rattle.std.proofs.Common.{sym, ◌∙◌}
use Rattle.std.specs.Prelude.{length}
use Rattle.listing.specs.BlockLaws.{none_left, one_left}
use Rattle.listing.proofs.block.read_next.Goals as goal

pub returns-then-place-input-clause-out_after : goal.returns-then-place-input-clause-out_after
returns-then-place-input-clause-out_after c = c.fill.ensures.after (λ y e. e) ∙ sym (none_left (length c.args.out.now) c.args.input.now c.args.place c.if-place-input.true).0

pub returns-then-place-input-clause-value : goal.returns-then-place-input-clause-value
returns-then-place-input-clause-value c = sym (none_left (length c.args.out.now) c.args.input.now c.args.place c.if-place-input.true).1

pub returns-clause-out_after : goal.returns-clause-out_after
returns-clause-out_after c = c.read_hop.ensures.out_after ∙ sym (one_left (length c.args.out.now) c.args.input.now c.args.place c.if-place-input.false).0

pub returns-clause-value : goal.returns-clause-value
returns-clause-value c = c.read_hop.ensures.value ∙ sym (one_left (length c.args.out.now) c.args.input.now c.args.place c.if-place-input.false).1
