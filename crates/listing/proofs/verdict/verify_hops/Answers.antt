use Rattle.std.specs.Prelude.{◌≤◌, length}
use Rattle.std.proofs.Common.{rules, arith, sym, ◌∙◌}
use Rattle.text.specs.Bytes.{line_feed}
use Rattle.text.specs.LineLaws.{end-most}
use Rattle.listing.specs.VerdictLaws.{left_end, left-unended, left-bad, left-next}
use Rattle.listing.proofs.verdict.verify_hops.Goals as goal

pub slice_bounds-is_hop-end : goal.slice_bounds-is_hop-end
slice_bounds-is_hop-end c = end-most line_feed c.args.text.now c.loop-at.at c.find-end.result c.loop-at.invariant.within c.find-end.ensures

pub returns : goal.returns
returns c = sym (c.loop-at.invariant.is ∙ left_end c.args.n c.loop-at.hops c.loop-at.at c.args.text.now (omega arith))

pub returns-then-end-text : goal.returns-then-end-text
returns-then-end-text c = sym (c.loop-at.invariant.is ∙ left-unended c.args.n c.loop-at.hops c.loop-at.at c.find-end.result c.args.text.now c.loop-at.invariant.within c.find-end.ensures (omega arith) (omega arith))

pub returns-then-not-is_hop : goal.returns-then-not-is_hop
returns-then-not-is_hop c =
    let inside : c.find-end.result ≤ length c.args.text.now = end-most line_feed c.args.text.now c.loop-at.at c.find-end.result c.loop-at.invariant.within c.find-end.ensures in
    sym (c.loop-at.invariant.is ∙ left-bad c.args.n c.loop-at.hops c.loop-at.at c.find-end.result c.args.text.now c.loop-at.invariant.within c.find-end.ensures (omega arith) (sym c.is_hop.ensures ∙ search rules))

pub loop-at-preserved : goal.loop-at-preserved
loop-at-preserved c =
    let inside : c.find-end.result ≤ length c.args.text.now = end-most line_feed c.args.text.now c.loop-at.at c.find-end.result c.loop-at.invariant.within c.find-end.ensures in
    record {
      within = omega arith;
      few = omega arith;
      is = c.loop-at.invariant.is ∙ left-next c.args.n c.loop-at.hops c.loop-at.at c.find-end.result c.args.text.now c.loop-at.invariant.within c.find-end.ensures (omega arith) (sym c.is_hop.ensures ∙ search rules);
    }
