-- Size first, then line 1, then those behind it.
use Rattle.std.specs.Prelude.{◌+◌, ◌≤◌, length}
use Rattle.std.proofs.Common.{rules, arith, sym, ◌∙◌, length-take-le}
use mir.Syntax.{w64}
use mir.Val.{SFits}
use mir.Facts.{to_z-of_z}
use Rattle.text.specs.Bytes.{line_feed}
use Rattle.text.specs.LineLaws.{end-most}
use Rattle.text.specs.ScanLaws.{rest-is}
use Rattle.listing.specs.VerdictLaws.{size-first, first-unended, first-bad, first-value}
use Rattle.listing.proofs.verdict.verify.Goals as goal

pub returns-then-input-gt-LIMIT : goal.returns-then-input-gt-LIMIT
returns-then-input-gt-LIMIT c = sym (size-first c.args.input.now c.if-input-gt-LIMIT.true)

pub returns-then-end-input : goal.returns-then-end-input
returns-then-end-input c = sym (first-unended c.args.input.now c.find-end.result c.if-input-gt-LIMIT.false c.find-end.ensures (omega arith))

pub slice_bounds-parse-end : goal.slice_bounds-parse-end
slice_bounds-parse-end c =
    sym (length-take-le c.find-end.result c.args.input.now (end-most line_feed c.args.input.now 0 c.find-end.result (omega arith) c.find-end.ensures))

pub returns-in_default : goal.returns-in_default
returns-in_default c =
    let inside : c.find-end.result ≤ length c.args.input.now = end-most line_feed c.args.input.now 0 c.find-end.result (omega arith) c.find-end.ensures in
    sym (first-bad c.args.input.now c.find-end.result c.if-input-gt-LIMIT.false c.find-end.ensures (omega arith) c.in_default.ensures)

pub overflow_add-end : goal.overflow_add-end
overflow_add-end c = omega (arith, end-most line_feed c.args.input.now 0 c.find-end.result (omega arith) c.find-end.ensures)

pub slice_bounds-verify_length-count : goal.slice_bounds-verify_length-count
slice_bounds-verify_length-count c = omega (arith, end-most line_feed c.args.input.now 0 c.find-end.result (omega arith) c.find-end.ensures)

pub slice_bounds-verify_length-start : goal.slice_bounds-verify_length-start
slice_bounds-verify_length-start c = omega (arith, end-most line_feed c.args.input.now 0 c.find-end.result (omega arith) c.find-end.ensures)

pub returns : goal.returns
returns c =
    let inside : c.find-end.result ≤ length c.args.input.now = end-most line_feed c.args.input.now 0 c.find-end.result (omega arith) c.find-end.ensures in
    let fits : SFits w64 c.in-Some.n = search rules in
    let is = c.verify_length.ensures in
    (rw (to_z-of_z fits, rest-is c.args.input.now (c.find-end.result + 1), c.in-Some.ensures.1) at is) ∙ sym (first-value c.args.input.now c.find-end.result c.if-input-gt-LIMIT.false c.find-end.ensures (omega arith) c.in-Some.ensures.0)
