-- `read_into`: each line decides its part of the verdict, and is spread over its places.
use Rattle.std.proofs.Common.{arith, ap, ap₂, sym, ◌∙◌, ◌≡◌, ℕ, List, length, length-drop, take, drop, replicate, ◌+◌, ◌-◌}
use Rattle.std.proofs.Math.Seq.{length-take-le}
use borrow.Rule.Slice.PartMut.{put_mid}
use Rattle.text.specs.Bytes.{line_feed}
use Rattle.text.specs.LineLaws.{end-most}
use Rattle.steps.specs.Table.{Line, Verdict}
use Rattle.steps.specs.Answers.{verdict_of}
use Rattle.steps.specs.Pass.{joint_fault, spread}
use Rattle.steps.specs.VerdictLaws.{left, left-whole, left_end, left-none, left-more}
use Rattle.steps.specs.TakenLaws.{Next, left-next}
use Rattle.steps.specs.PassLaws.{read_is, spread-length, spread_put, filling_whole, filling_line, filling_end}
use Rattle.steps.proofs.read_into.Goals as goal

pub loop-at-init : goal.loop-at-init
loop-at-init c = record {
  inside = omega arith;
  counted = omega arith;
  few = omega arith;
  verdict = left-whole c.args.m c.args.table.now;
  room = c.requires.steps_len;
  filling = λ z. filling_whole c.args.m c.args.table.now c.args.steps.now z;
}

pub read_row_at-requires-clause-at_le_end : goal.read_row_at-requires-clause-at_le_end
read_row_at-requires-clause-at_le_end c =
    (omega (arith, c.find-end.ensures), end-most line_feed c.args.table.now c.loop-at.at c.find-end.result c.loop-at.invariant.inside c.find-end.ensures)

pub returns-in_default-clause-verdict : goal.returns-in_default-clause-verdict
returns-in_default-clause-verdict c =
    let l = c.loop-at in
    let none = l.invariant.verdict
    ∙ left-none c.args.m l.line (verdict_of l.found) l.next c.args.table.now l.at c.find-end.result l.invariant.counted c.loop-at-test.true c.find-end.ensures
    (ap (λ (x : Line). x.ok) (sym c.in_default.ensures)) in
    rw (c.new.ensures.cause, c.new.ensures.line) (sym none)

pub returns-in_default-clause-steps_after : goal.returns-in_default-clause-steps_after
returns-in_default-clause-steps_after c = λ z.
    let l = c.loop-at in
    let none = l.invariant.verdict
    ∙ left-none c.args.m l.line (verdict_of l.found) l.next c.args.table.now l.at c.find-end.result l.invariant.counted c.loop-at-test.true c.find-end.ensures
    (ap (λ (x : Line). x.ok) (sym c.in_default.ensures)) in
    absurd (omega (arith, z, ap (λ (v : Verdict). v.code) none))

pub overflow_add-next : goal.overflow_add-next
overflow_add-next c =
    let l = c.loop-at in
    let r = read_is c.args.m c.args.table.now l.at c.find-end.result c.in-Some.row c.requires.m_nonzero.0 l.invariant.inside c.find-end.ensures c.in-Some.ensures in
    omega (arith, r.inside, c.requires.m_nonzero.1)

pub slice_bounds-fill-count : goal.slice_bounds-fill-count
slice_bounds-fill-count c =
    let l = c.loop-at in
    let r = read_is c.args.m c.args.table.now l.at c.find-end.result c.in-Some.row c.requires.m_nonzero.0 l.invariant.inside c.find-end.ensures c.in-Some.ensures in
    omega (arith, r.ordered)

pub offset_bounds-steps-row : goal.offset_bounds-steps-row
offset_bounds-steps-row c =
    let l = c.loop-at in
    let r = read_is c.args.m c.args.table.now l.at c.find-end.result c.in-Some.row c.requires.m_nonzero.0 l.invariant.inside c.find-end.ensures c.in-Some.ensures in
    omega (arith, r.ordered, r.inside, c.requires.m_nonzero.1)

pub slice_bounds-fill-start : goal.slice_bounds-fill-start
slice_bounds-fill-start c =
    let l = c.loop-at in
    let r = read_is c.args.m c.args.table.now l.at c.find-end.result c.in-Some.row c.requires.m_nonzero.0 l.invariant.inside c.find-end.ensures c.in-Some.ensures in
    omega (arith, r.ordered, r.inside, l.invariant.room)

pub slice_bounds-fill-end : goal.slice_bounds-fill-end
slice_bounds-fill-end c =
    let l = c.loop-at in
    let r = read_is c.args.m c.args.table.now l.at c.find-end.result c.in-Some.row c.requires.m_nonzero.0 l.invariant.inside c.find-end.ensures c.in-Some.ensures in
    omega (arith, r.ordered, r.inside, l.invariant.room)

pub overflow_add-at : goal.overflow_add-at
overflow_add-at c =
    let l = c.loop-at in
    let r = read_is c.args.m c.args.table.now l.at c.find-end.result c.in-Some.row c.requires.m_nonzero.0 l.invariant.inside c.find-end.ensures c.in-Some.ensures in
    omega (arith, r.less)

pub loop-at-preserved : goal.loop-at-preserved
loop-at-preserved c =
    let m = c.args.m in
    let s = c.args.table.now in
    let l = c.loop-at in
    let e = c.find-end.result in
    let row = c.in-Some.row in
    let r = read_is m s l.at e row c.requires.m_nonzero.0 l.invariant.inside c.find-end.ensures c.in-Some.ensures in
    let n = row.last + 1 - row.first in
    let long : length (take n (drop row.first l.steps)) ≡ n = length-take-le n (drop row.first l.steps) (omega (arith, length-drop row.first l.steps, r.ordered, r.inside, l.invariant.room)) in
    let written = ap (λ (x : List ℕ). put_mid row.first n l.steps x) (c.fill.ensures.after (λ y q. q) ∙ ap (λ (k : ℕ). replicate k row.step) long)
    ∙ spread_put n row.first row.step l.steps (omega (arith, r.ordered, r.inside, l.invariant.room)) in
    record {
      inside = omega (arith, r.less);
      counted = omega (arith, l.invariant.counted);
      few = omega (arith, r.apart, l.invariant.few);
      verdict =
          l.invariant.verdict
          ∙ left-more m l.line (verdict_of l.found) l.next s l.at e l.invariant.counted c.loop-at-test.true c.find-end.ensures r.less r.ok
          ∙ sym
          (ap₂
          (λ (x : Verdict) (y : ℕ). left m (l.line + 1) x y (drop (e + 1) s))
          (c.joint-found.ensures ∙ ap (λ (x : Line). joint_fault (verdict_of l.found) l.line l.next x.first) r.is)
          (ap (λ (x : Line). x.last + 1) r.is));
      room = ap length written ∙ spread-length n row.first row.step l.steps ∙ l.invariant.room;
      filling = λ z.
          let f = l.invariant.filling z in
          let after : Next m l.next s l.at e = left-next f.left e c.loop-at-test.true c.find-end.ensures in
          filling_line f e after c.requires.m_nonzero.0 c.requires.steps_len (row.last + 1) (put_mid row.first n l.steps c.fill.new.self) (ap (λ (x : Line). x.last + 1) r.is)
          (written ∙ ap (λ (x : Line). spread (x.last + 1 - x.first) x.first x.step l.steps) r.is);
    }

pub returns-clause-verdict : goal.returns-clause-verdict
returns-clause-verdict c =
    let l = c.loop-at in
    c.closing.ensures ∙ sym (l.invariant.verdict ∙ left_end c.args.m l.line _ l.next c.args.table.now l.at c.loop-at-test.false)

pub returns-clause-steps_after : goal.returns-clause-steps_after
returns-clause-steps_after c = λ z. filling_end (c.loop-at.invariant.filling z) c.loop-at-test.false c.requires.steps_len
