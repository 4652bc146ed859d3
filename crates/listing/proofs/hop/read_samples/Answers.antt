use Rattle.std.specs.Prelude.{◌≡◌}
use Rattle.std.proofs.Common.{arith, ◌∙◌}
use mir.Syntax.{w64}
use mir.Val.{to_z, of_z}
use mir.Facts.{to_z-of_z}
use Rattle.text.specs.Number.{value}
use Rattle.text.specs.LineLaws.{part}
use Rattle.listing.proofs.HopReading.{reading_none, reading_all, field_end, field_number, field_fits, reading_more}
use Rattle.listing.proofs.hop.read_samples.Goals as goal

pub loop-sample-init : goal.loop-sample-init
loop-sample-init c = reading_none c.args.line.now c.args.out.now

pub slice_bounds-value-end : goal.slice_bounds-value-end
slice_bounds-value-end c = field_end c.args.line.now c.args.out.now c.loop-sample.sample-items c.loop-sample.at c.loop-sample.sample-index c.find-end.result c.requires c.loop-sample.invariant (omega arith) c.find-end.ensures

pub value-requires : goal.value-requires
value-requires c = field_number c.args.line.now c.args.out.now c.loop-sample.sample-items c.loop-sample.at c.loop-sample.sample-index c.find-end.result c.requires c.loop-sample.invariant (omega arith) c.find-end.ensures

pub overflow_cast-sample : goal.overflow_cast-sample
overflow_cast-sample c =
    let wide : to_z w64 (of_z w64 c.value.result) ≡ value (part c.args.line.now c.loop-sample.at c.find-end.result) = to_z-of_z {w = w64} (record { sfits = c.value.type_inv }) ∙ c.value.ensures in
    rw wide (field_fits c.args.line.now c.args.out.now c.loop-sample.sample-items c.loop-sample.at c.loop-sample.sample-index c.find-end.result c.requires c.loop-sample.invariant (omega arith) c.find-end.ensures)

pub loop-sample-preserved : goal.loop-sample-preserved
loop-sample-preserved c =
    let wide : to_z w64 (of_z w64 c.value.result) ≡ value (part c.args.line.now c.loop-sample.at c.find-end.result) = to_z-of_z {w = w64} (record { sfits = c.value.type_inv }) ∙ c.value.ensures in
    let fits = field_fits c.args.line.now c.args.out.now c.loop-sample.sample-items c.loop-sample.at c.loop-sample.sample-index c.find-end.result c.requires c.loop-sample.invariant (omega arith) c.find-end.ensures in
    reading_more c.args.line.now c.args.out.now c.loop-sample.sample-items c.loop-sample.at c.loop-sample.sample-index c.find-end.result c.requires c.loop-sample.invariant (omega arith) c.find-end.ensures _ (rw wide (to_z-of_z fits))

pub returns : goal.returns
returns c = reading_all c.args.line.now c.args.out.now _ c.loop-sample.at c.loop-sample.sample-index c.requires c.loop-sample.invariant (omega arith)
