use Rattle.std.proofs.Common.{arith, ◌∙◌, w64, rules}
use Rattle.std.specs.Prelude.{pos, ◌+ℤ◌, ◌*ℤ◌}
use Rattle.std.proofs.Math.Facts.{to_z-of_z}
use mir.Val.{SFits}
use Rattle.arithmetic.specs.Lists.{at}
use Rattle.arithmetic.specs.ListLaws.{filled_none, filled_more}
use Rattle.arithmetic.specs.OrderLaws.{sfits_abs}
use Rattle.level.proofs.join_parts.Goals as goal

pub loop-i-init : goal.loop-i-init
loop-i-init g c = filled_none (λ i. pos 256 *ℤ at c.args.high.now i +ℤ at c.args.low.now i) c.args.s.now

pub loop-i-preserved : goal.loop-i-preserved
loop-i-preserved g c =
    let high = c.args.high.now in
    let low = c.args.low.now in
    let i = c.loop-i.i in
    let high_fits : SFits w64 (at high i) = sfits_abs (at high i) (omega (arith, c.requires.high.small i (omega arith))) in
    let low_fits : SFits w64 (at low i) = sfits_abs (at low i) (omega (arith, c.requires.low.small i (omega arith))) in
    let fits : SFits w64 c.whole.result = search rules in
    filled_more (λ i. pos 256 *ℤ at high i +ℤ at low i) i c.loop-i.s c.args.s.now _ c.loop-i.invariant (omega (arith, c.loop-i.invariant.room))
    (to_z-of_z {w = w64} fits ∙ (rw (to_z-of_z {w = w64} high_fits, to_z-of_z {w = w64} low_fits) at c.whole.ensures))
