use Rattle.std.proofs.Common.{arith, ◌∙◌, w32, rules}
use Rattle.std.proofs.Math.Facts.{to_z-of_z}
use mir.Val.{SFits}
use Rattle.arithmetic.specs.Rounding.{floor}
use Rattle.arithmetic.specs.Lists.{at}
use Rattle.arithmetic.specs.ListLaws.{filled_none, filled_more}
use Rattle.arithmetic.specs.OrderLaws.{sfits_abs}
use Rattle.level.specs.Levels.{low_part}
use Rattle.level.proofs.part.Goals as goal

pub loop-i-init : goal.loop-i-init
loop-i-init g c = record {
  high = filled_none (λ i. floor (at c.args.w.now i) 256) c.args.high_parts.now;
  low = filled_none (λ i. low_part (at c.args.w.now i)) c.args.low_parts.now;
}

pub loop-i-preserved : goal.loop-i-preserved
loop-i-preserved g c =
    let w = c.args.w.now in
    let i = c.loop-i.i in
    let fits : SFits w32 (at w i) = sfits_abs (at w i) (omega (arith, c.requires.small.small i (omega arith))) in
    let high_fits : SFits w32 c.high.result = search rules in
    let low_fits : SFits w32 c.low.result = search rules in
    record {
      high =
          filled_more (λ i. floor (at w i) 256) i c.loop-i.high_parts c.args.high_parts.now _ c.loop-i.invariant.high (omega (arith, c.loop-i.invariant.high.room))
          (to_z-of_z {w = w32} high_fits ∙ (rw (to_z-of_z {w = w32} fits) at c.high.ensures));
      low =
          filled_more (λ i. low_part (at w i)) i c.loop-i.low_parts c.args.low_parts.now _ c.loop-i.invariant.low (omega (arith, c.loop-i.invariant.low.room))
          (to_z-of_z {w = w32} low_fits ∙ (rw (to_z-of_z {w = w32} fits) at c.low.ensures));
    }
