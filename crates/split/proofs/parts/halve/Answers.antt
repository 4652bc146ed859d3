use Rattle.std.proofs.Common.{arith, ◌∙◌, w64, rules}
use Rattle.std.proofs.Math.Facts.{to_z-of_z}
use mir.Val.{SFits}
use Rattle.arithmetic.specs.Rounding.{floor}
use Rattle.arithmetic.specs.Lists.{at}
use Rattle.arithmetic.specs.ListLaws.{filled_none, filled_more}
use Rattle.split.proofs.parts.halve.Goals as goal

pub loop-k-init : goal.loop-k-init
loop-k-init g c = filled_none (λ k. floor (at c.args.twice.now k) 2) c.args.t.now

pub loop-k-preserved : goal.loop-k-preserved
loop-k-preserved g c =
    let s = c.args.twice.now in
    let k = c.loop-k.k in
    let entry_fits : SFits w64 (at s k) = search rules in
    let fits : SFits w64 c.half.result = search rules in
    filled_more (λ k. floor (at s k) 2) k c.loop-k.t c.args.t.now _ c.loop-k.invariant (omega (arith, c.loop-k.invariant.room, c.requires.t_len))
    (to_z-of_z {w = w64} fits ∙ (rw (to_z-of_z {w = w64} entry_fits) at c.half.ensures))
