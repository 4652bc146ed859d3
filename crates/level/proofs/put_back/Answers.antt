use Rattle.std.proofs.Common.{arith, ◌∙◌, w64, rules}
use Rattle.std.proofs.Math.Facts.{to_z-of_z}
use mir.Val.{SFits}
use Rattle.arithmetic.specs.ListLaws.{filled_none, filled_more}
use Rattle.level.specs.Levels.{place_at}
use Rattle.level.specs.Places.{signed_at}
use Rattle.level.proofs.put_back.Goals as goal

pub loop-j-init : goal.loop-j-init
loop-j-init g c = filled_none (λ j. signed_at c.args.u.now (place_at c.args.of.now j)) c.args.t.now

pub loop-j-preserved : goal.loop-j-preserved
loop-j-preserved g c =
    let fits : SFits w64 c.signed_sum.result = search rules in
    filled_more (λ j. signed_at c.args.u.now (place_at c.args.of.now j)) c.loop-j.j c.loop-j.t c.args.t.now _ c.loop-j.invariant (omega (arith, c.loop-j.invariant.room))
    (to_z-of_z {w = w64} fits ∙ c.signed_sum.ensures)
