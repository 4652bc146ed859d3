use Rattle.std.proofs.Common.{rules}
use mir.Syntax.{w64}
use mir.Val.{SFits}
use mir.Facts.{to_z-of_z}
use Rattle.listing.specs.Hops.{is_sample}
use Rattle.listing.proofs.hop.is_sample.Goals as goal

pub returns-then-v-geminus32768 : goal.returns-then-v-geminus32768
unfolding is_sample
returns-then-v-geminus32768 c =
    let h = c.in-Some.ensures in
    let f : SFits w64 c.in-Some.v = search rules in
    let low = rw (to_z-of_z f, h.1) at c.if-v-geminus32768.true in
    rw (to_z-of_z f, h.1, h.0, low)

pub returns-else-v-geminus32768 : goal.returns-else-v-geminus32768
unfolding is_sample
returns-else-v-geminus32768 c =
    let h = c.in-Some.ensures in
    let f : SFits w64 c.in-Some.v = search rules in
    let low = rw (to_z-of_z f, h.1) at c.if-v-geminus32768.false in
    rw (to_z-of_z f, h.1, h.0, low)

pub returns-in-None : goal.returns-in-None
unfolding is_sample
returns-in-None c = rw c.in-None.ensures
