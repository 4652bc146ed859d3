use Rattle.std.proofs.Common.{◌+◌, ◌-◌, ◌≤◌, ◌++◌, rules, length, take, drop, sym, ap, ◌∙◌, subst, le_refl, drop_at, length-take-le}
use Rattle.std.specs.Io.KnownBytes.{Consumes}
use Rattle.std.proofs.lemmas.Slice.{take-put_mid_below}
use Rattle.std.proofs.KnownBytes.{Consumes-trans}
use borrow.Rule.Slice.PartMut.{put_mid, post_of}
use lib.Seq.{take-add, take-append-le}
use Rattle.reading.proofs.fill.Goals as goal

-- what a turn read stands behind what came before
pub loop-n-preserved : goal.loop-n-preserved
loop-n-preserved g c =
    let at = c.loop-n.n in
    let old = c.loop-n.buffer in
    let room = length old - at in
    let within = c.loop-n.invariant.0 in
    let part = c.read.new.buf in
    let new = put_mid at room old part in
    let rest = post_of at room old in
    let n = c.in_ok-more.more in
    let came = ap (take n) (drop_at (take at old) (part ++ rest) at (length-take-le at old within)) ∙ take-append-le n part rest c.in_ok-more.ensures.bound.0 in
    let fits : at + n ≤ length new = search rules in
    let kept = take-put_mid_below _ _ _ _ _ (le_refl _) within in
    let joined = ap (λ l. l ++ take n (drop at new)) (sym kept) ∙ sym (take-add at n new) in
    (fits, subst (Consumes _ _) (ap (λ l. take at old ++ l) (sym came) ∙ joined) (Consumes-trans _ _ _ _ _ c.loop-n.invariant.1 c.in_ok-more.ensures.bytes.0))
