-- `is_hop_near` meets its contract: the hop that was made is held to the recording's own, where it lies.
use Rattle.std.proofs.Common.{arith, ◌≡◌, ◌∙◌, ap, ℕ, ◌+◌, ◌-◌, ◌*◌, ◌/◌, ◌<◌, List, ℤ, length, take, drop}
use Rattle.arithmetic.specs.Lists.{at}
use Rattle.arithmetic.specs.ListLaws.{part_length, part_at}
use Rattle.recording.specs.RecordingLaws.{Lies, lies}
use Rattle.coarsest.specs.TrialLaws.{Trying, hop_beside, beside-own}
use Rattle.coarsest.proofs.trial.Trial.is_hop_near.Goals as goal

-- where hop h lies, and the recording's own hop as it is lent
module _ (N H : ℕ) (x : List ℤ) (step inverse : ℕ) (t : Trying N H x step inverse) (h : ℕ) (less : h < H) where
  abbrev M : ℕ
  M = N / 2

  abbrev place : ℕ
  place = h * M

  lies_here : Lies N H (length x) h
  lies_here = lies N t.length_is H (length x) h t.most t.long less

  abbrev own : List ℤ
  own = take (place + M - place) (drop place x)

  own_long : length own ≡ M
  own_long = part_length x place (place + M - place) M (omega arith) lies_here.ends

  own_at : (n : ℕ) → n < M → at own n ≡ at x (place + n)
  own_at n p = part_at x place (place + M - place) M (omega arith) lies_here.ends n p

pub returns-clause-value : goal.returns-clause-value
returns-clause-value c =
    let t = c.args.self in
    let r = c.requires.trial in
    c.is_near.ensures
    ∙ beside-own t.n t.x.now c.args.h c.args.allowed c.advance.new.out (own t.n t.hops t.x.now t.step t.inverse r c.args.h c.requires.hop)
    (own_long t.n t.hops t.x.now t.step t.inverse r c.args.h c.requires.hop) (own_at t.n t.hops t.x.now t.step t.inverse r c.args.h c.requires.hop)
    ∙ ap (hop_beside t.n t.x.now c.args.h c.args.allowed) c.advance.ensures.out_after
