use Rattle.std.proofs.Common.{◌≡◌, true, suc}
use Rattle.arithmetic.specs.Lists.{all}
use Rattle.stream.specs.Steps.{stream_after}
use Rattle.coarsest.specs.TrialLaws.{stepped_block, hop_near}
use Rattle.coarsest.proofs.trial.is_passed.Given as goal

abbrev pub invariant-loop-h : goal.invariant-loop-h
invariant-loop-h l =
    (l.tail ≡ (stream_after l.trial.n (stepped_block l.trial.step l.trial.n l.trial.x.now) (suc l.h)).tail)
    × (all l.h (hop_near l.trial.step l.trial.n l.hops l.trial.x.now l.allowed) ≡ true)
