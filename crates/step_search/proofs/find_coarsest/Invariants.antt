use Rattle.std.proofs.Common.{◌≡◌, ◌≤◌, ◌+◌, ℕ, Bool}
use Rattle.step_search.specs.Search.{sure}
use Rattle.step_search.specs.Progress.{Tells}
use Rattle.step_search.specs.ProgressLaws.{Going}
use Rattle.step_search.proofs.find_coarsest.Given as goal

abbrev pub invariant-loop-passes : goal.invariant-loop-passes
invariant-loop-passes g l =
    (l.search.least ≡ sure l.allowed)
    × (sure l.allowed ≤ l.search.step)
    × (l.search.trials + l.search.step ≡ 1024)
    × ((pass : ℕ → Bool) → Tells (goal.F-post g l.passes) pass → Going pass l.allowed l.budget l.search)

abbrev pub decreases-loop-passes : goal.decreases-loop-passes
decreases-loop-passes g l = l.search.step
