-- A search as a value, from trial to trial: definitions of what the code hands on. That it answers as Search.antt says is in ProgressLaws.
use Rattle.std.specs.Prelude.{◌≡◌, Bool, cond, false, ℕ, ◌+◌, ◌-◌, ◌≤◌, eqb, ltb}
use Rattle.step_search.specs.declared.Search.{Search}
use Rattle.step_search.specs.declared.Found.{Found}
use Rattle.step_search.specs.Search.{top, sure}

-- before the first trial
abbrev pub begun : (D budget : ℕ) → Search
begun D budget = record { least = sure D; step = top; trials = 0; left = budget }

-- a step above the sure one is to be tried, and a trial may be made
unfoldable pub unfinished : Search → Bool
unfinished s = cond (eqb s.left 0) false (ltb s.least s.step)

-- behind a trial that failed
abbrev pub behind : Search → Search
behind s = record { least = s.least; step = s.step - 1; trials = s.trials + 1; left = s.left - 1 }

-- the answer behind a trial that passed
abbrev pub stopped : Search → Found
stopped s = record { step = s.step; trials = s.trials + 1; untried = 0 }

-- the answer where no step passed
abbrev pub ended : Search → Found
ended s = record { step = s.least; trials = s.trials; untried = s.step - s.least }

-- a test of the step tells what a trial answers, at each step that may be tried
pub record Tells (trial : ℕ → Bool → Type 0) (pass : ℕ → Bool) : Type 0 where
  pub each : (step : ℕ) (answer : Bool) → 16 ≤ step → step ≤ 1024 → trial step answer → answer ≡ pass step
