-- The coarsest step for a recording: definitions. Document 02, P13.
use Rattle.std.specs.Prelude.{Bool, List, ℕ, ◌*◌, ◌/◌, leb, length, ℤ, nat_abs, ◌-ℤ◌}
use Rattle.arithmetic.specs.Lists.{at, table, all}
use Rattle.levels.specs.Levels.{level, back}
use Rattle.orders.specs.declared.Order.TheVariants.{ByBlock}
use Rattle.analysis.specs.declared.Route.TheVariants.{Direct}
use Rattle.recording.specs.Recordings.{analysis, synthesis}
use Rattle.step_search.specs.declared.Found.{Found}
use Rattle.step_search.specs.Search.{found}

-- 'every coefficient so stepped': each becomes its level, and comes back (P8), all by one step
unfoldable pub stepped : ℕ → List ℤ → List ℤ
stepped step X = table (length X) (λ k. back step (level step (at X k)))

-- 'every recording is analysed directly': the samples that return. From either order they are the same (P10)
unfoldable pub returning : (step N H : ℕ) → List ℤ → List ℤ
returning step N H x = synthesis ByBlock N H (stepped step (analysis Direct ByBlock N H x))

-- sample i returns within D
abbrev pub near : (N H : ℕ) → List ℤ → (D step i : ℕ) → Bool
near N H x D step i = leb (nat_abs (at (returning step N H x) i -ℤ at x i)) D

-- the step passes: its 'samples .. all return within D'
unfoldable pub passes : (N H : ℕ) → List ℤ → (D step : ℕ) → Bool
passes N H x D step = all (H * (N / 2)) (near N H x D step)

-- the search, with a step of this recording's as its trial
unfoldable pub coarsest : (N H : ℕ) → List ℤ → (D budget : ℕ) → Found
coarsest N H x D budget = found (passes N H x D) D budget
