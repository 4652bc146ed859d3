-- The coarsest step for a recording, in words of the public calls: definitions. Document 02, P13. The codes and buffers are those that the public calls' contracts cite.
use Rattle.std.specs.Prelude.{◌≡◌, List, ℕ, ◌+◌, ◌-◌, ◌*◌, ◌/◌, ◌≤◌, ◌<◌, length, ℤ, nat_abs, ◌-ℤ◌}
use Rattle.arithmetic.specs.Lists.{at}
use Rattle.analysis.specs.declared.Route.TheVariants.{Direct}
use Rattle.orders.specs.declared.Order.{Order}
use Rattle.recording_calls.specs.Recordings.{recorded_code, recorded_out, played_code, played_out}
use Rattle.step_search.specs.Search.{top, sure, course}
use Rattle.coarsest.specs.Coarsest.{stepped, passes}
use Rattle.coarsest_calls.specs.Answers.{Coarsest}

-- a recording there and back through the calls over recordings, in either order: analysed directly into `room`, every coefficient to its level by one step and back, and
-- synthesised into `out`
abbrev pub stepped_there_and_back : Order → (step N H : ℕ) → (x room out : List ℤ) → List ℤ
stepped_there_and_back order step N H x room out = played_out order N H (stepped step (recorded_out Direct order N H x room)) out

-- every sample returns within D, whatever the buffers held: the synthesis takes what it is handed, and each sample is held against the recording's at the same place
pub record Keeps (N H : ℕ) (x : List ℤ) (D step : ℕ) : Type 0 where
  pub plays : (order : Order) (room out : List ℤ) → recorded_code Direct N H x room ≡ 0 → length out ≡ H * (N / 2) → played_code N H (stepped step (recorded_out Direct order N H x room)) out ≡ 0
  pub near : (order : Order) (room out : List ℤ) → recorded_code Direct N H x room ≡ 0 → length out ≡ H * (N / 2) → (i : ℕ) → i < H * (N / 2) → nat_abs (at (stepped_there_and_back order step N H x room out) i -ℤ at x i) ≤ D

-- a sample of the recording returns beyond D, whatever the buffers held
pub record Fails (N H : ℕ) (x : List ℤ) (D step : ℕ) : Type 0 where
  pub place : ℕ
  pub inside : place < H * (N / 2)
  pub far : (order : Order) (room out : List ℤ) → recorded_code Direct N H x room ≡ 0 → length out ≡ H * (N / 2) → D < nat_abs (at (stepped_there_and_back order step N H x room out) place -ℤ at x place)

-- what `coarsest_step` answered, returning 0
pub record FoundOn (N H : ℕ) (x : List ℤ) (D budget : ℕ) (r : Coarsest) : Type 0 where
  -- the step lies from the sure one to 1,024, and keeps every sample within D
  pub from : sure D ≤ r.step
  pub upto : r.step ≤ top
  pub keeps : Keeps N H x D r.step
  -- 'every step tried and failed has a sample beyond D': the trials are of 1,024, 1,023 and so on downward, and all but the step returned failed
  pub failed : (s : ℕ) → r.step < s → s ≤ top → top < s + r.trials → Fails N H x D s
  -- 'with none untried, that step is the largest'
  pub largest : r.untried ≡ 0 → (s : ℕ) → r.step < s → s ≤ top → Fails N H x D s
  -- the numbers add up: of the steps above the one returned each was tried or is untried, and above the sure step the one returned was tried too
  pub adds_up : r.step ≡ sure D → r.trials + r.untried ≡ top - r.step
  pub adds_up_above : sure D < r.step → (r.untried ≡ 0) × (r.trials ≡ top - r.step + 1)
  -- no more trials than the budget, and all of them where a step is untried
  pub within : r.trials ≤ budget
  pub used : 0 < r.untried → r.trials ≡ budget
  -- a budget of 1,009 leaves no step untried: so many lie above the smallest sure step
  pub enough : 1009 ≤ budget → r.untried ≡ 0
  -- the trials are the definition's steps that failed or passed
  pub counted : let c = course (passes N H x D) D budget in r.trials ≡ length c.failed + length c.passed
  -- the search doesn't end because all above the sure step have failed: below 32 the sure step is returned only where the budget is used up
  pub never_all : D < 32 → r.step ≡ sure D → 0 < r.untried
