-- The coarsest step of Example's single hop, with an allowed distance of 4: step 1,024 returns a sample 6 away, and 1,023 passes. `CoarseExamples` is the contract of the function `coarsest_examples`, by CoarseExampleLaws.
use Rattle.std.specs.Prelude.{◌≡◌, List, [], ◌∷◌, ℕ, ◌+◌, ◌-◌, ◌≤◌, ◌<◌, replicate, ℤ, pos}
use Rattle.text.specs.Bytes.{ascii}
use Rattle.analysis.specs.declared.Route.TheVariants.{Direct}
use Rattle.orders.specs.declared.Order.TheVariants.{ByBlock}
use Rattle.level_calls.specs.LevelCalls.{told}
use Rattle.recording_calls.specs.Recordings.{recorded_code, recorded_out}
use Rattle.coarsest.specs.Coarsest.{stepped}
use Rattle.coarsest_calls.specs.Answers.{Coarsest}
use Rattle.coarsest_calls.specs.CoarsestCalls.{coarsest_answer, find_code, find_out}
use Rattle.demands.specs.Coarse.{Keeps, Fails, FoundOn}
use Rattle.demands.specs.Answers.{Ruled}
use Rattle.demands.specs.Stored.{StoredOnce}
use Rattle.demands.specs.Example.{knock}

-- a buffer for the recording's two blocks
unfoldable pub two_blocks : List ℤ
two_blocks = replicate 12 (pos 9)

-- what is answered where one step fails and the next passes, and where a budget of one trial is used up
abbrev pub second : Coarsest
second = record { code = 0; step = 1023; trials = 2; untried = 0 }

abbrev pub spent : Coarsest
spent = record { code = 0; step = 143; trials = 1; untried = 880 }

-- a table of the sure step
unfoldable pub sure_table : List ℕ
sure_table = ascii "0,5,143\n"

pub record CoarseExamples : Type 0 where
  pub knock_taken : recorded_code Direct 12 1 knock two_blocks ≡ 0
  -- ---- two searches
  -- one step fails, the next passes, and none above it is untried
  pub two_trials : coarsest_answer 12 1 knock 4 5 ≡ record { code = 0; step = 1023; trials = 2; untried = 0 }
  -- a budget of one trial is used up by the step that fails
  pub one_trial : coarsest_answer 12 1 knock 4 1 ≡ record { code = 0; step = 143; trials = 1; untried = 880 }
  pub by_two : FoundOn 12 1 knock 4 5 second
  pub by_one : FoundOn 12 1 knock 4 1 spent
  -- 1,023 keeps every sample within 4, and is the largest step that does
  pub keeps_1023 : Keeps 12 1 knock 4 1023
  pub largest_1023 : (s : ℕ) → 1023 < s → s ≤ 1024 → Fails 12 1 knock 4 s
  -- by the budget of one trial 1,024 was tried and failed, and the sure step is kept
  pub failed_1024 : Fails 12 1 knock 4 1024
  pub keeps_143 : Keeps 12 1 knock 4 143
  -- it is used up, the numbers add up, and the sure step is returned only because of it: 144 keeps every sample too
  pub used_up : (spent.trials ≡ 1) × (spent.trials + spent.untried ≡ 1024 - spent.step) × (0 < spent.untried)
  pub keeps_144 : Keeps 12 1 knock 4 144
  -- with two trials the step returned was tried too
  pub added_up : (second.untried ≡ 0) × (second.trials ≡ 1024 - second.step + 1)
  -- ---- every coefficient of the recording goes through the table of the sure step, and what is told of it is 4
  pub sure_ruled : Ruled 12 sure_table
  pub sure_told : told Direct 12 sure_table ≡ record { code = 0; distance = 4 }
  pub sure_stored : StoredOnce 12 1 (λ b. sure_table) Direct ByBlock knock (stepped 143 (recorded_out Direct ByBlock 12 1 knock two_blocks))
  -- 12 is answered behind every other cause
  pub beyond_32 : coarsest_answer 12 1 knock 33 5 ≡ record { code = 12; step = 0; trials = 0; untried = 0 }
  pub two_before_12 : coarsest_answer 12 2 knock 33 5 ≡ record { code = 2; step = 0; trials = 0; untried = 0 }
  -- room for three numbers holds what is answered by value, and is left alone where it is not for three
  pub into_room : find_out 12 1 knock 4 5 (7 ∷ 7 ∷ 7 ∷ []) ≡ 1023 ∷ 2 ∷ 0 ∷ []
  pub room_of_two : find_code 12 1 knock 33 (7 ∷ 7 ∷ []) ≡ 2
