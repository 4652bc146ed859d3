-- The theorems of the coarsest step applied to Example's single hop, with an allowed distance of 4: step 1,024 returns a sample 6 away, and 1,023 passes. All is computed from the definitions.
use Rattle.std.specs.Prelude.{◌≡◌, List, [], ◌∷◌, ℕ, ◌+◌, ◌-◌, ◌*◌, ◌/◌, ◌≤◌, ◌<◌, T, eqb, length}
use Rattle.std.proofs.Math.Path.{refl}
use Rattle.std.proofs.Common.{ap, ◌∙◌, arith, eqb→eq, lit<, lit≤}
use Rattle.arithmetic.specs.Lists.{all}
use Rattle.arithmetic.specs.TestLaws.{all-at}
use Rattle.analysis.specs.declared.Route.TheVariants.{Direct}
use Rattle.analysis.specs.Analysis.{offered}
use Rattle.orders.specs.declared.Order.TheVariants.{ByBlock}
use Rattle.steps.specs.Table.{step_at}
use Rattle.level_calls.specs.LevelCalls.{told}
use Rattle.recording_calls.specs.Recordings.{recorded_code, recorded_out}
use Rattle.levels.specs.Levels.{level, clipped, back}
use Rattle.recording.specs.Recordings.{synthesis}
use Rattle.stream.specs.Steps.{stream_after, returned}
use Rattle.step_search.specs.Search.{sure, searched, course, found}
use Rattle.coarsest.specs.Coarsest.{stepped, returning, passes, coarsest}
use Rattle.coarsest_calls.specs.Answers.{Coarsest}
use Rattle.coarsest_calls.specs.CoarsestCalls.{coarsest_causes, coarsest_code, coarsest_answer, find_code, find_out}
use Rattle.demands.specs.Coarse.{Keeps, Fails, FoundOn}
use Rattle.demands.specs.Answers.{Counted, Ruled}
use Rattle.demands.proofs.AnswerLaws.{demand_1}
use Rattle.demands.specs.Stored.{StoredOnce}
use Rattle.demands.proofs.CoarseLaws.{passes_keeps, next-passes, found_on}
use Rattle.demands.proofs.CoarseTableLaws.{stored_once, told_is}
use Rattle.demands.specs.CoarseAnswerLaws.{find-answers}
use Rattle.demands.specs.Example.{knock}
use Rattle.demands.proofs.ExampleLaws.{computed, answers, twelve, knock_recorded}
use Rattle.demands.proofs.LevelExampleLaws.{ruled}
use Rattle.demands.specs.CoarseExamples.{two_blocks, second, spent, sure_table}

-- ---- what the calls ask for
one-hop : Counted 1
one-hop = record { some = lit≤ tt; most = lit≤ tt }

knock_long : length knock ≡ 1 * (12 / 2)
knock_long = unfold knock in refl

pub knock-taken : recorded_code Direct 12 1 knock two_blocks ≡ 0
unfolding offered two_blocks
knock-taken = (demand_1.recorded Direct ByBlock 12 1 knock two_blocks).taken twelve one-hop knock_long refl

-- ---- two searches
-- one step fails, the next passes, and none above it is untried
pub two_trials : coarsest_answer 12 1 knock 4 5 ≡ record { code = 0; step = 1023; trials = 2; untried = 0 }
unfolding computed answers all level clipped back synthesis stream_after returned sure searched course found stepped returning passes coarsest coarsest_causes coarsest_code coarsest_answer
two_trials = refl

-- a budget of one trial is used up by the step that fails
pub one_trial : coarsest_answer 12 1 knock 4 1 ≡ record { code = 0; step = 143; trials = 1; untried = 880 }
unfolding computed answers all level clipped back synthesis stream_after returned sure searched course found stepped returning passes coarsest coarsest_causes coarsest_code coarsest_answer
one_trial = refl

-- ---- what follows of them
answered : (budget : ℕ) (r : Coarsest) → coarsest_answer 12 1 knock 4 budget ≡ r → r.code ≡ 0 → FoundOn 12 1 knock 4 budget r
answered budget r e z = rw e at (found_on 12 1 knock 4 budget knock_recorded.sample (ap (λ (a : Coarsest). a.code) e ∙ z))

pub by_two : FoundOn 12 1 knock 4 5 second
by_two = answered 5 second two_trials refl

pub by_one : FoundOn 12 1 knock 4 1 spent
by_one = answered 1 spent one_trial refl

-- 1,023 keeps every sample within 4, and is the largest step that does
pub keeps_1023 : Keeps 12 1 knock 4 1023
keeps_1023 = by_two.keeps

pub largest_1023 : (s : ℕ) → 1023 < s → s ≤ 1024 → Fails 12 1 knock 4 s
largest_1023 = by_two.largest refl

-- by the budget of one trial 1,024 was tried and failed, and the sure step is kept
pub failed_1024 : Fails 12 1 knock 4 1024
failed_1024 = by_one.failed 1024 (lit< tt) (lit≤ tt) (lit< tt)

pub keeps_143 : Keeps 12 1 knock 4 143
keeps_143 = by_one.keeps

-- it is used up, the numbers add up, and the sure step is returned only because of it: 144 keeps every sample too
pub used_up : (spent.trials ≡ 1) × (spent.trials + spent.untried ≡ 1024 - spent.step) × (0 < spent.untried)
unfolding sure
used_up = (by_one.used (lit< tt), by_one.adds_up refl, by_one.never_all (lit< tt) refl)

pub keeps_144 : Keeps 12 1 knock 4 144
keeps_144 = passes_keeps 12 1 knock knock_recorded.sample 4 144 (next-passes 12 1 knock knock_recorded.sample twelve one-hop knock_long 4)

-- with two trials the step returned was tried too
pub added_up : (second.untried ≡ 0) × (second.trials ≡ 1024 - second.step + 1)
unfolding sure
added_up = by_two.adds_up_above (lit< tt)

pub sure-ruled : Ruled 12 sure_table
unfolding answers ruled sure_table
sure-ruled = refl

pub sure-told : told Direct 12 sure_table ≡ record { code = 0; distance = 4 }
unfolding answers ruled sure_table sure
sure-told = told_is 12 sure_table 4 twelve sure-ruled refl (lit≤ tt)

-- every coefficient has that step
each_143 : T (all 6 (λ k. eqb (step_at 6 sure_table k) 143))
unfolding answers ruled sure_table all
each_143 = tt

all_143 : (k : ℕ) → k < 6 → step_at 6 sure_table k ≡ 143
all_143 k p = eqb→eq (step_at 6 sure_table k) 143 (all-at 6 (λ k. eqb (step_at 6 sure_table k) 143) each_143 k p)

pub sure-stored : StoredOnce 12 1 (λ b. sure_table) Direct ByBlock knock (stepped 143 (recorded_out Direct ByBlock 12 1 knock two_blocks))
sure-stored = stored_once 12 1 knock knock_recorded.sample two_blocks knock-taken ByBlock sure_table sure-ruled 143 all_143

-- 12 is answered behind every other cause
pub beyond_32 : coarsest_answer 12 1 knock 33 5 ≡ record { code = 12; step = 0; trials = 0; untried = 0 }
unfolding computed answers coarsest_causes coarsest_code coarsest_answer
beyond_32 = refl

pub two_before_12 : coarsest_answer 12 2 knock 33 5 ≡ record { code = 2; step = 0; trials = 0; untried = 0 }
unfolding computed answers coarsest_causes coarsest_code coarsest_answer
two_before_12 = refl

-- room for three numbers holds what is answered by value, and is left alone where it is not for three
pub into_room : find_out 12 1 knock 4 5 (7 ∷ 7 ∷ 7 ∷ []) ≡ 1023 ∷ 2 ∷ 0 ∷ []
into_room = let f = find-answers 12 1 knock 4 5 (7 ∷ 7 ∷ 7 ∷ []) in (f.found (f.taken twelve one-hop knock_long refl (lit≤ tt))).1 ∙ ap numbers two_trials
  where
    numbers : Coarsest → List ℕ
    numbers a = a.step ∷ a.trials ∷ a.untried ∷ []

pub room_of_two : find_code 12 1 knock 33 (7 ∷ 7 ∷ []) ≡ 2
room_of_two = (find-answers 12 1 knock 33 5 (7 ∷ 7 ∷ [])).two_room twelve (λ e. omega (arith, e))
