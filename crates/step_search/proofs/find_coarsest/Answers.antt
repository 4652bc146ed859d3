-- `find_coarsest` meets its contract: the search under way answers what the definition does, for every test that tells the trial's answers.
use Rattle.std.proofs.Common.{arith, ◌≡◌, ◌∙◌, refl, sym, true, ◌≤◌, ◌+◌, ℕ}
use Rattle.arithmetic.specs.TestLaws.{is_T}
use Rattle.step_search.specs.Search.{sure}
use Rattle.step_search.specs.SearchLaws.{sure-is}
use Rattle.step_search.specs.Progress.{unfinished}
use Rattle.step_search.specs.ProgressLaws.{Open, unfinished_is_open, going_begun, going_passed, going_on, going_ended}
use Rattle.step_search.specs.declared.Search.{Search}
use Rattle.step_search.proofs.find_coarsest.Goals as goal

-- of a search under way
few : (D trials step : ℕ) → sure D ≤ step → trials + step ≡ 1024 → trials + 15 ≤ 1024
few D trials step from upto = omega (arith, (sure-is D).least)

open_now : (s : Search) (r : _) → r ≡ unfinished s → r ≡ true → Open s
open_now s r e t = unfinished_is_open s (is_T (sym e ∙ t))

pub loop-passes-init : goal.loop-passes-init
loop-passes-init g c = rw c.begin-search.ensures (refl, (sure-is c.args.allowed).most, refl, λ pass tells. going_begun pass c.args.allowed c.args.budget)

pub passes-requires : goal.passes-requires
passes-requires g c =
    let i = c.loop-passes.invariant in
    let o = open_now c.loop-passes.search c.is_unfinished.result c.is_unfinished.ensures c.loop-passes-test.true in
    c.requires.callable c.loop-passes.search.step (omega (arith, i.0, o.more, (sure-is c.args.allowed).least)) (omega (arith, i.2))

pub after_success-requires : goal.after_success-requires
after_success-requires g c = let i = c.loop-passes.invariant in omega (arith, few c.args.allowed c.loop-passes.search.trials c.loop-passes.search.step i.1 i.2)

pub returns-then-passes : goal.returns-then-passes
returns-then-passes g c =
    let s = c.loop-passes.search in
    let i = c.loop-passes.invariant in
    let t = is_T (sym c.is_unfinished.ensures ∙ c.loop-passes-test.true) in
    let o = unfinished_is_open s t in
    λ pass tells.
    c.after_success.ensures
    ∙ going_passed pass c.args.allowed c.args.budget s (i.3 pass tells) t
    (sym (tells.each s.step c.passes.result (omega (arith, i.0, o.more, (sure-is c.args.allowed).least)) (omega (arith, i.2)) c.passes.ensures) ∙ c.if-passes.true)

pub after_failure-search-requires : goal.after_failure-search-requires
after_failure-search-requires g c =
    let i = c.loop-passes.invariant in
    let o = open_now c.loop-passes.search c.is_unfinished.result c.is_unfinished.ensures c.loop-passes-test.true in
    (omega (arith, o.more), o.some, omega (arith, few c.args.allowed c.loop-passes.search.trials c.loop-passes.search.step i.1 i.2))

pub loop-passes-smaller : goal.loop-passes-smaller
loop-passes-smaller g c =
    let o = open_now c.loop-passes.search c.is_unfinished.result c.is_unfinished.ensures c.loop-passes-test.true in
    rw c.after_failure-search.ensures (omega (arith, o.more))

pub loop-passes-preserved : goal.loop-passes-preserved
loop-passes-preserved g c =
    let s = c.loop-passes.search in
    let i = c.loop-passes.invariant in
    let t = is_T (sym c.is_unfinished.ensures ∙ c.loop-passes-test.true) in
    let o = unfinished_is_open s t in
    rw c.after_failure-search.ensures (
      i.0,
      omega (arith, i.0, o.more),
      omega (arith, i.2, o.more),
      λ pass tells.
          going_on pass c.args.allowed c.args.budget s (i.3 pass tells) t
          (sym (tells.each s.step c.passes.result (omega (arith, i.0, o.more, (sure-is c.args.allowed).least)) (omega (arith, i.2)) c.passes.ensures) ∙ c.if-passes.false),
    )

pub returns : goal.returns
returns g c =
    let s = c.loop-passes.search in
    let i = c.loop-passes.invariant in
    λ pass tells. c.without_success.ensures ∙ going_ended pass c.args.allowed c.args.budget s (i.3 pass tells) (sym c.is_unfinished.ensures ∙ c.loop-passes-test.false)
