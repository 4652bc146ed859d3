-- Laws of `analyse`: its answer by its causes, and what its number tells.
use Rattle.std.specs.Prelude.{◌≡◌, cond, List, ℕ, T, eqb, ℤ}
use Rattle.std.proofs.Common.{sym}
use Rattle.analysis.specs.declared.Route.{Route}
use Rattle.analysis.specs.Analysis.{offered, coefficients}
use Rattle.checks.specs.Causes.{First}
use Rattle.checks.specs.CauseLaws.{first_is, leaves, spared, Passed, passed}
use Rattle.block_calls.specs.Analysis.{analyse_causes, analyse_code, analyse_out}

module _ (route : Route) (N l r : ℕ) (x out : List ℤ) where
  -- for k = 0 the coefficients, for every other k what `out` held
  pub analyse_answer : {k : ℕ} → First (analyse_causes route N l r x out) k → (k ≡ analyse_code route N l r x out) × (cond (eqb k 0) (coefficients route N l r x) out ≡ analyse_out route N l r x out)
  unfolding analyse_code analyse_out
  analyse_answer f = (sym (first_is (analyse_causes route N l r x out) f), leaves (analyse_causes route N l r x out) (coefficients route N l r x) out f)

  -- a taken block's route is offered
  pub analysed-offered : analyse_code route N l r x out ≡ 0 → T (offered route N)
  unfolding analyse_code analyse_causes spared Passed
  analysed-offered e = (passed (analyse_causes route N l r x out) tt e).0

  pub analyse_taken : analyse_code route N l r x out ≡ 0 → (0 ≡ analyse_code route N l r x out) × (coefficients route N l r x ≡ analyse_out route N l r x out)
  unfolding analyse_out
  analyse_taken e = (sym e, rw e)
