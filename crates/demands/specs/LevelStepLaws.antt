-- Laws of one call of `step_levels`: `levels-step`, it is `step` on the coefficients that come back from the levels, where the table and the number of levels are taken.
use Rattle.std.specs.Prelude.{◌≡◌, List, ℕ, ◌/◌, length, ℤ}
use Rattle.std.proofs.Common.{sym, ◌∙◌}
use Rattle.std.proofs.Math.Decide.{ℕ_discrete}
use borrow.Author.Tests.{eq-eqb}
use Rattle.stream.specs.declared.Stream.{Stream}
use Rattle.checks.specs.Causes.{first_cause}
use Rattle.stream_calls.specs.Streams as S
use Rattle.steps.specs.Table.{table_code}
use Rattle.level_calls.specs.LevelCalls.{back_by, brought_causes, brought_code, step_causes, step_code, step_levels, step_out}
use Rattle.level_calls.specs.LevelCallLaws.{back_long, back-ranged, brought_table, brought_long, brought, early}

module _ (s : Stream) (number l r : ℕ) (text : List ℕ) (levels out : List ℤ) (z : brought_code s.n text levels ≡ 0) where
  abbrev x : List ℤ
  x = back_by s.n text levels

  pub levels-code : step_code s number l r text levels out ≡ S.step_code s number l r x out
  unfolding step_code step_causes S.step_code S.step_causes first_cause
  levels-code =
      rw (
        eq-eqb (table_code (s.n / 2) text) 0 (brought_table s.n text levels z),
        eq-eqb (length levels) (s.n / 2) (brought_long s.n text levels z),
        eq-eqb (length x) (s.n / 2) (back_long s.n text levels),
        back-ranged s.n text levels,
      )

  -- whatever the stream, the number and the shapes are
  pub levels-step : (step_levels s number l r text levels out ≡ S.step s number l r x out) × (step_out s number l r text levels out ≡ S.step_out s number l r x out)
  unfolding step_levels S.step step_out S.step_out
  levels-step = (rw levels-code, rw levels-code)

-- a table that is taken and M levels
pub brought_yes : (N : ℕ) (text : List ℕ) (levels : List ℤ) → table_code (N / 2) text ≡ 0 → length levels ≡ N / 2 → brought_code N text levels ≡ 0
unfolding brought_code brought_causes first_cause
brought_yes N text levels z e = rw (eq-eqb (table_code (N / 2) text) 0 z, eq-eqb (length levels) (N / 2) e)

-- so they are where the call is
pub levels_brought : (s : Stream) (number l r : ℕ) (text : List ℕ) (levels out : List ℤ) → step_code s number l r text levels out ≡ 0 → brought_code s.n text levels ≡ 0
levels_brought s number l r text levels out z = go (ℕ_discrete (brought_code s.n text levels) 0) (ℕ_discrete (S.admit_code s number l r) 0)
  where
    go : Dec (brought_code s.n text levels ≡ 0) → Dec (S.admit_code s number l r ≡ 0) → brought_code s.n text levels ≡ 0
    go (yes e) d = e
    go (no n) (yes a) = sym (brought s number l r text levels out a n) ∙ z
    go (no n) (no m) = absurd (m (sym (early s number l r text levels out m) ∙ z))
