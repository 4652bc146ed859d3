-- Laws of a number that is typed, as the code answers it.
use Rattle.std.specs.Prelude.{◌≡◌, true, false, Option, Some, None, List, ℕ, nat_abs, MatchOption}
use Rattle.std.proofs.Common.{sym, ◌∙◌}
use Rattle.std.specs.Option.{unwrap_or}
use Rattle.text.specs.Number.{value}
use Rattle.coarsest_report.specs.Report.{is_whole, whole_of}
use Rattle.coarsest_report.specs.ReportLaws.{none_typed, some_typed}

pub whole_typed : (most other : ℕ) (typed : List ℕ) (answer : Option ℕ) → MatchOption answer (is_whole most typed ≡ false) (λ n. (is_whole most typed ≡ true) × (n ≡ nat_abs (value typed))) → unwrap_or answer other ≡ whole_of most other typed
whole_typed most other typed None e = sym (none_typed most typed other e)
whole_typed most other typed (Some n) e = e.1 ∙ sym (some_typed most typed other e.0)
