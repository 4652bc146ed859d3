-- What the calls over whole recordings answer: definitions. Document 01, 'Whole recordings' and 'When the bank declines', and document 02, P1 and P10.
-- H is the number of hops; a recording has H + 1 blocks.
use Rattle.std.specs.Prelude.{Bool, cond, false, List, [], ◌∷◌, ℕ, ◌+◌, ◌*◌, ◌/◌, eqb, length, ℤ}
use Rattle.cosine.specs.Kernels.{tabled}
use Rattle.analysis.specs.declared.Route.{Route}
use Rattle.orders.specs.declared.Order.{Order}
use Rattle.orders.specs.Orders.{reordered}
use Rattle.recording.specs.Recordings.{analysis, synthesis}
use Rattle.analysis.specs.Analysis.{offered}
use Rattle.checks.specs.Causes.{Cause, ◌unless◌, first_cause}
use Rattle.checks.specs.Limits.{in_range, counted}

-- the causes of `analyse_recording`: the route is not offered at N, H is out of its range, a buffer is not of H × M samples or (H+1) × M coefficients
unfoldable pub recorded_causes : Route → ℕ → ℕ → List ℤ → List ℤ → List Cause
recorded_causes route N H x out =
    1 unless offered route N
    ∷ 2 unless counted H
    ∷ 2 unless eqb (length x) (H * (N / 2))
    ∷ 2 unless eqb (length out) ((H + 1) * (N / 2))
    ∷ []

unfoldable pub recorded_code : Route → ℕ → ℕ → List ℤ → List ℤ → ℕ
recorded_code route N H x out = first_cause (recorded_causes route N H x out)

-- what `out` then holds: the coefficients of all blocks, in the order named, or what it held
unfoldable pub recorded_out : Route → Order → ℕ → ℕ → List ℤ → List ℤ → List ℤ
recorded_out route order N H x out = cond (eqb (recorded_code route N H x out) 0) (analysis route order N H x) out

-- the causes of `synthesise_recording`: N, H, a buffer that is not of (H+1) × M coefficients or H × M samples, a coefficient anywhere
unfoldable pub played_causes : ℕ → ℕ → List ℤ → List ℤ → List Cause
played_causes N H x out =
    1 unless tabled N
    ∷ 2 unless counted H
    ∷ 2 unless eqb (length x) ((H + 1) * (N / 2))
    ∷ 2 unless eqb (length out) (H * (N / 2))
    ∷ 3 unless in_range ((H + 1) * (N / 2)) x
    ∷ []

unfoldable pub played_code : ℕ → ℕ → List ℤ → List ℤ → ℕ
played_code N H x out = first_cause (played_causes N H x out)

-- what `out` then holds: the samples of all hops, x being in the order named, or what it held
unfoldable pub played_out : Order → ℕ → ℕ → List ℤ → List ℤ → List ℤ
played_out order N H x out = cond (eqb (played_code N H x out) 0) (synthesis order N H x) out

-- the causes of `reorder`: N, H, a buffer that is not of (H+1) × M coefficients, a coefficient anywhere
unfoldable pub reorder_causes : ℕ → ℕ → List ℤ → List ℤ → List Cause
reorder_causes N H x out =
    1 unless tabled N
    ∷ 2 unless counted H
    ∷ 2 unless eqb (length x) ((H + 1) * (N / 2))
    ∷ 2 unless eqb (length out) ((H + 1) * (N / 2))
    ∷ 3 unless in_range ((H + 1) * (N / 2)) x
    ∷ []

unfoldable pub reorder_code : ℕ → ℕ → List ℤ → List ℤ → ℕ
reorder_code N H x out = first_cause (reorder_causes N H x out)

-- what `out` then holds: the coefficients in the order `to`, x being in the other one, or what it held
unfoldable pub reorder_out : Order → ℕ → ℕ → List ℤ → List ℤ → List ℤ
reorder_out to N H x out = cond (eqb (reorder_code N H x out) 0) (reordered to (N / 2) (H + 1) x) out

-- `inner`: a buffer of this length has H hops of M samples
unfoldable pub shaped : ℕ → ℕ → ℕ → Bool
shaped N H long = cond (tabled N) (cond (counted H) (eqb long (H * (N / 2))) false) false

-- what the part holds, which starts where the buffer does: all of it, or nothing
unfoldable pub inner_of : ℕ → ℕ → List ℤ → List ℤ
inner_of N H out = cond (shaped N H (length out)) out []
