-- `coefficients_within`: one more coefficient, one more test.
use Rattle.std.proofs.Common.{ℕ, sym, ◌∙◌}
use mir.Syntax.{w32, w64}
use mir.Val.{SFits}
use mir.Facts.{to_z-of_z, sfits_widen}
use Rattle.arithmetic.specs.Lists.{at}
use Rattle.arithmetic.specs.TestLaws.{all_none}
use Rattle.checks.specs.Limits.{within, coefficient_limit}
use Rattle.checks.specs.LimitLaws.{all_next}
use Rattle.checks.proofs.coefficients_within.Goals as goal

pub loop-coefficient-init : goal.loop-coefficient-init
loop-coefficient-init c = sym (all_none (λ (i : ℕ). within (at c.args.x.now i) coefficient_limit))

pub loop-coefficient-preserved : goal.loop-coefficient-preserved
loop-coefficient-preserved c =
    let l = c.loop-coefficient in
    let z = at c.args.x.now l.coefficient-index in
    let fits : SFits w32 z = record { sfits = c.is_within-arg-1.given } in
    all_next (λ (i : ℕ). within (at c.args.x.now i) coefficient_limit) l.coefficient-index l.invariant
    (sym (c.is_within-all.ensures ∙ rw (to_z-of_z {w = w32} {z = z} fits, to_z-of_z {w = w64} {z = z} (sfits_widen {w = w32} {w' = w64} tt fits))))
