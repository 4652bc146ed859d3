-- `entries_within`: one more entry, one more test.
use Rattle.std.proofs.Common.{ℕ, sym, ◌∙◌}
use mir.Syntax.{w64}
use mir.Facts.{to_z-of_z}
use Rattle.arithmetic.specs.Lists.{at}
use Rattle.arithmetic.specs.TestLaws.{all_none}
use Rattle.checks.specs.Limits.{within}
use Rattle.checks.specs.LimitLaws.{all_next}
use Rattle.checks.proofs.entries_within.Goals as goal

pub loop-entry-init : goal.loop-entry-init
loop-entry-init c = sym (all_none (λ (i : ℕ). within (at c.args.entries.now i) c.args.limit))

pub loop-entry-preserved : goal.loop-entry-preserved
loop-entry-preserved c =
    let l = c.loop-entry in
    let z = at c.args.entries.now l.entry-index in
    all_next (λ (i : ℕ). within (at c.args.entries.now i) c.args.limit) l.entry-index l.invariant
    (sym (c.is_within-all.ensures ∙ rw (to_z-of_z {w = w64} {z = z} (record { sfits = c.is_within-arg-1.given }))))
