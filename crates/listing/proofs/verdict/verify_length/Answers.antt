-- A length below 0 or not tabled is cause 1.
use Rattle.std.specs.Prelude.{◌≡◌, true, false}
use Rattle.std.proofs.Common.{rules, sym, ◌∙◌}
use lib.IntN.{nat_abs}
use mir.Facts.{to_z-of_z}
use Rattle.cosine.specs.Kernels.{tabled}
use Rattle.text.specs.Lines.{lines, remainder}
use Rattle.listing.specs.VerdictLaws.{length_below, length-other, length-tabled}
use Rattle.listing.proofs.verdict.verify_length.Goals as goal
use Rattle.listing.proofs.verdict.verify_length.Goals.{then-n-lt0-via-then-n-lt0, then-n-lt0-via-else-n-lt0+then-not-is_tabled}

pub returns-then-n-lt0 : goal.returns-then-n-lt0
returns-then-n-lt0 c =
    let text = c.args.text.now in
    elim c.then-n-lt0.branch [
      | then-n-lt0-via-then-n-lt0 w ↦ sym (length_below (lines text) (remainder text) c.args.n (rw (to_z-of_z c.ranges.n) at w.if-n-lt0.true))
      | then-n-lt0-via-else-n-lt0+then-not-is_tabled w ↦
          let table : tabled (nat_abs c.args.n) ≡ false = rw (to_z-of_z c.ranges.n) at (sym w.is_tabled.ensures ∙ (let e : w.is_tabled.result ≡ false = search rules in e)) in
          sym (length-other (lines text) (remainder text) c.args.n (rw (to_z-of_z c.ranges.n) at w.if-n-lt0.false) table)
    ]

pub returns : goal.returns
returns c =
    let text = c.args.text.now in
    let table : tabled (nat_abs c.args.n) ≡ true = rw (to_z-of_z c.ranges.n) at (sym c.is_tabled.ensures ∙ (let e : c.is_tabled.result ≡ true = search rules in e)) in
    (rw (to_z-of_z c.ranges.n) at c.verify_hops.ensures) ∙ sym (length-tabled (lines text) (remainder text) c.args.n (rw (to_z-of_z c.ranges.n) at c.if-n-lt0.false) table)
