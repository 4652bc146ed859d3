-- `first_quarter` meets its contract: the table that is lent is that of specs/, whose rule is the series.
use mathlib.Core.Path.{sym, ap, ◌∙◌}
use mathlib.Core.List.{List}
use borrow.Author.Rules.{rules}
use lib.IntN.{ℤ}
use mir.Syntax.{w32, w64}
use mir.Facts.{to_z-of_z, sfits_widen}
use Rattle.arithmetic.specs.Lists.{at}
use Rattle.cosine.specs.TableLaws.{series_rule}
use Rattle.cosine.proofs.first_quarter.Statement.{statement}
use Rattle.cosine.proofs.first_quarter.Tie as tie

mul_result : tie.Need-offset_bounds-cos-t
mul_result c = search rules

element_copy_out_result : tie.Need-bounds-cos-t
element_copy_out_result c = search rules

cast_result : tie.Need-overflow_cast-result
cast_result c = rw (to_z-of_z {w = w32} (record { sfits = c.result-1.given })) (sfits_widen {w = w32} {w' = w64} tt (record { sfits = c.result-1.given }))

returns : tie.Need-returns
returns c =
    let s = c.before in
    rw (to_z-of_z {w = w32} (record { sfits = c.result-1.given }), to_z-of_z {w = w64} (sfits_widen {w = w32} {w' = w64} tt (record { sfits = c.result-1.given })))
    (ap (λ (l : List ℤ). at l s.args.t) s.requires.0 ∙ sym (series_rule s.args.t s.requires.1))

pub first_quarter_spec : {M : Type 1} → statement M
first_quarter_spec = tie.close (tie.spec mul_result element_copy_out_result cast_result returns)
