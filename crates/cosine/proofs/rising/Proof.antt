-- `rising` meets its contract: by the shape.
use mir.Syntax.{w64}
use mathlib.Core.Path.{◌∙◌}
use borrow.Author.Rules.{rules}
use borrow.Author.Tests.{eq-eqb, ne_eqb}
use mir.Facts.{to_z-of_z}
use Rattle.cosine.specs.Kernels.{rising}
use Rattle.cosine.proofs.rising.Statement.{statement}
use Rattle.cosine.proofs.rising.Tie as tie

window_requires : tie.Need-window-requires
window_requires c κs = search rules

returns : tie.Need-returns-then-shape-eq0
unfolding rising
returns c = rw (eq-eqb c.before.before.args.shape 0 c.before.if-shape-eq0.true) (to_z-of_z {w = w64} (record { sfits = c.window.type_inv }) ∙ c.window.ensures)

short_rise_requires : tie.Need-short_rise-requires
short_rise_requires c κs = search rules

returns_2 : tie.Need-returns
unfolding rising
returns_2 c = rw (ne_eqb c.before.before.args.shape 0 c.before.if-shape-eq0.false) (to_z-of_z {w = w64} (record { sfits = c.short_rise.type_inv }) ∙ c.short_rise.ensures)

pub rising_spec : {M : Type 1} → statement M
rising_spec = tie.close (tie.spec window_requires returns short_rise_requires returns_2)
