-- `weighted_negated` meets its contract: the number with its sign changed is as small.
use mathlib.Core.Path.{◌≡◌, ◌∙◌}
use native.Mathlib.Omega.{arith}
use borrow.Author.Rules.{rules}
use lib.IntN.{pos, neg_ℤ, ◌-ℤ◌, +ℤ_idl}
use mir.Syntax.{w64}
use mir.Val.{SFits, to_z, of_z}
use mir.Facts.{to_z-of_z}
use Rattle.arithmetic.specs.OrderLaws.{sfits_abs, abs_neg}
use Rattle.transform.proofs.unfold.weighted_negated.Statement.{statement}
use Rattle.transform.proofs.unfold.weighted_negated.Tie as tie

negated : (c : tie.Start) → pos 0 -ℤ to_z w64 (of_z w64 c.args.u) ≡ neg_ℤ c.args.u
negated c = rw (to_z-of_z c.ranges.u) (+ℤ_idl (neg_ℤ c.args.u))

negated_fits : (c : tie.Start) → SFits w64 (neg_ℤ c.args.u)
negated_fits c = sfits_abs (neg_ℤ c.args.u) (rw (abs_neg c.args.u) (omega (arith, c.requires.1)))

sub_weighted : tie.Need-overflow_sub-u
sub_weighted c = rw (negated c) (negated_fits c)

weighted_requires : tie.Need-weighted-requires
weighted_requires c κs = (search rules, rw (negated c, to_z-of_z (negated_fits c), abs_neg c.args.u) c.requires.1)

returns : tie.Need-returns
returns c = to_z-of_z {w = w64} {z = c.weighted.result} (record { sfits = c.weighted.type_inv }) ∙ c.weighted.ensures ∙ rw (to_z-of_z c.before.ranges.w, negated c.before, to_z-of_z (negated_fits c.before))

pub weighted_negated_spec : {M : Type 1} → statement M
weighted_negated_spec = tie.close (tie.spec sub_weighted weighted_requires returns)
