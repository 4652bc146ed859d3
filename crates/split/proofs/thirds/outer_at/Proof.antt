-- `outer_at` meets its contract: the sign is changed in part 2, where the sum of the places is even.
use mathlib.Core.Path.{◌≡◌, sym, ◌∙◌}
use native.Mathlib.Omega.{arith}
use lib.ListN.{length}
use lib.IntN.{ℤ, pos, neg_ℤ, ◌-ℤ◌, +ℤ_idl}
use mir.Syntax.{w32}
use mir.Val.{SFits, to_z, of_z}
use mir.Facts.{to_z-of_z}
use Rattle.arithmetic.specs.OrderLaws.{sfits_abs, abs_neg}
use Rattle.split.specs.ShortStepLaws.{turned-even, turned-odd}
use Rattle.split.specs.TurnLaws.{signed-first, signed-second}
use borrow.Author.Rules.{rules}
use Rattle.split.proofs.thirds.outer_at.Statement.{statement}
use Rattle.split.proofs.thirds.outer_at.Tie as tie

rotated_at_requires : tie.Need-rotated_at-r-requires
rotated_at_requires c κs = search rules

-- the value with its sign changed, as the machine has it
module _ (c : tie.After-rotated_at-r) where
  abbrev r : ℤ
  r = c.rotated_at-r.result

  r-is : to_z w32 (of_z w32 r) ≡ r
  r-is = to_z-of_z {w = w32} {z = r} (record { sfits = c.rotated_at-r.type_inv })

  negated : pos 0 -ℤ to_z w32 (of_z w32 r) ≡ neg_ℤ r
  negated = rw r-is (+ℤ_idl (neg_ℤ r))

  negated_fits : SFits w32 (neg_ℤ r)
  negated_fits = sfits_abs (neg_ℤ r) (rw (abs_neg r) (omega (arith, c.rotated_at-r.ensures.1)))

returns : tie.Need-returns-then-which-eq1
returns c =
    let s = c.before.before in
    rw (r-is c.before) (c.before.rotated_at-r.ensures.0 ∙ sym (signed-first s.args.which (length s.args.y.now) s.args.n _ c.if-which-eq1.true))

add_if2 : tie.Need-overflow_add-n
add_if2 c = search rules

sub_result : tie.Need-overflow_sub-result
sub_result c = rw (negated c.before.before) (negated_fits c.before.before)

returns_2 : tie.Need-returns-then-n-y-eq0
returns_2 c =
    let r = c.before.before in
    let s = r.before in
    let N = length s.args.y.now in
    rw (negated r, to_z-of_z (negated_fits r), r.rotated_at-r.ensures.0)
    (sym (signed-second s.args.which N s.args.n _ c.before.if-which-eq1.false ∙ turned-even N s.args.n _ c.if-n-y-eq0.true))

returns_3 : tie.Need-returns-else-n-y-eq0
returns_3 c =
    let r = c.before.before in
    let s = r.before in
    let N = length s.args.y.now in
    rw (r-is r, r.rotated_at-r.ensures.0)
    (sym (signed-second s.args.which N s.args.n _ c.before.if-which-eq1.false ∙ turned-odd N s.args.n _ c.if-n-y-eq0.false))

pub outer_at_spec : {M : Type 1} → statement M
outer_at_spec =
    tie.close (tie.spec rotated_at_requires returns add_if2 sub_result returns_2 returns_3)
