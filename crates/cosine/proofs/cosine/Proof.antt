-- `cosine` meets its contract: each of the four quarters of the turn, by the laws of C.
use mathlib.Core.Path.{◌≡◌, sym, ◌∙◌}
use Prim.Native.Nat.{ℕ, ◌-◌, ◌%◌, ◌^◌, ◌≤◌, ◌<◌}
use native.Mathlib.Omega.{arith}
use borrow.Author.Rules.{rules}
use lib.IntN.{ℤ, pos, neg_ℤ, ◌-ℤ◌, +ℤ_idl}
use lib.Signed.{mag}
use mir.Syntax.{w64}
use mir.Val.{SFits, to_z, of_z, hbits}
use mir.Facts.{to_z-of_z}
use Rattle.arithmetic.specs.OrderLaws.{sfits_abs, abs_neg}
use Rattle.cosine.specs.Cosine.{turn, half_turn, quarter, first_quarter}
use Rattle.cosine.specs.TableLaws.{size}
use Rattle.cosine.specs.CosineLaws.{C_quarter_1, C_quarter_2, C_quarter_3, C_quarter_4}
use Rattle.cosine.proofs.cosine.Statement.{statement}
use Rattle.cosine.proofs.cosine.Tie as tie

-- a number of the table, as the code negates it
module _ (z : ℤ) (t : ℕ) (ok : mag z < 2 ^ hbits w64) (is : z ≡ first_quarter t) (p : t ≤ quarter) where
  negated : pos 0 -ℤ to_z w64 (of_z w64 z) ≡ neg_ℤ (first_quarter t)
  negated = rw (to_z-of_z {w = w64} {z = z} (record { sfits = ok }), is) (+ℤ_idl (neg_ℤ (first_quarter t)))

  negated_fits : SFits w64 (neg_ℤ (first_quarter t))
  negated_fits = sfits_abs (neg_ℤ (first_quarter t)) (rw (abs_neg (first_quarter t)) (omega (arith, size t p)))

first_quarter_requires : tie.Need-first_quarter-requires
first_quarter_requires c κs = search rules

returns : tie.Need-returns-then-r-le-QUARTER
returns c = to_z-of_z {w = w64} (record { sfits = c.first_quarter.type_inv }) ∙ c.first_quarter.ensures ∙ sym (C_quarter_1 c.before.before.args.t (omega arith))

first_quarter_requires_2 : tie.Need-first_quarter-requires-then-r-le-HALF_TURN
first_quarter_requires_2 c κs = search rules

sub_result : tie.Need-overflow_sub-result
sub_result c =
    let r : ℕ = half_turn - c.before.before.before.args.t % turn in
    let a = c.first_quarter-then-r-le-HALF_TURN in
    rw (negated a.result r a.type_inv a.ensures (omega arith)) (negated_fits a.result r a.type_inv a.ensures (omega arith))

returns_2 : tie.Need-returns-then-r-le-HALF_TURN
returns_2 c =
    let t : ℕ = c.before.before.before.args.t in
    let r : ℕ = half_turn - t % turn in
    let a = c.first_quarter-then-r-le-HALF_TURN in
    rw (negated a.result r a.type_inv a.ensures (omega arith)) (to_z-of_z (negated_fits a.result r a.type_inv a.ensures (omega arith)))
    ∙ sym (C_quarter_2 t (omega arith) (omega arith))

add_if3 : tie.Need-overflow_add-t-7
add_if3 c = search rules

sub_first_quarter : tie.Need-overflow_sub-r-then-r
sub_first_quarter c = search rules

first_quarter_requires_3 : tie.Need-first_quarter-requires-then-r
first_quarter_requires_3 c κs = search rules

sub_result_2 : tie.Need-overflow_sub-result-then-r
sub_result_2 c =
    let r : ℕ = c.before.before.before.before.args.t % turn - half_turn in
    let a = c.first_quarter-then-r in
    rw (negated a.result r a.type_inv a.ensures (omega arith)) (negated_fits a.result r a.type_inv a.ensures (omega arith))

returns_3 : tie.Need-returns-then-r
returns_3 c =
    let t : ℕ = c.before.before.before.before.args.t in
    let r : ℕ = t % turn - half_turn in
    let a = c.first_quarter-then-r in
    rw (negated a.result r a.type_inv a.ensures (omega arith)) (to_z-of_z (negated_fits a.result r a.type_inv a.ensures (omega arith)))
    ∙ sym (C_quarter_3 t (omega arith) (omega arith))

sub_first_quarter_2 : tie.Need-overflow_sub-r-2
sub_first_quarter_2 c = search rules

first_quarter_requires_4 : tie.Need-first_quarter-requires-2
first_quarter_requires_4 c κs = search rules

returns_4 : tie.Need-returns
returns_4 c =
    to_z-of_z {w = w64} (record { sfits = c.first_quarter-2.type_inv }) ∙ c.first_quarter-2.ensures ∙ sym (C_quarter_4 c.before.before.before.before.args.t (omega arith))

pub cosine_spec : {M : Type 1} → statement M
cosine_spec =
    tie.close
    (tie.spec
    first_quarter_requires
    returns
    first_quarter_requires_2
    sub_result
    returns_2
    add_if3
    sub_first_quarter
    first_quarter_requires_3
    sub_result_2
    returns_3
    sub_first_quarter_2
    first_quarter_requires_4
    returns_4)
