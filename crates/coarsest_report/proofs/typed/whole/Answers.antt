use Rattle.std.specs.Prelude.{◌≡◌, refl, true, false, ℤ, pos, negsuc, nat_abs}
use Rattle.std.specs.Int.Signed.{lt_z, le_z}
use Rattle.std.proofs.Common.{rules, arith, ap, ◌∙◌}
use mir.Syntax.{w64}
use mir.Val.{SFits}
use mir.Facts.{to_z-of_z}
use Rattle.arithmetic.specs.IntegerLaws.{ints}
use Rattle.arithmetic.specs.OrderLaws.{lt_z-true, lt_z-false}
use Rattle.coarsest_report.specs.ReportLaws.{no_number, by_sign}
use Rattle.coarsest_report.proofs.typed.whole.Goals as goal

below : (z : ℤ) → lt_z z (pos 0) ≡ true → le_z (pos 0) z ≡ false
below (pos n) e = absurd (omega (arith, simp ints at (lt_z-true (pos n) (pos 0) e)))
below (negsuc n) e = refl

above : (z : ℤ) → lt_z z (pos 0) ≡ false → le_z (pos 0) z ≡ true
above (pos n) e = search rules
above (negsuc n) e = absurd (omega (arith, simp ints at (lt_z-false (negsuc n) (pos 0) e)))

pub returns-in_err-v : goal.returns-in_err-v
returns-in_err-v c = rw c.from_residual.ensures (no_number c.args.most c.args.typed.now c.in_err-v.ensures)

pub returns-then-v-lt0 : goal.returns-then-v-lt0
returns-then-v-lt0 c =
    let fits : SFits w64 c.in_ok-v.v = search rules in
    let low = below c.in_ok-v.v (rw (to_z-of_z fits) at c.if-v-lt0.true) in
    by_sign c.args.most c.args.typed.now c.in_ok-v.ensures.0 ∙ (rw c.in_ok-v.ensures.1 at low)

pub returns-else-v-lt0 : goal.returns-else-v-lt0
returns-else-v-lt0 c =
    let fits : SFits w64 c.in_ok-v.v = search rules in
    let high = above c.in_ok-v.v (rw (to_z-of_z fits) at c.if-v-lt0.false) in
    (by_sign c.args.most c.args.typed.now c.in_ok-v.ensures.0 ∙ (rw c.in_ok-v.ensures.1 at high), ap nat_abs (to_z-of_z fits ∙ c.in_ok-v.ensures.1))
