use Rattle.std.specs.Prelude.{◌^◌, ℤ}
use Rattle.std.proofs.Common.{arith, sym, ap, ◌∙◌, w32, w64, rules}
use Rattle.std.proofs.Math.Facts.{to_z-of_z}
use mir.Val.{SFits}
use Rattle.arithmetic.specs.Rounding.{rnd}
use Rattle.arithmetic.specs.Lists.{at}
use Rattle.arithmetic.specs.ListLaws.{filled_none, filled-three}
use Rattle.split.specs.ShortStepLaws.{interleaved, interleaved-first, interleaved-middle, interleaved-last}
use Rattle.split.proofs.block.coefficients.Goals as goal

pub loop-k-init : goal.loop-k-init
loop-k-init c = filled_none (interleaved c.args.a.now c.args.plus.now c.args.minus.now) c.args.out.now

pub loop-k-preserved : goal.loop-k-preserved
loop-k-preserved c =
    let a = c.args.a.now in
    let plus = c.args.plus.now in
    let minus = c.args.minus.now in
    let k = c.loop-k.k in
    let q = c.requires in
    let plus_fits : SFits w64 (at plus k) = search rules in
    let a_fits : SFits w64 (at a k) = search rules in
    let minus_fits : SFits w64 (at minus k) = search rules in
    filled-three (interleaved a plus minus) k c.loop-k.out c.args.out.now _ _ _ c.loop-k.invariant (omega (arith, c.loop-k.invariant.room, q.out_len))
    (to_z-of_z {w = w32} {z = c.coefficient.result} (record { sfits = c.coefficient.type_inv })
    ∙ c.coefficient.ensures ∙ ap (λ (z : ℤ). rnd z (2 ^ 29)) (to_z-of_z {w = w64} plus_fits) ∙ sym (interleaved-first a plus minus k))
    (to_z-of_z {w = w32} {z = c.coefficient-in-loop-k.result} (record { sfits = c.coefficient-in-loop-k.type_inv })
    ∙ c.coefficient-in-loop-k.ensures ∙ ap (λ (z : ℤ). rnd z (2 ^ 28)) (to_z-of_z {w = w64} a_fits) ∙ sym (interleaved-middle a plus minus k))
    (to_z-of_z {w = w32} {z = c.coefficient-in-loop-k-2.result} (record { sfits = c.coefficient-in-loop-k-2.type_inv })
    ∙ c.coefficient-in-loop-k-2.ensures ∙ ap (λ (z : ℤ). rnd z (2 ^ 29)) (to_z-of_z {w = w64} minus_fits) ∙ sym (interleaved-last a plus minus k))
