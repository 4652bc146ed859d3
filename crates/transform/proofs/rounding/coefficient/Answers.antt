use Rattle.std.proofs.Common.{arith, ap, ◌∙◌, ◌≡◌, ◌^◌, ◌<◌, ℤ, FitsSigned, w32, w64}
use Rattle.std.proofs.Math.Facts.{to_z-of_z}
use Rattle.arithmetic.specs.Rounding.{rnd}
use Rattle.arithmetic.specs.OrderLaws.{sfits_abs}
use Rattle.arithmetic.specs.RoundingLaws.{room_for_half}
use Rattle.transform.proofs.Shifts.{bounds}
use Rattle.transform.proofs.rounding.coefficient.Goals as goal

pub rnd_shift-requires : goal.rnd_shift-requires
rnd_shift-requires c =
    let q = c.requires in
    let less : c.args.k < 63 = omega (arith, q.most) in
    (omega (arith, q.least), less, rw (to_z-of_z c.ranges.sum) (room_for_half c.args.sum c.args.k less (bounds c.args.sum c.args.k q.least q.most q.small).0))

module _ (c : goal.After-rnd_shift) where
  value : c.rnd_shift.result ≡ rnd c.args.sum (2 ^ c.args.k)
  value = c.rnd_shift.ensures ∙ ap (λ (z : ℤ). rnd z (2 ^ c.args.k)) (to_z-of_z c.ranges.sum)

  fits : FitsSigned w32 (rnd c.args.sum (2 ^ c.args.k))
  fits = let q = c.requires in sfits_abs (rnd c.args.sum (2 ^ c.args.k)) (omega (arith, (bounds c.args.sum c.args.k q.least q.most q.small).1))

pub overflow_cast-result : goal.overflow_cast-result
overflow_cast-result c = rw (to_z-of_z {w = w64} {z = c.rnd_shift.result} (record { sfits = c.rnd_shift.type_inv }), value c) (fits c)

pub returns : goal.returns
returns c = rw (to_z-of_z {w = w64} {z = c.rnd_shift.result} (record { sfits = c.rnd_shift.type_inv }), value c) (to_z-of_z (fits c))
