-- `sample` meets its contract: the tail and V make at most N × 2^55, which fits.
use mathlib.Core.Path.{◌≡◌, ap, ◌∙◌}
use Prim.Native.Nat.{◌*◌, ◌^◌, ◌≤◌}
use native.Mathlib.Omega.{arith}
use lib.IntN.{ℤ, nat_abs, ◌+ℤ◌}
use mir.Syntax.{w16, w64}
use mir.Val.{SFits, to_z, of_z}
use mir.Facts.{to_z-of_z}
use Rattle.arithmetic.specs.Rounding.{rnd, clamp}
use Rattle.arithmetic.specs.OrderLaws.{sfits_abs, abs_add}
use Rattle.stream.proofs.sample.Statement.{statement}
use Rattle.stream.proofs.sample.Tie as tie

-- the sum, as the machine has it
module _ (c : tie.Start) where
  sum-most : nat_abs (c.args.tail +ℤ c.args.v) ≤ c.args.n * 2 ^ 55
  sum-most = omega (arith, abs_add c.args.tail c.args.v, c.requires.1.1.0, c.requires.1.1.1)

  sum_fits : SFits w64 (c.args.tail +ℤ c.args.v)
  sum_fits = sfits_abs (c.args.tail +ℤ c.args.v) (omega (arith, sum-most, c.requires.1.0))

  sum_is : to_z w64 (of_z w64 (to_z w64 (of_z w64 c.args.tail) +ℤ to_z w64 (of_z w64 c.args.v))) ≡ c.args.tail +ℤ c.args.v
  sum_is = rw (to_z-of_z c.ranges.tail, to_z-of_z c.ranges.v) (to_z-of_z sum_fits)

add_sample : tie.Need-overflow_add-tail
add_sample c = rw (to_z-of_z c.ranges.tail, to_z-of_z c.ranges.v) (sum_fits c)

sample_requires : tie.Need-sample-requires
sample_requires c κs = (c.requires.0, rw (sum_is c) (sum-most c))

returns : tie.Need-returns
returns c =
    let s = c.before in
    to_z-of_z {w = w16} {z = c.sample.result} (record { sfits = c.sample.type_inv })
    ∙ c.sample.ensures
    ∙ ap (λ (z : ℤ). clamp (rnd z (s.args.n * 2 ^ 30))) (sum_is s)

pub sample_spec : {M : Type 1} → statement M
sample_spec = tie.close (tie.spec add_sample sample_requires returns)
