-- std's clamp between the limits is the definition's clip.
use Rattle.std.proofs.Common.{◌≡◌, refl, arith, Bool, true, false, ℤ, neg_ℤ}
use Rattle.std.specs.Int.{int_max, int_min}
use Rattle.std.specs.Int.Signed.{lt_z}
use Rattle.arithmetic.specs.IntegerLaws.{ints}
use Rattle.arithmetic.specs.OrderLaws.{lt_z-true}
use Rattle.levels.specs.Levels.{limit, clipped}

pub clamp_is : (z : ℤ) → int_max (neg_ℤ limit) (int_min z limit) ≡ clipped z
unfolding clipped
clamp_is z = go (lt_z z (neg_ℤ limit)) (lt_z limit z) refl refl
  where
    go : (a b : Bool) → lt_z z (neg_ℤ limit) ≡ a → lt_z limit z ≡ b → int_max (neg_ℤ limit) (int_min z limit) ≡ clipped z
    go true true e f = absurd (omega (arith, simp ints at (lt_z-true z (neg_ℤ limit) e), simp ints at (lt_z-true limit z f)))
    go true false e f = rw (f, e)
    go false true e f = rw (f, e)
    go false false e f = rw (f, e)
