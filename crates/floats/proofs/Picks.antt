-- std's larger and smaller of two are the definition's.
use Rattle.std.proofs.Common.{◌≡◌, refl, arith, Bool, true, false, ℤ}
use Rattle.std.specs.Int.{int_max, int_min}
use Rattle.std.specs.Int.Signed.{lt_z}
use Rattle.arithmetic.specs.IntegerLaws.{ints}
use Rattle.arithmetic.specs.OrderLaws.{≤ℤ_antisym, lt_z-true, lt_z-false}
use Rattle.floats.specs.Floats.{larger, smaller}

pub max_is : (a b : ℤ) → int_max a b ≡ larger a b
unfolding larger
max_is a b = go (lt_z a b) (lt_z b a) refl refl
  where
    go : (s t : Bool) → lt_z a b ≡ s → lt_z b a ≡ t → int_max a b ≡ larger a b
    go true true e f = absurd (omega (arith, simp ints at (lt_z-true a b e), simp ints at (lt_z-true b a f)))
    go true false e f = rw (e, f)
    go false true e f = rw (e, f)
    go false false e f = rw (e, f) (≤ℤ_antisym (lt_z-false a b e) (lt_z-false b a f))

pub min_is : (a b : ℤ) → int_min a b ≡ smaller a b
unfolding smaller
min_is a b = refl
