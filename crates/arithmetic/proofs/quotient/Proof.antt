-- `quotient` meets its contract: c raised by 32768 m is a number without a sign, its quotient is below 65,536, and lowered by 32768 it is the floor.
use mathlib.Core.Path.{◌≡◌, ◌∙◌}
use Prim.Native.Nat.{ℕ, ◌*◌, ◌/◌, ◌≤◌, ◌<◌}
use native.Mathlib.Nat.{div-lt_iff_lt-mul}
use native.Mathlib.Omega.{arith}
use lib.Dec.{lit≤}
use lib.IntN.{pos, ◌+ℤ◌, ◌-ℤ◌}
use lib.Pow.{pow_mono}
use mir.Syntax.{Width, w16, w32}
use mir.Val.{SFits, hbits, to_z, of_z}
use mir.Facts.{to_z-of_z, to_z_pos}
use Rattle.arithmetic.specs.OrderLaws.{bounds}
use Rattle.arithmetic.specs.SampleLaws.{raise, raise-is, raise-less, floor-raise}
use Rattle.arithmetic.specs.QuotientLaws.{quarters-few}
use Rattle.arithmetic.proofs.quotient.Statement.{statement}
use Rattle.arithmetic.proofs.quotient.Tie as tie

module _ (s : tie.Start) where
  abbrev m : ℕ
  m = s.args.m

  some : 0 < m
  some = (quarters-few m s.requires.0).0

  few : m ≤ 54
  few = (quarters-few m s.requires.0).1

  -- the raised number
  abbrev r : ℕ
  r = raise s.args.c (32768 * m)

  r-less : r < 2 * (32768 * m)
  r-less = raise-less s.args.c (32768 * m) s.requires.1 s.requires.2

  r-fits : SFits w32 (pos r)
  r-fits = record { sfits = omega (arith, r-less, few) }

  -- as the machine has it
  sum_is : to_z w32 (of_z w32 s.args.c) +ℤ to_z w32 (32768 * m) ≡ pos r
  sum_is = rw (to_z-of_z s.ranges.c, to_z_pos w32 {n = 32768 * m} (omega (arith, few))) (raise-is s.args.c (32768 * m) s.requires.1)

  raised_is : to_z w32 (of_z w32 (to_z w32 (of_z w32 s.args.c) +ℤ to_z w32 (32768 * m))) ≡ pos r
  raised_is = rw sum_is (to_z-of_z r-fits)

  -- its quotient
  abbrev d : ℕ
  d = r / m

  d-less : d < 65536
  d-less = (div-lt_iff_lt-mul {k = m} {x = r} {y = 65536} some).1 (omega (arith, r-less))

  d_is : to_z w32 d ≡ pos d
  d_is = to_z_pos w32 (omega (arith, d-less))

  result_fits : {w : Width} → 15 ≤ hbits w → SFits w (pos d -ℤ pos 32768)
  result_fits h = simp bounds (omega (arith, d-less, pow_mono h))

mul_raised : tie.Need-overflow_mul-raised
mul_raised c = omega (arith, few c)

cast_raised : tie.Need-overflow_cast-raised
cast_raised c = record { sfits = omega (arith, few c) }

add_raised : tie.Need-overflow_add-raised
add_raised c = rw (sum_is c) (r-fits c)

cast_over : tie.Need-overflow_cast-raised-2
cast_over c = rw (raised_is c) (tt, record { fits = omega (arith, r-less c, few c) })

over_requires : tie.Need-over-d-requires
over_requires c κs = rw (raised_is c) (c.requires.0, omega (arith, r-less c))

-- what `over` gave
given : (c : tie.After-over-d) → c.over-d.result ≡ d c.before
given c = rw (raised_is c.before) at c.over-d.ensures

cast_result : tie.Need-overflow_cast-result
cast_result c = rw (given c) (record { sfits = omega (arith, d-less c.before) })

sub_result : tie.Need-overflow_sub-result
sub_result c = rw (given c, d_is c.before) (result_fits c.before (lit≤ tt))

cast_result_2 : tie.Need-overflow_cast-result-2
cast_result_2 c = let s = c.before in rw (given c, d_is s, to_z-of_z (result_fits s {w = w32} (lit≤ tt))) (result_fits s (lit≤ tt))

returns : tie.Need-returns
returns c =
    let s = c.before in
    rw (given c, d_is s, to_z-of_z (result_fits s {w = w32} (lit≤ tt)))
    (to_z-of_z {w = w16} (result_fits s (lit≤ tt)) ∙ floor-raise s.args.c 32768 (some s) (omega arith) s.requires.1)

pub quotient_spec : {M : Type 1} → statement M
quotient_spec =
    tie.close
    (tie.spec
    mul_raised
    cast_raised
    add_raised
    cast_over
    over_requires
    cast_result
    sub_result
    cast_result_2
    returns)
