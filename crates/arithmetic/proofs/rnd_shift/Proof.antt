-- `rnd_shift` meets its contract: the half is 2^(k - 1), for which the sum leaves room, and the shift is the floor.
use mathlib.Core.Path.{◌≡◌, sym, ◌∙◌, ap}
use Prim.Native.Nat.{ℕ, suc, ◌-◌, ◌*◌, ◌%◌, ◌^◌, ◌≤◌}
use native.Mathlib.Nat.{pow-succ'}
use native.Mathlib.Omega.{arith}
use borrow.Author.Rules.{rules}
use lib.IntN.{ℤ, pos, ◌+ℤ◌}
use lib.Pow.{pow_mono, pow_pos}
use lib.Signed.{shr_z}
use mir.Syntax.{w64}
use mir.Val.{SFits, to_z, of_z}
use mir.Facts.{to_z-of_z, to_z_pos}
use Rattle.arithmetic.specs.OrderLaws.{sfits_abs, sfits_shr, abs_add}
use Rattle.arithmetic.specs.RoundingLaws.{floor_shr, under, under_abs, tilted_abs, under_self, rnd-half}
use Rattle.arithmetic.proofs.rnd_shift.Statement.{statement}
use Rattle.arithmetic.proofs.rnd_shift.Tie as tie

module _ (c : tie.Start) where
  abbrev a : ℤ
  a = c.args.a

  abbrev k : ℕ
  k = c.args.k

  abbrev half : ℕ
  half = 2 ^ (k - 1)

  half_le : half ≤ 2 ^ 61
  half_le = pow_mono {i = k - 1} {j = 61} (omega (arith, c.requires.1))

  double : 2 * half ≡ 2 ^ k
  double =
      let e : suc (k - 1) ≡ k = omega (arith, c.requires.0) in
      sym (pow-succ' 2 (k - 1)) ∙ ap (λ (j : ℕ). 2 ^ j) e

  -- as the machine has it
  half_is : to_z w64 (1 * half % 2 ^ 64) ≡ pos half
  half_is =
      let e : 1 * half % 2 ^ 64 ≡ half = omega (arith, half_le) in
      rw e (to_z_pos w64 (omega (arith, half_le)))

  -- below zero 1 less, and the sum that is shifted
  abbrev tilted : ℤ
  tilted = a +ℤ under a

  tilted-fits : SFits w64 tilted
  tilted-fits = sfits_abs tilted (omega (arith, abs_add a (under a), under_abs a, pow_pos (k - 1), c.requires.2))

  abbrev z : ℤ
  z = tilted +ℤ pos half

  sum_fits : SFits w64 z
  sum_fits = sfits_abs z (omega (arith, tilted_abs a {h = half} (pow_pos (k - 1)), c.requires.2))

tilt_requires : tie.Need-tilt-requires
tilt_requires c κs = search rules

-- what `tilt` gave, as the machine has it
tilt_is : (c : tie.After-tilt) → to_z w64 (of_z w64 c.tilt.result) ≡ under (a c.before)
tilt_is c = to_z-of_z {w = w64} {z = c.tilt.result} (record { sfits = c.tilt.type_inv }) ∙ c.tilt.ensures ∙ ap under (to_z-of_z c.before.ranges.a)

add_shifted : tie.Need-overflow_add-a
add_shifted c = rw (tilt_is c, to_z-of_z c.before.ranges.a) (tilted-fits c.before)

sub_shifted : tie.Need-overflow_sub-k
sub_shifted c = search rules

cast_shifted : tie.Need-overflow_cast-k
cast_shifted c = search rules

shl_shifted : tie.Need-overflow_shl-k
shl_shifted c = search rules

add_shifted_2 : tie.Need-overflow_add-a-2
add_shifted_2 c = let s = c.before in rw (tilt_is c, to_z-of_z s.ranges.a, to_z-of_z (tilted-fits s), half_is s) (sum_fits s)

shifted_requires : tie.Need-shifted-requires
shifted_requires c κs =
    let s = c.before in
    (omega (arith, s.requires.1), rw (tilt_is c, to_z-of_z s.ranges.a, to_z-of_z (tilted-fits s), half_is s, to_z-of_z (sum_fits s)) (sfits_shr (z s) (2 ^ k s) (sum_fits s)))

returns : tie.Need-returns
returns c =
    let t = c.before in
    let s = t.before in
    let e : c.shifted.result ≡ shr_z (z s) (2 ^ k s) =
    rw (tilt_is t, to_z-of_z s.ranges.a, to_z-of_z (tilted-fits s), half_is s, to_z-of_z (sum_fits s)) at c.shifted.ensures
    in
    rw e (to_z-of_z (sfits_shr (z s) (2 ^ k s) (sum_fits s)) ∙ floor_shr (z s) (2 ^ k s) ∙ rnd-half (half s) (pow_pos (k s)) (double s) (a s) (under (a s)) (under_self (a s)))

pub rnd_shift_spec : {M : Type 1} → statement M
rnd_shift_spec = tie.close (tie.spec tilt_requires add_shifted sub_shifted cast_shifted shl_shifted add_shifted_2 shifted_requires returns)
