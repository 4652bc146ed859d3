-- `folded_at` meets its contract: the sum or difference of two inputs fits.
use mathlib.Core.Path.{◌≡◌, sym}
use mathlib.Core.List.{List}
use Prim.Native.Nat.{ℕ, ◌+◌, ◌-◌, ◌*◌, ◌/◌, ◌^◌, ◌≤◌}
use native.Mathlib.Omega.{arith}
use lib.ListN.{length}
use lib.IntN.{ℤ, pos, neg_ℤ, nat_abs, ◌-ℤ◌, +ℤ_idl}
use mir.Syntax.{w32}
use mir.Val.{SFits, to_z, of_z}
use mir.Facts.{to_z-of_z}
use Rattle.arithmetic.specs.Lists.{at}
use Rattle.arithmetic.specs.OrderLaws.{sfits_abs, abs_sub, abs_neg}
use Rattle.transform.specs.FoldLaws.{folded_low, folded-high}
use borrow.Author.Rules.{rules}
use Rattle.split.proofs.parts.folded_at.Statement.{statement}
use Rattle.split.proofs.parts.folded_at.Tie as tie

mul_result : tie.Need-overflow_mul-result
mul_result c = search rules

module _ (c : tie.Start) where
  abbrev w : List ℤ
  w = c.args.w.now

  abbrev j : ℕ
  j = c.args.j

  abbrev h : ℕ
  h = length w / 4

  -- the three places
  abbrev mirrored : ℤ
  mirrored = at w (3 * h - 1 - j)

  abbrev late : ℤ
  late = at w (3 * h + j)

  abbrev early : ℤ
  early = at w (j - h)

sub_result : tie.Need-overflow_sub-result
sub_result c = search rules

sub_result_2 : tie.Need-overflow_sub-result-then-j-h
sub_result_2 c = search rules

mul_result_2 : tie.Need-offset_bounds-w-h
mul_result_2 c = search rules

shared_slice_copy_out_result : tie.Need-bounds-w-h
shared_slice_copy_out_result c = search rules

-- the mirrored input with its sign changed, as the machine has it
module _ (c : tie.After-result-1) where
  mirrored_abs : nat_abs (mirrored c.before.before) ≤ 2 ^ 28
  mirrored_abs = let s = c.before.before in s.requires.1.1.small (3 * h s - 1 - j s) (omega (arith, s.requires.0))

  negated : pos 0 -ℤ to_z w32 (of_z w32 (mirrored c.before.before)) ≡ neg_ℤ (mirrored c.before.before)
  negated = rw (to_z-of_z {w = w32} {z = mirrored c.before.before} (record { sfits = c.result-1.given })) (+ℤ_idl (neg_ℤ (mirrored c.before.before)))

  negated_fits : SFits w32 (neg_ℤ (mirrored c.before.before))
  negated_fits = sfits_abs (neg_ℤ (mirrored c.before.before)) (rw (abs_neg (mirrored c.before.before)) (omega (arith, mirrored_abs)))

sub_result_3 : tie.Need-overflow_sub-result-then-j-h-2
sub_result_3 c = rw (negated c) (negated_fits c)

mul_result_3 : tie.Need-overflow_mul-result-then-j-h
mul_result_3 c = search rules

add_result : tie.Need-overflow_add-result
add_result c = search rules

mul_result_4 : tie.Need-offset_bounds-w-h-then-j-h
mul_result_4 c = search rules

shared_slice_copy_out_result_2 : tie.Need-bounds-w-h-then-j-h
shared_slice_copy_out_result_2 c = search rules

module _ (c : tie.After-result-then-j-h-1) where
  low_fits : SFits w32 (neg_ℤ (mirrored c.before.before.before) -ℤ late c.before.before.before)
  low_fits =
      let s = c.before.before.before in
      let u = mirrored s in
      sfits_abs (neg_ℤ u -ℤ late s) (omega (arith, abs_sub (neg_ℤ u) (late s), abs_neg u, mirrored_abs c.before, s.requires.1.1.small (3 * h s + j s) (omega (arith, s.requires.0))))

  late_is : to_z w32 (of_z w32 (late c.before.before.before)) ≡ late c.before.before.before
  late_is = to_z-of_z {w = w32} {z = late c.before.before.before} (record { sfits = c.result-then-j-h-1.given })

sub_result_4 : tie.Need-overflow_sub-result-then-j-h-3
sub_result_4 c = rw (negated c.before, to_z-of_z (negated_fits c.before), late_is c) (low_fits c)

mul_result_5 : tie.Need-offset_bounds-w-j
mul_result_5 c = search rules

shared_slice_copy_out_result_3 : tie.Need-bounds-w-j
shared_slice_copy_out_result_3 c = search rules

mul_result_6 : tie.Need-overflow_mul-result-else-j-h
mul_result_6 c = search rules

sub_result_5 : tie.Need-overflow_sub-result-else-j-h-2
sub_result_5 c = search rules

sub_result_6 : tie.Need-overflow_sub-result-else-j-h-3
sub_result_6 c = search rules

mul_result_7 : tie.Need-offset_bounds-w-h-else-j-h
mul_result_7 c = search rules

shared_slice_copy_out_result_4 : tie.Need-bounds-w-h-else-j-h
shared_slice_copy_out_result_4 c = search rules

module _ (c : tie.After-result-else-j-h-2-1) where
  high_fits : SFits w32 (early c.before.before.before -ℤ mirrored c.before.before.before)
  high_fits =
      let s = c.before.before.before in
      sfits_abs (early s -ℤ mirrored s)
      (omega (arith, abs_sub (early s) (mirrored s), s.requires.1.1.small (j s - h s) (omega (arith, s.requires.0)), s.requires.1.1.small (3 * h s - 1 - j s) (omega (arith, s.requires.0))))

  early-is : to_z w32 (of_z w32 (early c.before.before.before)) ≡ early c.before.before.before
  early-is = to_z-of_z {w = w32} {z = early c.before.before.before} (record { sfits = c.before.result-else-j-h-1.given })

  mirrored-is : to_z w32 (of_z w32 (mirrored c.before.before.before)) ≡ mirrored c.before.before.before
  mirrored-is = to_z-of_z {w = w32} {z = mirrored c.before.before.before} (record { sfits = c.result-else-j-h-2-1.given })

sub_result_7 : tie.Need-overflow_sub-result-else-j-h-4
sub_result_7 c = rw (early-is c, mirrored-is c) (high_fits c)

returns : tie.Need-returns-then-j-h
returns c =
    let s = c.before.before.before in
    rw (negated c.before, to_z-of_z (negated_fits c.before), late_is c, to_z-of_z (low_fits c)) (sym (folded_low (length (w s)) (at (w s)) (j s) (omega arith)))

returns_2 : tie.Need-returns-else-j-h
returns_2 c =
    let s = c.before.before.before in
    rw (early-is c, mirrored-is c, to_z-of_z (high_fits c)) (sym (folded-high (length (w s)) (at (w s)) (j s) (omega arith)))

pub folded_at_spec : {M : Type 1} → statement M
folded_at_spec =
    tie.close
    (tie.spec
    mul_result
    sub_result
    sub_result_2
    mul_result_2
    shared_slice_copy_out_result
    sub_result_3
    mul_result_3
    add_result
    mul_result_4
    shared_slice_copy_out_result_2
    sub_result_4
    mul_result_5
    shared_slice_copy_out_result_3
    mul_result_6
    sub_result_5
    sub_result_6
    mul_result_7
    shared_slice_copy_out_result_4
    sub_result_7
    returns
    returns_2)
