-- Wide numbers: the sums of a number's high and low parts make its own.
use Rattle.std.specs.Prelude.{◌≡◌, List, ℕ, ◌*◌, ◌/◌, ◌^◌, ◌<◌, ◌≤◌, length, ℤ, pos, negsuc, nat_abs, ◌+ℤ◌, ◌-ℤ◌, ◌*ℤ◌}
use Rattle.std.proofs.Common.{ap, ◌∙◌, arith, lit<, of_z, to_z, w32, w64}
use Rattle.std.proofs.Math.Facts.{to_z-of_z}
use mir.Val.{SFits}
use Rattle.arithmetic.specs.Sums.{sum}
use Rattle.arithmetic.specs.Lists.{at, table, Small}
use Rattle.arithmetic.specs.Rounding.{floor}
use Rattle.arithmetic.specs.RoundingLaws.{floor-is}
use Rattle.arithmetic.specs.OrderLaws.{abs_le, abs_add, abs_mul, sfits_abs}
use Rattle.arithmetic.specs.ListLaws.{length-table, get_d_table, table_ext}
use Rattle.arithmetic.specs.IntegerLaws.{ints, zarith}
use Rattle.arithmetic.specs.SumLaws.{sum_ext, sum_add, sum_scale}
use Rattle.level.specs.Places.{kernel_at, sum_at, twice}
use Rattle.level.specs.Levels.{low_part}
use Rattle.level.proofs.Sizes.{sum_at_size}
use Rattle.level.proofs.Levels.{smaller_share}

parted : (x a b g : ℤ) → x ≡ pos 256 *ℤ a +ℤ b → x *ℤ g ≡ pos 256 *ℤ (a *ℤ g) +ℤ b *ℤ g
parted x a b g e = rw e (simp ints (omega zarith))

pub sum_at_parted : (m : ℕ) (x a b : List ℤ) (k : ℕ) → ((j : ℕ) → j < m → at x j ≡ pos 256 *ℤ at a j +ℤ at b j) → sum_at m x k ≡ pos 256 *ℤ sum_at m a k +ℤ sum_at m b k
unfolding sum_at
sum_at_parted m x a b k e =
    sum_ext m (λ j. at x j *ℤ kernel_at m j k) (λ j. pos 256 *ℤ (at a j *ℤ kernel_at m j k) +ℤ at b j *ℤ kernel_at m j k) (λ j p. parted (at x j) (at a j) (at b j) (kernel_at m j k) (e j p))
    ∙ sum_add m (λ j. pos 256 *ℤ (at a j *ℤ kernel_at m j k)) (λ j. at b j *ℤ kernel_at m j k)
    ∙ ap (λ (z : ℤ). z +ℤ sum m (λ j. at b j *ℤ kernel_at m j k)) (sum_scale m (pos 256) (λ j. at a j *ℤ kernel_at m j k))

-- ---- the two parts of a number
pub low_small : (x : ℤ) → nat_abs (low_part x) ≤ 255
unfolding low_part
low_small x =
    let f = floor-is x {b = 256} (lit< tt) in
    (abs_le (x -ℤ pos 256 *ℤ floor x 256) 255).1 (simp ints (omega (zarith, simp ints at f.high)), simp ints (omega (zarith, simp ints at f.low)))

pub high_small : (x : ℤ) → nat_abs x ≤ 3 * 2 ^ 29 → nat_abs (floor x 256) ≤ 3 * 2 ^ 21
unfolding floor
high_small (pos a) h = omega arith
high_small (negsuc a) h = omega arith

pub both_parts : (x : ℤ) → x ≡ pos 256 *ℤ floor x 256 +ℤ low_part x
unfolding low_part
both_parts x = simp ints (omega zarith)

-- what `low` reads
pub high_fits : (x : ℤ) → nat_abs x ≤ 3 * 2 ^ 29 → SFits w32 (pos 256 *ℤ floor x 256)
high_fits x s = sfits_abs (pos 256 *ℤ floor x 256) (omega (arith, abs_mul (pos 256) (floor x 256), high_small x s))

pub low_fits : (x : ℤ) → SFits w32 (x -ℤ pos 256 *ℤ floor x 256)
unfolding low_part
low_fits x = let b : nat_abs (low_part x) ≤ 255 = low_small x in sfits_abs (x -ℤ pos 256 *ℤ floor x 256) (omega arith)

pub low_reads : (x : ℤ) → SFits w32 (pos 256 *ℤ floor x 256) → to_z w32 (of_z w32 (x -ℤ to_z w32 (of_z w32 (pos 256 *ℤ floor x 256)))) ≡ low_part x
unfolding low_part
low_reads x p = rw (to_z-of_z {w = w32} p) (to_z-of_z {w = w32} (low_fits x))

-- ---- the sums of the two parts
module _ (h : ℕ) (w high low : List ℤ) (long : length w ≡ h) (few : h ≤ 36) (small : Small w (3 * 2 ^ 29))
    (high_is : high ≡ table h (λ i. floor (at w i) 256)) (low_is : low ≡ table h (λ i. low_part (at w i))) where
  high_at : (i : ℕ) → i < h → at high i ≡ floor (at w i) 256
  high_at i p = rw high_is (get_d_table (λ i. floor (at w i) 256) (pos 0) h i p)

  low_at : (i : ℕ) → i < h → at low i ≡ low_part (at w i)
  low_at i p = rw low_is (get_d_table (λ i. low_part (at w i)) (pos 0) h i p)

  pub high_parts_small : Small high (3 * 2 ^ 21)
  high_parts_small =
      record {
        small = λ i p.
            let q : i < h = omega (arith, ap length high_is, length-table (λ i. floor (at w i) 256) h) in
            rw (high_at i q) (high_small (at w i) (small.small i (omega arith)));
      }

  pub low_parts_small : Small low (3 * 2 ^ 21)
  low_parts_small =
      record {
        small = λ i p.
            let q : i < h = omega (arith, ap length low_is, length-table (λ i. low_part (at w i)) h) in
            rw (low_at i q) (omega (arith, low_small (at w i)));
      }

  pub high_long : length high ≡ h
  high_long = ap length high_is ∙ length-table (λ i. floor (at w i) 256) h

  pub low_long : length low ≡ h
  low_long = ap length low_is ∙ length-table (λ i. low_part (at w i)) h

  pub parts_are : (k : ℕ) → sum_at h w k ≡ pos 256 *ℤ sum_at h high k +ℤ sum_at h low k
  parts_are k = sum_at_parted h w high low k (λ j p. rw (high_at j p, low_at j p) (both_parts (at w j)))

  double_parts : (x y z : ℤ) → x ≡ pos 256 *ℤ y +ℤ z → pos 256 *ℤ (y +ℤ y) +ℤ (z +ℤ z) ≡ x +ℤ x
  double_parts x y z e = rw e (simp ints (omega zarith))

  pub twice_parts : (s t : List ℤ) → s ≡ twice h high → t ≡ twice h low → table h (λ i. pos 256 *ℤ at s i +ℤ at t i) ≡ twice h w
  unfolding twice
  twice_parts s t e f =
      table_ext h (λ i. pos 256 *ℤ at s i +ℤ at t i) (λ k. sum_at h w k +ℤ sum_at h w k)
      (λ k p. rw (e, f, get_d_table (λ k. sum_at h high k +ℤ sum_at h high k) (pos 0) h k p, get_d_table (λ k. sum_at h low k +ℤ sum_at h low k) (pos 0) h k p) (double_parts (sum_at h w k) (sum_at h high k) (sum_at h low k) (parts_are k)))

-- doubled sums of few numbers that are small
pub twice_small : (h : ℕ) (x s : List ℤ) → h ≤ 36 → length x ≡ h → Small x (3 * 2 ^ 21) → s ≡ twice h x → Small s (27 * 2 ^ 50)
unfolding twice
twice_small h x s few long small e =
    record {
      small = λ k p.
          let l : length s ≡ h = ap length e ∙ length-table (λ k. sum_at h x k +ℤ sum_at h x k) h in
          rw (e, get_d_table (λ k. sum_at h x k +ℤ sum_at h x k) (pos 0) h k (omega arith))
          (omega (arith, abs_add (sum_at h x k) (sum_at h x k), sum_at_size h (3 * 2 ^ 21) x k long small));
    }

pub small_share : (h : ℕ) (x : List ℤ) → (2 ≤ h) × (h ≤ 36) → Small x (3 * 2 ^ 21) → Small x (2 ^ 31 / h)
small_share h x some s = record { small = λ i q. let t = smaller_share (2 ^ 31) h 36 (omega arith) some.1 in omega (arith, s.small i q) }

-- ---- what `whole` reads
pub high_times : (x : ℤ) → nat_abs x ≤ 27 * 2 ^ 50 → SFits w64 (pos 256 *ℤ x)
high_times x p = sfits_abs (pos 256 *ℤ x) (omega (arith, abs_mul (pos 256) x))

pub whole_fits : (x y : ℤ) → nat_abs x ≤ 27 * 2 ^ 50 → nat_abs y ≤ 27 * 2 ^ 50 → SFits w64 (pos 256 *ℤ x +ℤ y)
whole_fits x y p q = sfits_abs (pos 256 *ℤ x +ℤ y) (omega (arith, abs_add (pos 256 *ℤ x) y, abs_mul (pos 256) x))

pub wide_fits : (x : ℤ) → nat_abs x ≤ 3 * 2 ^ 29 → SFits w32 x
wide_fits x p = sfits_abs x (omega arith)
