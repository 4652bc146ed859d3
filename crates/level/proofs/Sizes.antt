-- Sizes: what is read at places, sums and differences of pairs, and a block's sums.
use Rattle.std.specs.Prelude.{◌≡◌, refl, cond, true, false, Bool, List, ℕ, ◌*◌, ◌^◌, ◌<◌, ◌≤◌, ltb, length, ℤ, neg_ℤ, nat_abs, ◌+ℤ◌, ◌-ℤ◌, ◌*ℤ◌}
use Rattle.std.proofs.Common.{arith, of_z, to_z, w32, w64}
use Rattle.std.proofs.Math.Facts.{to_z-of_z}
use mir.Val.{SFits}
use Rattle.arithmetic.specs.Lists.{at, Small}
use Rattle.arithmetic.specs.OrderLaws.{abs_neg, abs_add, abs_sub, abs_mul_le, sfits_abs}
use Rattle.arithmetic.specs.SumLaws.{sum_abs}
use Rattle.cosine.specs.Kernels.{F}
use Rattle.cosine.specs.KernelLaws.{F-size}
use Rattle.level.specs.Places.{spot, turn_by, signed_at, kernel_at, sum_at}

same_size : (b : Bool) (z : ℤ) → nat_abs (cond b z (neg_ℤ z)) ≡ nat_abs z
same_size true z = refl
same_size false z = abs_neg z

pub signed_size : (x : List ℤ) (e B : ℕ) → Small x B → spot e < length x → nat_abs (signed_at x e) ≤ B
signed_size x e B s p = rw (same_size (ltb e 128) (at x (spot e))) (s.small (spot e) p)

pub kernel_at_size : (m a b : ℕ) → nat_abs (kernel_at m a b) ≤ 2 ^ 26
unfolding kernel_at
kernel_at_size m a b =
    rw (same_size (ltb a 128) (turn_by b (F (2 * m) (spot a) (spot b))), same_size (ltb b 128) (F (2 * m) (spot a) (spot b))) (F-size (2 * m) (spot a) (spot b))

pub sum_reads : (x y : ℤ) → nat_abs x ≤ 2 ^ 29 → nat_abs y ≤ 2 ^ 29 → to_z w32 (of_z w32 (to_z w32 (of_z w32 x) +ℤ to_z w32 (of_z w32 y))) ≡ x +ℤ y
sum_reads x y p q =
    let f : SFits w32 x = sfits_abs x (omega arith) in
    let g : SFits w32 y = sfits_abs y (omega arith) in
    let h : SFits w32 (x +ℤ y) = sfits_abs (x +ℤ y) (omega (arith, abs_add x y)) in
    rw (to_z-of_z {w = w32} f, to_z-of_z {w = w32} g) (to_z-of_z {w = w32} h)

pub difference_reads : (x y : ℤ) → nat_abs x ≤ 2 ^ 29 → nat_abs y ≤ 2 ^ 29 → to_z w32 (of_z w32 (to_z w32 (of_z w32 x) -ℤ to_z w32 (of_z w32 y))) ≡ x -ℤ y
difference_reads x y p q =
    let f : SFits w32 x = sfits_abs x (omega arith) in
    let g : SFits w32 y = sfits_abs y (omega arith) in
    let h : SFits w32 (x -ℤ y) = sfits_abs (x -ℤ y) (omega (arith, abs_sub x y)) in
    rw (to_z-of_z {w = w32} f, to_z-of_z {w = w32} g) (to_z-of_z {w = w32} h)

-- a product sum beside a start
pub start_fits : (x y : ℤ) → nat_abs x ≤ 36 * 2 ^ 56 → nat_abs y ≤ 36 * 2 ^ 57 → SFits w64 (to_z w64 (of_z w64 x) +ℤ to_z w64 (of_z w64 y))
start_fits x y p q =
    let f : SFits w64 x = sfits_abs x (omega arith) in
    let g : SFits w64 y = sfits_abs y (omega arith) in
    rw (to_z-of_z {w = w64} f, to_z-of_z {w = w64} g) (sfits_abs (x +ℤ y) (omega (arith, abs_add x y)))

pub start_reads : (x y : ℤ) → nat_abs x ≤ 36 * 2 ^ 56 → nat_abs y ≤ 36 * 2 ^ 57 → to_z w64 (of_z w64 (to_z w64 (of_z w64 x) +ℤ to_z w64 (of_z w64 y))) ≡ x +ℤ y
start_reads x y p q =
    let f : SFits w64 x = sfits_abs x (omega arith) in
    let g : SFits w64 y = sfits_abs y (omega arith) in
    let h : SFits w64 (x +ℤ y) = sfits_abs (x +ℤ y) (omega (arith, abs_add x y)) in
    rw (to_z-of_z {w = w64} f, to_z-of_z {w = w64} g) (to_z-of_z {w = w64} h)

-- the sum at a place
pub sum_at_size : (m B : ℕ) (x : List ℤ) (e : ℕ) → length x ≡ m → Small x B → nat_abs (sum_at m x e) ≤ m * (B * 2 ^ 26)
unfolding sum_at
sum_at_size m B x e long s =
    sum_abs m (λ j. at x j *ℤ kernel_at m j e) (B * 2 ^ 26) (λ i p. abs_mul_le (at x i) (kernel_at m i e) (s.small i (omega arith)) (kernel_at_size m i e))

pub two_differences : (x y w : ℤ) → nat_abs x ≤ 2 ^ 29 → nat_abs y ≤ 2 ^ 29 → nat_abs w ≤ 2 ^ 29 →
    to_z w32 (of_z w32 (to_z w32 (of_z w32 (to_z w32 (of_z w32 x) -ℤ to_z w32 (of_z w32 y))) -ℤ to_z w32 (of_z w32 w))) ≡ x -ℤ y -ℤ w
two_differences x y w p q r =
    let f : SFits w32 w = sfits_abs w (omega arith) in
    let b : nat_abs (x -ℤ y) ≤ 2 ^ 30 = omega (arith, abs_sub x y) in
    let h : SFits w32 (x -ℤ y -ℤ w) = sfits_abs (x -ℤ y -ℤ w) (omega (arith, abs_sub (x -ℤ y) w)) in
    rw (difference_reads x y p q, to_z-of_z {w = w32} f) (to_z-of_z {w = w32} h)
