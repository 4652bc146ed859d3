-- One product more: what the code's terms read as, and that the sum fits.
use Rattle.std.specs.Prelude.{◌≡◌, List, ℕ, ◌*◌, ◌^◌, ◌≤◌, ◌<◌, length, ℤ, nat_abs, ◌+ℤ◌, ◌*ℤ◌}
use Rattle.std.proofs.Common.{arith, ◌∙◌, of_z, to_z, w32, w64}
use Rattle.std.proofs.Math.Facts.{to_z-of_z}
use mir.Val.{SFits}
use Rattle.arithmetic.specs.Lists.{at, Small}
use Rattle.arithmetic.specs.OrderLaws.{abs_add, abs_mul_le, sfits_abs}
use Rattle.arithmetic.specs.SumLaws.{sum_abs}
use Rattle.inner_products.specs.Products.{products}

pub size_of_products : (n : ℕ) (z w : List ℤ) → n ≤ length z → n ≤ length w → Small z (2 ^ 30) → Small w (2 ^ 27) → nat_abs (products n z w) ≤ n * 2 ^ 57
unfolding products
size_of_products n z w p q s t =
    sum_abs n (λ j. at z j *ℤ at w j) (2 ^ 57) (λ i h. abs_mul_le (at z i) (at w i) (s.small i (omega arith)) (t.small i (omega arith)))

fits32 : (x : ℤ) → nat_abs x ≤ 2 ^ 30 → SFits w32 x
fits32 x p = sfits_abs x (omega arith)

fits64 : (x : ℤ) → nat_abs x ≤ 2 ^ 30 → SFits w64 x
fits64 x p = sfits_abs x (omega arith)

read : (x : ℤ) → nat_abs x ≤ 2 ^ 30 → to_z w64 (of_z w64 (to_z w32 (of_z w32 x))) ≡ x
read x p = rw (to_z-of_z (fits32 x p)) (to_z-of_z (fits64 x p))

product_is : (x y : ℤ) → nat_abs x ≤ 2 ^ 30 → nat_abs y ≤ 2 ^ 27 →
    to_z w64 (of_z w64 (to_z w64 (of_z w64 (to_z w32 (of_z w32 x))) *ℤ to_z w64 (of_z w64 (to_z w32 (of_z w32 y))))) ≡ x *ℤ y
product_is x y p q =
    let b : nat_abs (x *ℤ y) ≤ 2 ^ 57 = abs_mul_le x y p q in
    let e : nat_abs y ≤ 2 ^ 30 = omega arith in
    rw (read x p, read y e) (to_z-of_z {w = w64} (sfits_abs {w = w64} (x *ℤ y) (omega arith)))

pub next_fits : (s x y : ℤ) (n : ℕ) → n < 36 → nat_abs s ≤ n * 2 ^ 57 → nat_abs x ≤ 2 ^ 30 → nat_abs y ≤ 2 ^ 27 →
    SFits w64 (s +ℤ to_z w64 (of_z w64 (to_z w64 (of_z w64 (to_z w32 (of_z w32 x))) *ℤ to_z w64 (of_z w64 (to_z w32 (of_z w32 y))))))
next_fits s x y n m a p q =
    let b : nat_abs (x *ℤ y) ≤ 2 ^ 57 = abs_mul_le x y p q in
    rw (product_is x y p q) (sfits_abs (s +ℤ x *ℤ y) (omega (arith, abs_add s (x *ℤ y))))

pub next_is : (s x y : ℤ) (n : ℕ) → n < 36 → nat_abs s ≤ n * 2 ^ 57 → nat_abs x ≤ 2 ^ 30 → nat_abs y ≤ 2 ^ 27 →
    to_z w64 (of_z w64 (s +ℤ to_z w64 (of_z w64 (to_z w64 (of_z w64 (to_z w32 (of_z w32 x))) *ℤ to_z w64 (of_z w64 (to_z w32 (of_z w32 y))))))) ≡ s +ℤ x *ℤ y
next_is s x y n m a p q = to_z-of_z (next_fits s x y n m a p q) ∙ rw (product_is x y p q)
