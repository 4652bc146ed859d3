-- Laws: `omega` reads whole numbers. An integer is the difference of two naturals, z = pp z - np z, and a statement of integers is one of naturals:
--     simp ints (omega zarith)       proves an order or an equation of integers, products of two unknowns multiplied out
--     simp posints (omega zarith)    the same, `pos n` not being split into two parts: half the cost where factors are natural numbers
--     simp ints at h                 a fact of integers, as one that `omega` reads
--     zarith                         omega's set, with the orders and equations in reach whose sides are unknowns or numerals
-- `simp` pushes the mark D down to the unknowns, and joins their differences on the way back.
use Rattle.std.specs.Prelude.{◌≡◌, refl, ◌↔◌, Bool, true, false, not, cond, ℕ, zero, suc, ◌+◌, ◌-◌, ◌*◌, ◌≤◌, ◌<◌, T, ltb, ℤ, pos, negsuc, neg_ℤ, nat_abs, ◌+ℤ◌, ◌*ℤ◌, ◌≤ℤ◌, ◌<ℤ◌}
use Rattle.std.proofs.Common.{ap, ap₂, arith, leb→le, le→leb, ltb→lt, lt→ltb, nltb→le}
use Rattle.std.proofs.Math.IntN.{sub_ℕ}
use Rattle.std.specs.Int.Signed.{le_z_yes, lt_z_yes}

-- the parts above and below zero
abbrev pub pp : ℤ → ℕ
pp (pos n) = n
pp (negsuc n) = 0

abbrev pub np : ℤ → ℕ
np (pos n) = 0
np (negsuc n) = suc n

-- ---- z is p - n
abbrev Is : ℤ → ℕ → ℕ → Type 0
Is z p n = pp z + n ≡ p + np z

by_test : (p n : ℕ) (b : Bool) → (T b → p < n) → (T (not b) → n ≤ p) → Is (cond b (negsuc (n - suc p)) (pos (p - n))) p n
by_test p n true f g = let h : p < n = f tt in omega arith
by_test p n false f g = let h : n ≤ p = g tt in omega arith

infix 5 ◌⊖◌
pub ◌⊖◌ : ℕ → ℕ → ℤ
p ⊖ n = sub_ℕ p n

is_⊖ : (p n : ℕ) → Is (p ⊖ n) p n
unfolding ◌⊖◌
is_⊖ p n = by_test p n (ltb p n) (ltb→lt p n) (nltb→le p n)

is_add : (a b : ℤ) → Is (a +ℤ b) (pp a + pp b) (np a + np b)
unfolding ◌⊖◌
is_add (pos a) (pos b) = omega arith
is_add (pos a) (negsuc b) = omega (arith, is_⊖ a (suc b))
is_add (negsuc a) (pos b) = omega (arith, is_⊖ b (suc a))
is_add (negsuc a) (negsuc b) = omega arith

is_neg : (a : ℤ) → Is (neg_ℤ a) (np a) (pp a)
is_neg (pos zero) = refl
is_neg (pos (suc n)) = omega arith
is_neg (negsuc n) = omega arith

is_mul : (a b : ℤ) → Is (a *ℤ b) (pp a * pp b + np a * np b) (pp a * np b + np a * pp b)
is_mul (pos a) (pos b) = omega arith
is_mul (pos a) (negsuc b) = omega (arith, is_neg (pos (a * suc b)))
is_mul (negsuc a) (pos b) = omega (arith, is_neg (pos (suc a * b)))
is_mul (negsuc a) (negsuc b) = omega arith

-- ---- an order or an equation of integers, of naturals
pub eq_iff : (a b : ℤ) → (a ≡ b) ↔ (pp a + np b ≡ pp b + np a)
eq_iff a b = ((λ e. rw e), back a b)
  where
    back : (a b : ℤ) → pp a + np b ≡ pp b + np a → a ≡ b
    back (pos a) (pos b) h = ap pos (omega arith)
    back (pos a) (negsuc b) h = absurd (omega arith)
    back (negsuc a) (pos b) h = absurd (omega arith)
    back (negsuc a) (negsuc b) h = ap negsuc (omega arith)

pub le_iff : (a b : ℤ) → (a ≤ℤ b) ↔ (pp a + np b ≤ pp b + np a)
le_iff (pos a) (pos b) = ((λ h. omega (arith, leb→le a b h.le)), (λ h. le_z_yes (le→leb a b (omega arith))))
le_iff (pos a) (negsuc b) = ((λ h. absurd h.le), (λ h. absurd (omega arith)))
le_iff (negsuc a) (pos b) = ((λ h. omega arith), (λ h. le_z_yes tt))
le_iff (negsuc a) (negsuc b) = ((λ h. omega (arith, leb→le b a h.le)), (λ h. le_z_yes (le→leb b a (omega arith))))

pub lt_iff : (a b : ℤ) → (a <ℤ b) ↔ (pp a + np b < pp b + np a)
lt_iff (pos a) (pos b) = ((λ h. omega (arith, ltb→lt a b h.lt)), (λ h. lt_z_yes (lt→ltb a b (omega arith))))
lt_iff (pos a) (negsuc b) = ((λ h. absurd h.lt), (λ h. absurd (omega arith)))
lt_iff (negsuc a) (pos b) = ((λ h. omega arith), (λ h. lt_z_yes tt))
lt_iff (negsuc a) (negsuc b) = ((λ h. omega (arith, ltb→lt b a h.lt)), (λ h. lt_z_yes (lt→ltb b a (omega arith))))

pub le_ℕ : {a b : ℤ} → a ≤ℤ b → pp a + np b ≤ pp b + np a
le_ℕ {a} {b} h = (le_iff a b).0 h

pub lt_ℕ : {a b : ℤ} → a <ℤ b → pp a + np b < pp b + np a
lt_ℕ {a} {b} h = (lt_iff a b).0 h

pub eq_ℕ : {a b : ℤ} → a ≡ b → pp a + np b ≡ pp b + np a
eq_ℕ {a} {b} h = (eq_iff a b).0 h

pub ruleset zarith = (arith, le_ℕ, lt_ℕ, eq_ℕ)

-- ---- the mark goes down to the unknowns
pub D : ℤ → ℤ
D z = z

infix 5 ◌⊑◌ ◌⊏◌ ◌≗◌
pub ◌⊑◌ : ℤ → ℤ → Type 0
a ⊑ b = a ≤ℤ b

pub ◌⊏◌ : ℤ → ℤ → Type 0
a ⊏ b = a <ℤ b

pub ◌≗◌ : ℤ → ℤ → Type 0
a ≗ b = a ≡ b

pub D_le : (a b : ℤ) → (a ≤ℤ b) ↔ (D a ⊑ D b)
unfolding D ◌⊑◌
D_le a b = ((λ h. h), (λ h. h))

pub D_lt : (a b : ℤ) → (a <ℤ b) ↔ (D a ⊏ D b)
unfolding D ◌⊏◌
D_lt a b = ((λ h. h), (λ h. h))

pub D_eq : (a b : ℤ) → (a ≡ b) ↔ (D a ≗ D b)
unfolding D ◌≗◌
D_eq a b = ((λ h. h), (λ h. h))

pub D_add : (a b : ℤ) → D (a +ℤ b) ≡ D a +ℤ D b
unfolding D
D_add a b = refl

pub D_mul : (a b : ℤ) → D (a *ℤ b) ≡ D a *ℤ D b
unfolding D
D_mul a b = refl

pub D_neg : (a : ℤ) → D (neg_ℤ a) ≡ neg_ℤ (D a)
unfolding D
D_neg a = refl

pub D-at : (a : ℤ) → D a ≡ pp a ⊖ np a
unfolding D
D-at a = (eq_iff a (pp a ⊖ np a)).1 (omega (arith, is_⊖ (pp a) (np a)))

-- ---- and their differences are joined
pub ⊖_neg : (p n : ℕ) → neg_ℤ (p ⊖ n) ≡ n ⊖ p
⊖_neg p n = (eq_iff (neg_ℤ (p ⊖ n)) (n ⊖ p)).1 (omega (arith, is_⊖ p n, is_⊖ n p, is_neg (p ⊖ n)))

pub ⊖_add : (p n q m : ℕ) → (p ⊖ n) +ℤ (q ⊖ m) ≡ (p + q) ⊖ (n + m)
⊖_add p n q m = (eq_iff ((p ⊖ n) +ℤ (q ⊖ m)) ((p + q) ⊖ (n + m))).1 (omega (arith, is_⊖ p n, is_⊖ q m, is_⊖ (p + q) (n + m), is_add (p ⊖ n) (q ⊖ m)))

pub ⊖_mul : (p n q m : ℕ) → (p ⊖ n) *ℤ (q ⊖ m) ≡ (p * q + n * m) ⊖ (p * m + n * q)
⊖_mul p n q m =
    let x = p ⊖ n in
    let y = q ⊖ m in
    (eq_iff (x *ℤ y) ((p * q + n * m) ⊖ (p * m + n * q))).1
    (omega (arith, ap (λ t. t * pp y) (is_⊖ p n), ap (λ t. t * np y) (is_⊖ p n), ap (λ t. p * t) (is_⊖ q m), ap (λ t. n * t) (is_⊖ q m), is_⊖ (p * q + n * m) (p * m + n * q), is_mul x y))

pub ⊖_le : (p n q m : ℕ) → ((p ⊖ n) ⊑ (q ⊖ m)) ↔ (p + m ≤ q + n)
unfolding ◌⊑◌
⊖_le p n q m = ((λ h. omega (arith, le_ℕ h, is_⊖ p n, is_⊖ q m)), (λ h. (le_iff (p ⊖ n) (q ⊖ m)).1 (omega (arith, is_⊖ p n, is_⊖ q m))))

pub ⊖_lt : (p n q m : ℕ) → ((p ⊖ n) ⊏ (q ⊖ m)) ↔ (p + m < q + n)
unfolding ◌⊏◌
⊖_lt p n q m = ((λ h. omega (arith, lt_ℕ h, is_⊖ p n, is_⊖ q m)), (λ h. (lt_iff (p ⊖ n) (q ⊖ m)).1 (omega (arith, is_⊖ p n, is_⊖ q m))))

pub ⊖_eq : (p n q m : ℕ) → ((p ⊖ n) ≗ (q ⊖ m)) ↔ (p + m ≡ q + n)
unfolding ◌≗◌
⊖_eq p n q m = ((λ h. omega (arith, eq_ℕ h, is_⊖ p n, is_⊖ q m)), (λ h. (eq_iff (p ⊖ n) (q ⊖ m)).1 (omega (arith, is_⊖ p n, is_⊖ q m))))

-- ---- a difference by itself
pub ⊖_zero : 0 ⊖ 0 ≡ pos 0
unfolding ◌⊖◌
⊖_zero = refl

pub pos_⊖ : (n : ℕ) → pos n ≡ n ⊖ 0
unfolding D
pos_⊖ n = D-at (pos n)

pub ⊖_is : (z : ℤ) (p n : ℕ) → pp z + n ≡ p + np z → z ≡ p ⊖ n
⊖_is z p n h = (eq_iff z (p ⊖ n)).1 (omega (arith, is_⊖ p n))

pub abs_⊖ : (p n : ℕ) → nat_abs (p ⊖ n) ≡ (p - n) + (n - p)
abs_⊖ p n = go (p ⊖ n) (is_⊖ p n)
  where
    go : (z : ℤ) → Is z p n → nat_abs z ≡ (p - n) + (n - p)
    go (pos k) h = omega arith
    go (negsuc k) h = omega arith

pub ruleset ints = (D_le, D_lt, D_eq, D_add, D_mul, D_neg, D-at, ⊖_neg, ⊖_add, ⊖_mul, ⊖_le, ⊖_lt, ⊖_eq)

-- ---- a factor that is a natural number is not split
pub D-pos : (n : ℕ) → D (pos n) ≡ n ⊖ 0
D-pos n = D-at (pos n)

pub ⊖_by : (p q m : ℕ) → (p ⊖ 0) *ℤ (q ⊖ m) ≡ (p * q) ⊖ (p * m)
⊖_by p q m = rw (⊖_mul p 0 q m) (ap₂ (λ (x y : ℕ). x ⊖ y) (omega arith) (omega arith))

pub ⊖_by_ : (p q m : ℕ) → (q ⊖ m) *ℤ (p ⊖ 0) ≡ (q * p) ⊖ (m * p)
⊖_by_ p q m = rw (⊖_mul q m p 0) (ap₂ (λ (x y : ℕ). x ⊖ y) (omega arith) (omega arith))

pub ruleset posints = (D-pos, ⊖_by, ⊖_by_, ints)
