-- Laws of order and size: a ≤ b, |z| ≤ n, and the range of a signed width.
--     simp bounds (omega zarith)     proves |z| ≤ n and SFits w z too, where z is linear; posbounds is to posints as bounds is to ints
use Rattle.std.specs.Prelude.{◌≡◌, refl, ◌↔◌, ◌⊎◌, Bool, true, false, not, ℕ, zero, suc, ◌+◌, ◌*◌, ◌^◌, ◌≤◌, ◌<◌, T, ltb, ℤ, pos, negsuc, neg_ℤ, nat_abs, ◌+ℤ◌, ◌-ℤ◌, ◌*ℤ◌, ◌≤ℤ◌, ◌<ℤ◌}
use Rattle.std.proofs.Common.{inl, inr, mul-le-mul, mul-le-mul_left, lt_of_le_of_lt, arith, ltb→lt, rules}
use Rattle.std.specs.Int.Signed.{lt_z, le_z, lt_z_yes, lt_z_no, le_z_yes, clash_ℤ, shr_z, mag_shr, nat_abs-le}
use Rattle.std.specs.Int.{Width}
use mir.Val.{SFits, hbits}
use mir.ValLaws.{sfits_le}
use Rattle.std.proofs.Math.Facts.{sfits_widen}
use Rattle.arithmetic.specs.IntegerLaws.{pp, np, le_ℕ, lt_ℕ, le_iff, ints, posints, zarith}

-- ---- the order
pub ≤ℤ_trans : {a b c : ℤ} → a ≤ℤ b → b ≤ℤ c → a ≤ℤ c
≤ℤ_trans {a} {b} {c} h k = (le_iff a c).1 (omega zarith)

pub ≤ℤ_antisym : {a b : ℤ} → a ≤ℤ b → b ≤ℤ a → a ≡ b
≤ℤ_antisym {a} {b} h k = simp ints (omega zarith)

pub <ℤ_≤ℤ : (a b : ℤ) → (a <ℤ b) ⊎ (b ≤ℤ a)
<ℤ_≤ℤ a b = by (lt_z a b) lt_z_yes lt_z_no
  where
    by : {P Q : Type 0} (t : Bool) → (T t → P) → (T (not t) → Q) → P ⊎ Q
    by true f g = inl (f tt)
    by false f g = inr (g tt)

pub mul_le : (m : ℕ) {a b : ℤ} → a ≤ℤ b → (pos m *ℤ a) ≤ℤ (pos m *ℤ b)
mul_le m {a} {b} h = simp ints (omega (arith, mul-le-mul_left m (le_ℕ h)))

-- a test of the code, as a fact
pub lt_z-true : (a b : ℤ) → lt_z a b ≡ true → a <ℤ b
lt_z-true a b e = lt_z_yes (rw e tt)

pub lt_z-false : (a b : ℤ) → lt_z a b ≡ false → b ≤ℤ a
lt_z-false a b e = lt_z_no (rw e tt)

pub le_z-is : {a b : ℤ} → a ≤ℤ b → le_z a b ≡ true
le_z-is {a} {b} h = by (le_z a b) h.le
  where
    by : (t : Bool) → T t → t ≡ true
    by true u = refl
    by false u = absurd u

pub lt_z-not : (a b : ℤ) → lt_z a b ≡ true → le_z b a ≡ false
lt_z-not a b e = by (le_z b a) (λ t. clash_ℤ (lt_z-true a b e) (le_z_yes t))
  where
    by : (t : Bool) → (T t → ⊥) → t ≡ false
    by true u = absurd (u tt)
    by false u = refl

-- ---- |z|
pub abs_is : (z : ℤ) → nat_abs z ≡ pp z + np z
abs_is (pos n) = omega arith
abs_is (negsuc n) = omega arith

pub abs_le : (z : ℤ) (n : ℕ) → (nat_abs z ≤ n) ↔ ((z ≤ℤ pos n) × (neg_ℤ (pos n) ≤ℤ z))
abs_le (pos k) n = ((λ h. simp ints (omega arith)), (λ h. omega (arith, le_ℕ h.0)))
abs_le (negsuc k) n = ((λ h. simp ints (omega arith)), (λ h. omega (arith, simp ints at h.1)))

pub fits-is : (w : Width) (z : ℤ) → SFits w z ↔ ((z <ℤ pos (2 ^ hbits w)) × (neg_ℤ (pos (2 ^ hbits w)) ≤ℤ z))
fits-is w (pos k) = ((λ h. simp ints (omega arith)), (λ h. record { sfits = omega (arith, lt_ℕ h.0) }))
fits-is w (negsuc k) = ((λ h. simp ints (omega arith)), (λ h. record { sfits = omega (arith, simp ints at h.1) }))

pub ruleset bounds = (abs_le, fits-is, ints)

pub ruleset posbounds = (abs_le, fits-is, posints)

pub abs_add : (a b : ℤ) → nat_abs (a +ℤ b) ≤ nat_abs a + nat_abs b
abs_add a b = simp bounds (omega (arith, abs_is a, abs_is b))

pub abs_sub : (a b : ℤ) → nat_abs (a -ℤ b) ≤ nat_abs a + nat_abs b
abs_sub a b = simp bounds (omega (arith, abs_is a, abs_is b))

pub abs_neg : (a : ℤ) → nat_abs (neg_ℤ a) ≡ nat_abs a
abs_neg (pos zero) = refl
abs_neg (pos (suc n)) = refl
abs_neg (negsuc n) = refl

pub abs_mul : (a b : ℤ) → nat_abs (a *ℤ b) ≡ nat_abs a * nat_abs b
abs_mul (pos a) (pos b) = refl
abs_mul (pos a) (negsuc b) = abs_neg (pos (a * suc b))
abs_mul (negsuc a) (pos b) = abs_neg (pos (suc a * b))
abs_mul (negsuc a) (negsuc b) = refl

pub abs_mul_le : (a b : ℤ) {A B : ℕ} → nat_abs a ≤ A → nat_abs b ≤ B → nat_abs (a *ℤ b) ≤ A * B
abs_mul_le a b h k = rw abs_mul (mul-le-mul h k)

-- ---- the range of a signed width
pub sfits_abs : {w : Width} (z : ℤ) → nat_abs z < 2 ^ hbits w → SFits w z
sfits_abs (pos n) h = record { sfits = h }
sfits_abs (negsuc n) h = record { sfits = omega arith }

pub abs_sfits : {w : Width} {z : ℤ} → SFits w z → nat_abs z ≤ 2 ^ hbits w
abs_sfits {z = z} f = nat_abs-le z f.sfits

pub sfits_shr : {w : Width} (z : ℤ) (m : ℕ) → SFits w z → SFits w (shr_z z m)
sfits_shr z m f = sfits_le (mag_shr z m) f

-- a product fits a width that holds the widths' least numbers' product
pub sfits_mul : {w v u : Width} {a b : ℤ} → T (ltb (2 ^ hbits w * 2 ^ hbits v) (2 ^ hbits u)) → SFits w a → SFits v b → SFits u (a *ℤ b)
sfits_mul {w} {v} {u} {a} {b} t f g =
    sfits_abs (a *ℤ b) (lt_of_le_of_lt (abs_mul_le a b (abs_sfits f) (abs_sfits g)) (ltb→lt (2 ^ hbits w * 2 ^ hbits v) (2 ^ hbits u) t))

-- for `search`, at the goals of code on signed integers: `let h = .. in search signs`, with the ranges of its sums as h
pub ruleset signs = (rules, sfits_widen, sfits_mul, sfits_shr)

-- ---- chains
-- from z by way of a to d
pub abs_via : (z a d : ℤ) {m n : ℕ} → nat_abs (z -ℤ a) ≤ m → nat_abs (a -ℤ d) ≤ n → nat_abs (z -ℤ d) ≤ m + n
abs_via z a d h k =
    let e : z -ℤ d ≡ (z -ℤ a) +ℤ (a -ℤ d) = simp ints (omega arith) in
    rw e (omega (arith, abs_add (z -ℤ a) (a -ℤ d)))
