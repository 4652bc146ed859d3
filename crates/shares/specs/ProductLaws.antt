-- Laws of a product in two words.
use Rattle.std.specs.Prelude.{◌≡◌, refl, Bool, true, false, ℕ, ◌+◌, ◌*◌, ◌/◌, ◌%◌, ◌^◌, ◌≤◌, ◌<◌, T, ltb, ℤ, pos, negsuc, nat_abs, neg_ℤ, ◌-ℤ◌, ◌≤ℤ◌, List}
use Rattle.std.proofs.Common.{sym, ◌∙◌, ap, div-add-mod', add-mul, mul_right_comm, mul-le-mul, mod-lt, arith, lit≤, Fits, SFits, to_z, of_z, to_z-of_z, lt-ltb, le-ltb, ltb-true, ltb-false}
use Rattle.std.specs.Int.{w32, w64}
use Rattle.std.proofs.Math.Facts.{sfits_widen}
use Rattle.std.specs.Int.Signed.{mag, non_neg}
use Rattle.arithmetic.specs.OrderLaws.{sfits_abs, abs_sfits, abs_sub, abs_neg}
use Rattle.arithmetic.specs.Lists.{at}
use Rattle.arithmetic.specs.IntegerLaws.{ints}
use Rattle.cosine.specs.KernelLaws.{K-size}
use Rattle.shares.specs.Products.{IsProduct, change_times}
use Rattle.shares.specs.declared.words.Words.{Words}

-- h is 2^32
parts : (h a b : ℕ) → (a / h * b + a % h * b / h) * h + a % h * b % h ≡ a * b
parts h a b =
    rw (add-mul (a / h * b) (a % h * b / h) h)
    (let e = div-add-mod' (a % h * b) h in
    let d : a * b ≡ a / h * h * b + a % h * b = ap (λ (t : ℕ). t * b) (sym (div-add-mod' a h)) ∙ add-mul (a / h * h) (a % h) b in
    let s : a / h * b * h ≡ a / h * h * b = mul_right_comm (a / h) b h in
    omega arith)

module _ (a b c d : ℕ) (p q : Words) (i : IsProduct a b p) (j : IsProduct c d q) where
  pub high-less : p.high < q.high → true ≡ ltb (a * b) (c * d)
  high-less h =
      let k : p.high * 2 ^ 32 + 2 ^ 32 ≤ q.high * 2 ^ 32 = omega arith in
      sym (lt-ltb (a * b) (c * d) (omega (arith, i.is, i.small, j.is, j.small)))

  pub high-more : q.high < p.high → false ≡ ltb (a * b) (c * d)
  high-more h = sym (le-ltb (a * b) (c * d) (omega (arith, i.is, i.small, j.is, j.small)))

  pub high_same : (q.high ≤ p.high) → (p.high ≤ q.high) → ltb p.low q.low ≡ ltb (a * b) (c * d)
  high_same h k = by (ltb p.low q.low) refl
    where
      by : (t : Bool) → ltb p.low q.low ≡ t → t ≡ ltb (a * b) (c * d)
      by true e = sym (lt-ltb (a * b) (c * d) (omega (arith, ltb-true p.low q.low e, i.is, i.small, j.is, j.small)))
      by false e = sym (le-ltb (a * b) (c * d) (omega (arith, ltb-false p.low q.low e, i.is, i.small, j.is, j.small)))

pub is-product : (a b : ℕ) → IsProduct a b (record { high = a / 4294967296 * b + a % 4294967296 * b / 4294967296; low = a % 4294967296 * b % 4294967296 })
is-product a b = record { is = parts 4294967296 a b; small = mod-lt (a % 4294967296 * b) (lit≤ tt) }

-- for the search
pub ruleset two_words = (is-product)

pub under_le : (a b : ℕ) → b ≤ 2 ^ 26 → a % 4294967296 * b ≤ 2 ^ 32 * 2 ^ 26
under_le a b h = let k : a % 4294967296 ≤ 2 ^ 32 = omega arith in mul-le-mul k h

pub over_le : (a b : ℕ) → a ≤ 2 ^ 56 → b ≤ 2 ^ 26 → a / 4294967296 * b ≤ 2 ^ 24 * 2 ^ 26
over_le a b h k = let l : a / 4294967296 ≤ 2 ^ 24 = omega arith in mul-le-mul l k

-- the difference of two i32 fits an i64
pub apart : {a b : ℤ} → SFits w32 a → SFits w32 b → SFits w64 (a -ℤ b)
apart {a} {b} f g = sfits_abs (a -ℤ b) (omega (arith, abs_sub a b, abs_sfits f, abs_sfits g))

pub apart_few : {a b : ℤ} → SFits w32 a → SFits w32 b → Fits w64 (nat_abs (a -ℤ b))
apart_few {a} {b} f g = record { fits = omega (arith, abs_sub a b, abs_sfits f, abs_sfits g) }

pub abs_turned : (a b : ℤ) → nat_abs (a -ℤ b) ≡ nat_abs (b -ℤ a)
abs_turned a b = let e : a -ℤ b ≡ neg_ℤ (b -ℤ a) = simp ints (omega arith) in rw e (abs_neg (b -ℤ a))

-- as the machine has it
pub read : (z : ℤ) → mag z < 2 ^ 31 → to_z w32 (of_z w32 z) ≡ z
read z h = to_z-of_z {w = w32} {z = z} (record { sfits = h })

pub apart_is : {a b : ℤ} → SFits w32 a → SFits w32 b → to_z w64 (of_z w64 (to_z w64 (of_z w64 (to_z w32 (of_z w32 a))) -ℤ to_z w64 (of_z w64 (to_z w32 (of_z w32 b))))) ≡ a -ℤ b
apart_is {a} {b} f g =
    rw
    (to_z-of_z {w = w32} {z = a} f, to_z-of_z {w = w32} {z = b} g, to_z-of_z {w = w64} {z = a} (sfits_widen {w = w32} {w' = w64} tt f), to_z-of_z {w = w64} {z = b} (sfits_widen {w = w32} {w' = w64} tt g))
    (to_z-of_z {w = w64} {z = a -ℤ b} (apart f g))

-- ---- a product within a block
pub change_le : (N i : ℕ) (x y : List ℤ) (k : ℕ) → nat_abs (at x k) ≤ 2 ^ 29 → nat_abs (at y k) ≤ 2 ^ 29 → change_times N i x y k ≤ 2 ^ 56
unfolding change_times
change_le N i x y k h g =
    let d : nat_abs (at y k -ℤ at x k) ≤ 2 ^ 30 = omega (arith, abs_sub (at y k) (at x k)) in
    mul-le-mul d (K-size N i k)

-- a number that is not below zero, as a cast asks it
pub non_negative : (z : ℤ) → pos 0 ≤ℤ z → T (non_neg z)
non_negative (pos n) h = tt
non_negative (negsuc n) h = absurd (omega (arith, simp ints at h))
