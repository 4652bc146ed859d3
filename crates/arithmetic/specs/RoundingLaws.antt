-- Laws of floor, rnd and clamp. Nothing above this crate opens their text.
use Rattle.std.specs.Prelude.{◌≡◌, refl, Bool, true, false, ◌⊎◌, ℕ, zero, suc, ◌+◌, ◌-◌, ◌*◌, ◌/◌, ◌^◌, ◌≤◌, ◌<◌, ℤ, neg_ℤ, nat_abs, ◌+ℤ◌, ◌-ℤ◌, ◌*ℤ◌, ◌≤ℤ◌, ◌<ℤ◌}
use Rattle.std.proofs.Common.{sym, ap, ◌∙◌, inl, inr, ⊎_elim, div-le_self, mul-le-mul_left, mul-pos, pow_mono, SFits}
use Rattle.std.proofs.Math.Nat.{div-eq_of_lt, div-add-mod, mod-lt}
use native.Mathlib.Omega.{arith, by_contra}
use Rattle.std.proofs.Math.IntN.{pos, negsuc, neg_ℤ-neg_ℤ}
use Rattle.std.specs.Int.Signed.{mag, shr_z, lt_z, ≤ℤ_refl}
use Rattle.std.specs.Int.{w32, w64}
use Rattle.arithmetic.specs.Rounding.{floor, rnd, clamp, least, largest, Sample}
use Rattle.arithmetic.specs.IntegerLaws.{ints, posints, zarith}
use Rattle.arithmetic.specs.OrderLaws.{bounds, posbounds, mul_le, <ℤ_≤ℤ, ≤ℤ_antisym, abs_mul, abs_is, lt_z-true, lt_z-false}

-- ---- floor
-- q is a/b rounded down: b q ≤ a < b q + b
pub record Floor (a : ℤ) (b : ℕ) (q : ℤ) : Type 0 where
  pub low : (pos b *ℤ q) ≤ℤ a
  pub high : a <ℤ (pos b *ℤ q +ℤ pos b)

pub floor-is : (a : ℤ) {b : ℕ} → 0 < b → Floor a b (floor a b)
unfolding floor
floor-is (pos a) {b} h =
    let m = mod-lt a h in
    record { low = simp ints (omega (arith, div-add-mod a b)); high = simp ints (omega (arith, div-add-mod a b)) }
floor-is (negsuc a) {b} h =
    let m = mod-lt a h in
    record { low = simp ints (omega (arith, div-add-mod a b)); high = simp ints (omega (arith, div-add-mod a b)) }

-- a smaller number's floor is not above a larger one's
below : {a c : ℤ} {b : ℕ} {q r : ℤ} → a ≤ℤ c → Floor a b q → Floor c b r → q ≤ℤ r
below {a} {c} {b} {q} {r} l f g =
    ⊎_elim
    (λ (h : r <ℤ q).
    let k : (r +ℤ pos 1) ≤ℤ q = simp ints (omega zarith) in
    absurd (omega (arith, simp ints at l, simp ints at (mul_le b k), simp ints at f.low, simp ints at g.high)))
    (λ h. h)
    (<ℤ_≤ℤ r q)

pub floor_unique : {a : ℤ} {b : ℕ} {q r : ℤ} → Floor a b q → Floor a b r → q ≡ r
floor_unique {a} f g = ≤ℤ_antisym (below (≤ℤ_refl a) f g) (below (≤ℤ_refl a) g f)

-- the machine's shift to the right
pub floor_shr : (a : ℤ) (b : ℕ) → shr_z a b ≡ floor a b
unfolding floor
floor_shr (pos a) b = refl
floor_shr (negsuc a) b = refl

pub floor_abs : (a : ℤ) (b : ℕ) → nat_abs (floor a b) ≤ nat_abs a
unfolding floor
floor_abs (pos a) b = div-le_self a b
floor_abs (negsuc a) b = omega (arith, div-le_self a b)

-- of a number of 64 bits a shift by 32 leaves 32
pub shr_upper : (a : ℤ) → SFits w64 a → SFits w32 (shr_z a (2 ^ 32))
shr_upper (pos n) f = record { sfits = omega (arith, f.sfits) }
shr_upper (negsuc n) f = record { sfits = omega (arith, f.sfits) }

-- a floor of a floor is one floor, and a multiple of b comes out of it: (floor(a/b) + c) / m is (a + b c) / (b m), rounded down
pub floor_floor : (a c : ℤ) {b m : ℕ} → 0 < b → 0 < m → 0 < b * m → floor (floor a b +ℤ c) m ≡ floor (a +ℤ pos b *ℤ c) (b * m)
floor_floor a c {b} {m} p q r = floor_unique (twice a c b m (floor a b) (floor (floor a b +ℤ c) m) (floor-is a p) (floor-is (floor a b +ℤ c) q)) (floor-is (a +ℤ pos b *ℤ c) r)
  where
    twice : (a c : ℤ) (b m : ℕ) (f g : ℤ) → Floor a b f → Floor (f +ℤ c) m g → Floor (a +ℤ pos b *ℤ c) (b * m) g
    twice a c b m f g F G =
        let up : ((f +ℤ c) +ℤ pos 1) ≤ℤ (pos m *ℤ g +ℤ pos m) = simp ints (omega (arith, simp ints at G.high)) in
        record {
          low = simp posints (omega (arith, simp posints at F.low, simp posints at (mul_le b G.low)));
          high = simp posints (omega (arith, simp posints at F.high, simp posints at (mul_le b up)));
        }

-- ---- rnd, for every b above 0, even or odd
-- a number with its sign turned rounds to the same with its sign turned
pub rnd_neg : (a : ℤ) {b : ℕ} → 0 < b → rnd (neg_ℤ a) b ≡ neg_ℤ (rnd a b)
unfolding rnd
rnd_neg (pos zero) {b} p =
    let e : (0 + b / 2) / b ≡ 0 = div-eq_of_lt (omega arith) in
    rw e
rnd_neg (pos (suc a)) {b} p = refl
rnd_neg (negsuc a) {b} p = sym (neg_ℤ-neg_ℤ (pos ((suc a + b / 2) / b)))

pub rnd_near : (a : ℤ) {b : ℕ} → 0 < b → nat_abs (pos b *ℤ rnd a b -ℤ a) ≤ b / 2
unfolding rnd
rnd_near (pos a) {b} p =
    let m = mod-lt (a + b / 2) p in
    simp posbounds (omega (arith, div-add-mod (a + b / 2) b))
rnd_near (negsuc a) {b} p =
    let m = mod-lt (suc a + b / 2) p in
    simp posbounds (omega (arith, div-add-mod (suc a + b / 2) b))

-- ---- as the code rounds, by an even number: its half is added, below zero one less, and the floor taken
-- -1 below zero, and 0 else
unfoldable pub under : ℤ → ℤ
under (pos a) = pos 0
under (negsuc a) = negsuc 0

-- a shift leaves only the sign
pub under_shr : (a : ℤ) {b : ℕ} → mag a < b → shr_z a b ≡ under a
unfolding under
under_shr (pos a) h = ap pos (div-eq_of_lt h)
under_shr (negsuc a) h = ap negsuc (div-eq_of_lt h)

pub under_abs : (a : ℤ) → nat_abs (under a) ≤ 1
unfolding under
under_abs (pos a) = omega arith
under_abs (negsuc a) = omega arith

-- a number tilted, and a half added: no larger than the two, since below zero they pull apart
pub tilted_abs : (a : ℤ) {h : ℕ} → 0 < h → nat_abs (a +ℤ under a +ℤ pos h) ≤ nat_abs a + h
unfolding under
tilted_abs (pos a) p = simp posbounds (omega arith)
tilted_abs (negsuc a) p = simp posbounds (omega arith)

-- a number within 2^62 leaves 64 bits room for the half of 2^k, whatever k is
pub room_for_half : (a : ℤ) (k : ℕ) → k < 63 → nat_abs a ≤ 2 ^ 62 → nat_abs a + 2 ^ (k - 1) < 2 ^ 63
room_for_half a k l h = omega (arith, pow_mono {i = k - 1} {j = 61} (omega arith))

-- s is what is added to a: at zero, either
pub Under : ℤ → ℤ → Type 0
Under a s = ((pos 0 ≤ℤ a) × (s ≡ pos 0)) ⊎ ((a ≤ℤ pos 0) × (s ≡ negsuc 0))

-- a multiple has the sign of its factor, or is zero
pub under_times : (w : ℕ) (a : ℤ) → Under (pos w *ℤ a) (under a)
unfolding under Under
under_times w (pos a) = inl (simp posints (omega arith), refl)
under_times w (negsuc a) = inr (simp posints (omega arith), refl)

pub under_self : (a : ℤ) → Under a (under a)
unfolding under Under
under_self (pos a) = inl (simp ints (omega arith), refl)
under_self (negsuc a) = inr (simp ints (omega arith), refl)

module _ (h : ℕ) {b : ℕ} (p : 0 < b) (e : 2 * h ≡ b) where
  up : (a : ℤ) → pos 0 ≤ℤ a → Floor (a +ℤ pos 0 +ℤ pos h) b (rnd a b)
  unfolding rnd
  up (pos a) l =
      let m = mod-lt (a + b / 2) p in
      record { low = simp posints (omega (arith, e, div-add-mod (a + b / 2) b)); high = simp posints (omega (arith, e, div-add-mod (a + b / 2) b)) }
  up (negsuc a) l = absurd (omega (arith, simp ints at l))

  down : (a : ℤ) → a ≤ℤ pos 0 → Floor (a +ℤ negsuc 0 +ℤ pos h) b (rnd a b)
  unfolding rnd
  down (pos a) l =
      let z : a ≡ 0 = omega (arith, simp ints at l) in
      let q : (a + b / 2) / b ≡ 0 = div-eq_of_lt (omega arith) in
      rw q (record { low = simp posints (omega (arith, e)); high = simp posints (omega (arith, e)) })
  down (negsuc a) l =
      let m = mod-lt (suc a + b / 2) p in
      record { low = simp posints (omega (arith, e, div-add-mod (suc a + b / 2) b)); high = simp posints (omega (arith, e, div-add-mod (suc a + b / 2) b)) }

  pub rnd-half : (a s : ℤ) → Under a s → floor (a +ℤ s +ℤ pos h) b ≡ rnd a b
  unfolding Under
  rnd-half a s u =
      floor_unique (floor-is (a +ℤ s +ℤ pos h) p)
      (⊎_elim (λ (k : (pos 0 ≤ℤ a) × (s ≡ pos 0)). rw k.1 (up a k.0)) (λ (k : (a ≤ℤ pos 0) × (s ≡ negsuc 0)). rw k.1 (down a k.0)) u)

-- rounding by b m: the half is added first, and then a floor taken by each
pub rnd-parts : (a s : ℤ) (h : ℕ) {b m : ℕ} → 0 < b → 0 < m → 2 * h ≡ b * m → Under a s → floor (floor (a +ℤ s +ℤ pos h) b) m ≡ rnd a (b * m)
rnd-parts a s h {b} {m} p q e u =
    let z = a +ℤ s +ℤ pos h in
    let v : floor z b +ℤ pos 0 ≡ floor z b = simp ints (omega arith) in
    let w : z +ℤ pos b *ℤ pos 0 ≡ z = simp ints (omega arith) in
    rw v at (rw w at (floor_floor z (pos 0) p q (mul-pos p q))) ∙ rnd-half h (mul-pos p q) e a s u

-- rounding by 2 h m, after a floor by h: the half, h m, comes out as m
pub rnd-after : (a s : ℤ) (h m : ℕ) → 0 < h → 0 < m → Under a s → floor (floor (a +ℤ s) h +ℤ pos m) (2 * m) ≡ rnd a (h * (2 * m))
rnd-after a s h m p q u =
    let half : 2 * (h * m) ≡ h * (2 * m) = omega arith in
    let r : 0 < h * (2 * m) = mul-pos p (omega arith) in
    floor_floor (a +ℤ s) (pos m) {b = h} {m = 2 * m} p (omega arith) r ∙ rnd-half (h * m) r half a s u

-- sizes
pub rnd_abs : (a : ℤ) {b : ℕ} → 0 < b → b * nat_abs (rnd a b) ≤ nat_abs a + b / 2
rnd_abs a {b} p =
    let k : nat_abs (pos b *ℤ rnd a b) ≤ nat_abs a + b / 2 = simp bounds (omega (arith, simp bounds at (rnd_near a p), abs_is a)) in
    rw abs_mul at k

-- a size that is a multiple of b
pub rnd_le : (a : ℤ) {b n : ℕ} → 0 < b → nat_abs a ≤ b * n → nat_abs (rnd a b) ≤ n
rnd_le a {b} {n} p h = by_contra (nat_abs (rnd a b)) n (λ q. omega (arith, rnd_abs a p, mul-le-mul_left b q))

-- ---- clamp
pub sample_abs : {s : ℤ} → Sample s → nat_abs s ≤ 32768
sample_abs {s} S = simp bounds (omega (arith, simp ints at S.low, simp ints at S.high))

module _ (z : ℤ) where
  clamp-low : lt_z z least ≡ true → clamp z ≡ least
  unfolding clamp
  clamp-low h = rw h

  clamp-high : lt_z z least ≡ false → lt_z largest z ≡ true → clamp z ≡ largest
  unfolding clamp
  clamp-high h k = rw (h, k)

  clamp-between : lt_z z least ≡ false → lt_z largest z ≡ false → clamp z ≡ z
  unfolding clamp
  clamp-between h k = rw (h, k)

  -- by the three cases
  pub by_range : (P : ℤ → Type 0) → (z <ℤ least → P least) → (largest <ℤ z → P largest) → (Sample z → P z) → P (clamp z)
  by_range P f g h = go (lt_z z least) (lt_z largest z) refl refl
    where
      go : (a b : Bool) → lt_z z least ≡ a → lt_z largest z ≡ b → P (clamp z)
      go true b e k = rw (clamp-low e) (f (lt_z-true z least e))
      go false true e k = rw (clamp-high e k) (g (lt_z-true largest z k))
      go false false e k = rw (clamp-between e k) (h (record { low = lt_z-false z least e; high = lt_z-false largest z k }))

  pub clamp-sample : Sample (clamp z)
  clamp-sample = by_range Sample
      (λ h. record { low = simp ints (omega arith); high = simp ints (omega arith) })
      (λ h. record { low = simp ints (omega arith); high = simp ints (omega arith) })
      (λ h. h)

  -- clamping brings nothing away from a sample
  pub clamp-near : (s : ℤ) (d : ℕ) → Sample s → nat_abs (z -ℤ s) ≤ d → nat_abs (clamp z -ℤ s) ≤ d
  clamp-near s d S n = by_range (λ q. nat_abs (q -ℤ s) ≤ d)
      (λ h. simp bounds (omega (arith, simp ints at h, simp ints at S.low, simp ints at S.high, simp bounds at n)))
      (λ h. simp bounds (omega (arith, simp ints at h, simp ints at S.low, simp ints at S.high, simp bounds at n)))
      (λ h. n)
