-- Laws of levels: how far a coefficient moves, and how large a level and what comes back are.
use Rattle.std.specs.Prelude.{◌≡◌, Bool, true, false, List, ℕ, suc, ◌+◌, ◌/◌, ◌^◌, ◌≤◌, ◌<◌, ℤ, pos, negsuc, neg_ℤ, nat_abs, ◌-ℤ◌, ◌*ℤ◌, length, ◌<ℤ◌}
use Rattle.std.proofs.Math.Path.{refl, sym}
use Rattle.std.proofs.Common.{mul-le-mul_left, arith}
use Rattle.std.proofs.Math.IntN.{+ℤ_idl}
use Rattle.std.specs.Int.Signed.{lt_z}
use Rattle.arithmetic.specs.Rounding.{rnd}
use Rattle.arithmetic.specs.Lists.{at, Small}
use Rattle.arithmetic.specs.IntegerLaws.{ints, posints}
use Rattle.arithmetic.specs.OrderLaws.{bounds, lt_z-true, lt_z-false}
use Rattle.arithmetic.specs.RoundingLaws.{rnd_near, rnd_le}
use Rattle.arithmetic.specs.ListLaws.{length-table, get_d_table}
use Rattle.levels.specs.Levels.{level, limit, clipped, back, levelled, restored}

-- ---- the clip
module _ (z : ℤ) where
  pub clipped-low : lt_z z (neg_ℤ limit) ≡ true → clipped z ≡ neg_ℤ limit
  unfolding clipped
  clipped-low h = rw h

  pub clipped-high : lt_z z (neg_ℤ limit) ≡ false → lt_z limit z ≡ true → clipped z ≡ limit
  unfolding clipped
  clipped-high h k = rw (h, k)

  pub clipped-between : lt_z z (neg_ℤ limit) ≡ false → lt_z limit z ≡ false → clipped z ≡ z
  unfolding clipped
  clipped-between h k = rw (h, k)

  -- by the three cases
  by_clip : (P : ℤ → Type 0) → (z <ℤ neg_ℤ limit → P (neg_ℤ limit)) → (limit <ℤ z → P limit) → (nat_abs z ≤ 2 ^ 29 → P z) → P (clipped z)
  by_clip P f g h = go (lt_z z (neg_ℤ limit)) (lt_z limit z) refl refl
    where
      go : (a b : Bool) → lt_z z (neg_ℤ limit) ≡ a → lt_z limit z ≡ b → P (clipped z)
      go true b e k = rw (clipped-low e) (f (lt_z-true z (neg_ℤ limit) e))
      go false true e k = rw (clipped-high e k) (g (lt_z-true limit z k))
      go false false e k =
          rw (clipped-between e k) (h (simp bounds (omega (arith, simp ints at (lt_z-false z (neg_ℤ limit) e), simp ints at (lt_z-false limit z k)))))

  -- what is within the limit is left as it is
  pub clipped-within : nat_abs z ≤ 2 ^ 29 → clipped z ≡ z
  clipped-within s = by_clip (λ q. q ≡ z)
      (λ h. absurd (omega (arith, simp ints at h, simp bounds at s)))
      (λ h. absurd (omega (arith, simp ints at h, simp bounds at s)))
      (λ h. refl)

  pub clipped_small : nat_abs (clipped z) ≤ 2 ^ 29
  clipped_small = by_clip (λ q. nat_abs q ≤ 2 ^ 29) (λ h. omega arith) (λ h. omega arith) (λ h. h)

  -- the clip brings nothing away from a number within the limit
  clipped-near : (X : ℤ) (d : ℕ) → nat_abs X ≤ 2 ^ 29 → nat_abs (z -ℤ X) ≤ d → nat_abs (clipped z -ℤ X) ≤ d
  clipped-near X d s n = by_clip (λ q. nat_abs (q -ℤ X) ≤ d)
      (λ h. simp bounds (omega (arith, simp ints at h, simp bounds at s, simp bounds at n)))
      (λ h. simp bounds (omega (arith, simp ints at h, simp bounds at s, simp bounds at n)))
      (λ h. n)

-- ---- a level, and what comes back
-- 'No coefficient moves by more than half its step, rounded down'
pub level-near : (step : ℕ) (X : ℤ) → 1 ≤ step → nat_abs X ≤ 2 ^ 29 → nat_abs (back step (level step X) -ℤ X) ≤ step / 2
unfolding level back
level-near step X p s =
    let e : rnd X step *ℤ pos step ≡ pos step *ℤ rnd X step = simp posints (omega arith) in
    clipped-near (rnd X step *ℤ pos step) X (step / 2) s (rw e (rnd_near X p))

-- what comes back is within the limit, whatever the level is
pub back_small : (step : ℕ) (L : ℤ) → nat_abs (back step L) ≤ 2 ^ 29
unfolding back
back_small step L = clipped_small (L *ℤ pos step)

-- a level is no larger than a coefficient may be, so it fits 32 bits
pub level_small : (step : ℕ) (X : ℤ) → 1 ≤ step → nat_abs X ≤ 2 ^ 29 → nat_abs (level step X) ≤ 2 ^ 29
unfolding level
level_small step X p s = rnd_le X p (omega (arith, mul-le-mul_left (2 ^ 29) p))

-- ---- the same of a block
module _ (steps : ℕ → ℕ) (m : ℕ) where
  pub levelled_long : (x : List ℤ) → length (levelled steps m x) ≡ m
  unfolding levelled
  levelled_long x = length-table (λ k. level (steps k) (at x k)) m

  pub restored_long : (l : List ℤ) → length (restored steps m l) ≡ m
  unfolding restored
  restored_long l = length-table (λ k. back (steps k) (at l k)) m

  levelled-at : (x : List ℤ) (k : ℕ) → k < m → at (levelled steps m x) k ≡ level (steps k) (at x k)
  unfolding levelled
  levelled-at x k h = get_d_table (λ i. level (steps i) (at x i)) (pos 0) m k h

  restored_at : (l : List ℤ) (k : ℕ) → k < m → at (restored steps m l) k ≡ back (steps k) (at l k)
  unfolding restored
  restored_at l k h = get_d_table (λ i. back (steps i) (at l i)) (pos 0) m k h

  pub restored_small : (l : List ℤ) → Small (restored steps m l) (2 ^ 29)
  restored_small l = record { small = λ k h. rw (restored_at l k (omega (arith, restored_long l))) (back_small (steps k) (at l k)) }

  pub levelled-near : (x : List ℤ) → length x ≡ m → Small x (2 ^ 29) → (k : ℕ) → k < m → 1 ≤ steps k →
      nat_abs (at (restored steps m (levelled steps m x)) k -ℤ at x k) ≤ steps k / 2
  levelled-near x e s k h p = rw (restored_at (levelled steps m x) k h, levelled-at x k h) (level-near (steps k) (at x k) p (s.small k (omega arith)))

-- ---- by size, as the code divides
pub size_above : (X : ℤ) → lt_z X (pos 0) ≡ false → X ≡ pos (nat_abs X)
size_above (pos n) h = refl
size_above (negsuc n) h = absurd (omega (arith, simp ints at (lt_z-false (negsuc n) (pos 0) h)))

pub size_below : (X : ℤ) → lt_z X (pos 0) ≡ true → pos 0 -ℤ X ≡ pos (nat_abs X)
size_below (pos n) h = absurd (omega (arith, simp ints at (lt_z-true (pos n) (pos 0) h)))
size_below (negsuc n) h = simp ints (omega arith)

module _ (step : ℕ) where
  pub level_above : (X : ℤ) → lt_z X (pos 0) ≡ false → level step X ≡ pos ((nat_abs X + step / 2) / step)
  unfolding level rnd
  level_above (pos n) h = refl
  level_above (negsuc n) h = absurd (omega (arith, simp ints at (lt_z-false (negsuc n) (pos 0) h)))

  pub level_below : (X : ℤ) → lt_z X (pos 0) ≡ true → level step X ≡ pos 0 -ℤ pos ((nat_abs X + step / 2) / step)
  unfolding level rnd
  level_below (pos n) h = absurd (omega (arith, simp ints at (lt_z-true (pos n) (pos 0) h)))
  level_below (negsuc n) h = sym (+ℤ_idl (neg_ℤ (pos ((suc n + step / 2) / step))))

  -- the quotient
  pub nearest_small : (n : ℕ) → 1 ≤ step → n ≤ 2 ^ 29 → (n + step / 2) / step ≤ 2 ^ 29
  unfolding level rnd
  nearest_small n p s = level_small step (pos n) p s

-- ---- instances, computed
-- the clip is real: the level of 536,870,912 by step 3 stands for 536,870,913
clip_real : (level 3 limit *ℤ pos 3 ≡ pos 536870913) × (back 3 (level 3 limit) ≡ limit)
unfolding level back clipped rnd
clip_real = (refl, refl)

clip_real_below : (level 3 (neg_ℤ limit) *ℤ pos 3 ≡ neg_ℤ (pos 536870913)) × (back 3 (level 3 (neg_ℤ limit)) ≡ neg_ℤ limit)
unfolding level back clipped rnd
clip_real_below = (refl, refl)

-- a half goes away from zero
halves : (level 2 (pos 1) ≡ pos 1) × (level 2 (pos 3) ≡ pos 2) × (level 2 (negsuc 0) ≡ negsuc 0) × (level 2 (negsuc 2) ≡ negsuc 1)
unfolding level rnd
halves = (refl, refl, refl, refl)

-- an odd step has no halves: 1 of 3 goes to 0, 2 of 3 to 1
odd_step : (level 3 (pos 1) ≡ pos 0) × (level 3 (pos 2) ≡ pos 1) × (level 3 (negsuc 0) ≡ pos 0) × (level 3 (negsuc 1) ≡ negsuc 0)
unfolding level rnd
odd_step = (refl, refl, refl, refl)
