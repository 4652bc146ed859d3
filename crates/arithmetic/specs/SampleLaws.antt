-- A sample of a hop: what a limited number is, and the laws by which the clamp goes before the floor, and the floor by a number without a sign.
use Rattle.std.specs.Prelude.{◌≡◌, refl, Bool, true, false, cond, ℕ, ◌*◌, ◌/◌, ◌<◌, ℤ, pos, negsuc, neg_ℤ, nat_abs, ◌+ℤ◌, ◌-ℤ◌, ◌≤ℤ◌, ◌<ℤ◌}
use Rattle.std.proofs.Math.Nat.{div-add-mod}
use Rattle.std.proofs.Common.{mod-lt, arith}
use Rattle.std.specs.Int.Signed.{lt_z, clash_ℤ, ≤ℤ_refl}
use Rattle.arithmetic.specs.Rounding.{floor, clamp, least, largest, Sample}
use Rattle.arithmetic.specs.IntegerLaws.{ints, posints}
use Rattle.arithmetic.specs.OrderLaws.{lt_z-true, lt_z-false, mul_le}
use Rattle.arithmetic.specs.RoundingLaws.{floor-is, floor_unique, by_range}

-- z limited to low .. high
unfoldable pub limited : ℤ → ℤ → ℤ → ℤ
limited low high z = cond (lt_z z low) low (cond (lt_z high z) high z)

-- ---- a number of -e .. e - 1, raised by e
pub raise : ℤ → ℕ → ℕ
raise c e = nat_abs (c +ℤ pos e)

pub raise-is : (c : ℤ) (e : ℕ) → neg_ℤ (pos e) ≤ℤ c → c +ℤ pos e ≡ pos (raise c e)
unfolding raise
raise-is c e h = above (c +ℤ pos e) (simp ints (omega (arith, simp ints at h)))
  where
    above : (z : ℤ) → pos 0 ≤ℤ z → z ≡ pos (nat_abs z)
    above (pos n) h = refl
    above (negsuc n) h = absurd (omega (arith, simp ints at h))

pub raise-less : (c : ℤ) (e : ℕ) → neg_ℤ (pos e) ≤ℤ c → c <ℤ pos e → raise c e < 2 * e
raise-less c e h k = omega (arith, simp ints at k, simp ints at (raise-is c e h))

-- its floor by d, from the raised number's quotient: e is k times d
pub floor-raise : (c : ℤ) {d e : ℕ} (k : ℕ) → 0 < d → e ≡ k * d → neg_ℤ (pos e) ≤ℤ c → pos (raise c e / d) -ℤ pos k ≡ floor c d
floor-raise c {d} {e} k p is h =
    let m = raise c e in
    let f = simp posints at (raise-is c e h) in
    let l = mod-lt m p in
    floor_unique
    (record { low = simp posints (omega (arith, f, is, div-add-mod m d)); high = simp posints (omega (arith, f, is, div-add-mod m d)) })
    (floor-is c p)

-- ---- the clamp goes before the floor: a number beyond the ends has its floor beyond the samples
-- a limited number, by its three cases
limited-by : (low high z : ℤ) (P : ℤ → Type 0) → (z <ℤ low → P low) → (low ≤ℤ z → high <ℤ z → P high) → (low ≤ℤ z → z ≤ℤ high → P z) → P (limited low high z)
unfolding limited
limited-by low high z P f g h = go (lt_z z low) (lt_z high z) refl refl
  where
    go : (a b : Bool) → lt_z z low ≡ a → lt_z high z ≡ b → P (limited low high z)
    go true b e k = rw e (f (lt_z-true z low e))
    go false true e k = rw (e, k) (g (lt_z-false z low e) (lt_z-true high z k))
    go false false e k = rw (e, k) (h (lt_z-false z low e) (lt_z-false high z k))

module _ (b : ℤ) {d e : ℕ} (p : 0 < d) (is : e ≡ 32768 * d) where
  -- the numbers whose floor is a sample
  abbrev low : ℤ
  low = neg_ℤ (pos e)

  abbrev high : ℤ
  high = pos e -ℤ pos 1

  abbrev q : ℤ
  q = floor b d

  under : q <ℤ least → b <ℤ low
  under h =
      let k : (q +ℤ pos 1) ≤ℤ least = simp ints (omega (arith, simp ints at h)) in
      simp posints (omega (arith, is, simp posints at (mul_le d k), simp posints at (floor-is b p).high))

  over : largest <ℤ q → high <ℤ b
  over h =
      let k : (largest +ℤ pos 1) ≤ℤ q = simp ints (omega (arith, simp ints at h)) in
      simp posints (omega (arith, is, simp posints at (mul_le d k), simp posints at (floor-is b p).low))

  within : Sample q → (low ≤ℤ b) × (b ≤ℤ high)
  within S = (
    simp posints (omega (arith, is, simp posints at (mul_le d S.low), simp posints at (floor-is b p).low)),
    simp posints (omega (arith, is, simp posints at (mul_le d S.high), simp posints at (floor-is b p).high)),
  )

  floor-low : floor low d ≡ least
  floor-low = floor_unique (floor-is low p) (record { low = simp posints (omega (arith, is)); high = simp posints (omega (arith, is)) })

  floor-high : floor high d ≡ largest
  floor-high = floor_unique (floor-is high p) (record { low = simp posints (omega (arith, is)); high = simp posints (omega (arith, is)) })

  -- the limited number's floor, by the three cases of q
  if_under : q <ℤ least → floor (limited low high b) d ≡ least
  if_under h = limited-by low high b (λ r. floor r d ≡ least) (λ k. floor-low) (λ k l. clash_ℤ (under h) k) (λ k l. clash_ℤ (under h) k)

  if_over : largest <ℤ q → floor (limited low high b) d ≡ largest
  if_over h =
      limited-by low high b (λ r. floor r d ≡ largest)
      (λ k. absurd (omega (arith, is, simp posints at k, simp posints at (over h))))
      (λ k l. floor-high)
      (λ k l. clash_ℤ (over h) l)

  if_within : Sample q → floor (limited low high b) d ≡ q
  if_within S = limited-by low high b (λ r. floor r d ≡ q) (λ k. clash_ℤ k (within S).0) (λ k l. clash_ℤ l (within S).1) (λ k l. refl)

  pub floor-limited : floor (limited low high b) d ≡ clamp q
  floor-limited = by_range q (λ r. floor (limited low high b) d ≡ r) if_under if_over if_within

  -- the limited number is one of -e .. e - 1
  pub limited-low : low ≤ℤ limited low high b
  limited-low = limited-by low high b (λ r. low ≤ℤ r) (λ k. ≤ℤ_refl low) (λ k l. simp ints (omega (arith, is))) (λ k l. k)

  pub limited-high : limited low high b <ℤ pos e
  limited-high = limited-by low high b (λ r. r <ℤ pos e) (λ k. simp ints (omega (arith, is))) (λ k l. simp ints (omega (arith, is))) (λ k l. simp ints (omega (arith, simp ints at l)))
