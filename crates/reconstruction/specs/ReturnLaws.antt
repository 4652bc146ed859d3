-- Laws of the last division: what it gets lies near N × 2^30 × s, so the number that it returns, clamped, lies near the sample s. And the
-- distances in the forms that are asked for.
use Rattle.std.specs.Prelude.{◌≡◌, ℕ, zero, suc, ◌+◌, ◌*◌, ◌/◌, ◌^◌, ◌≤◌, ◌<◌, ℤ, pos, nat_abs, ◌+ℤ◌, ◌-ℤ◌, ◌*ℤ◌}
use Rattle.std.proofs.Common.{mul-le-mul_left, le-div_iff_mul-le, div-mul-le_self}
use native.Mathlib.Omega.{arith, by_contra}
use Rattle.arithmetic.specs.Rounding.{rnd, clamp, Sample}
use Rattle.arithmetic.specs.IntegerLaws.{ints, posints}
use Rattle.arithmetic.specs.OrderLaws.{bounds, abs_add, abs_mul}
use Rattle.arithmetic.specs.RoundingLaws.{rnd_near, clamp-near}

-- q is E / (N × 2^30), rounded, and E within (6 A + 4 N) × 2^30 / 64 of N × 2^30 × s
rounded : (N A : ℕ) (E s q : ℤ) → 64 * nat_abs (E -ℤ pos (N * 2 ^ 30) *ℤ s) ≤ (6 * A + 4 * N) * 2 ^ 30 → nat_abs (pos (N * 2 ^ 30) *ℤ q -ℤ E) ≤ N * 2 ^ 30 / 2 →
    64 * N * nat_abs (q -ℤ s) ≤ 6 * A + 36 * N
rounded N A E s q h k =
    let e : pos (N * 2 ^ 30) *ℤ (q -ℤ s) ≡ (pos (N * 2 ^ 30) *ℤ q -ℤ E) +ℤ (E -ℤ pos (N * 2 ^ 30) *ℤ s) = simp posints (omega arith) in
    let m : nat_abs (pos (N * 2 ^ 30) *ℤ (q -ℤ s)) ≤ nat_abs (pos (N * 2 ^ 30) *ℤ q -ℤ E) + nat_abs (E -ℤ pos (N * 2 ^ 30) *ℤ s) = rw e (abs_add (pos (N * 2 ^ 30) *ℤ q -ℤ E) (E -ℤ pos (N * 2 ^ 30) *ℤ s)) in
    omega (arith, rw abs_mul at m)

pub returned-near : (N A : ℕ) (E s : ℤ) → 0 < N → Sample s → 64 * nat_abs (E -ℤ pos (N * 2 ^ 30) *ℤ s) ≤ (6 * A + 4 * N) * 2 ^ 30 →
    nat_abs (clamp (rnd E (N * 2 ^ 30)) -ℤ s) ≤ (6 * A + 36 * N) / (64 * N)
returned-near N A E s p S h =
    let q = rnd E (N * 2 ^ 30) in
    clamp-near q s ((6 * A + 36 * N) / (64 * N)) S
    ((le-div_iff_mul-le {x = nat_abs (q -ℤ s)} {y = 6 * A + 36 * N} (omega arith)).1 (omega (arith, rounded N A E s q h (rnd_near E {b = N * 2 ^ 30} (omega arith)))))

-- ---- each coefficient changed by at most Q, so 2 A = N Q: within (3 Q + 36) / 64
pub by-each : (N A Q : ℕ) → 0 < N → 2 * A ≤ N * Q → (6 * A + 36 * N) / (64 * N) ≤ (3 * Q + 36) / 64
by-each N A Q p h =
    let d = (6 * A + 36 * N) / (64 * N) in
    let m : d * (64 * N) ≤ 6 * A + 36 * N = div-mul-le_self (6 * A + 36 * N) (64 * N) in
    let c : 64 * d ≤ 3 * Q + 36 = cancel (64 * d) (3 * Q + 36) (omega arith) in
    omega arith
  where
    cancel : (a b : ℕ) → N * a ≤ N * b → a ≤ b
    cancel a b h = by_contra a b (λ q. omega (arith, mul-le-mul_left N q))

-- which is no more than what is asked, also where more stands for Q there
pub by_asked : (P Q : ℕ) → P ≤ Q → (3 * P + 36) / 64 ≤ (Q + 8) / 16
by_asked P Q h = omega arith

-- the changes of a block at most A in all: within (A + 4 N) / 8 N
pub by_all : (N A : ℕ) → 0 < N → (6 * A + 36 * N) / (64 * N) ≤ (A + 4 * N) / (8 * N)
by_all N A p =
    let d = (6 * A + 36 * N) / (64 * N) in
    let m : d * (64 * N) ≤ 6 * A + 36 * N = div-mul-le_self (6 * A + 36 * N) (64 * N) in
    (le-div_iff_mul-le {k = 8 * N} {x = d} {y = A + 4 * N} (omega arith)).1 (go d m)
  where
    go : (d : ℕ) → d * (64 * N) ≤ 6 * A + 36 * N → d * (8 * N) ≤ A + 4 * N
    go zero m = omega arith
    go (suc d) m = omega arith

-- changes of at most 9 move no sample
pub by-none : (Q : ℕ) → Q ≤ 9 → (3 * Q + 36) / 64 ≡ 0
by-none Q p = omega arith

pub none_equal : (a b : ℤ) → nat_abs (a -ℤ b) ≤ 0 → a ≡ b
none_equal a b h = simp ints (omega (arith, simp bounds at h))
