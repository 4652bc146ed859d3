-- The sums of each route: their sizes, and those of their coefficients.
use Rattle.std.proofs.Common.{arith, ◌≡◌, ◌+◌, ◌*◌, ◌^◌, ◌≤◌, ℕ, nat_abs, lit<, ℤ}
use Rattle.std.proofs.Math.Decide.{dec_le}
use Rattle.arithmetic.specs.Rounding.{rnd}
use Rattle.arithmetic.specs.RoundingLaws.{rnd_le}

-- a sum by each of the three shifts
pub bounds : (s : ℤ) (k : ℕ) → 28 ≤ k → k ≤ 30 → nat_abs s ≤ 9 * 2 ^ (k + 27) → (nat_abs s ≤ 2 ^ 62) × (nat_abs (rnd s (2 ^ k)) ≤ 9 * 2 ^ 27)
bounds s k p q h = go (dec_le k 28) (dec_le k 29)
  where
    go : Dec (k ≤ 28) → Dec (k ≤ 29) → (nat_abs s ≤ 2 ^ 62) × (nat_abs (rnd s (2 ^ k)) ≤ 9 * 2 ^ 27)
    go (yes r) t =
        let e : k ≡ 28 = omega arith in
        let b : nat_abs s ≤ 9 * 2 ^ (28 + 27) = rw e at h in
        (omega (arith, b), rw e (rnd_le s {b = 2 ^ 28} {n = 9 * 2 ^ 27} (lit< tt) (omega (arith, b))))
    go (no r) (yes t) =
        let e : k ≡ 29 = omega arith in
        let b : nat_abs s ≤ 9 * 2 ^ (29 + 27) = rw e at h in
        (omega (arith, b), rw e (rnd_le s {b = 2 ^ 29} {n = 9 * 2 ^ 27} (lit< tt) (omega (arith, b))))
    go (no r) (no t) =
        let e : k ≡ 30 = omega arith in
        let b : nat_abs s ≤ 9 * 2 ^ (30 + 27) = rw e at h in
        (omega (arith, b), rw e (rnd_le s {b = 2 ^ 30} {n = 9 * 2 ^ 27} (lit< tt) (omega (arith, b))))
