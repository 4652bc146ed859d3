-- A number from 10 ^ k on has more than k digits.
use Rattle.std.specs.Prelude.{◌≡◌, ℕ, zero, suc, ◌+◌, ◌*◌, ◌^◌, ◌≤◌, ◌<◌, length, max}
use Rattle.std.proofs.Common.{arith}
use Rattle.std.proofs.Math.Nat.{pow-succ'}
use Rattle.std.proofs.Math.Logic.{dite}
use Rattle.std.proofs.Math.Decide.{dec_lt}
use Rattle.text.specs.Number.{decimal}
use Rattle.text.specs.NumberLaws.{decimal-digits, natural-most, decimal-most, decimal_length_one}
use Rattle.text.proofs.columns.digits.Goals as goal

long : (k n : ℕ) → 10 ^ k ≤ n → k < length (decimal n)
long k n h =
    let D = decimal-digits n in
    dite (dec_lt k (length (decimal n))) (λ l. l) (λ l. absurd (omega (arith, natural-most k (decimal n) (omega arith) D.digits, D.is)))

-- k + 1 digits for n above 0, and 0 has one
counted : (n m k : ℕ) → m ≡ max n 1 → 10 ^ k ≤ m → m < 10 * 10 ^ k → k + 1 ≡ length (decimal n)
counted zero m zero e l h = omega (arith, decimal_length_one 0 (omega arith))
counted zero m (suc k) e l h = absurd (omega (arith, pow-succ' 10 k))
counted (suc n) m k e l h =
    let f : m ≡ suc n = omega arith in
    omega (arith, long k (suc n) (omega arith), decimal-most k (suc n) (omega (arith, pow-succ' 10 k)))

pub returns : goal.returns
returns c = counted c.args.n c.max.result c.ilog10.result c.max.ensures c.ilog10.ensures.power_le c.ilog10.ensures.next_power_gt
