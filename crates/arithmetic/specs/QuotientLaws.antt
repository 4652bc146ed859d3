-- The quotient of the last step of a sample, by a shift and one multiplication: which lengths it takes, and the laws by which it is the quotient.
use Rattle.std.specs.Prelude.{◌≡◌, refl, Bool, true, false, cond, ℕ, ◌+◌, ◌*◌, ◌/◌, ◌%◌, ◌^◌, ◌≤◌, ◌<◌, T, eqb}
use Rattle.std.proofs.Common.{sym, subst, ap, ◌∙◌, mul_assoc, mul_comm, mul-add, add-mul, one-mul, mul-le-mul, mul-le-mul_right, suc-mul, mod-lt, div-lt_iff_lt-mul, le-div_iff_mul-le, arith, eqb→eq, lit<, lit≤}
use Rattle.std.proofs.Math.Nat.{div-add-mod}
use Rattle.std.proofs.Math.Decide.{dec_lt}
use Rattle.arithmetic.specs.TestLaws.{both_left, both_right}

-- ---- the lengths: 4 times m, m being 3, 9, 27 or twice one of them
unfoldable pub quarters : ℕ → Bool
quarters m = cond (eqb m 3) true (cond (eqb m 6) true (cond (eqb m 9) true (cond (eqb m 18) true (cond (eqb m 27) true (eqb m 54)))))

unfoldable pub splits : ℕ → Bool
splits n = cond (eqb (n % 4) 0) (quarters (n / 4)) false

-- what holds of each of the six holds of m
quarters-by : (m : ℕ) → T (quarters m) → (P : ℕ → Type 0) → P 3 → P 6 → P 9 → P 18 → P 27 → P 54 → P m
unfolding quarters
quarters-by m t P a b c d e f =
    one 3 (six 6 (six 9 (six 18 (six 27 (eqb m 54))))) a
    (λ t. one 6 (six 9 (six 18 (six 27 (eqb m 54)))) b
    (λ t. one 9 (six 18 (six 27 (eqb m 54))) c
    (λ t. one 18 (six 27 (eqb m 54)) d
    (λ t. one 27 (eqb m 54) e (λ t. subst P (sym (eqb→eq m 54 t)) f) t) t) t) t) t
  where
    six : ℕ → Bool → Bool
    six k more = cond (eqb m k) true more

    one : (k : ℕ) (more : Bool) → P k → (T more → P m) → T (cond (eqb m k) true more) → P m
    one k more p f = go (eqb m k) (eqb→eq m k)
      where
        go : (b : Bool) → (T b → m ≡ k) → T (cond b true more) → P m
        go true e t = subst P (sym (e tt)) p
        go false e t = f t

-- what the next whole number above 2^32 / m has more than 2^32 when it is multiplied by m
record Inverse (m : ℕ) : Type 0 where
  more : ℕ
  few : more ≤ 32
  is : (2 ^ 32 / m + 1) * m ≡ 2 ^ 32 + more
  some : 0 < m
  most : m ≤ 54
  small : 2 ^ 32 / m + 1 ≤ 2 ^ 31

inverse : (m : ℕ) → T (quarters m) → Inverse m
inverse m t =
    quarters-by m t Inverse
    (record { more = 2; few = lit≤ tt; is = refl; some = lit< tt; most = lit≤ tt; small = lit≤ tt })
    (record { more = 2; few = lit≤ tt; is = refl; some = lit< tt; most = lit≤ tt; small = lit≤ tt })
    (record { more = 5; few = lit≤ tt; is = refl; some = lit< tt; most = lit≤ tt; small = lit≤ tt })
    (record { more = 14; few = lit≤ tt; is = refl; some = lit< tt; most = lit≤ tt; small = lit≤ tt })
    (record { more = 5; few = lit≤ tt; is = refl; some = lit< tt; most = lit≤ tt; small = lit≤ tt })
    (record { more = 32; few = lit≤ tt; is = refl; some = lit< tt; most = lit≤ tt; small = lit≤ tt })

pub quarters-few : (m : ℕ) → T (quarters m) → (0 < m) × (m ≤ 54)
quarters-few m t = let i = inverse m t in (i.some, i.most)

-- the last of them, where it is none of the others
pub last-quarter : (m : ℕ) → T (quarters m) → ¬ (m ≡ 3) → ¬ (m ≡ 6) → ¬ (m ≡ 9) → ¬ (m ≡ 18) → ¬ (m ≡ 27) → m ≡ 54
last-quarter m t =
    quarters-by m t (λ k. ¬ (k ≡ 3) → ¬ (k ≡ 6) → ¬ (k ≡ 9) → ¬ (k ≡ 18) → ¬ (k ≡ 27) → k ≡ 54)
    (λ a b c d e. absurd (a refl))
    (λ a b c d e. absurd (b refl))
    (λ a b c d e. absurd (c refl))
    (λ a b c d e. absurd (d refl))
    (λ a b c d e. absurd (e refl))
    (λ a b c d e. refl)

-- for the search
pub ruleset quarter_laws = (last-quarter)

-- a length is four times its quarter, and 12 to 216
module _ (n : ℕ) (t : T (splits n)) where
  pub splits_four : (n % 4 ≡ 0) × T (quarters (n / 4))
  unfolding splits
  splits_four = (eqb→eq (n % 4) 0 (both_left (eqb (n % 4) 0) (quarters (n / 4)) t), both_right (eqb (n % 4) 0) (quarters (n / 4)) t)

  pub splits-few : (0 < n) × (n < 217)
  splits-few = let i = quarters-few (n / 4) splits_four.1 in (omega (arith, i.0), omega (arith, i.1, splits_four.0))

-- ---- a quotient by a multiplication: m, the multiplier K, the divisor S that takes the place of m, and what K m has more than S, e. With S = 2^s a shift by s
module _ (m K S e x : ℕ) (some : 0 < m) (is : K * m ≡ S + e) where
  scaled : x * K * m ≡ x * S + x * e
  scaled = mul_assoc x K m ∙ ap (λ (k : ℕ). x * k) is ∙ mul-add x S e

  turned : (q : ℕ) → q * S * m ≡ q * m * S
  turned q = mul_assoc q S m ∙ ap (λ (k : ℕ). q * k) (mul_comm S m) ∙ sym (mul_assoc q m S)

  not-less : (q : ℕ) → q * m ≤ x → q * S ≤ x * K
  not-less q h = go (dec_lt (x * K) (q * S))
    where
      go : Dec (x * K < q * S) → q * S ≤ x * K
      go (yes p) =
          absurd (omega (arith, mul-le-mul_right m p, suc-mul (x * K) m, scaled, turned q, mul-le-mul_right S h))
      go (no p) = omega arith

  less : x * e < S → (q : ℕ) → x + 1 ≤ q * m → x * K < q * S
  less few q h = go (dec_lt (x * K) (q * S))
    where
      go : Dec (x * K < q * S) → x * K < q * S
      go (yes p) = p
      go (no p) =
          let k : q * S ≤ x * K = omega arith in
          let l : (x + 1) * S ≤ q * m * S = mul-le-mul_right S h in
          absurd (omega (arith, mul-le-mul_right m k, l, add-mul x 1 S, one-mul S, scaled, turned q))

  pub by_product : 0 < S → x * e < S → x * K / S ≡ x / m
  by_product p few =
      let q = x / m in
      let d = div-add-mod x m in
      let r = mod-lt x some in
      let low : q * m ≤ x = omega (arith, d, mul_comm q m) in
      let high : x + 1 ≤ (q + 1) * m = omega (arith, d, r, mul_comm q m, add-mul q 1 m, one-mul m) in
      let a : x * K / S < q + 1 = (div-lt_iff_lt-mul {k = S} {x = x * K} {y = q + 1} p).1 (less few (q + 1) high) in
      let b : q ≤ x * K / S = (le-div_iff_mul-le {k = S} {x = q} {y = x * K} p).1 (not-less q low) in
      omega arith

-- ---- r / m by the upper half of a product, for the r of which it is below 65,536
r-most : (m : ℕ) → T (quarters m) → (r : ℕ) → r < 65536 * m → r ≤ 65536 * 54
r-most m t r p = omega (arith, (inverse m t).most)

pub over_is : (m : ℕ) → T (quarters m) → (r : ℕ) → r < 65536 * m → r * (2 ^ 32 / m + 1) / 2 ^ 32 ≡ r / m
over_is m t r p =
    let i = inverse m t in
    by_product m (2 ^ 32 / m + 1) (2 ^ 32) i.more r i.some i.is (lit< tt) (omega (arith, mul-le-mul (r-most m t r p) i.few))

pub over_fits : (m : ℕ) → T (quarters m) → (r : ℕ) → r < 65536 * m → r * (2 ^ 32 / m + 1) ≤ 65536 * 54 * 2 ^ 31
over_fits m t r p = mul-le-mul (r-most m t r p) (inverse m t).small
