-- Laws: C is zero at a quarter turn and at three, and nowhere else; so the kernel K is never zero, `K-some`: its angle is an odd number of d, and a quarter turn has N of them.
use Rattle.std.specs.Prelude.{◌≡◌, ◌≢◌, ℕ, ◌+◌, ◌-◌, ◌*◌, ◌/◌, ◌%◌, ◌≤◌, ◌<◌, T, pos, neg_ℤ, ◌≤ℤ◌}
use Rattle.std.proofs.Common.{sym, ap, ◌∙◌, mul-lt-mul_of_pos_right, div-add-mod', arith}
use Rattle.std.proofs.Math.Logic.{dite}
use Rattle.std.proofs.Math.Decide.{dec_le, dec_lt, ℕ_discrete}
use Rattle.std.proofs.Math.IntN.{neg_ℤ-neg_ℤ}
use Rattle.arithmetic.specs.IntegerLaws.{ints}
use Rattle.cosine.specs.Cosine.{turn, half_turn, quarter, first_quarter, C}
use Rattle.cosine.specs.Kernels.{tabled, d, K}
use Rattle.cosine.specs.TableLaws.{numbers, series_rule, monotone}
use Rattle.cosine.specs.CosineLaws.{C_quarter_1, C_quarter_2, C_quarter_3, C_quarter_4}
use Rattle.cosine.specs.LengthLaws.{Part, part_of}

-- ---- the table is above zero before its end: it never increases, and its last number but one is 488,025
last_but_one : first_quarter (quarter - 1) ≡ pos 488025
unfolding numbers
last_but_one = series_rule (quarter - 1) (omega arith)

above : (t : ℕ) → t < quarter → first_quarter t ≢ pos 0
above t h z =
    let e : t + (quarter - 1 - t) ≡ quarter - 1 = omega arith in
    let m : first_quarter (quarter - 1) ≤ℤ first_quarter t = rw e at (monotone t (quarter - 1 - t) (omega arith)) in
    let k : pos 488025 ≤ℤ pos 0 = rw (last_but_one, z) at m in
    omega (arith, simp ints at k)

above_neg : (t : ℕ) → t < quarter → neg_ℤ (first_quarter t) ≢ pos 0
above_neg t h z = above t h (sym (neg_ℤ-neg_ℤ (first_quarter t)) ∙ ap neg_ℤ z)

-- ---- where C is zero
pub C-some : (t : ℕ) → t % turn ≢ quarter → t % turn ≢ half_turn + quarter → C (pos t) ≢ pos 0
C-some t p q = go (dec_le r quarter) (dec_le r half_turn) (dec_le (half_turn + quarter) r)
  where
    r : ℕ
    r = t % turn

    go : Dec (r ≤ quarter) → Dec (r ≤ half_turn) → Dec (half_turn + quarter ≤ r) → C (pos t) ≢ pos 0
    go (yes a) b c = rw (C_quarter_1 t a) (above r (omega (arith, p)))
    go (no a) (yes b) c = rw (C_quarter_2 t (omega arith) b) (above_neg (half_turn - r) (omega arith))
    go (no a) (no b) (yes c) = rw (C_quarter_4 t c) (above (turn - r) (omega (arith, q)))
    go (no a) (no b) (no c) = rw (C_quarter_3 t (omega arith) (omega arith)) (above_neg (r - half_turn) (omega arith))

-- ---- an odd number of d is no odd number of quarter turns
cancel : (d x y : ℕ) → 0 < d → d * x ≡ d * y → x ≡ y
cancel d x y p e =
    dite (dec_lt x y) (λ (h : x < y). absurd (omega (arith, mul-lt-mul_of_pos_right h p)))
    (λ n. dite (dec_lt y x) (λ (h : y < x). absurd (omega (arith, mul-lt-mul_of_pos_right h p))) (λ m. omega (arith, n, m)))

module _ (N : ℕ) (len : Part N) where
  odd-angle : (u j : ℕ) → d N * (2 * u + 1) ≢ quarter * j
  odd-angle u j e =
      let f : d N * (2 * u + 1) ≡ d N * (N * j) = e ∙ ap (λ (q : ℕ). q * j) (sym len.parts) ∙ regroup (d N) N j in
      let g : 2 * u + 1 ≡ N * j = cancel (d N) (2 * u + 1) (N * j) some f in
      omega (arith, g, ap (λ (n : ℕ). n * j) len.four)
    where
      regroup : (a b c : ℕ) → a * b * c ≡ a * (b * c)
      regroup a b c = omega arith

      some : 0 < d N
      some = go (ℕ_discrete (d N) 0)
        where
          go : Dec (d N ≡ 0) → 0 < d N
          go (yes z) = absurd (omega (arith, len.parts, ap (λ (x : ℕ). x * N) z))
          go (no n) = omega (arith, n)

-- K is never zero
pub K-some : (N : ℕ) → T (tabled N) → (n k : ℕ) → K N n k ≢ pos 0
unfolding K
K-some N t n k = C-some a (λ e. never 1 (whole quarter e)) (λ e. never 3 (whole (half_turn + quarter) e))
  where
    len : Part N
    len = part_of N t

    o : ℕ
    o = (2 * n + 1 + N / 2) * (2 * k + 1)

    a : ℕ
    a = d N * (2 * n + 1 + N / 2) * (2 * k + 1)

    whole : (r : ℕ) → a % turn ≡ r → a ≡ turn * (a / turn) + r
    whole r e = omega (arith, div-add-mod' a turn, e)

    u : ℕ
    u = 2 * (n + N / 4) * k + (n + N / 4) + k

    odd : a ≡ d N * (2 * u + 1)
    odd = let h : N / 2 ≡ 2 * (N / 4) = omega (arith, len.four) in rw h (go (d N) n (N / 4) k)
      where
        go : (d n w k : ℕ) → d * (2 * n + 1 + 2 * w) * (2 * k + 1) ≡ d * (2 * (2 * (n + w) * k + (n + w) + k) + 1)
        go d n w k = omega arith

    never : (j : ℕ) → a ≡ turn * (a / turn) + quarter * j → ⊥
    never j e = odd-angle N len u (4 * (a / turn) + j) (sym odd ∙ e ∙ omega arith)
