-- Laws of one block: 8 U(n), made of its changed coefficients Z, is N/2 times the windowed sample with its mirrored one, up to a bound.
-- On the first hop the mirrored one is taken off, on the second it is added.
use Rattle.std.specs.Prelude.{◌≡◌, List, ℕ, ◌+◌, ◌-◌, ◌*◌, ◌/◌, ◌^◌, ◌≤◌, ◌<◌, T, ℤ, pos, neg_ℤ, nat_abs, ◌+ℤ◌, ◌-ℤ◌, ◌*ℤ◌}
use Rattle.std.proofs.Common.{arith, lit<}
use Rattle.std.proofs.Math.Decide.{dec_lt}
use Rattle.arithmetic.specs.Sums.{sum, sum_ℕ}
use Rattle.arithmetic.specs.Lists.{at}
use Rattle.arithmetic.specs.IntegerLaws.{ints, posints}
use Rattle.arithmetic.specs.OrderLaws.{posbounds, abs_neg}
use Rattle.arithmetic.specs.RoundingLaws.{rnd_near}
use Rattle.cosine.specs.Kernels.{tabled, K, F}
use Rattle.cosine.specs.LengthLaws.{Part, part_of}
use Rattle.cosine.specs.KernelLaws.{F-size}
use Rattle.cosine.specs.GramLaws.{gram}
use Rattle.transform.specs.Analysis.{S, X}
use Rattle.transform.specs.Synthesis.{U}
use Rattle.transform.specs.FoldLaws.{folded, folded_low, folded-high, S-folded, folded-size, inverse_first, inverse_middle, inverse_last}
use Rattle.reconstruction.specs.RowLaws.{row}

-- from a row's sum σ, near h × 2^24 × w, to the rounded u: the large powers of two go out
cut : (h A : ℕ) (u σ w : ℤ) →
    nat_abs (pos (2 ^ 28) *ℤ σ -ℤ w *ℤ pos (h * 2 ^ 52)) ≤ (h + h) * (2 ^ 27 * 2 ^ 26) + 2 ^ 28 * (2 ^ 26 * A) + 2 ^ 24 * (4 * h * 2 ^ 27) →
    nat_abs (pos (2 ^ 26) *ℤ u -ℤ σ) ≤ 2 ^ 25 →
    nat_abs (pos 8 *ℤ u -ℤ pos (h + h) *ℤ w) ≤ 12 * h + 8 * A + 4
cut h A u σ w a b = simp posbounds (omega (arith, simp posbounds at a, simp posbounds at b))

-- ---- places, h being N/4
first-low : (h n : ℕ) → 3 * h - 1 - (n + h) ≡ h + h - 1 - n
first-low h n = omega arith

module _ (h n : ℕ) (p : n < h + h) where
  first-high : 3 * h - 1 - n - h ≡ h + h - 1 - n
  first-high = omega arith

  first_back : 3 * h - 1 - (3 * h - 1 - n) ≡ n
  first_back = omega arith

module _ (h n : ℕ) where
  second-low : n < h → 3 * h - 1 - (3 * h - 1 - (h + h + n)) ≡ h + h + n
  second-low p = omega arith

  second_low_mirror : n < h → 3 * h + (3 * h - 1 - (h + h + n)) ≡ h + h + (h + h - 1 - n)
  second_low_mirror p = omega arith

  second-high : h ≤ n → 3 * h + (h + h + n - 3 * h) ≡ h + h + n
  second-high p = omega arith

  second_high_mirror : h ≤ n → n < h + h → 3 * h - 1 - (h + h + n - 3 * h) ≡ h + h + (h + h - 1 - n)
  second_high_mirror p q = omega arith

module _ (N : ℕ) (t : T (tabled N)) (A : ℕ) (y : ℕ → ℤ) (y≤ : (n : ℕ) → n < N → nat_abs (y n) ≤ 2 ^ 23)
    (Z : List ℤ) (Z≈ : sum_ℕ (N / 2) (λ k. nat_abs (at Z k -ℤ X N y k)) ≤ A) where
  abbrev h : ℕ
  h = N / 4

  len : Part N
  len = part_of N t

  half : N / 2 ≡ h + h
  half = omega (arith, len.four)

  -- the sum over k of Z(k) × F(p,k)
  abbrev τ : ℕ → ℤ
  τ p = sum (N / 2) (λ k. at Z k *ℤ F N p k)

  at_row : (p : ℕ) → p < N / 2 → nat_abs (pos (2 ^ 28) *ℤ τ p -ℤ folded N y p *ℤ pos (h * 2 ^ 52)) ≤ N / 2 * (2 ^ 27 * 2 ^ 26) + 2 ^ 28 * (2 ^ 26 * A) + 2 ^ 24 * (N * 2 ^ 27)
  at_row p q = row (N / 2) (2 ^ 28) (2 ^ 26) (2 ^ 27) A (h * 2 ^ 52) (2 ^ 24) (N * 2 ^ 27) p (F N) (folded N y) (X N y) (at Z) q
      (λ k r. F-size N p k)
      (λ k r. rw (← (S-folded N len y k)) (unfold X in rnd_near (S N y k) {b = 2 ^ 28} (lit< tt)))
      Z≈
      (folded-size N len (2 ^ 23) y y≤)
      (gram N t p q)

  -- the sum over k of Z(k) × K(n,k)
  abbrev Σ' : ℕ → ℤ
  Σ' n = sum (N / 2) (λ k. at Z k *ℤ K N n k)

  U-near : (n : ℕ) → nat_abs (pos (2 ^ 26) *ℤ U N Z n -ℤ Σ' n) ≤ 2 ^ 25
  unfolding U
  U-near n = rnd_near (Σ' n) {b = 2 ^ 26} (lit< tt)

  -- 8 U(n) is near N/2 times w
  abbrev pub Near : ℕ → ℤ → Type 0
  Near n w = nat_abs (pos 8 *ℤ U N Z n -ℤ pos (N / 2) *ℤ w) ≤ 3 * N + 8 * A + 4

  from-sum : (n : ℕ) (w : ℤ) → nat_abs (pos (2 ^ 28) *ℤ Σ' n -ℤ w *ℤ pos (h * 2 ^ 52)) ≤ N / 2 * (2 ^ 27 * 2 ^ 26) + 2 ^ 28 * (2 ^ 26 * A) + 2 ^ 24 * (N * 2 ^ 27) → Near n w
  from-sum n w a =
      let c = cut h A (U N Z n) (Σ' n) w (omega (arith, a, len.four)) (U-near n) in
      rw half (omega (arith, c, len.four))

  -- the sum at place n is that of the folded row p, or its negative
  plus : (n p : ℕ) → p < N / 2 → Σ' n ≡ τ p → Near n (folded N y p)
  plus n p q e = from-sum n (folded N y p) (rw e (at_row p q))

  minus : (n p : ℕ) → p < N / 2 → Σ' n ≡ neg_ℤ (τ p) → Near n (neg_ℤ (folded N y p))
  minus n p q e = from-sum n (neg_ℤ (folded N y p)) (rw e (turn (τ p) (folded N y p) (pos (h * 2 ^ 52)) (at_row p q)))
    where
      turn : (σ w c : ℤ) {E : ℕ} → nat_abs (pos (2 ^ 28) *ℤ σ -ℤ w *ℤ c) ≤ E → nat_abs (pos (2 ^ 28) *ℤ neg_ℤ σ -ℤ neg_ℤ w *ℤ c) ≤ E
      turn σ w c b =
          let e : pos (2 ^ 28) *ℤ neg_ℤ σ -ℤ neg_ℤ w *ℤ c ≡ neg_ℤ (pos (2 ^ 28) *ℤ σ -ℤ w *ℤ c) = simp posints (omega arith) in
          rw (e, abs_neg) b

  pub first-hop : (n : ℕ) → n < N / 2 → Near n (y n -ℤ y (N / 2 - 1 - n))
  first-hop n q = go (dec_lt n h)
    where
      p : n < h + h
      p = omega (arith, half)

      alg : (a b : ℤ) → neg_ℤ (b -ℤ a) ≡ a -ℤ b
      alg a b = simp ints (omega arith)

      go : Dec (n < h) → Near n (y n -ℤ y (N / 2 - 1 - n))
      go (yes l) =
          let i : n + h - h ≡ n = omega arith in
          let w : folded N y (n + h) ≡ y n -ℤ y (h + h - 1 - n) = rw (i, first-low h n) at (folded-high N y (n + h) (omega arith)) in
          rw (w, ← half) at (plus n (n + h) (omega (arith, half)) (inverse_first N len Z n l))
      go (no l) =
          let j = 3 * h - 1 - n in
          let w : folded N y j ≡ y (h + h - 1 - n) -ℤ y n = rw (first-high h n p, first_back h n p) at (folded-high N y j (omega (arith, p))) in
          rw (w, alg, ← half) at (minus n j (omega (arith, half)) (inverse_middle N len Z n (omega arith) (omega (arith, p))))

  pub second-hop : (n : ℕ) → n < N / 2 → Near (N / 2 + n) (y (N / 2 + n) +ℤ y (N / 2 + (N / 2 - 1 - n)))
  second-hop n q = rw half (go (dec_lt n h))
    where
      p : n < h + h
      p = omega (arith, half)

      alg : (a b : ℤ) → neg_ℤ (neg_ℤ a -ℤ b) ≡ a +ℤ b
      alg a b = simp ints (omega arith)

      alg' : (a b : ℤ) → neg_ℤ (neg_ℤ a -ℤ b) ≡ b +ℤ a
      alg' a b = simp ints (omega arith)

      go : Dec (n < h) → nat_abs (pos 8 *ℤ U N Z (h + h + n) -ℤ pos (h + h) *ℤ (y (h + h + n) +ℤ y (h + h + (h + h - 1 - n)))) ≤ 3 * N + 8 * A + 4
      go (yes l) =
          let j = 3 * h - 1 - (h + h + n) in
          let w : folded N y j ≡ neg_ℤ (y (h + h + n)) -ℤ y (h + h + (h + h - 1 - n)) = rw (second-low h n l, second_low_mirror h n l) at (folded_low N y j (omega arith)) in
          rw (w, alg, half) at (minus (h + h + n) j (omega (arith, half)) (inverse_middle N len Z (h + h + n) (omega arith) (omega arith)))
      go (no l) =
          let j = h + h + n - 3 * h in
          let g : h ≤ n = omega arith in
          let w : folded N y j ≡ neg_ℤ (y (h + h + (h + h - 1 - n))) -ℤ y (h + h + n) = rw (second_high_mirror h n g p, second-high h n g) at (folded_low N y j (omega (arith, p))) in
          rw (w, alg', half) at (minus (h + h + n) j (omega (arith, half)) (inverse_last N len Z (h + h + n) (omega arith)))
