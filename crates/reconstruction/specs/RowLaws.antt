-- Laws of one row of the inverse: what a kernel's row i makes of the sums of an input v against all rows is c times v i, up to a bound.
use Rattle.std.specs.Prelude.{◌≡◌, ◌≢◌, eqb, pos, ◌+ℤ◌, ◌-ℤ◌, ◌*ℤ◌}
use Rattle.std.proofs.Math.Path.{sym}
use Rattle.std.proofs.Common.{ap₂, ◌∙◌, le_refl, le_trans, mul-le-mul_left, arith, eqb→eq}
use Prim.Native.Nat.{ℕ, ◌+◌, ◌*◌, ◌≤◌, ◌<◌}
use Rattle.std.proofs.Math.Dec.{eqb_refl}
use Rattle.std.proofs.Math.IntN.{ℤ, nat_abs, *ℤ_comm}
use Rattle.arithmetic.specs.Sums.{sum, sum_ℕ}
use Rattle.arithmetic.specs.IntegerLaws.{ints}
use Rattle.arithmetic.specs.RingLaws.{*ℤ_lcomm}
use Rattle.arithmetic.specs.OrderLaws.{abs_add, abs_mul_le, abs_via}
use Rattle.arithmetic.specs.SumLaws.{sum_ext, sum_add, sum_sub, sum_scale, sum_swap, sum_one, sum_abs, sum_weighed}
use Rattle.arithmetic.specs.TestLaws.{cond_yes, cond_no}
use Rattle.cosine.specs.PackLaws.{product, diagonal, defect}

diagonal-same : (c i : ℕ) → diagonal c i i ≡ pos c
unfolding diagonal
diagonal-same c i = cond_yes (eqb i i) (pos c) (pos 0) (eqb_refl i)

diagonal-other : (c i j : ℕ) → j ≢ i → diagonal c i j ≡ pos 0
unfolding diagonal
diagonal-other c i j n = cond_no (eqb i j) (pos c) (pos 0) (λ t. n (sym (eqb→eq i j t)))

module _ (m : ℕ) (D : ℕ → ℕ → ℤ) (v : ℕ → ℤ) (i : ℕ) where
  -- the sum over k of (the sum over j of v j × D j k) × D i k is that over j of v j times the product of rows i and j
  exchange : sum m (λ k. sum m (λ j. v j *ℤ D j k) *ℤ D i k) ≡ sum m (λ j. v j *ℤ product m D i j)
  unfolding product
  exchange =
      sum_ext m (λ k. sum m (λ j. v j *ℤ D j k) *ℤ D i k) (λ k. sum m (λ j. v j *ℤ (D i k *ℤ D j k))) (λ k p. inside k)
      ∙ sum_swap m m (λ k j. v j *ℤ (D i k *ℤ D j k))
      ∙ sum_ext m (λ j. sum m (λ k. v j *ℤ (D i k *ℤ D j k))) (λ j. v j *ℤ sum m (λ k. D i k *ℤ D j k)) (λ j p. sum_scale m (v j) (λ k. D i k *ℤ D j k))
    where
      inside : (k : ℕ) → sum m (λ j. v j *ℤ D j k) *ℤ D i k ≡ sum m (λ j. v j *ℤ (D i k *ℤ D j k))
      inside k =
          *ℤ_comm (sum m (λ j. v j *ℤ D j k)) (D i k)
          ∙ sym (sum_scale m (D i k) (λ j. v j *ℤ D j k))
          ∙ sum_ext m (λ j. D i k *ℤ (v j *ℤ D j k)) (λ j. v j *ℤ (D i k *ℤ D j k)) (λ j q. *ℤ_lcomm (D i k) (v j) (D j k))

  diagonal-sum : (c : ℕ) → i < m → sum m (λ j. v j *ℤ diagonal c i j) ≡ v i *ℤ pos c
  diagonal-sum c p =
      sum_one m i (λ j. v j *ℤ diagonal c i j) p (λ j q n. rw (diagonal-other c i j n) (simp ints (omega arith)))
      ∙ rw (diagonal-same c i)

  -- the exchanged sum is c × v i, up to B times the row's defect
  pub near-diagonal : (c B : ℕ) → i < m → ((j : ℕ) → j < m → nat_abs (v j) ≤ B) → nat_abs (sum m (λ j. v j *ℤ product m D i j) -ℤ v i *ℤ pos c) ≤ B * defect m D c i
  unfolding defect
  near-diagonal c B p b =
      rw
      (← (diagonal-sum c p), ← (sum_sub m (λ j. v j *ℤ product m D i j) (λ j. v j *ℤ diagonal c i j)))
      (sum_weighed m B (λ j. v j *ℤ product m D i j -ℤ v j *ℤ diagonal c i j) (λ j. nat_abs (off j)) (λ j q. rw (factor (v j) (product m D i j) (diagonal c i j)) (abs_mul_le (v j) (off j) (b j q) (le_refl (nat_abs (off j))))))
    where
      off : ℕ → ℤ
      off j = product m D i j -ℤ diagonal c i j

      factor : (a b c : ℤ) → a *ℤ b -ℤ a *ℤ c ≡ a *ℤ (b -ℤ c)
      factor a b c = simp ints (omega arith)

-- ---- Z differs from X, and P X from S: what a row d makes of P Z, against what it makes of S
module _ (m P O H A : ℕ) (X Z S d : ℕ → ℤ)
    (d≤ : (k : ℕ) → k < m → nat_abs (d k) ≤ O)
    (X≈ : (k : ℕ) → k < m → nat_abs (pos P *ℤ X k -ℤ S k) ≤ H)
    (Z≈ : sum_ℕ m (λ k. nat_abs (Z k -ℤ X k)) ≤ A) where
  -- P Z = (P X - S) + S + P (Z - X), times the row
  parts : pos P *ℤ sum m (λ k. Z k *ℤ d k) ≡ sum m (λ k. (pos P *ℤ X k -ℤ S k) *ℤ d k) +ℤ sum m (λ k. S k *ℤ d k) +ℤ pos P *ℤ sum m (λ k. (Z k -ℤ X k) *ℤ d k)
  parts =
      sym (sum_scale m (pos P) (λ k. Z k *ℤ d k))
      ∙ sum_ext m (λ k. pos P *ℤ (Z k *ℤ d k)) (λ k. (pos P *ℤ X k -ℤ S k) *ℤ d k +ℤ S k *ℤ d k +ℤ pos P *ℤ ((Z k -ℤ X k) *ℤ d k)) (λ k q. one P (X k) (Z k) (S k) (d k))
      ∙ sum_add m (λ k. (pos P *ℤ X k -ℤ S k) *ℤ d k +ℤ S k *ℤ d k) (λ k. pos P *ℤ ((Z k -ℤ X k) *ℤ d k))
      ∙ ap₂ (λ (x y : ℤ). x +ℤ y) (sum_add m (λ k. (pos P *ℤ X k -ℤ S k) *ℤ d k) (λ k. S k *ℤ d k)) (sum_scale m (pos P) (λ k. (Z k -ℤ X k) *ℤ d k))
    where
      one : (p : ℕ) (x z s d : ℤ) → pos p *ℤ (z *ℤ d) ≡ (pos p *ℤ x -ℤ s) *ℤ d +ℤ s *ℤ d +ℤ pos p *ℤ ((z -ℤ x) *ℤ d)
      one p x z s d = simp ints (omega arith)

  pub rounded : nat_abs (sum m (λ k. (pos P *ℤ X k -ℤ S k) *ℤ d k)) ≤ m * (H * O)
  rounded = sum_abs m (λ k. (pos P *ℤ X k -ℤ S k) *ℤ d k) (H * O) (λ k q. abs_mul_le (pos P *ℤ X k -ℤ S k) (d k) (X≈ k q) (d≤ k q))

  changed : nat_abs (sum m (λ k. (Z k -ℤ X k) *ℤ d k)) ≤ O * A
  changed =
      le_trans
      (sum_weighed m O (λ k. (Z k -ℤ X k) *ℤ d k) (λ k. nat_abs (Z k -ℤ X k)) (λ k q. rw (*ℤ_comm (Z k -ℤ X k) (d k)) (abs_mul_le (d k) (Z k -ℤ X k) (d≤ k q) (le_refl (nat_abs (Z k -ℤ X k))))))
      (mul-le-mul_left O Z≈)

  spread : nat_abs (pos P *ℤ sum m (λ k. Z k *ℤ d k) -ℤ sum m (λ k. S k *ℤ d k)) ≤ m * (H * O) + P * (O * A)
  spread = rw parts
      (three (sum m (λ k. (pos P *ℤ X k -ℤ S k) *ℤ d k)) (sum m (λ k. S k *ℤ d k)) (sum m (λ k. (Z k -ℤ X k) *ℤ d k)) (m * (H * O)) (O * A) rounded changed)
    where
      three : (e s c : ℤ) (E C : ℕ) → nat_abs e ≤ E → nat_abs c ≤ C → nat_abs (e +ℤ s +ℤ pos P *ℤ c -ℤ s) ≤ E + P * C
      three e s c E C h k =
          let j : nat_abs (pos P *ℤ c) ≤ P * C = abs_mul_le (pos P) c (le_refl P) k in
          let f : e +ℤ s +ℤ pos P *ℤ c -ℤ s ≡ e +ℤ pos P *ℤ c = simp ints (omega arith) in
          rw f (omega (arith, abs_add e (pos P *ℤ c)))

-- the row i of D, where X are the rounded sums of v: up to the rounding of X, the changes of Z and the row's defect
pub row : (m P O H A c B G i : ℕ) (D : ℕ → ℕ → ℤ) (v X Z : ℕ → ℤ) → i < m →
    ((k : ℕ) → k < m → nat_abs (D i k) ≤ O) →
    ((k : ℕ) → k < m → nat_abs (pos P *ℤ X k -ℤ sum m (λ j. v j *ℤ D j k)) ≤ H) →
    sum_ℕ m (λ k. nat_abs (Z k -ℤ X k)) ≤ A →
    ((j : ℕ) → j < m → nat_abs (v j) ≤ B) →
    defect m D c i ≤ G →
    nat_abs (pos P *ℤ sum m (λ k. Z k *ℤ D i k) -ℤ v i *ℤ pos c) ≤ m * (H * O) + P * (O * A) + B * G
row m P O H A c B G i D v X Z p D≤ X≈ Z≈ v≤ G≤ =
    let a = rw (exchange m D v i) at (spread m P O H A X Z (λ k. sum m (λ j. v j *ℤ D j k)) (λ k. D i k) D≤ X≈ Z≈) in
    let b = le_trans (near-diagonal m D v i c B p v≤) (mul-le-mul_left B G≤) in
    abs_via (pos P *ℤ sum m (λ k. Z k *ℤ D i k)) (sum m (λ j. v j *ℤ product m D i j)) (v i *ℤ pos c) a b
