-- Laws of the test by which the products of a kernel's rows are computed: all the products of one row with the others at once, in one
-- number with a digit of base X for each. Entries are made positive first: E j k stands for D j k + O.
use Rattle.std.specs.Prelude.{◌≡◌, Bool, true, false, List, [], ◌∷◌, T, leb, eqb, ℤ, pos, ◌-ℤ◌, ◌*ℤ◌}
use Rattle.std.proofs.Math.Path.{refl, sym, ap, ap₂, subst}
use Rattle.std.proofs.Common.{◌∙◌, not-suc-le-zero, arith, leb→le}
use Rattle.std.proofs.Math.Bool.{cond}
use Prim.Native.Nat.{ℕ, zero, suc, ◌+◌, ◌-◌, ◌*◌, ◌/◌, ◌%◌, ◌≤◌, ◌<◌}
use Rattle.std.proofs.Math.Nat.{zero-add, add-mul-mod_self_left, add-mul-div_left, mod-eq_of_lt, div-eq_of_lt, mul-le-mul}
use Rattle.std.proofs.Math.Decide.{dec_lt}
use Rattle.std.proofs.Math.IntN.{nat_abs}
use Rattle.arithmetic.specs.Sums.{sum, sum_ℕ}
use Rattle.arithmetic.specs.Lists.{every}
use Rattle.arithmetic.specs.IntegerLaws.{◌⊖◌, ⊖_zero, ⊖_neg, ⊖_add, ⊖_mul, pos_⊖, abs_⊖}
use Rattle.arithmetic.specs.SumLaws.{sum_ext, sum_ℕ_ext, sum_ℕ_le}
use Rattle.arithmetic.specs.TestLaws.{both_left, both_right}

-- f (n - 1), .., f 0: the order in which the digits come out
abbrev pub countdown : {A : Type 0} → ℕ → (ℕ → A) → List A
countdown zero f = []
countdown (suc n) f = f n ∷ countdown n f

abbrev pub dot : List ℕ → List ℕ → ℕ
dot [] ys = 0
dot (x ∷ xs) [] = 0
dot (x ∷ xs) (y ∷ ys) = x * y + dot xs ys

abbrev pub dist : ℕ → ℕ → ℕ
dist a b = (a - b) + (b - a)

-- f (n - 1) + X f (n - 2) + ..
abbrev pub pack : ℕ → ℕ → (ℕ → ℕ) → ℕ
pack X zero f = 0
pack X (suc n) f = f n + X * pack X n f

-- the digits of w against what is wanted of them. An entry of the list is a place and the sum of its row, S is the sum of row i
abbrev pub errors : ℕ → ℕ → ℕ → ℕ → ℕ → ℕ → ℕ → List (ℕ × ℕ) → ℕ
errors X O Q c i S w [] = 0
errors X O Q c i S w (s ∷ ss) = errors X O Q c i S (w / X) ss + dist (w % X + Q) (O * (S + s.1) + cond (eqb i s.0) c 0)

-- ---- sums of natural numbers
dot-countdown : (f g : ℕ → ℕ) (n : ℕ) → dot (countdown n f) (countdown n g) ≡ sum_ℕ n (λ k. f k * g k)
unfolding sum_ℕ
dot-countdown f g zero = refl
dot-countdown f g (suc n) = omega (arith, dot-countdown f g n)

sum_ℕ_zero : (a : ℕ → ℕ) (n : ℕ) → sum_ℕ n (λ k. a k * 0) ≡ 0
unfolding sum_ℕ
sum_ℕ_zero a zero = refl
sum_ℕ_zero a (suc n) = omega (arith, sum_ℕ_zero a n)

sum_ℕ_lin : (X : ℕ) (a f g : ℕ → ℕ) (n : ℕ) → sum_ℕ n (λ k. a k * (f k + X * g k)) ≡ sum_ℕ n (λ k. a k * f k) + X * sum_ℕ n (λ k. a k * g k)
unfolding sum_ℕ
sum_ℕ_lin X a f g zero = omega arith
sum_ℕ_lin X a f g (suc n) = omega (arith, sum_ℕ_lin X a f g n)

sum_ℕ_const : (f : ℕ → ℕ) (c n : ℕ) → sum_ℕ n (λ k. f k + c) ≡ sum_ℕ n f + n * c
unfolding sum_ℕ
sum_ℕ_const f c zero = omega arith
sum_ℕ_const f c (suc n) = omega (arith, sum_ℕ_const f c n)

sum_ℕ_two : (c : ℕ) (f g : ℕ → ℕ) (n : ℕ) → sum_ℕ n (λ k. f k * c + c * g k) ≡ c * (sum_ℕ n f + sum_ℕ n g)
unfolding sum_ℕ
sum_ℕ_two c f g zero = omega arith
sum_ℕ_two c f g (suc n) = omega (arith, sum_ℕ_two c f g n)

-- a packed sum of products is the packed products' sums
pack_lin : (X : ℕ) (a : ℕ → ℕ) (b : ℕ → ℕ → ℕ) (m n : ℕ) → sum_ℕ m (λ k. a k * pack X n (λ j. b j k)) ≡ pack X n (λ j. sum_ℕ m (λ k. a k * b j k))
pack_lin X a b m zero = sum_ℕ_zero a m
pack_lin X a b m (suc n) =
    sum_ℕ_lin X a (b n) (λ k. pack X n (λ j. b j k)) m ∙ ap (λ (p : ℕ). sum_ℕ m (λ k. a k * b n k) + X * p) (pack_lin X a b m n)

-- ---- the digits come out again
module _ (X : ℕ) (some : 0 < X) (O Q c i S : ℕ) (s u : ℕ → ℕ) (fits : (j : ℕ) → u j < X) where
  abbrev error : ℕ → ℕ
  error j = dist (u j + Q) (O * (S + s j) + cond (eqb i j) c 0)

  errors_are : (n : ℕ) → errors X O Q c i S (pack X n u) (countdown n (λ j. (j, s j))) ≡ sum_ℕ n error
  unfolding sum_ℕ
  errors_are zero = refl
  errors_are (suc n) =
      let digit : (u n + X * pack X n u) % X ≡ u n = add-mul-mod_self_left (u n) X (pack X n u) ∙ mod-eq_of_lt (fits n) in
      let more : (u n + X * pack X n u) / X ≡ pack X n u = add-mul-div_left (u n) (pack X n u) some ∙ ap (λ (q : ℕ). q + pack X n u) (div-eq_of_lt (fits n)) ∙ zero-add (pack X n u) in
      rw (digit, more, errors_are n)

-- ---- the same of whole numbers
sum_⊖ : (n : ℕ) (x y : ℕ → ℕ) → sum n (λ k. x k ⊖ y k) ≡ sum_ℕ n x ⊖ sum_ℕ n y
unfolding sum sum_ℕ
sum_⊖ zero x y = sym ⊖_zero
sum_⊖ (suc n) x y = rw (sum_⊖ n x y) (⊖_add (sum_ℕ n x) (sum_ℕ n y) (x n) (y n))

-- c at its own place, 0 elsewhere
unfoldable pub diagonal : ℕ → ℕ → ℕ → ℤ
diagonal c i j = cond (eqb i j) (pos c) (pos 0)

less : (b : Bool) (c p n : ℕ) → (p ⊖ n) -ℤ cond b (pos c) (pos 0) ≡ p ⊖ (n + cond b c 0)
less b c p n = rw (chosen b, pos_⊖ (cond b c 0), ⊖_neg (cond b c 0) 0, ⊖_add p n 0 (cond b c 0)) (ap (λ (x : ℕ). x ⊖ (n + cond b c 0)) (omega arith))
  where
    chosen : (b : Bool) → cond b (pos c) (pos 0) ≡ pos (cond b c 0)
    chosen true = refl
    chosen false = refl

-- the product of two rows of D
unfoldable pub product : ℕ → (ℕ → ℕ → ℤ) → ℕ → ℕ → ℤ
product M D i j = sum M (λ k. D i k *ℤ D j k)

-- how far row i of D is from orthogonal to the others and from length c, the sum over all rows. Shut, so that no proof that cites a bound on it computes it
unfoldable pub defect : ℕ → (ℕ → ℕ → ℤ) → ℕ → ℕ → ℕ
defect M D c i = sum_ℕ M (λ j. nat_abs (product M D i j -ℤ diagonal c i j))

-- ---- the test
module _ (X O M : ℕ) (E : ℕ → ℕ → ℕ) (c B : ℕ) where
  abbrev columns : List ℕ
  columns = countdown M (λ k. pack X M (λ j. E j k))

  abbrev sums : List (ℕ × ℕ)
  sums = countdown M (λ j. (j, sum_ℕ M (E j)))

  abbrev row : ℕ → Bool
  row i = leb (errors X O (M * (O * O)) c i (sum_ℕ M (E i)) (dot (countdown M (E i)) columns) sums) B

  abbrev pub passes : Bool
  passes = every row (countdown M (λ i. i))

every-countdown : (p : ℕ → Bool) (n : ℕ) → T (every p (countdown n (λ i. i))) → (i : ℕ) → i < n → T (p i)
unfolding every
every-countdown p zero t i h = absurd (not-suc-le-zero h)
every-countdown p (suc n) t i h = go (dec_lt i n) (every-countdown p n (both_right (p n) (every p (countdown n (λ i. i))) t))
  where
    go : Dec (i < n) → ((i : ℕ) → i < n → T (p i)) → T (p i)
    go (yes q) ih = ih i q
    go (no q) ih = let e : i ≡ n = omega arith in rw e (both_left (p n) (every p (countdown n (λ i. i))) t)

module _ (X O M : ℕ) (E : ℕ → ℕ → ℕ) (D : ℕ → ℕ → ℤ) (c B b : ℕ) (some : 0 < X) (small : (j k : ℕ) → E j k ≤ b) (room : M * (b * b) < X) (same : (j k : ℕ) → D j k ≡ E j k ⊖ O) where
  G : ℕ → ℕ → ℕ
  G i j = sum_ℕ M (λ k. E i k * E j k)

  G-fits : (i j : ℕ) → G i j < X
  unfolding G
  G-fits i j = omega (arith, sum_ℕ_le M (b * b) (λ k. E i k * E j k) (λ k p. mul-le-mul (small i k) (small j k)), room)

  product_is : (i j : ℕ) → product M D i j ≡ (G i j + M * (O * O)) ⊖ (O * (sum_ℕ M (E i) + sum_ℕ M (E j)))
  unfolding product G
  product_is i j =
      sum_ext M (λ k. D i k *ℤ D j k) (λ k. (E i k * E j k + O * O) ⊖ (E i k * O + O * E j k)) (λ k p. rw (same i k, same j k) (⊖_mul (E i k) O (E j k) O))
      ∙ sum_⊖ M (λ k. E i k * E j k + O * O) (λ k. E i k * O + O * E j k)
      ∙ ap₂ (λ (p n : ℕ). p ⊖ n) (sum_ℕ_const (λ k. E i k * E j k) (O * O) M) (sum_ℕ_two O (E i) (E j) M)

  error-is : (i j : ℕ) → dist (G i j + M * (O * O)) (O * (sum_ℕ M (E i) + sum_ℕ M (E j)) + cond (eqb i j) c 0) ≡ nat_abs (product M D i j -ℤ diagonal c i j)
  unfolding diagonal
  error-is i j =
      sym (rw (product_is i j, less (eqb i j) c (G i j + M * (O * O)) (O * (sum_ℕ M (E i) + sum_ℕ M (E j))))
      (abs_⊖ (G i j + M * (O * O)) (O * (sum_ℕ M (E i) + sum_ℕ M (E j)) + cond (eqb i j) c 0)))

  pub law : T (passes X O M E c B) → (i : ℕ) → i < M → defect M D c i ≤ B
  unfolding defect G
  law t i h =
      subst (λ (m : ℕ). m ≤ B)
      (ap (λ (w : ℕ). errors X O (M * (O * O)) c i (sum_ℕ M (E i)) w (sums X O M E c B)) (dot-countdown (E i) (λ k. pack X M (λ j. E j k)) M ∙ pack_lin X (E i) E M M)
      ∙ errors_are X some O (M * (O * O)) c i (sum_ℕ M (E i)) (λ j. sum_ℕ M (E j)) (G i) (G-fits i) M
      ∙ sum_ℕ_ext M (λ j. dist (G i j + M * (O * O)) (O * (sum_ℕ M (E i) + sum_ℕ M (E j)) + cond (eqb i j) c 0)) (λ j. nat_abs (product M D i j -ℤ diagonal c i j)) (λ j p. error-is i j))
      (leb→le (errors X O (M * (O * O)) c i (sum_ℕ M (E i)) (dot (countdown M (E i)) (columns X O M E c B)) (sums X O M E c B)) B (every-countdown (row X O M E c B) M t i h))
