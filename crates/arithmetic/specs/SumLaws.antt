-- Laws of sums over a range: term by term, scaled, exchanged, split, backwards, bounded.
use Rattle.std.specs.Prelude.{◌≡◌, refl, ℕ, zero, suc, ◌+◌, ◌-◌, ◌*◌, ◌≤◌, ◌<◌, ◌≢◌, ℤ, pos, neg_ℤ, nat_abs, ◌+ℤ◌, ◌-ℤ◌, ◌*ℤ◌}
use Rattle.std.proofs.Common.{sym, ap, ap₂, ◌∙◌, le_refl, le_trans, add-zero, add-suc, arith, add-one}
use Rattle.std.proofs.Math.Decide.{ℕ_discrete}
use Rattle.std.proofs.Math.IntN.{+ℤ_comm, +ℤ_idl, +ℤ_idr}
use Rattle.arithmetic.specs.Sums.{sum, sum_ℕ}
use Rattle.arithmetic.specs.IntegerLaws.{ints}
use Rattle.arithmetic.specs.OrderLaws.{abs_add}

pub sum-zero : (f : ℕ → ℤ) → sum zero f ≡ pos 0
unfolding sum
sum-zero f = refl

pub sum-suc : (n : ℕ) (f : ℕ → ℤ) → sum (suc n) f ≡ sum n f +ℤ f n
unfolding sum
sum-suc n f = refl

pub sum_ext : (n : ℕ) (f g : ℕ → ℤ) → ((i : ℕ) → i < n → f i ≡ g i) → sum n f ≡ sum n g
unfolding sum
sum_ext zero f g h = refl
sum_ext (suc n) f g h = rw (sum_ext n f g (λ i p. h i (omega arith)), h n (le_refl (suc n)))

pub sum-none : (n : ℕ) → sum n (λ i. pos 0) ≡ pos 0
unfolding sum
sum-none zero = refl
sum-none (suc n) = rw (sum-none n)

pub sum_add : (n : ℕ) (f g : ℕ → ℤ) → sum n (λ i. f i +ℤ g i) ≡ sum n f +ℤ sum n g
unfolding sum
sum_add zero f g = refl
sum_add (suc n) f g = rw (sum_add n f g) (simp ints (omega arith))

pub sum_scale : (n : ℕ) (c : ℤ) (f : ℕ → ℤ) → sum n (λ i. c *ℤ f i) ≡ c *ℤ sum n f
unfolding sum
sum_scale zero c f = simp ints (omega arith)
sum_scale (suc n) c f = rw (sum_scale n c f) (simp ints (omega arith))

pub sum_swap : (n m : ℕ) (f : ℕ → ℕ → ℤ) → sum n (λ i. sum m (λ j. f i j)) ≡ sum m (λ j. sum n (λ i. f i j))
unfolding sum
sum_swap zero m f = sym (sum-none m)
sum_swap (suc n) m f = rw (sum_swap n m f) (sym (sum_add m (λ j. sum n (λ i. f i j)) (λ j. f n j)))

-- in front of the others
pub sum_head : (n : ℕ) (f : ℕ → ℤ) → sum (suc n) f ≡ f 0 +ℤ sum n (λ i. f (suc i))
unfolding sum
sum_head zero f = simp ints (omega arith)
sum_head (suc n) f = ap (λ (x : ℤ). x +ℤ f (suc n)) (sum_head n f) ∙ simp ints (omega arith)

pub sum_abs : (n : ℕ) (f : ℕ → ℤ) (B : ℕ) → ((i : ℕ) → i < n → nat_abs (f i) ≤ B) → nat_abs (sum n f) ≤ n * B
unfolding sum
sum_abs zero f B h = omega arith
sum_abs (suc n) f B h = omega (arith, abs_add (sum n f) (f n), sum_abs n f B (λ i p. h i (omega arith)), h n (le_refl (suc n)))

pub sum_neg : (n : ℕ) (f : ℕ → ℤ) → sum n (λ i. neg_ℤ (f i)) ≡ neg_ℤ (sum n f)
unfolding sum
sum_neg zero f = refl
sum_neg (suc n) f = rw (sum_neg n f) (simp ints (omega arith))

pub sum_sub : (n : ℕ) (f g : ℕ → ℤ) → sum n (λ i. f i -ℤ g i) ≡ sum n f -ℤ sum n g
sum_sub n f g = sum_add n f (λ i. neg_ℤ (g i)) ∙ ap (λ (x : ℤ). sum n f +ℤ x) (sum_neg n g)

-- a sum in two parts
pub sum-split : (n m : ℕ) (f : ℕ → ℤ) → sum (n + m) f ≡ sum n f +ℤ sum m (λ i. f (n + i))
unfolding sum
sum-split n zero f = rw add-zero (simp ints (omega arith))
sum-split n (suc m) f = rw (add-suc, sum-split n m f) (simp ints (omega arith))

-- backwards
pub sum_rev : (n : ℕ) (f : ℕ → ℤ) → sum n f ≡ sum n (λ i. f (n - suc i))
unfolding sum
sum_rev zero f = refl
sum_rev (suc n) f =
    +ℤ_comm (sum n f) (f n)
    ∙ ap₂ (λ (x y : ℤ). x +ℤ y) (ap f (omega arith)) (sum_rev n f ∙ sum_ext n (λ i. f (n - suc i)) (λ i. f (suc n - suc (suc i))) (λ i p. ap f (omega arith)))
    ∙ sym (sum_head n (λ i. f (suc n - suc i)))

pub sum_nil : (n : ℕ) (f : ℕ → ℤ) → ((i : ℕ) → i < n → f i ≡ pos 0) → sum n f ≡ pos 0
sum_nil n f h = sum_ext n f (λ i. pos 0) h ∙ sum-none n

-- one term only
pub sum_one : (n k : ℕ) (f : ℕ → ℤ) → k < n → ((i : ℕ) → i < n → i ≢ k → f i ≡ pos 0) → sum n f ≡ f k
unfolding sum
sum_one zero k f h z = absurd (omega arith)
sum_one (suc n) k f h z = by (ℕ_discrete k n) (λ p. sum_one n k f p (λ i q. z i (omega arith)))
  where
    by : Dec (k ≡ n) → (k < n → sum n f ≡ f k) → sum n f +ℤ f n ≡ f k
    by (yes e) r = rw (sum_nil n f (λ i p. z i (omega arith) (omega arith)), +ℤ_idl, e)
    by (no e) r = rw (z n (omega arith) (omega arith), +ℤ_idr) (r (omega arith))

-- one term more, as a loop's step has it
pub sum-next : (n : ℕ) (f : ℕ → ℤ) → sum (n + 1) f ≡ sum n f +ℤ f n
sum-next n f = rw add-one (sum-suc n f)

-- terms of weights w, as x i *ℤ t i is of |t i| where every |x i| ≤ B
pub sum_weighed : (n B : ℕ) (f : ℕ → ℤ) (w : ℕ → ℕ) → ((i : ℕ) → i < n → nat_abs (f i) ≤ B * w i) → nat_abs (sum n f) ≤ B * sum_ℕ n w
unfolding sum sum_ℕ
sum_weighed zero B f w h = omega arith
sum_weighed (suc n) B f w h = omega (arith, abs_add (sum n f) (f n), sum_weighed n B f w (λ i p. h i (omega arith)), h n (le_refl (suc n)))

pub sum_ℕ_ext : (n : ℕ) (f g : ℕ → ℕ) → ((i : ℕ) → i < n → f i ≡ g i) → sum_ℕ n f ≡ sum_ℕ n g
unfolding sum_ℕ
sum_ℕ_ext zero f g h = refl
sum_ℕ_ext (suc n) f g h = omega (arith, sum_ℕ_ext n f g (λ i p. h i (omega arith)), h n (le_refl (suc n)))

pub sum_ℕ_le : (n B : ℕ) (f : ℕ → ℕ) → ((i : ℕ) → i < n → f i ≤ B) → sum_ℕ n f ≤ n * B
unfolding sum_ℕ
sum_ℕ_le zero B f h = omega arith
sum_ℕ_le (suc n) B f h = omega (arith, sum_ℕ_le n B f (λ i p. h i (omega arith)), h n (le_refl (suc n)))

-- no term is larger than the sum
pub sum_ℕ_term : (n : ℕ) (f : ℕ → ℕ) (k : ℕ) → k < n → f k ≤ sum_ℕ n f
unfolding sum_ℕ
sum_ℕ_term zero f k p = absurd (omega arith)
sum_ℕ_term (suc n) f k p = go (ℕ_discrete k n) (sum_ℕ_term n f k)
  where
    go : Dec (k ≡ n) → (k < n → f k ≤ sum_ℕ n f) → f k ≤ sum_ℕ n f + f n
    go (yes e) ih = rw e (omega arith)
    go (no m) ih = le_trans (ih (omega (arith, m))) (omega arith)

-- ---- a sum by two parts, by three and by four
-- the second half forwards
pub sum-two : (h : ℕ) (f : ℕ → ℤ) → sum (h + h) f ≡ sum h (λ i. f i +ℤ f (h + i))
sum-two h f = sum-split h h f ∙ sym (sum_add h f (λ i. f (h + i)))
