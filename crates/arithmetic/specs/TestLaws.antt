-- Laws of computed tests: a test that the checker computes over a whole table, as the rule at each entry.
use Rattle.std.specs.Prelude.{◌≡◌, refl, Bool, true, false, cond, List, [], ◌∷◌, ℕ, zero, suc, ◌+◌, ◌≤◌, ◌<◌, T, leb, ltb, eqb, ℤ, pos, negsuc, length, get_or}
use Rattle.std.proofs.Common.{ap, subst, ◌∙◌, le_refl, le_of_suc-le-suc, not-suc-le-zero, add-one, arith, le→leb, leb→le, lt→ltb, ltb→lt, eqb→eq}
use Rattle.std.proofs.Math.Decide.{dec_lt}
use Rattle.arithmetic.specs.Lists.{all, every}

-- a test as a fact, and the other way
pub is_T : {b : Bool} → b ≡ true → T b
is_T e = rw e tt

pub is_true : {b : Bool} → T b → b ≡ true
is_true {b = true} t = refl
is_true {b = false} t = absurd t

pub is_false : {b : Bool} → ¬ T b → b ≡ false
is_false {b = true} n = absurd (n tt)
is_false {b = false} n = refl

-- both of two tests
pub both_left : (a b : Bool) → T (cond a b false) → T a
both_left true b t = tt
both_left false b t = t

pub both_right : (a b : Bool) → T (cond a b false) → T b
both_right true b t = t
both_right false b t = absurd t

pub both_make : (a b : Bool) → T a → T b → T (cond a b false)
both_make true b s t = t
both_make false b s t = s

-- two whole numbers are the same
unfoldable pub same : ℤ → ℤ → Bool
same (pos a) (pos b) = eqb a b
same (pos a) (negsuc b) = false
same (negsuc a) (pos b) = false
same (negsuc a) (negsuc b) = eqb a b

pub same-is : (a b : ℤ) → T (same a b) → a ≡ b
unfolding same
same-is (pos a) (pos b) t = ap pos (eqb→eq a b t)
same-is (pos a) (negsuc b) t = absurd t
same-is (negsuc a) (pos b) t = absurd t
same-is (negsuc a) (negsuc b) t = ap negsuc (eqb→eq a b t)

-- a choice by a test that is known
pub cond_yes : {A : Type 0} (b : Bool) (x y : A) → T b → cond b x y ≡ x
cond_yes true x y t = refl
cond_yes false x y t = absurd t

pub cond_no : {A : Type 0} (b : Bool) (x y : A) → ¬ T b → cond b x y ≡ y
cond_no true x y n = absurd (n tt)
cond_no false x y n = refl

pub cond_le : {A : Type 0} (a b : ℕ) (x y : A) → a ≤ b → cond (leb a b) x y ≡ x
cond_le a b x y p = cond_yes (leb a b) x y (le→leb a b p)

pub cond_gt : {A : Type 0} (a b : ℕ) (x y : A) → b < a → cond (leb a b) x y ≡ y
cond_gt a b x y p = cond_no (leb a b) x y (λ t. let h = leb→le a b t in omega arith)

pub cond_lt : {A : Type 0} (a b : ℕ) (x y : A) → a < b → cond (ltb a b) x y ≡ x
cond_lt a b x y p = cond_yes (ltb a b) x y (lt→ltb a b p)

pub cond_ge : {A : Type 0} (a b : ℕ) (x y : A) → b ≤ a → cond (ltb a b) x y ≡ y
cond_ge a b x y p = cond_no (ltb a b) x y (λ t. let h = ltb→lt a b t in omega arith)

-- of every number below n
pub all-at : (n : ℕ) (p : ℕ → Bool) → T (all n p) → (i : ℕ) → i < n → T (p i)
unfolding all
all-at zero p t i h = absurd (not-suc-le-zero h)
all-at (suc n) p t i h = go (dec_lt i n) (all-at n p (both_left (all n p) (p n) t)) (both_right (all n p) (p n) t)
  where
    go : Dec (i < n) → ((i : ℕ) → i < n → T (p i)) → T (p n) → T (p i)
    go (yes q) ih last = ih i q
    go (no q) ih last = let e : i ≡ n = omega arith in rw e last

pub all_make : (n : ℕ) (p : ℕ → Bool) → ((i : ℕ) → i < n → T (p i)) → T (all n p)
unfolding all
all_make zero p h = tt
all_make (suc n) p h = both_make (all n p) (p n) (all_make n p (λ i q. h i (omega arith))) (h n (le_refl (suc n)))

-- a place where a test fails, where not all hold
pub all_fails : (n : ℕ) (p : ℕ → Bool) → all n p ≡ false → (i : ℕ) × (i < n) × (p i ≡ false)
unfolding all
all_fails zero p e = absurd (subst (λ (b : Bool). T b) e tt)
all_fails (suc n) p e = go (all n p) refl (p n) refl e (all_fails n p)
  where
    go : (a : Bool) → all n p ≡ a → (b : Bool) → p n ≡ b → cond a b false ≡ false → (all n p ≡ false → (i : ℕ) × (i < n) × (p i ≡ false)) → (i : ℕ) × (i < suc n) × (p i ≡ false)
    go false f b g z ih = let r = ih f in (r.0, omega (arith, r.1), r.2)
    go true f b g z ih = (n, le_refl (suc n), g ∙ z)

-- tests that are the same of each number below n
pub all_same : (n : ℕ) (p q : ℕ → Bool) → ((i : ℕ) → i < n → p i ≡ q i) → all n p ≡ all n q
unfolding all
all_same zero p q e = refl
all_same (suc n) p q e = rw (all_same n p q (λ i h. e i (omega arith)), e n (le_refl (suc n)))

-- the same as equations, for a loop that stops at the first failure
pub all_none : (p : ℕ → Bool) → all 0 p ≡ true
unfolding all
all_none p = refl

pub all-next : (n : ℕ) (p : ℕ → Bool) → all n p ≡ true → p n ≡ true → all (n + 1) p ≡ true
unfolding all
all-next n p h k = rw (add-one n, h, k)

pub all_stop : (m : ℕ) (p : ℕ → Bool) (i : ℕ) → i < m → p i ≡ false → all m p ≡ false
all_stop m p i h k = by (all m p) (λ t. all-at m p t i h)
  where
    by : (b : Bool) → (T b → T (p i)) → b ≡ false
    by true f = absurd (subst T k (f tt))
    by false f = refl

-- of every entry of a list
pub every-at : {A : Type 0} (p : A → Bool) (d : A) (xs : List A) → T (every p xs) → (k : ℕ) → k < length xs → T (p (get_or xs k d))
unfolding every
every-at p d [] t k h = absurd (not-suc-le-zero h)
every-at p d (x ∷ xs) t zero h = both_left (p x) (every p xs) t
every-at p d (x ∷ xs) t (suc k) h = every-at p d xs (both_right (p x) (every p xs) t) k (le_of_suc-le-suc h)
