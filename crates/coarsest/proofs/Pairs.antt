-- A test of two lists' entries, pair by pair, is the test of each place.
use Rattle.std.proofs.Common.{◌≡◌, ◌∙◌, refl, ap, sym, arith, Bool, true, false, cond, ◌&&◌, ℕ, zero, suc, List, [], ◌∷◌, length, zip, ℤ}
use Rattle.std.specs.List.{list_all}
use Rattle.arithmetic.specs.Lists.{at, all}

-- the first place by itself
all_front : (n : ℕ) (p : ℕ → Bool) → all (suc n) p ≡ (p 0 && all n (λ k. p (suc k)))
unfolding all
all_front zero p = go (p 0)
  where
    go : (b : Bool) → b ≡ (b && true)
    go true = refl
    go false = refl
all_front (suc n) p = ap (λ (b : Bool). cond b (p (suc n)) false) (all_front n p) ∙ go (p 0) (all n (λ k. p (suc k))) (p (suc n))
  where
    go : (a b c : Bool) → cond (a && b) c false ≡ (a && cond b c false)
    go true b c = refl
    go false b c = refl

pub all_zipped : (test : ℤ → ℤ → Bool) (xs ys : List ℤ) → length xs ≡ length ys → list_all (λ p. test p.0 p.1) (zip xs ys) ≡ all (length ys) (λ n. test (at xs n) (at ys n))
unfolding all
all_zipped test [] [] e = refl
all_zipped test [] (y ∷ ys) e = absurd (omega arith)
all_zipped test (x ∷ xs) [] e = absurd (omega arith)
all_zipped test (x ∷ xs) (y ∷ ys) e = ap (λ (b : Bool). test x y && b) (all_zipped test xs ys (omega arith)) ∙ sym (all_front (length ys) (λ n. test (at (x ∷ xs) n) (at (y ∷ ys) n)))
