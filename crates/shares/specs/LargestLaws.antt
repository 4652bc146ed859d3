-- Laws of the largest share: no other share is larger than the one named, every one before it is smaller, and nothing is named exactly where all are zero (`named-first`); and what the code
-- computes, without W within a block, names the same (`named_of_is`).
use Rattle.std.specs.Prelude.{◌≡◌, ◌≢◌, Bool, cond, List, ℤ, nat_abs, ◌-ℤ◌, ◌*ℤ◌}
use Rattle.std.proofs.Math.Path.{refl, fun_ext}
use Rattle.std.proofs.Common.{sym, ◌∙◌, ap, ap₂, not-suc-le-zero, mul-pos, mul-le-mul_right, mul-lt-mul_of_pos_right, add-one}
use Rattle.std.proofs.Math.Logic.{dite}
use Rattle.std.proofs.Math.Bool.{true, false}
use Prim.Native.Nat.{ℕ, zero, suc, ◌+◌, ◌*◌, ◌/◌, ◌^◌, ◌≤◌, ◌<◌}
use Rattle.std.proofs.Math.Nat.{le_refl}
use native.Mathlib.Omega.{arith}
use Rattle.std.proofs.Math.Decide.{dec_lt, ℕ_discrete}
use Rattle.std.proofs.Math.Dec.{ltb, eqb}
use borrow.Author.Tests.{lt-ltb, le-ltb, eq-eqb, ne_eqb, ltb-true, ltb-false, eqb-true, eqb-false}
use Rattle.arithmetic.specs.Lists.{at}
use Rattle.arithmetic.specs.OrderLaws.{abs_mul}
use Rattle.cosine.specs.Kernels.{K, rising, falling}
use Rattle.shares.specs.Shares as S
use Rattle.shares.specs.Shares.{share_of, share_in, Before, Named, best, none, named, largest_share}
use Rattle.shares.specs.Shares.Before.{block, coefficient}
use Rattle.shares.specs.Products.{change_times, largest_in, named_of}
use Rattle.shares.specs.declared.Largest.{Largest}

-- b is the place of the largest of the first m, the first of equal ones
pub record First (f : ℕ → ℕ) (m b : ℕ) : Type 0 where
  pub most : (i : ℕ) → i < m → f i ≤ f b
  pub earliest : (i : ℕ) → i < b → f i < f b

module _ (f : ℕ → ℕ) where
  -- one more
  next : (m b : ℕ) → First f m b → (t : Bool) → ltb (f b) (f m) ≡ t → First f (suc m) (cond t m b)
  next m b o true e =
      let l = ltb-true (f b) (f m) e in
      record {
        most = λ i h. dite (dec_lt i m) (λ (k : i < m). omega (arith, o.most i k)) (λ k. let s : i ≡ m = omega arith in rw s (le_refl (f m)));
        earliest = λ i (h : i < m). omega (arith, o.most i h);
      }
  next m b o false e =
      let l = ltb-false (f b) (f m) e in
      record {
        most = λ i h. dite (dec_lt i m) (λ (k : i < m). o.most i k) (λ k. let s : i ≡ m = omega arith in rw s l);
        earliest = o.earliest;
      }

  pub first : (m : ℕ) → First f m (best f m)
  unfolding best
  first zero = record { most = λ i h. absurd (not-suc-le-zero h); earliest = λ i h. absurd (not-suc-le-zero h) }
  first (suc m) = next m (best f m) (first m) (ltb (f (best f m)) (f m)) refl

  one_of : (m b : ℕ) → b ≤ m → (t : Bool) → cond t m b < suc m
  one_of m b h true = omega arith
  one_of m b h false = omega arith

  best_le : (m : ℕ) → best f m ≤ m
  unfolding best
  best_le zero = le_refl 0
  best_le (suc m) = omega (arith, one_of m (best f m) (best_le m) (ltb (f (best f m)) (f m)))

  pub best-inside : (m : ℕ) → 0 < m → best f m < m
  unfolding best
  best-inside zero h = absurd (not-suc-le-zero h)
  best-inside (suc m) h = one_of m (best f m) (best_le m) (ltb (f (best f m)) (f m))

  -- the loop
  pub best_none : best f 0 ≡ 0
  unfolding best
  best_none = refl

  best-more : (m : ℕ) → f (best f m) < f m → best f (m + 1) ≡ m
  unfolding best
  best-more m h = rw (add-one m, lt-ltb (f (best f m)) (f m) h)

  best-same : (m : ℕ) → f m ≤ f (best f m) → best f (m + 1) ≡ best f m
  unfolding best
  best-same m h = rw (add-one m, le-ltb (f (best f m)) (f m) h)

-- the loop's invariant: of the first k
pub record Found (f : ℕ → ℕ) (k m b most : ℕ) : Type 0 where
  pub inside : k ≤ m
  pub best_is : b ≡ best f k
  pub most_is : most ≡ f (best f k)
  pub few : most ≤ 2 ^ 56

module _ (f : ℕ → ℕ) (k m b most s b' most' : ℕ) (o : Found f k m b most) (h : k < m) (e : s ≡ f k) where
  pub found-more : s ≤ 2 ^ 56 → most < s → b' ≡ k → most' ≡ s → Found f (k + 1) m b' most'
  found-more r t p q =
      let i : best f (k + 1) ≡ k = best-more f k (rw (o.most_is, e) at t) in
      record { inside = omega arith; best_is = p ∙ sym i; most_is = q ∙ e ∙ ap f (sym i); few = omega arith }

  pub found-same : s ≤ most → b' ≡ b → most' ≡ most → Found f (k + 1) m b' most'
  found-same t p q =
      let i : best f (k + 1) ≡ best f k = best-same f k (rw (o.most_is, e) at t) in
      record { inside = omega arith; best_is = p ∙ o.best_is ∙ sym i; most_is = q ∙ o.most_is ∙ ap f (sym i); few = omega (arith, o.few) }

-- ---- two blocks of m coefficients each, f and g their shares
pub record Foremost (f g : ℕ → ℕ) (m : ℕ) (n : Named) : Type 0 where
  -- none is named: all shares are zero
  pub nothing : n.any ≡ false → (j k : ℕ) → j < 2 → k < m → share_in f g j k ≡ 0
  -- one is named: it is one of them and not zero, no other is larger, and every one before it is smaller
  pub inside : 0 < m → (n.block < 2) × (n.coefficient < m)
  pub something : n.any ≡ true → 0 < share_in f g n.block n.coefficient
  pub most : n.any ≡ true → (j k : ℕ) → j < 2 → k < m → share_in f g j k ≤ share_in f g n.block n.coefficient
  pub earliest : n.any ≡ true → (j k : ℕ) → k < m → Before j k n.block n.coefficient → share_in f g j k < share_in f g n.block n.coefficient

clash : {A : Type 0} → true ≡ false → A
clash e = let z : ◌≡◌ {A = ℕ} 0 1 = cc in absurd (omega arith)

module _ (f g : ℕ → ℕ) (m : ℕ) where
  later : First f m (best f m) → First g m (best g m) → f (best f m) < g (best g m) → Foremost f g m (record { any = true; block = 1; coefficient = best g m })
  unfolding share_in
  later a b h =
      record {
        nothing = λ e. clash e;
        inside = λ p. (omega arith, best-inside g m p);
        something = λ e. omega arith;
        most = λ e j k n l. below j k l;
        earliest = λ e j k l r. before j k l r;
      }
    where
      below : (j k : ℕ) → k < m → share_in f g j k ≤ g (best g m)
      below zero k l = omega (arith, a.most k l)
      below (suc j) k l = b.most k l

      before : (j k : ℕ) → k < m → Before j k 1 (best g m) → share_in f g j k < g (best g m)
      before j k l block = omega (arith, a.most k l)
      before j k l (coefficient q) = b.earliest k q

  none_first : First f m (best f m) → First g m (best g m) → g (best g m) ≤ f (best f m) → f (best f m) ≡ 0 → Foremost f g m none
  unfolding share_in
  none_first a b h z =
      record {
        nothing = λ e j k n l. all j k l;
        inside = λ p. (omega arith, p);
        something = λ e. clash (sym e);
        most = λ e. clash (sym e);
        earliest = λ e. clash (sym e);
      }
    where
      all : (j k : ℕ) → k < m → share_in f g j k ≡ 0
      all zero k l = omega (arith, a.most k l)
      all (suc j) k l = omega (arith, b.most k l)

  earlier : First f m (best f m) → First g m (best g m) → g (best g m) ≤ f (best f m) → f (best f m) ≢ 0 → Foremost f g m (record { any = true; block = 0; coefficient = best f m })
  unfolding share_in
  earlier a b h z =
      record {
        nothing = λ e. clash e;
        inside = λ p. (omega arith, best-inside f m p);
        something = λ e. omega (arith, z);
        most = λ e j k n l. below j k l;
        earliest = λ e j k l r. before j k l r;
      }
    where
      below : (j k : ℕ) → k < m → share_in f g j k ≤ f (best f m)
      below zero k l = a.most k l
      below (suc j) k l = omega (arith, b.most k l)

      before : (j k : ℕ) → k < m → Before j k 0 (best f m) → share_in f g j k < f (best f m)
      before j k l (coefficient q) = a.earliest k q

  pub named-first : Foremost f g m (named m f g)
  unfolding named
  named-first = by (ltb (f (best f m)) (g (best g m))) (eqb (f (best f m)) 0) refl refl
    where
      by : (t u : Bool) → ltb (f (best f m)) (g (best g m)) ≡ t → eqb (f (best f m)) 0 ≡ u →
          Foremost f g m (cond t (record { any = true; block = 1; coefficient = best g m }) (cond u none (record { any = true; block = 0; coefficient = best f m })))
      by true u d e = later (first f m) (first g m) (ltb-true (f (best f m)) (g (best g m)) d)
      by false true d e = none_first (first f m) (first g m) (ltb-false (f (best f m)) (g (best g m)) d) (eqb-true (f (best f m)) 0 e)
      by false false d e = earlier (first f m) (first g m) (ltb-false (f (best f m)) (g (best g m)) d) (eqb-false (f (best f m)) 0 e)

-- ---- the same names without W within a block
positive : (a b : ℕ) → 0 < a * b → 0 < b
positive a zero h = absurd (omega arith)
positive a (suc b) h = omega arith

not-zero : (a b : ℕ) → a ≢ 0 → b ≢ 0 → a * b ≢ 0
not-zero zero b p q z = p refl
not-zero (suc a) zero p q z = q refl
not-zero (suc a) (suc b) p q z = omega (arith, mul-pos {m = suc a} {n = suc b} (omega arith) (omega arith))

module _ (f : ℕ → ℕ) (v : ℕ) where
  abbrev scaled : ℕ → ℕ
  scaled k = f k * v

  scaled-test : (i j : ℕ) → 0 < v → ltb (f i * v) (f j * v) ≡ ltb (f i) (f j)
  scaled-test i j p = dite (dec_lt (f i) (f j))
      (λ (h : f i < f j). lt-ltb (f i * v) (f j * v) (mul-lt-mul_of_pos_right h p) ∙ sym (lt-ltb (f i) (f j) h))
      (λ h. let l : f j ≤ f i = omega (arith, h) in le-ltb (f i * v) (f j * v) (mul-le-mul_right v l) ∙ sym (le-ltb (f i) (f j) l))

  best-scaled : 0 < v → (m : ℕ) → best scaled m ≡ best f m
  unfolding best
  best-scaled p zero = refl
  best-scaled p (suc m) = rw (best-scaled p m, scaled-test (best f m) m p)

  max-scaled : (m : ℕ) → scaled (best scaled m) ≡ f (best f m) * v
  max-scaled m = go (ℕ_discrete v 0)
    where
      go : Dec (v ≡ 0) → f (best scaled m) * v ≡ f (best f m) * v
      go (yes z) = omega (arith, ap (λ (t : ℕ). f (best scaled m) * t) z, ap (λ (t : ℕ). f (best f m) * t) z)
      go (no n) = ap (λ (i : ℕ). f i * v) (best-scaled (omega (arith, n)) m)

pub named_of_is : (m : ℕ) (f g : ℕ → ℕ) (v w : ℕ) → named_of (largest_in m f) v (largest_in m g) w ≡ named m (λ k. f k * v) (λ k. g k * w)
unfolding named_of largest_in named
named_of_is m f g v w =
    rw (max-scaled f v m, max-scaled g w m)
    (by (ltb A B) (eqb A 0) refl refl)
  where
    A : ℕ
    A = f (best f m) * v

    B : ℕ
    B = g (best g m) * w

    by : (t u : Bool) → ltb A B ≡ t → eqb A 0 ≡ u →
        cond t (record { any = true; block = 1; coefficient = best g m }) (cond u none (record { any = true; block = 0; coefficient = best f m })) ≡
        cond t (record { any = true; block = 1; coefficient = best (scaled g w) m }) (cond u none (record { any = true; block = 0; coefficient = best (scaled f v) m }))
    by true u d e = rw (best-scaled g w (positive (g (best g m)) w (omega (arith, ltb-true A B d))) m)
    by false true d e = refl
    by false false d e = rw (best-scaled f v (positive (f (best f m)) v (omega (arith, eqb-false A 0 e))) m)

-- a share is a product of three sizes
pub share_sizes : (x y : List ℤ) (N i : ℕ) (w : ℤ) (k : ℕ) → share_of x y (K N i) w k ≡ change_times N i x y k * nat_abs w
unfolding share_of change_times
share_sizes x y N i w k = abs_mul ((at y k -ℤ at x k) *ℤ K N i k) w ∙ ap (λ (t : ℕ). t * nat_abs w) (abs_mul (at y k -ℤ at x k) (K N i k))

-- what the code computes is the largest share
pub share_is : (N shape n : ℕ) (first first' second second' : List ℤ) →
    named_of (largest_in (N / 2) (change_times N (N / 2 + n) first first')) (nat_abs (falling shape N n)) (largest_in (N / 2) (change_times N n second second')) (nat_abs (rising shape N n)) ≡
    largest_share N shape n first first' second second'
unfolding largest_share S.earlier S.later
share_is N shape n first first' second second' =
    let f = change_times N (N / 2 + n) first first' in
    let g = change_times N n second second' in
    named_of_is (N / 2) f g (nat_abs (falling shape N n)) (nat_abs (rising shape N n))
    ∙ ap₂ (named (N / 2)) (fun_ext (λ k. sym (share_sizes first first' N (N / 2 + n) (falling shape N n) k))) (fun_ext (λ k. sym (share_sizes second second' N n (rising shape N n) k)))

-- ---- the tests of the code
module _ (a : Largest) (v : ℕ) (b : Largest) (w : ℕ) where
  pub named-later : ltb (a.product * v) (b.product * w) ≡ true → record { any = true; block = 1; coefficient = b.coefficient } ≡ named_of a v b w
  unfolding named_of
  named-later e = rw e

  pub named_none : ltb (a.product * v) (b.product * w) ≡ false → a.product * v ≡ 0 → none ≡ named_of a v b w
  unfolding named_of
  named_none e z = rw (e, eq-eqb (a.product * v) 0 z)

  pub named-earlier : ltb (a.product * v) (b.product * w) ≡ false → a.product ≢ 0 → v ≢ 0 → record { any = true; block = 0; coefficient = a.coefficient } ≡ named_of a v b w
  unfolding named_of
  named-earlier e p q = rw (e, ne_eqb (a.product * v) 0 (not-zero a.product v p q))
