-- Laws: the highest and the lowest occur in the block, and no entry lies outside them.
use Rattle.std.specs.Prelude.{◌≡◌, ◌⊎◌, Bool, true, false, cond, List, length, ℤ, ◌≤ℤ◌}
use Rattle.std.proofs.Math.Path.{refl, sym}
use Rattle.std.proofs.Common.{◌∙◌, inl, inr, le_refl, not-suc-le-zero, add-one}
use Rattle.std.proofs.Math.Logic.{⊎_elim, dite}
use Prim.Native.Nat.{ℕ, zero, suc, ◌+◌, ◌≤◌, ◌<◌}
use native.Mathlib.Omega.{arith}
use Rattle.std.proofs.Math.Decide.{dec_lt}
use Rattle.std.specs.Int.Signed.{lt_z}
use Rattle.arithmetic.specs.Lists.{at}
use Rattle.arithmetic.specs.IntegerLaws.{ints, zarith}
use Rattle.arithmetic.specs.OrderLaws.{≤ℤ_trans, lt_z-true, lt_z-false}
use Rattle.floats.specs.Floats.{larger, smaller, picked, highest_of, lowest_of}

-- ---- the loop
pub picked_none : (pick : ℤ → ℤ → ℤ) (x : List ℤ) → picked pick x 0 ≡ at x 0
unfolding picked
picked_none pick x = refl

pub picked_more : (pick : ℤ → ℤ → ℤ) (x : List ℤ) (k : ℕ) → picked pick x (k + 1) ≡ pick (picked pick x k) (at x k)
unfolding picked
picked_more pick x k = rw (add-one k)

-- ---- one of the two
by_cond : (t : Bool) (a b : ℤ) → (cond t b a ≡ a) ⊎ (cond t b a ≡ b)
by_cond true a b = inr refl
by_cond false a b = inl refl

-- a place of x holds z
pub record Occurs (x : List ℤ) (z : ℤ) : Type 0 where
  pub place : ℕ
  pub inside : place < length x
  pub there : at x place ≡ z

module _ (pick : ℤ → ℤ → ℤ) (either : (a b : ℤ) → (pick a b ≡ a) ⊎ (pick a b ≡ b)) (x : List ℤ) (some : 0 < length x) where
  occurs : (m : ℕ) → m ≤ length x → Occurs x (picked pick x m)
  unfolding picked
  occurs zero h = record { place = 0; inside = some; there = refl }
  occurs (suc m) h =
      let o = occurs m (omega arith) in
      ⊎_elim
      (λ e. record { place = o.place; inside = o.inside; there = o.there ∙ sym e })
      (λ e. record { place = m; inside = h; there = sym e })
      (either (picked pick x m) (at x m))

pub highest_occurs : (x : List ℤ) → 0 < length x → Occurs x (highest_of x)
unfolding highest_of larger
highest_occurs x h = occurs larger (λ a b. by_cond (lt_z a b) a b) x h (length x) (le_refl (length x))

pub lowest_occurs : (x : List ℤ) → 0 < length x → Occurs x (lowest_of x)
unfolding lowest_of smaller
lowest_occurs x h = occurs smaller (λ a b. by_cond (lt_z b a) a b) x h (length x) (le_refl (length x))

-- ---- nothing lies outside
larger-left : (a b : ℤ) → a ≤ℤ larger a b
unfolding larger
larger-left a b = by (lt_z a b) refl
  where
    by : (t : Bool) → lt_z a b ≡ t → a ≤ℤ cond t b a
    by true e = let h = lt_z-true a b e in simp ints (omega zarith)
    by false e = simp ints (omega zarith)

larger-right : (a b : ℤ) → b ≤ℤ larger a b
unfolding larger
larger-right a b = by (lt_z a b) refl
  where
    by : (t : Bool) → lt_z a b ≡ t → b ≤ℤ cond t b a
    by true e = simp ints (omega zarith)
    by false e = lt_z-false a b e

smaller-left : (a b : ℤ) → smaller a b ≤ℤ a
unfolding smaller
smaller-left a b = by (lt_z b a) refl
  where
    by : (t : Bool) → lt_z b a ≡ t → cond t b a ≤ℤ a
    by true e = let h = lt_z-true b a e in simp ints (omega zarith)
    by false e = simp ints (omega zarith)

smaller-right : (a b : ℤ) → smaller a b ≤ℤ b
unfolding smaller
smaller-right a b = by (lt_z b a) refl
  where
    by : (t : Bool) → lt_z b a ≡ t → cond t b a ≤ℤ b
    by true e = simp ints (omega zarith)
    by false e = lt_z-false b a e

-- every entry stands beside what is picked, where both that it is picked from do
module _ (pick : ℤ → ℤ → ℤ) (beside : ℤ → ℤ → Type 0) (through : (a b c : ℤ) → beside a b → beside b c → beside a c) (left : (a b : ℤ) → beside a (pick a b)) (right : (a b : ℤ) → beside b (pick a b)) where
  reach : (x : List ℤ) (m i : ℕ) → i < m → beside (at x i) (picked pick x m)
  unfolding picked
  reach x zero i h = absurd (not-suc-le-zero h)
  reach x (suc m) i h =
      dite
      (dec_lt i m)
      (λ l. through (at x i) (picked pick x m) (picked pick x (suc m)) (reach x m i l) (left (picked pick x m) (at x m)))
      (λ g. let e : i ≡ m = omega arith in rw e (right (picked pick x m) (at x m)))

pub none_higher : (x : List ℤ) (i : ℕ) → i < length x → at x i ≤ℤ highest_of x
unfolding highest_of
none_higher x i h = reach larger (λ a b. a ≤ℤ b) (λ a b c p q. ≤ℤ_trans p q) larger-left larger-right x (length x) i h

pub none-lower : (x : List ℤ) (i : ℕ) → i < length x → lowest_of x ≤ℤ at x i
unfolding lowest_of
none-lower x i h = reach smaller (λ a b. b ≤ℤ a) (λ a b c p q. ≤ℤ_trans q p) smaller-left smaller-right x (length x) i h
