-- Laws of the limits: a test that holds, as a size, and the tests of some numbers in a row.
use Rattle.std.specs.Prelude.{◌≡◌, Bool, ◌&&◌, List, ◌++◌, T, leb, length, take, ℤ, pos, neg_ℤ, nat_abs}
use Rattle.std.proofs.Math.ListN.{length-append}
use Rattle.std.proofs.Math.Seq.{length-take-le}
use Rattle.std.proofs.lemmas.List.{get_or_append_left, get_or-append-add, get_or-take}
use Rattle.std.proofs.Math.Path.{refl, sym, ap, ap₂}
use Rattle.std.proofs.Common.{◌∙◌, mul-le-mul, mul_left_comm, add-zero, add-suc, leb→le}
use Rattle.std.proofs.Math.Bool.{true, false, cond}
use Prim.Native.Nat.{ℕ, zero, suc, ◌+◌, ◌-◌, ◌*◌, ◌/◌, ◌^◌, ◌≤◌}
use native.Mathlib.Omega.{arith}
use Rattle.std.specs.Int.Signed.{le_z, le_z_yes}
use Rattle.arithmetic.specs.Lists.{at, all, Small}
use Rattle.arithmetic.specs.OrderLaws.{abs_le}
use Rattle.arithmetic.specs.TestLaws.{all-at, all_make, all_same, both_left, both_right, both_make, is_T, is_true}
use Rattle.cosine.specs.Kernels.{tabled}
use Rattle.cosine.specs.LengthLaws.{tabled_length}
use Rattle.stream.specs.Synthesis.{storage}
use Rattle.checks.specs.Limits.{within, between, coefficient_limit, in_range, hop_limit, counted}

-- a number within the limit
pub within_abs : (z : ℤ) (b : ℕ) → T (within z b) → nat_abs z ≤ b
unfolding within
within_abs z b t =
    let lo = both_left (le_z (neg_ℤ (pos b)) z) (le_z z (pos b)) t in
    let hi = both_right (le_z (neg_ℤ (pos b)) z) (le_z z (pos b)) t in
    (abs_le z b).1 (le_z_yes hi, le_z_yes lo)

pub abs_within : (z : ℤ) (b : ℕ) → nat_abs z ≤ b → T (within z b)
unfolding within
abs_within z b h =
    let p = (abs_le z b).0 h in
    both_make (le_z (neg_ℤ (pos b)) z) (le_z z (pos b)) p.1.le p.0.le

pub range_small : (x : List ℤ) (m : ℕ) → length x ≡ m → in_range m x ≡ true → Small x (2 ^ 29)
unfolding in_range
range_small x m l e = record { small = λ k p. within_abs (at x k) coefficient_limit (all-at m (λ k. within (at x k) coefficient_limit) (is_T e) k (omega (arith, l))) }

pub small_range : (x : List ℤ) (m : ℕ) → length x ≡ m → Small x (2 ^ 29) → in_range m x ≡ true
unfolding in_range
small_range x m l s = is_true (all_make m (λ k. within (at x k) coefficient_limit) (λ k p. abs_within (at x k) coefficient_limit (s.small k (omega (arith, l)))))

pub counted-some : (H : ℕ) → counted H ≡ true → 1 ≤ H
unfolding counted
counted-some H e = leb→le 1 H (both_left (leb 1 H) (leb H hop_limit) (is_T e))

pub counted-most : (H : ℕ) → counted H ≡ true → H ≤ 4095
unfolding counted
counted-most H e = leb→le H hop_limit (both_right (leb 1 H) (leb H hop_limit) (is_T e))

-- both, for a search
pub ruleset hop_counts = (counted-some, counted-most)

-- the products that the code makes are small
pub places_few : (N : ℕ) → T (tabled N) → (B : ℕ) → B ≤ 4096 → B * (N / 2) ≤ 4096 * storage
places_few N t B p = mul-le-mul p (let h : N / 2 ≤ storage = omega (arith, (tabled_length N t).most) in h)

pub length_most : (N : ℕ) → T (tabled N) → N ≤ 216
length_most N t = (tabled_length N t).most

-- a hop's samples come in sixes, and so do the coefficients of a block and of B blocks
pub hop_sixes : (N : ℕ) → T (tabled N) → 6 * (N / 2 / 6) ≡ N / 2
hop_sixes N t = omega (arith, (tabled_length N t).twelve)

pub block_sixes : (N : ℕ) → T (tabled N) → (B : ℕ) → 6 * (B * (N / 2) / 6) ≡ B * (N / 2)
block_sixes N t B =
    let k = N / 2 / 6 in
    let e : B * (N / 2) ≡ 6 * (B * k) = ap (λ (m : ℕ). B * m) (sym (hop_sixes N t)) ∙ mul_left_comm B 6 k in
    omega (arith, e)

-- ---- a test of some numbers in a row
module _ (p : ℕ → Bool) where
  -- with one more, both tests
  pub all_next : (k : ℕ) {a b : Bool} → a ≡ all k p → p k ≡ b → (a && b) ≡ all (k + 1) p
  unfolding all
  all_next k {a} {b} e f = let z : k + 1 ≡ suc k = omega arith in rw (z, sym e, f) (both a)
    where
      both : (a : Bool) → (a && b) ≡ cond a b false
      both true = refl
      both false = refl

  pub between_none : (from : ℕ) → between from from p ≡ true
  unfolding between all
  between_none from = let e : from - from ≡ 0 = omega arith in rw e

  -- with one more, both tests
  pub between_next : (from to : ℕ) {a b : Bool} → from ≤ to → a ≡ between from to p → p to ≡ b → (a && b) ≡ between from (to + 1) p
  unfolding between all
  between_next from to {a} {b} h e f =
      let d = to - from in
      let one : to + 1 - from ≡ suc d = omega arith in
      let last : from + d ≡ to = omega arith in
      rw (one, last, sym e, f) (both a)
    where
      both : (a : Bool) → (a && b) ≡ cond a b false
      both true = refl
      both false = refl

  -- the numbers below `to` are those below `from` and these
  joined : (from d : ℕ) → all (from + d) p ≡ cond (all from p) (all d (λ i. p (from + i))) false
  unfolding all
  joined from zero = rw (add-zero from) (whole (all from p))
    where
      whole : (a : Bool) → a ≡ cond a true false
      whole true = refl
      whole false = refl
  joined from (suc d) = rw (add-suc from d, joined from d) (three (all from p) (all d (λ i. p (from + i))))
    where
      three : (a b : Bool) → cond (cond a b false) (p (from + d)) false ≡ cond a (cond b (p (from + d)) false) false
      three true b = refl
      three false b = refl

  all-between : (from to : ℕ) → from ≤ to → all to p ≡ cond (all from p) (between from to p) false
  unfolding between
  all-between from to h = ap (λ (j : ℕ). all j p) (let e : to ≡ from + (to - from) = omega arith in e) ∙ joined from (to - from)

  -- where those below `from` pass, these decide
  pub between_decides : (from to : ℕ) {b : Bool} → from ≤ to → all from p ≡ true → between from to p ≡ b → all to p ≡ b
  between_decides from to h e f = all-between from to h ∙ rw (e, f)

  -- and where one of these fails, so do all up to any further number
  pub between_fails : (from to m : ℕ) → from ≤ to → to ≤ m → between from to p ≡ false → all m p ≡ false
  between_fails from to m h k f =
      let e : all to p ≡ false = all-between from to h ∙ rw f (neither (all from p)) in
      all-between to m k ∙ rw e
    where
      neither : (a : Bool) → cond a false false ≡ false
      neither true = refl
      neither false = refl

-- ---- a test of a list in pieces
abbrev pub all_within : ℕ → List ℤ → Bool
all_within b xs = all (length xs) (λ i. within (at xs i) b)

pub within_append : (b : ℕ) (xs ys : List ℤ) → all_within b (xs ++ ys) ≡ cond (all_within b xs) (all_within b ys) false
within_append b xs ys =
    let p = λ (i : ℕ). within (at (xs ++ ys) i) b in
    ap (λ (n : ℕ). all n p) (length-append xs ys)
    ∙ joined p (length xs) (length ys)
    ∙ ap₂ (λ (s t : Bool). cond s t false)
    (all_same (length xs) p (λ i. within (at xs i) b) (λ i h. ap (λ (z : ℤ). within z b) (get_or_append_left xs ys (pos 0) i h)))
    (all_same (length ys) (λ i. p (length xs + i)) (λ i. within (at ys i) b) (λ i h. ap (λ (z : ℤ). within z b) (get_or-append-add xs ys i (pos 0))))

pub within_take : (b m : ℕ) (xs : List ℤ) → m ≤ length xs → all_within b (take m xs) ≡ all m (λ i. within (at xs i) b)
within_take b m xs h =
    ap (λ (n : ℕ). all n (λ i. within (at (take m xs) i) b)) (length-take-le m xs h)
    ∙ all_same m (λ i. within (at (take m xs) i) b) (λ i. within (at xs i) b) (λ i q. ap (λ (z : ℤ). within z b) (get_or-take m xs i (pos 0) q))

-- where the first piece passes, the rest decides; where it fails, all do
pub within_passed : (b : ℕ) (xs ys zs : List ℤ) → zs ≡ xs ++ ys → all_within b xs ≡ true → all_within b ys ≡ all_within b zs
within_passed b xs ys zs e t = sym (ap (all_within b) e ∙ within_append b xs ys ∙ rw t)

pub within_failed : (b : ℕ) (xs ys zs : List ℤ) → zs ≡ xs ++ ys → all_within b xs ≡ false → all_within b zs ≡ false
within_failed b xs ys zs e t = ap (all_within b) e ∙ within_append b xs ys ∙ rw t
