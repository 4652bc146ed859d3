-- Laws of the inverse: each V is a number of the window times one of M rounded sums, or its negative.
use Rattle.std.specs.Prelude.{◌≡◌, cond, List, ℕ, ◌+◌, ◌-◌, ◌*◌, ◌/◌, ◌^◌, ◌≤◌, ◌<◌, ltb, length, ℤ, pos, neg_ℤ, ◌*ℤ◌}
use Rattle.std.proofs.Common.{ap, ◌∙◌, arith, lit<}
use Rattle.std.proofs.Math.Path.{ap₂}
use Rattle.std.proofs.Math.Decide.{dec_lt}
use Rattle.arithmetic.specs.Rounding.{rnd}
use Rattle.arithmetic.specs.Sums.{sum}
use Rattle.arithmetic.specs.Lists.{at, table, Small}
use Rattle.arithmetic.specs.RoundingLaws.{rnd_neg, rnd_le}
use Rattle.arithmetic.specs.ListLaws.{table_ext, length-table, get_d_table}
use Rattle.arithmetic.specs.TestLaws.{cond_lt, cond_ge}
use Rattle.cosine.specs.Kernels.{rising, falling, F}
use Rattle.cosine.specs.LengthLaws.{Part, Length}
use Rattle.transform.specs.Analysis.{window}
use Rattle.transform.specs.Synthesis.{U, V'}
use Rattle.transform.specs.FoldLaws.{inverse_first, inverse_middle, inverse_last}
use Rattle.transform.specs.SizeLaws.{window-left, window-right}
use Rattle.windows.specs.HalfLaws.{rise_list, fall_list, rise_at, fall_at}

-- the sum over k of X(k) × F(j,k)
unfoldable pub folds : ℕ → List ℤ → ℕ → ℤ
folds N X j = sum (N / 2) (λ k. at X k *ℤ F N j k)

-- and rounded
abbrev pub rounds : ℕ → List ℤ → ℕ → ℤ
rounds N X j = rnd (folds N X j) (2 ^ 26)

-- M samples to a hop, h half a hop: the four quarters of the block
module _ (M : ℕ) (len : Part (2 * M)) (left right : ℕ → ℤ) (X : List ℤ) where
  abbrev t : ℕ → ℤ
  t = folds (2 * M) X

  abbrev h : ℕ
  h = M / 2

  quarter-is : 2 * M / 4 ≡ h
  quarter-is = omega (arith, len.four)

  pub V_first : (n : ℕ) → n < h → V' (2 * M) left right X n ≡ left n *ℤ rnd (t (h + n)) (2 ^ 26)
  unfolding V' U folds
  V_first n p =
      let e : n + 2 * M / 4 ≡ h + n = omega (arith, len.four) in
      ap₂ (λ (a b : ℤ). a *ℤ rnd b (2 ^ 26)) (window-left (2 * M) left right n (omega arith)) (rw e at (inverse_first (2 * M) len X n (omega (arith, len.four))))

  back : (n : ℕ) → 3 * (2 * M / 4) - 1 - n ≡ 3 * h - 1 - n
  back n = rw quarter-is

  -- the turned sum rounds to the turned number
  turned : (w : ℤ) (j : ℕ) → w *ℤ rnd (neg_ℤ (t j)) (2 ^ 26) ≡ w *ℤ neg_ℤ (rnd (t j) (2 ^ 26))
  turned w j = ap (λ (z : ℤ). w *ℤ z) (rnd_neg (t j) (lit< tt))

  pub V_second : (n : ℕ) → h ≤ n → n < M → V' (2 * M) left right X n ≡ left n *ℤ neg_ℤ (rnd (t (3 * h - 1 - n)) (2 ^ 26))
  unfolding V' U folds
  V_second n p q =
      ap₂ (λ (a b : ℤ). a *ℤ rnd b (2 ^ 26)) (window-left (2 * M) left right n (omega arith))
      (rw (back n) at (inverse_middle (2 * M) len X n (omega (arith, len.four)) (omega (arith, len.four))))
      ∙ turned (left n) (3 * h - 1 - n)

  over : (n : ℕ) → n - 2 * M / 2 ≡ n - M
  over n = omega arith

  pub V_third : (n : ℕ) → M ≤ n → n < 3 * h → V' (2 * M) left right X n ≡ right (n - M) *ℤ neg_ℤ (rnd (t (3 * h - 1 - n)) (2 ^ 26))
  unfolding V' U folds
  V_third n p q =
      ap₂ (λ (a b : ℤ). a *ℤ rnd b (2 ^ 26)) (rw (over n) at (window-right (2 * M) left right n (omega arith)))
      (rw (back n) at (inverse_middle (2 * M) len X n (omega (arith, len.four)) (omega (arith, len.four))))
      ∙ turned (right (n - M)) (3 * h - 1 - n)

  pub V_fourth : (n : ℕ) → M ≤ n → 3 * h ≤ n → V' (2 * M) left right X n ≡ right (n - M) *ℤ neg_ℤ (rnd (t (n - 3 * h)) (2 ^ 26))
  unfolding V' U folds
  V_fourth n p q =
      let e : n - 3 * (2 * M / 4) ≡ n - 3 * h = omega (arith, len.four) in
      ap₂ (λ (a b : ℤ). a *ℤ rnd b (2 ^ 26)) (rw (over n) at (window-right (2 * M) left right n (omega arith)))
      (rw e at (inverse_last (2 * M) len X n (omega (arith, len.four))))
      ∙ turned (right (n - M)) (n - 3 * h)

-- V at place n from the M rounded sums t, as the code takes it
unfoldable pub value_at : List ℤ → List ℤ → List ℤ → ℕ → ℤ
value_at left right t n =
    let m = length t in
    let h = length t / 2 in
    cond (ltb n h) (at left n *ℤ at t (h + n))
    (cond (ltb n m) (at left n *ℤ neg_ℤ (at t (3 * h - 1 - n)))
    (cond (ltb n (3 * h)) (at right (n - m) *ℤ neg_ℤ (at t (3 * h - 1 - n)))
    (at right (n - m) *ℤ neg_ℤ (at t (n - 3 * h)))))

module _ (left right t : List ℤ) (n : ℕ) where
  abbrev m : ℕ
  m = length t

  abbrev q : ℕ
  q = length t / 2

  abbrev u1 : ℤ
  u1 = at left n *ℤ at t (q + n)

  abbrev u2 : ℤ
  u2 = at left n *ℤ neg_ℤ (at t (3 * q - 1 - n))

  abbrev u3 : ℤ
  u3 = at right (n - m) *ℤ neg_ℤ (at t (3 * q - 1 - n))

  abbrev u4 : ℤ
  u4 = at right (n - m) *ℤ neg_ℤ (at t (n - 3 * q))

  abbrev late : ℤ
  late = cond (ltb n (3 * q)) u3 u4

  pub value-first : n < q → value_at left right t n ≡ u1
  unfolding value_at
  value-first p = cond_lt n q u1 (cond (ltb n m) u2 late) p

  pub value-second : q ≤ n → n < m → value_at left right t n ≡ u2
  unfolding value_at
  value-second p r = cond_ge n q u1 (cond (ltb n m) u2 late) p ∙ cond_lt n m u2 late r

  pub value-third : m ≤ n → n < 3 * q → value_at left right t n ≡ u3
  unfolding value_at
  value-third p r = cond_ge n q u1 (cond (ltb n m) u2 late) (omega arith) ∙ cond_ge n m u2 late p ∙ cond_lt n (3 * q) u3 u4 r

  pub value_fourth : m ≤ n → 3 * q ≤ n → value_at left right t n ≡ u4
  unfolding value_at
  value_fourth p r = cond_ge n q u1 (cond (ltb n m) u2 late) (omega arith) ∙ cond_ge n m u2 late p ∙ cond_ge n (3 * q) u3 u4 r

-- and that is V
pub value-is : (M : ℕ) → Part (2 * M) → (left right t X : List ℤ) → t ≡ table M (rounds (2 * M) X) → (n : ℕ) → n < 2 * M →
    value_at left right t n ≡ V' (2 * M) (at left) (at right) X n
value-is M len left right s X e n b = go (dec_lt n (M / 2)) (dec_lt n M) (dec_lt n (3 * (M / 2)))
  where
    even : 2 * (M / 2) ≡ M
    even = let e : M ≡ 2 * (2 * M / 4) = omega (arith, len.four) in omega arith

    long : length s ≡ M
    long = ap length e ∙ length-table (rounds (2 * M) X) M

    entry : (j : ℕ) → j < M → at s j ≡ rnd (folds (2 * M) X j) (2 ^ 26)
    entry j p = ap (λ (l : List ℤ). at l j) e ∙ get_d_table (rounds (2 * M) X) (pos 0) M j p

    go : Dec (n < M / 2) → Dec (n < M) → Dec (n < 3 * (M / 2)) → value_at left right s n ≡ V' (2 * M) (at left) (at right) X n
    go (yes p) d₂ d₃ = rw long at (value-first left right s n (rw long p)) ∙ rw (entry (M / 2 + n) (omega (arith, even)), V_first M len (at left) (at right) X n p)
    go (no p) (yes r) d₃ =
        rw long at (value-second left right s n (rw long (omega (arith, even))) (rw long r))
        ∙ rw (entry (3 * (M / 2) - 1 - n) (omega (arith, even)), V_second M len (at left) (at right) X n (omega (arith, even)) r)
    go (no p) (no r) (yes u) =
        rw long at (value-third left right s n (rw long (omega (arith, even))) (rw long u))
        ∙ rw (entry (3 * (M / 2) - 1 - n) (omega (arith, even)), V_third M len (at left) (at right) X n (omega (arith, even)) u)
    go (no p) (no r) (no u) =
        rw long at (value_fourth left right s n (rw long (omega (arith, even))) (rw long (omega (arith, even))))
        ∙ rw (entry (n - 3 * (M / 2)) (omega (arith, even)), V_fourth M len (at left) (at right) X n (omega (arith, even)) (omega (arith, even)))

-- V depends on M entries of each half
pub V_ext : (N : ℕ) → Part N → (l r l' r' : ℕ → ℤ) (X : List ℤ) → ((n : ℕ) → n < N / 2 → l n ≡ l' n) → ((n : ℕ) → n < N / 2 → r n ≡ r' n) →
    (n : ℕ) → n < N → V' N l r X n ≡ V' N l' r' X n
unfolding V'
V_ext N len l r l' r' X p q n b = go (dec_lt n (N / 2))
  where
    go : Dec (n < N / 2) → window N l r n *ℤ U N X n ≡ window N l' r' n *ℤ U N X n
    go (yes u) = rw (window-left N l r n u, window-left N l' r' n u, p n u)
    go (no u) =
        let v : N / 2 ≤ n = omega arith in
        rw (window-right N l r n v, window-right N l' r' n v, q (n - N / 2) (omega (arith, len.four)))

-- ---- what the code has: V from the lists that are lent
-- the sums, rounded in place
pub rounded-step : (N : ℕ) (X t r : List ℤ) → t ≡ table (N / 2) (folds N X) → r ≡ table (length t) (λ j. rnd (at t j) (2 ^ 26)) → r ≡ table (N / 2) (rounds N X)
rounded-step N X t r e h =
    let m = N / 2 in
    let long : length t ≡ m = ap length e ∙ length-table (folds N X) m in
    h
    ∙ ap (λ (k : ℕ). table k (λ j. rnd (at t j) (2 ^ 26))) long
    ∙ table_ext m (λ j. rnd (at t j) (2 ^ 26)) (rounds N X) (λ j p. ap (λ (z : ℤ). rnd z (2 ^ 26)) (ap (λ (l : List ℤ). at l j) e ∙ get_d_table (folds N X) (pos 0) m j p))

pub rounded_small : (t r : List ℤ) → r ≡ table (length t) (λ j. rnd (at t j) (2 ^ 26)) → Small t (2 ^ 62) → Small r (2 ^ 36)
rounded_small t r h s = record {
  small = λ j p.
      let q : j < length t = omega (arith, ap length h, length-table (λ j. rnd (at t j) (2 ^ 26)) (length t)) in
      rw (ap (λ (l : List ℤ). at l j) h, get_d_table (λ j. rnd (at t j) (2 ^ 26)) (pos 0) (length t) j q) (rnd_le (at t j) {b = 2 ^ 26} {n = 2 ^ 36} (lit< tt) (s.small j q));
}

from : (N : ℕ) → Length N → Part N
from N t = record { four = omega (arith, t.twelve); parts = t.parts; some = t.some }

module _ (N l r : ℕ) (t : Length N) (X : List ℤ) where
  pub value-step : (left right s v : List ℤ) (n : ℕ) → n ≡ N → left ≡ rise_list l N → right ≡ fall_list r N → s ≡ table (N / 2) (rounds N X) →
      v ≡ table n (value_at left right s) → v ≡ table N (V' N (rising l N) (falling r N) X)
  value-step left right s v n e p q f h =
      let two : 2 * (N / 2) ≡ N = omega (arith, t.twelve) in
      rw (e, p, q) at h
      ∙ table_ext N (value_at (rise_list l N) (fall_list r N) s) (V' N (at (rise_list l N)) (at (fall_list r N)) X)
      (λ n p. rw two at (value-is (N / 2)) (from N t) (rise_list l N) (fall_list r N) s X f n p)
      ∙ table_ext N (V' N (at (rise_list l N)) (at (fall_list r N)) X) (V' N (rising l N) (falling r N) X)
      (V_ext N (from N t) (at (rise_list l N)) (at (fall_list r N)) (rising l N) (falling r N) X (rise_at l N) (fall_at r N))
