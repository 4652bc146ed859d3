-- Laws of the short route's steps as the code takes them: from the windowed block to the sums of the split, and from these to the coefficients.
use Rattle.std.specs.Prelude.{◌≡◌, cond, List, ℕ, ◌+◌, ◌-◌, ◌*◌, ◌/◌, ◌%◌, ◌^◌, ◌≤◌, ◌<◌, eqb, length, ℤ, pos, neg_ℤ, nat_abs, ◌+ℤ◌, ◌-ℤ◌, ◌*ℤ◌}
use Rattle.std.proofs.Common.{sym, ap₂, ◌∙◌, eqb→eq}
use Rattle.std.proofs.Math.Path.{ap}
use native.Mathlib.Omega.{arith}
use Rattle.arithmetic.specs.Rounding.{rnd}
use Rattle.arithmetic.specs.Sums.{sum}
use Rattle.arithmetic.specs.Lists.{at, table, Small}
use Rattle.arithmetic.specs.ListLaws.{length-table, get_d_table, table_ext}
use Rattle.arithmetic.specs.SumLaws.{sum_ext}
use Rattle.arithmetic.specs.TestLaws.{cond_no}
use Rattle.cosine.specs.Kernels.{rising, falling, L, turned}
use Rattle.cosine.specs.LengthLaws.{Part, Length}
use Rattle.transform.specs.Analysis.{y, S}
use Rattle.split.specs.ShortRoute.{a, b, c, e, f, r_b, r_c, A, B, G, D, Unrounded, short_x, short}
use Rattle.split.specs.Parts.{middle}
use Rattle.split.specs.ShortSizeLaws.{A-size, plus-size, minus-size}
use Rattle.split.specs.ShortFoldLaws.{third-sum}
use Rattle.windows.specs.HalfLaws.{rise_list, fall_list}
use Rattle.transform.specs.DirectLaws.{y-lent, S_ext}

-- every entry of a table is small where its rule is
pub table_small : (m B : ℕ) (f : ℕ → ℤ) → ((i : ℕ) → i < m → nat_abs (f i) ≤ B) → Small (table m f) B
table_small m B f b = record { small = λ i p. let q : i < m = omega (arith, length-table f m) in rw (get_d_table f (pos 0) m i q) (b i q) }

-- the sign of rC by the test that the code makes
module _ (N n : ℕ) (z : ℤ) where
  pub turned-even : (n + N / 12) % 2 ≡ 0 → turned N n z ≡ neg_ℤ z
  unfolding turned
  turned-even e = rw e

  pub turned-odd : ¬ ((n + N / 12) % 2 ≡ 0) → turned N n z ≡ z
  unfolding turned
  turned-odd h = cond_no (eqb ((n + N / 12) % 2) 0) (neg_ℤ z) z (λ t. h (eqb→eq ((n + N / 12) % 2) 0 t))

-- ---- the split of a part of N inputs y
module _ (N : ℕ) (l : Length N) (t : Part (N / 3)) (y : ℕ → ℤ) where
  -- the sums of a third, from its inputs as a list
  pub third-step : (v : ℕ → ℤ) (m p : ℕ) (w s : List ℤ) → m ≡ N / 6 → p ≡ N / 3 → w ≡ table (N / 3) v → s ≡ table m (S p (at w)) →
      s ≡ table (N / 6) (λ k. sum (N / 3) (λ n. L N n k *ℤ v n))
  third-step v m p w s e q f h =
      rw (e, q, f) at h
      ∙ table_ext (N / 6) (S (N / 3) (at (table (N / 3) v))) (λ k. sum (N / 3) (λ n. L N n k *ℤ v n))
      (λ k _. S_ext (N / 3) (at (table (N / 3) v)) v (λ n l. get_d_table v (pos 0) (N / 3) n l) k ∙ sym (third-sum N l t v k))

  -- B(k) and D(k), read from the lists of B and G
  module _ (b g : List ℤ) (m : ℕ) (is : m ≡ N / 6) (b_is : b ≡ table (N / 6) (B N y)) (g_is : g ≡ table (N / 6) (G N y)) where
    pub B-at : (k : ℕ) → k < m → at b k ≡ B N y k
    B-at k p = rw b_is (get_d_table (B N y) (pos 0) (N / 6) k (omega arith))

    pub D-at : (k : ℕ) → k < m → at g (m - 1 - k) ≡ D N y k
    unfolding D
    D-at k p = rw (is, g_is) (get_d_table (G N y) (pos 0) (N / 6) (N / 6 - 1 - k) (omega arith))

    pub plus_step : (r : List ℤ) → r ≡ table m (λ k. at b k +ℤ at g (m - 1 - k)) → r ≡ table (N / 6) (λ k. B N y k +ℤ D N y k)
    plus_step r h =
        h
        ∙ table_ext m (λ k. at b k +ℤ at g (m - 1 - k)) (λ k. B N y k +ℤ D N y k) (λ k p. ap₂ (λ (u v : ℤ). u +ℤ v) (B-at k p) (D-at k p))
        ∙ ap (λ (n : ℕ). table n (λ k. B N y k +ℤ D N y k)) is

    pub minus-step : (r : List ℤ) → r ≡ table m (λ k. at b k -ℤ at g (m - 1 - k)) → r ≡ table (N / 6) (λ k. B N y k -ℤ D N y k)
    minus-step r h =
        h
        ∙ table_ext m (λ k. at b k -ℤ at g (m - 1 - k)) (λ k. B N y k -ℤ D N y k) (λ k p. ap₂ (λ (u v : ℤ). u -ℤ v) (B-at k p) (D-at k p))
        ∙ ap (λ (n : ℕ). table n (λ k. B N y k -ℤ D N y k)) is

-- ---- the last step: the three lists of the split, rounded and interleaved
unfoldable pub interleaved : List ℤ → List ℤ → List ℤ → ℕ → ℤ
interleaved middle plus minus i =
    cond (eqb (i % 3) 1) (rnd (at middle (i / 3)) (2 ^ 28))
    (cond (eqb (i % 3) 0) (rnd (at plus (i / 3)) (2 ^ 29))
    (rnd (at minus (i / 3)) (2 ^ 29)))

module _ (middle plus minus : List ℤ) (k : ℕ) where
  pub interleaved-first : interleaved middle plus minus (3 * k) ≡ rnd (at plus k) (2 ^ 29)
  unfolding interleaved
  interleaved-first =
      let q : 3 * k / 3 ≡ k = omega arith in
      let r : 3 * k % 3 ≡ 0 = omega arith in
      rw (q, r)

  pub interleaved-middle : interleaved middle plus minus (3 * k + 1) ≡ rnd (at middle k) (2 ^ 28)
  unfolding interleaved
  interleaved-middle =
      let q : (3 * k + 1) / 3 ≡ k = omega arith in
      let r : (3 * k + 1) % 3 ≡ 1 = omega arith in
      rw (q, r)

  pub interleaved-last : interleaved middle plus minus (3 * k + 2) ≡ rnd (at minus k) (2 ^ 29)
  unfolding interleaved
  interleaved-last =
      let q : (3 * k + 2) / 3 ≡ k = omega arith in
      let r : (3 * k + 2) % 3 ≡ 2 = omega arith in
      rw (q, r)

pub interleaved-is : (N : ℕ) (y : ℕ → ℤ) (middle plus minus : List ℤ) → Unrounded N y middle plus minus → (i : ℕ) → i / 3 < N / 6 → interleaved middle plus minus i ≡ short_x N y i
unfolding interleaved short_x
interleaved-is N y middle plus minus u i p =
    rw (
      u.middle_is,
      u.plus_is,
      u.minus_is,
      get_d_table (A N y) (pos 0) (N / 6) (i / 3) p,
      get_d_table (λ k. B N y k +ℤ D N y k) (pos 0) (N / 6) (i / 3) p,
      get_d_table (λ k. B N y k -ℤ D N y k) (pos 0) (N / 6) (i / 3) p,
    )

-- ---- what the short route depends on: N entries of the windowed block
module _ (N : ℕ) (u v : ℕ → ℤ) (same : (n : ℕ) → n < N → u n ≡ v n) where
  module _ (n : ℕ) (p : n < N / 3) where
    a_ext : a N u n ≡ a N v n
    unfolding a
    a_ext = same (N / 3 - 1 - n) (omega arith)

    b_ext : b N u n ≡ b N v n
    unfolding b
    b_ext = same (2 * N / 3 - 1 - n) (omega arith)

    c_ext : c N u n ≡ c N v n
    unfolding c
    c_ext = same (N - 1 - n) (omega arith)

    pub middle_ext : middle N u n ≡ middle N v n
    middle_ext = rw (a_ext, b_ext, c_ext)

    pub r_b_ext : r_b N u n ≡ r_b N v n
    unfolding r_b e f
    r_b_ext = rw (a_ext, b_ext, c_ext)

    pub r_c_ext : r_c N u n ≡ r_c N v n
    unfolding r_c e f
    r_c_ext = rw (a_ext, b_ext, c_ext)

  module _ (k : ℕ) where
    A_ext : A N u k ≡ A N v k
    unfolding A
    A_ext = sum_ext (N / 3) (λ n. L N n k *ℤ middle N u n) (λ n. L N n k *ℤ middle N v n) (λ n p. ap (λ (z : ℤ). L N n k *ℤ z) (middle_ext n p))

    B_ext : B N u k ≡ B N v k
    unfolding B
    B_ext = sum_ext (N / 3) (λ n. L N n k *ℤ r_b N u n) (λ n. L N n k *ℤ r_b N v n) (λ n p. ap (λ (z : ℤ). L N n k *ℤ z) (r_b_ext n p))

    G_ext : G N u k ≡ G N v k
    unfolding G
    G_ext = sum_ext (N / 3) (λ n. L N n k *ℤ turned N n (r_c N u n)) (λ n. L N n k *ℤ turned N n (r_c N v n)) (λ n p. ap (λ (z : ℤ). L N n k *ℤ turned N n z) (r_c_ext n p))

  D_ext : (k : ℕ) → D N u k ≡ D N v k
  unfolding D
  D_ext k = G_ext (N / 6 - 1 - k)

  pub short_ext : short N u ≡ short N v
  unfolding short short_x
  short_ext = table_ext (N / 2) (short_x N u) (short_x N v) (λ i p. rw (A_ext (i / 3), B_ext (i / 3), D_ext (i / 3)))

-- ---- what the code has at the end
-- the lists of the split, their lengths and sizes
module _ (N : ℕ) (few : N ≤ 72) (y : ℕ → ℤ) (y≤ : (n : ℕ) → n < N → nat_abs (y n) ≤ 2 ^ 23) (middle plus minus : List ℤ) (u : Unrounded N y middle plus minus) where
  pub middle-length : length middle ≡ N / 6
  middle-length = ap length u.middle_is ∙ length-table (A N y) (N / 6)

  pub plus-length : length plus ≡ N / 6
  plus-length = ap length u.plus_is ∙ length-table (λ k. B N y k +ℤ D N y k) (N / 6)

  pub minus-length : length minus ≡ N / 6
  minus-length = ap length u.minus_is ∙ length-table (λ k. B N y k -ℤ D N y k) (N / 6)

  pub middle_small : Small middle (2 ^ 58)
  middle_small = rw u.middle_is (table_small (N / 6) (2 ^ 58) (A N y) (λ k p. omega (arith, A-size N y y≤ k, few)))

  pub plus_small : Small plus (2 ^ 58)
  plus_small = rw u.plus_is (table_small (N / 6) (2 ^ 58) (λ k. B N y k +ℤ D N y k) (λ k p. omega (arith, plus-size N y y≤ k, few)))

  pub minus_small : Small minus (2 ^ 58)
  minus_small = rw u.minus_is (table_small (N / 6) (2 ^ 58) (λ k. B N y k -ℤ D N y k) (λ k p. omega (arith, minus-size N y y≤ k, few)))

pub windowed-step : (N l r : ℕ) (x : List ℤ) (n : ℕ) (left right block : List ℤ) → n ≡ N → left ≡ rise_list l N → right ≡ fall_list r N →
    block ≡ table n (y n (at left) (at right) x) → block ≡ table N (y N (at (rise_list l N)) (at (fall_list r N)) x)
windowed-step N l r x n left right block e p q w = rw (e, p, q) at w

pub short-step : (N l r : ℕ) → Length N → (x : List ℤ) (m : ℕ) (block middle plus minus out : List ℤ) →
    m ≡ N / 6 → block ≡ table N (y N (at (rise_list l N)) (at (fall_list r N)) x) → Unrounded N (at block) middle plus minus →
    out ≡ table (3 * m) (interleaved middle plus minus) → out ≡ short N (y N (rising l N) (falling r N) x)
unfolding short
short-step N l r len x m block middle plus minus out q is u h =
    let half : 3 * m ≡ N / 2 = omega (arith, len.twelve) in
    let lent = y N (at (rise_list l N)) (at (fall_list r N)) x in
    rw half at h
    ∙ table_ext (N / 2) (interleaved middle plus minus) (short_x N (at block)) (λ i p. interleaved-is N (at block) middle plus minus u i (omega (arith, len.twelve)))
    ∙ short_ext N (at block) (y N (rising l N) (falling r N) x) (λ n p. rw is (get_d_table lent (pos 0) N n p) ∙ y-lent N l r len x n p)

-- the same at a length under another name
pub short-at : (n N l r : ℕ) (x out : List ℤ) → n ≡ N → out ≡ short N (y N (rising l N) (falling r N) x) → out ≡ short n (y n (rising l n) (falling r n) x)
short-at n N l r x out e h = rw e h
