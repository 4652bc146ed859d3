-- Laws of the direct route: what it depends on, and the coefficients from the folded block and the rows that the code has.
use Rattle.std.specs.Prelude.{◌≡◌, List, ℕ, ◌-◌, ◌*◌, ◌/◌, ◌^◌, ◌≤◌, ◌<◌, ℤ, pos, ◌*ℤ◌}
use Rattle.std.proofs.Common.{sym, ap, ◌∙◌, arith}
use Rattle.std.proofs.Math.Decide.{dec_lt}
use Rattle.arithmetic.specs.Rounding.{rnd}
use Rattle.arithmetic.specs.Lists.{at, table}
use Rattle.arithmetic.specs.ListLaws.{table_ext, get_d_table}
use Rattle.arithmetic.specs.SumLaws.{sum_ext}
use Rattle.cosine.specs.Kernels.{rising, falling, K, F}
use Rattle.cosine.specs.LengthLaws.{Part, Length}
use Rattle.cosine.specs.KernelLaws.{F_symmetric}
use Rattle.transform.specs.Analysis.{window, y, S, X, direct}
use Rattle.transform.specs.FoldLaws.{folded, S-folded}
use Rattle.transform.specs.SizeLaws.{window-left, window-right}
use Rattle.windows.specs.HalfLaws.{rise_list, fall_list, rise_at, fall_at}
use Rattle.transform.specs.InverseLaws.{folds}

from : (N : ℕ) → Length N → Part N
from N t = record { four = omega (arith, t.twelve); parts = t.parts; some = t.some }

-- the windowed block depends on M entries of each half
pub y_ext : (N : ℕ) → Part N → (l r l' r' : ℕ → ℤ) (x : List ℤ) → ((n : ℕ) → n < N / 2 → l n ≡ l' n) → ((n : ℕ) → n < N / 2 → r n ≡ r' n) →
    (n : ℕ) → n < N → y N l r x n ≡ y N l' r' x n
unfolding y
y_ext N len l r l' r' x p q n h = go (dec_lt n (N / 2))
  where
    go : Dec (n < N / 2) → rnd (window N l r n *ℤ at x n) (2 ^ 18) ≡ rnd (window N l' r' n *ℤ at x n) (2 ^ 18)
    go (yes u) = rw (window-left N l r n u, window-left N l' r' n u, p n u)
    go (no u) =
        let v : N / 2 ≤ n = omega arith in
        rw (window-right N l r n v, window-right N l' r' n v, q (n - N / 2) (omega (arith, len.four)))

-- S depends on N entries of the windowed block
pub S_ext : (N : ℕ) (u v : ℕ → ℤ) → ((n : ℕ) → n < N → u n ≡ v n) → (k : ℕ) → S N u k ≡ S N v k
unfolding S
S_ext N u v e k = sum_ext N (λ n. u n *ℤ K N n k) (λ n. v n *ℤ K N n k) (λ n p. ap (λ (z : ℤ). z *ℤ K N n k) (e n p))

pub direct_ext : (N : ℕ) (u v : ℕ → ℤ) → ((n : ℕ) → n < N → u n ≡ v n) → direct N u ≡ direct N v
unfolding direct X
direct_ext N u v e = table_ext (N / 2) (X N u) (X N v) (λ k p. ap (λ (z : ℤ). rnd z (2 ^ 28)) (S_ext N u v e k))

-- with the lists that the code lends
pub y-lent : (N l r : ℕ) → Length N → (x : List ℤ) (n : ℕ) → n < N → y N (at (rise_list l N)) (at (fall_list r N)) x n ≡ y N (rising l N) (falling r N) x n
y-lent N l r t x = y_ext N (from N t) (at (rise_list l N)) (at (fall_list r N)) (rising l N) (falling r N) x (rise_at l N) (fall_at r N)

-- the sums of the folded block with the kernel are S, and their rounded quotients the coefficients
pub S-folds : (N : ℕ) → Part N → (u : ℕ → ℤ) (k : ℕ) → folds N (table (N / 2) (folded N u)) k ≡ S N u k
unfolding folds
S-folds N len u k =
    sum_ext (N / 2) (λ j. at (table (N / 2) (folded N u)) j *ℤ F N k j) (λ j. folded N u j *ℤ F N j k)
    (λ j q. rw (get_d_table (folded N u) (pos 0) (N / 2) j q, F_symmetric N k j))
    ∙ sym (S-folded N len u k)

pub direct-folded : (N : ℕ) → Length N → (u : ℕ → ℤ) → table (N / 2) (λ k. rnd (folds N (table (N / 2) (folded N u)) k) (2 ^ 28)) ≡ direct N u
unfolding direct X
direct-folded N t u =
    table_ext (N / 2) (λ k. rnd (folds N (table (N / 2) (folded N u)) k) (2 ^ 28)) (X N u)
    (λ k p. ap (λ (z : ℤ). rnd z (2 ^ 28)) (S-folds N (from N t) u k))

-- ---- what the code has, step by step: the lists that are lent, the folded block, the coefficients
module _ (N l r : ℕ) (t : Length N) (x : List ℤ) where
  abbrev lent : ℕ → ℤ
  lent = y N (at (rise_list l N)) (at (fall_list r N)) x

  pub folded-step : (m : ℕ) (left right z : List ℤ) → m ≡ N / 2 → left ≡ rise_list l N → right ≡ fall_list r N →
      z ≡ table m (folded (2 * m) (y (2 * m) (at left) (at right) x)) → z ≡ table (N / 2) (folded N lent)
  folded-step m left right z e p q h =
      let two : 2 * (N / 2) ≡ N = omega (arith, t.twelve) in
      rw (e, two, p, q) at h

  pub direct-step : (m : ℕ) (z s out : List ℤ) → m ≡ N / 2 → z ≡ table (N / 2) (folded N lent) → s ≡ table (N / 2) (folds N z) →
      out ≡ table m (λ k. rnd (at s k) (2 ^ 28)) → out ≡ direct N (y N (rising l N) (falling r N) x)
  direct-step m z s out e f g h =
      rw e at h
      ∙ table_ext (N / 2) (λ k. rnd (at s k) (2 ^ 28)) (λ k. rnd (folds N (table (N / 2) (folded N lent)) k) (2 ^ 28))
      (λ k p. ap (λ (z : ℤ). rnd z (2 ^ 28)) (ap (λ (l : List ℤ). at l k) g ∙ get_d_table (folds N z) (pos 0) (N / 2) k p ∙ ap (λ (l : List ℤ). folds N l k) f))
      ∙ direct-folded N t lent
      ∙ direct_ext N lent (y N (rising l N) (falling r N) x) (y-lent N l r t x)

-- the same at a length under another name
pub direct-at : (n N l r : ℕ) (x out : List ℤ) → n ≡ N → out ≡ direct N (y N (rising l N) (falling r N) x) → out ≡ direct n (y n (rising l n) (falling r n) x)
direct-at n N l r x out e h = rw e h
