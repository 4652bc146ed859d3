-- One block, analysed by the direct route: definitions. Document 01, 'Analysis'.
use Rattle.std.specs.Prelude.{cond, List, ℕ, ◌-◌, ◌/◌, ◌^◌, ltb, ℤ, ◌*ℤ◌}
use Rattle.arithmetic.specs.Rounding.{rnd}
use Rattle.arithmetic.specs.Sums.{sum}
use Rattle.arithmetic.specs.Lists.{at, table}
use Rattle.cosine.specs.Kernels.{K}

-- the window of a block: the rising half of its left joint over the first hop, the falling half of its right joint over the second.
-- With the halves of long joints it is W
unfoldable pub window : ℕ → (ℕ → ℤ) → (ℕ → ℤ) → ℕ → ℤ
window N left right n = cond (ltb n (N / 2)) (left n) (right (n - N / 2))

-- y(n) = rnd(W(n) × x(n) / 2^18), with the block's window for W
unfoldable pub y : ℕ → (ℕ → ℤ) → (ℕ → ℤ) → List ℤ → ℕ → ℤ
y N left right x n = rnd (window N left right n *ℤ at x n) (2 ^ 18)

-- S(k) is the sum over n of y(n) × K(n,k)
unfoldable pub S : ℕ → (ℕ → ℤ) → ℕ → ℤ
S N y k = sum N (λ n. y n *ℤ K N n k)

-- X(k) = rnd(S(k) / 2^28)
unfoldable pub X : ℕ → (ℕ → ℤ) → ℕ → ℤ
X N y k = rnd (S N y k) (2 ^ 28)

-- the M coefficients of the windowed block y
unfoldable pub direct : ℕ → (ℕ → ℤ) → List ℤ
direct N y = table (N / 2) (X N y)
