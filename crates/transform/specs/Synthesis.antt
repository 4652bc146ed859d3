-- What synthesis makes of one block's coefficients: definitions. Document 01, 'Synthesis stream'.
use Rattle.std.specs.Prelude.{List, ℕ, ◌/◌, ◌^◌, ℤ, ◌*ℤ◌}
use Rattle.arithmetic.specs.Rounding.{rnd}
use Rattle.arithmetic.specs.Sums.{sum}
use Rattle.arithmetic.specs.Lists.{at}
use Rattle.cosine.specs.Kernels.{K}
use Rattle.transform.specs.Analysis.{window}

-- U(n) = rnd((sum over k of X(k) × K(n,k)) / 2^26)
unfoldable pub U : ℕ → List ℤ → ℕ → ℤ
U N X n = rnd (sum (N / 2) (λ k. at X k *ℤ K N n k)) (2 ^ 26)

-- V(n) = W(n) × U(n)
unfoldable pub V' : ℕ → (ℕ → ℤ) → (ℕ → ℤ) → List ℤ → ℕ → ℤ
V' N left right X n = window N left right n *ℤ U N X n
