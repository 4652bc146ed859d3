-- Laws: the sums A, B and G of the short route are those of a direct analysis of a third of the length.
use Rattle.std.specs.Prelude.{◌≡◌, ℕ, ◌/◌, ℤ, ◌*ℤ◌}
use native.Mathlib.Omega.{arith}
use Rattle.std.proofs.Math.IntN.{*ℤ_comm}
use Rattle.arithmetic.specs.Sums.{sum}
use Rattle.arithmetic.specs.SumLaws.{sum_ext}
use Rattle.cosine.specs.Kernels.{K, L}
use Rattle.cosine.specs.LengthLaws.{Part, Length, d-third}
use Rattle.transform.specs.Analysis.{S}

module _ (N : ℕ) (l : Length N) (t : Part (N / 3)) where
  -- the short kernel is the kernel of a third of the length
  L-part : (n k : ℕ) → L N n k ≡ K (N / 3) n k
  unfolding L K
  L-part n k =
      let i : N / 3 / 2 ≡ N / 6 = omega arith in
      rw (d-third N l, i)

  -- a sum over the short kernel is the direct sum of a third of the length
  pub third-sum : (w : ℕ → ℤ) (k : ℕ) → sum (N / 3) (λ n. L N n k *ℤ w n) ≡ S (N / 3) w k
  unfolding S
  third-sum w k =
      sum_ext (N / 3) (λ n. L N n k *ℤ w n) (λ n. w n *ℤ K (N / 3) n k)
      (λ n p. rw (L-part n k) (*ℤ_comm (K (N / 3) n k) (w n)))
