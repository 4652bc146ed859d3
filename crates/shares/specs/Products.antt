-- What the code of the largest share computes: products of sizes, within a block without W, and of two blocks times W in two words: definitions, which no public contract cites.
use Rattle.std.specs.Prelude.{◌≡◌, true, cond, List, ℕ, ◌+◌, ◌*◌, ◌^◌, ◌<◌, ltb, eqb, ℤ, nat_abs, ◌-ℤ◌}
use Rattle.arithmetic.specs.Lists.{at}
use Rattle.cosine.specs.Kernels.{K}
use Rattle.shares.specs.declared.words.Words.{Words}
use Rattle.shares.specs.declared.Largest.{Largest}
use Rattle.shares.specs.Shares.{Named, best, none}

-- the two words of a × b
pub record IsProduct (a b : ℕ) (r : Words) : Type 0 where
  pub is : r.high * 2 ^ 32 + r.low ≡ a * b
  pub small : r.low < 2 ^ 32

-- the size of coefficient k's change times that of K, at place i of a block
unfoldable pub change_times : (N i : ℕ) → List ℤ → List ℤ → ℕ → ℕ
change_times N i x y k = nat_abs (at y k -ℤ at x k) * nat_abs (K N i k)

unfoldable pub largest_in : ℕ → (ℕ → ℕ) → Largest
largest_in m f = record { coefficient = best f m; product = f (best f m) }

-- of two blocks, each product times the block's W
unfoldable pub named_of : Largest → ℕ → Largest → ℕ → Named
named_of a v b w =
    cond (ltb (a.product * v) (b.product * w)) (record { any = true; block = 1; coefficient = b.coefficient })
    (cond (eqb (a.product * v) 0) none (record { any = true; block = 0; coefficient = a.coefficient }))
