-- The places of a block in pairs: definitions.
use Rattle.std.specs.Prelude.{cond, List, ℕ, ◌-◌, ◌*◌, ltb, ℤ, neg_ℤ, ◌+ℤ◌, ◌*ℤ◌}
use Rattle.arithmetic.specs.Sums.{sum}
use Rattle.arithmetic.specs.Lists.{at, table}
use Rattle.cosine.specs.Kernels.{F}

-- a place; from 128 on what lies there is turned
abbrev pub spot : ℕ → ℕ
spot e = cond (ltb e 128) e (e - 128)

abbrev pub turn_by : ℕ → ℤ → ℤ
turn_by e z = cond (ltb e 128) z (neg_ℤ z)

-- the number there
abbrev pub signed_at : List ℤ → ℕ → ℤ
signed_at x e = turn_by e (at x (spot e))

-- the folded kernel of M sums at two places
unfoldable pub kernel_at : ℕ → ℕ → ℕ → ℤ
kernel_at M a b = turn_by a (turn_by b (F (2 * M) (spot a) (spot b)))

-- the sum at a place
unfoldable pub sum_at : ℕ → List ℤ → ℕ → ℤ
sum_at M x e = sum M (λ j. at x j *ℤ kernel_at M j e)

-- the sums of a block, doubled
unfoldable pub twice : ℕ → List ℤ → List ℤ
twice M x = table M (λ k. sum_at M x k +ℤ sum_at M x k)
