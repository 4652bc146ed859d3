-- The double route: definitions. Document 02, P12. N is the length of a part, y its inputs. a - b + c, rB, and rC with its sign are document 01's, at the part's own length.
use Rattle.std.specs.Prelude.{Bool, true, cond, List, ℕ, zero, suc, ◌-◌, ◌/◌, ◌%◌, ◌^◌, eqb, ℤ, pos, ◌+ℤ◌, ◌-ℤ◌, ◌*ℤ◌}
use Rattle.arithmetic.specs.Rounding.{rnd}
use Rattle.arithmetic.specs.Lists.{table}
use Rattle.transform.specs.Analysis.{S}
use Rattle.split.specs.ShortRoute.{r_b}
use Rattle.split.specs.Parts.{middle, turned_c}

-- the lengths at which the double route is offered
unfoldable pub offered : ℕ → Bool
offered N = cond (eqb N 36) true (eqb N 72)

-- a part is split while its length divides by 12
unfoldable pub splits : ℕ → Bool
splits N = eqb (N % 12) 0

-- what the sums A, B and G of the three parts join to, with D(k) = G(N/6-1-k): B(k) + D(k), 2 A(k) and B(k) - D(k), twice the coefficients 3k, 3k+1 and 3k+2
unfoldable pub joined : ℕ → (ℕ → ℤ) → (ℕ → ℤ) → (ℕ → ℤ) → ℕ → ℤ
joined N A B G i =
    cond (eqb (i % 3) 1) (pos 2 *ℤ A (i / 3))
    (cond (eqb (i % 3) 0) (B (i / 3) +ℤ G (N / 6 - 1 - i / 3))
    (B (i / 3) -ℤ G (N / 6 - 1 - i / 3)))

-- the sums of a part, doubled for each split in it: a split goes on with its three parts, of a third of the length. The first number bounds how deep. In `scaled`
-- below, which takes the length for it, it never decides, from length 1 on: no part is split as often as it has inputs. The request's own equation, without it, is
-- two laws of DoubleLaws: `scaled-split` where the length divides by 12, `scaled-plain` where it does not
unfoldable pub scaled_in : ℕ → ℕ → (ℕ → ℤ) → ℕ → ℤ
scaled_in zero N y k = S N y k
scaled_in (suc f) N y k =
    cond (splits N)
    (joined N (λ j. scaled_in f (N / 3) (middle N y) j) (λ j. scaled_in f (N / 3) (r_b N y) j) (λ j. scaled_in f (N / 3) (turned_c N y) j) k)
    (S N y k)

unfoldable pub scaled : ℕ → (ℕ → ℤ) → ℕ → ℤ
scaled N y k = scaled_in N N y k

-- the M coefficients of the windowed block y, two splits deep: one rounding, by 2^30
unfoldable pub double_x : ℕ → (ℕ → ℤ) → ℕ → ℤ
double_x N y k = rnd (scaled N y k) (2 ^ 30)

unfoldable pub double : ℕ → (ℕ → ℤ) → List ℤ
double N y = table (N / 2) (double_x N y)

-- how far from a coefficient of the direct route the double route's may lie, in units of 1/64
abbrev pub units : ℕ
units = 32
