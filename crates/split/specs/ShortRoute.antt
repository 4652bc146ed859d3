-- The short route: definitions. Document 01, 'Short route', in its names. N is the length of the part that is split, y its inputs: the windowed block.
use Rattle.std.specs.Prelude.{◌≡◌, Bool, cond, List, ℕ, ◌-◌, ◌*◌, ◌/◌, ◌%◌, ◌^◌, eqb, ℤ, pos, ◌+ℤ◌, ◌-ℤ◌, ◌*ℤ◌}
use Rattle.arithmetic.specs.Rounding.{rnd}
use Rattle.arithmetic.specs.Sums.{sum}
use Rattle.arithmetic.specs.Lists.{table}
use Rattle.cosine.specs.Kernels.{short_tabled, L, e_b, f_b, e_c, f_c, turned}

-- the lengths at which the short route is offered: document 01's four. P4's two are not offered
unfoldable pub offered : ℕ → Bool
offered N = short_tabled N

-- for n from 0 to N/3 - 1
unfoldable pub a : ℕ → (ℕ → ℤ) → ℕ → ℤ
a N y n = y (N / 3 - 1 - n)

unfoldable pub b : ℕ → (ℕ → ℤ) → ℕ → ℤ
b N y n = y (2 * N / 3 - 1 - n)

unfoldable pub c : ℕ → (ℕ → ℤ) → ℕ → ℤ
c N y n = y (N - 1 - n)

unfoldable pub e : ℕ → (ℕ → ℤ) → ℕ → ℤ
e N y n = pos 2 *ℤ c N y n -ℤ a N y n +ℤ b N y n

unfoldable pub f : ℕ → (ℕ → ℤ) → ℕ → ℤ
f N y n = a N y n +ℤ b N y n

unfoldable pub r_b : ℕ → (ℕ → ℤ) → ℕ → ℤ
r_b N y n = rnd (e N y n *ℤ e_b N n -ℤ f N y n *ℤ f_b N n) (2 ^ 26)

unfoldable pub r_c : ℕ → (ℕ → ℤ) → ℕ → ℤ
r_c N y n = rnd (e N y n *ℤ e_c N n +ℤ f N y n *ℤ f_c N n) (2 ^ 26)

-- the split, unrounded, for k from 0 to N/6 - 1
unfoldable pub A : ℕ → (ℕ → ℤ) → ℕ → ℤ
A N y k = sum (N / 3) (λ n. L N n k *ℤ (a N y n -ℤ b N y n +ℤ c N y n))

unfoldable pub B : ℕ → (ℕ → ℤ) → ℕ → ℤ
B N y k = sum (N / 3) (λ n. L N n k *ℤ r_b N y n)

unfoldable pub G : ℕ → (ℕ → ℤ) → ℕ → ℤ
G N y k = sum (N / 3) (λ n. L N n k *ℤ turned N n (r_c N y n))

unfoldable pub D : ℕ → (ℕ → ℤ) → ℕ → ℤ
D N y k = G N y (N / 6 - 1 - k)

-- what the split gives of y: the lists of A(k), of B(k) + D(k) and of B(k) - D(k)
pub record Unrounded (N : ℕ) (y : ℕ → ℤ) (middle plus minus : List ℤ) : Type 0 where
  pub middle_is : middle ≡ table (N / 6) (A N y)
  pub plus_is : plus ≡ table (N / 6) (λ k. B N y k +ℤ D N y k)
  pub minus_is : minus ≡ table (N / 6) (λ k. B N y k -ℤ D N y k)

-- the last step: X(3k+1) = rnd(A(k)/2^28), X(3k) = rnd((B(k)+D(k))/2^29), X(3k+2) = rnd((B(k)-D(k))/2^29)
unfoldable pub short_x : ℕ → (ℕ → ℤ) → ℕ → ℤ
short_x N y i =
    cond (eqb (i % 3) 1) (rnd (A N y (i / 3)) (2 ^ 28))
    (cond (eqb (i % 3) 0) (rnd (B N y (i / 3) +ℤ D N y (i / 3)) (2 ^ 29))
    (rnd (B N y (i / 3) -ℤ D N y (i / 3)) (2 ^ 29)))

-- the M coefficients of the windowed block y
unfoldable pub short : ℕ → (ℕ → ℤ) → List ℤ
short N y = table (N / 2) (short_x N y)

-- how far from a coefficient of the direct route the short route's may lie, in units of 1/64
abbrev pub units : ℕ
units = 16
