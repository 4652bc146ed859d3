-- Laws of the cosines beside e and f in the short route's rB and rC, as the code lends them: N/3 of each. Each table of the code is proved
-- equal to its definition by computing.
use Rattle.std.specs.Prelude.{◌≡◌, List, ℕ, ◌/◌, ◌<◌, length, ℤ, ◌+ℤ◌, ◌-ℤ◌}
use Rattle.std.proofs.Math.Path.{sym, ap}
use Rattle.std.proofs.Common.{ap₂}
use Rattle.std.proofs.Math.IntN.{pos, neg_ℤ}
use Rattle.arithmetic.specs.Lists.{at, table}
use Rattle.arithmetic.specs.ListLaws.{length-table, get_d_table, table_ext}
use Rattle.cosine.specs.Cosine.{quarter, third, sixth, twelfth, C}
use Rattle.cosine.specs.Kernels.{s, e_b, f_b, e_c, f_c}
use Rattle.cosine.specs.CosineLaws.{table_c, C-table}

-- one of the four, e_b, f_b, e_c or f_c, as a list, cosines
unfoldable pub cosines : (ℕ → ℕ → ℤ) → ℕ → List ℤ
cosines c N = table (N / 3) (c N)

-- rB takes f times f_b off: f_b is lent with its sign changed, so that rB and rC both add
unfoldable pub negated : (ℕ → ℕ → ℤ) → ℕ → ℕ → ℤ
negated c N n = neg_ℤ (c N n)

module _ (c : ℕ → ℕ → ℤ) (N : ℕ) where
  pub cosines-length : length (cosines c N) ≡ N / 3
  unfolding cosines
  cosines-length = length-table (c N) (N / 3)

  pub cosines-at : (n : ℕ) → n < N / 3 → at (cosines c N) n ≡ c N n
  unfolding cosines
  cosines-at n p = get_d_table (c N) (pos 0) (N / 3) n p

-- ---- the same read from the table of 217 numbers, which computes
-- the numbers that v gives for the angle s
unfoldable pub lent : (ℕ → ℤ) → ℕ → List ℤ
lent v N = table (N / 3) (λ n. v (s N n))

lent_are : (v : ℕ → ℤ) (c : ℕ → ℕ → ℤ) (N : ℕ) → ((n : ℕ) → v (s N n) ≡ c N n) → lent v N ≡ cosines c N
unfolding lent cosines
lent_are v c N e = table_ext (N / 3) (λ n. v (s N n)) (c N) (λ n p. e n)

abbrev pub e_b_number : ℕ → ℤ
e_b_number s = table_c (pos quarter -ℤ pos s)

abbrev pub f_b_number : ℕ → ℤ
f_b_number s = neg_ℤ (table_c (pos s -ℤ pos twelfth) +ℤ table_c (pos s +ℤ pos twelfth))

abbrev pub e_c_number : ℕ → ℤ
e_c_number s = table_c (pos s)

abbrev pub f_c_number : ℕ → ℤ
f_c_number s = table_c (pos sixth -ℤ pos s) +ℤ table_c (pos third -ℤ pos s)

module _ (N : ℕ) where
  -- two cosines of the table
  two : (t u : ℤ) → table_c t +ℤ table_c u ≡ C t +ℤ C u
  two t u = ap₂ (λ (x y : ℤ). x +ℤ y) (sym (C-table t)) (sym (C-table u))

  pub e_b_numbers : lent e_b_number N ≡ cosines e_b N
  unfolding e_b
  e_b_numbers = lent_are e_b_number e_b N (λ n. sym (C-table (pos quarter -ℤ pos (s N n))))

  pub f_b_numbers : lent f_b_number N ≡ cosines (negated f_b) N
  unfolding f_b negated
  f_b_numbers = lent_are f_b_number (negated f_b) N (λ n. ap neg_ℤ (two (pos (s N n) -ℤ pos twelfth) (pos (s N n) +ℤ pos twelfth)))

  pub e_c_numbers : lent e_c_number N ≡ cosines e_c N
  unfolding e_c
  e_c_numbers = lent_are e_c_number e_c N (λ n. sym (C-table (pos (s N n))))

  pub f_c_numbers : lent f_c_number N ≡ cosines f_c N
  unfolding f_c
  f_c_numbers = lent_are f_c_number f_c N (λ n. two (pos sixth -ℤ pos (s N n)) (pos third -ℤ pos (s N n)))

-- the four lists of a length
pub record IsTurns (N : ℕ) (eb fb ec fc : List ℤ) : Type 0 where
  pub e_b_is : eb ≡ cosines e_b N
  pub f_b_is : fb ≡ cosines (negated f_b) N
  pub e_c_is : ec ≡ cosines e_c N
  pub f_c_is : fc ≡ cosines f_c N

pub turns_of : (N : ℕ) → IsTurns N (lent e_b_number N) (lent f_b_number N) (lent e_c_number N) (lent f_c_number N)
turns_of N = record { e_b_is = e_b_numbers N; f_b_is = f_b_numbers N; e_c_is = e_c_numbers N; f_c_is = f_c_numbers N }
