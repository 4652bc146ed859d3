-- The inputs of the three parts that a split makes: definitions. Document 01, 'Short route': a - b + c, rB, and rC with its sign. N is the length of the part that is split, y its inputs.
use Rattle.std.specs.Prelude.{ℕ, ℤ, ◌+ℤ◌, ◌-ℤ◌}
use Rattle.cosine.specs.Kernels.{turned}
use Rattle.split.specs.ShortRoute.{a, b, c, r_c}

-- for n from 0 to N/3 - 1, as a, b, c, rB and rC
abbrev pub middle : ℕ → (ℕ → ℤ) → ℕ → ℤ
middle N y n = a N y n -ℤ b N y n +ℤ c N y n

abbrev pub turned_c : ℕ → (ℕ → ℤ) → ℕ → ℤ
turned_c N y n = turned N n (r_c N y n)
