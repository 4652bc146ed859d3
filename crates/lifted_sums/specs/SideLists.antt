-- The folded kernel at the places beside the middles of their three, M = 3h: inputs 3j + c, outputs 3k + e, c and e being 0 or 2. A list has h × h numbers, each
-- lifted by 2^26, and behind them the h sums of the numbers.
use Rattle.std.specs.Prelude.{◌≡◌, List, ◌++◌, ℕ, ◌+◌, ◌*◌, ◌/◌, length, ℤ, pos}
use Rattle.std.proofs.Common.{sym, ◌∙◌}
use Rattle.std.proofs.Math.Path.{ap, ap₂}
use Rattle.std.proofs.Math.ListN.{take, drop, length-append}
use Rattle.std.proofs.Math.Seq.{take-append_seam, drop-append_seam}
use Rattle.cosine.specs.Kernels.{d, F}
use Rattle.cosine.specs.CosineLaws.{table_c, C-table}
use Rattle.lifted_sums.specs.LiftLists.{lift_of, base_of, lift-same, base_same, lift_of_length, base_of-length}

abbrev pub side_f : ℕ → ℕ → ℕ → ℕ → ℕ → ℤ
side_f N c e k j = F N (3 * k + e) (3 * j + c)

unfoldable pub side_list : ℕ → ℕ → ℕ → List ℤ
side_list N c e = lift_of (N / 6) (side_f N c e) ++ base_of (N / 6) (side_f N c e)

-- ---- the same read from the table of 217 numbers, which computes
abbrev table_f : ℕ → ℕ → ℕ → ℕ → ℕ → ℤ
table_f N c e k j = table_c (pos (d N * (2 * (3 * k + e) + 1) * (2 * (3 * j + c) + 1)))

unfoldable pub side_numbers : ℕ → ℕ → ℕ → List ℤ
side_numbers N c e = lift_of (N / 6) (table_f N c e) ++ base_of (N / 6) (table_f N c e)

table_is : (N c e k j : ℕ) → table_f N c e k j ≡ side_f N c e k j
unfolding F
table_is N c e k j = sym (C-table (pos (d N * (2 * (3 * k + e) + 1) * (2 * (3 * j + c) + 1))))

pub side_numbers_are : (N c e : ℕ) → side_numbers N c e ≡ side_list N c e
unfolding side_numbers side_list
side_numbers_are N c e = ap₂ (λ (a b : List ℤ). a ++ b) (lift-same (N / 6) (table_f N c e) (side_f N c e) (table_is N c e)) (base_same (N / 6) (table_f N c e) (side_f N c e) (table_is N c e))

-- ---- its two parts
module _ (N c e : ℕ) where
  pub side-length : length (side_list N c e) ≡ N / 6 * (N / 6) + N / 6
  unfolding side_list
  side-length = length-append (lift_of (N / 6) (side_f N c e)) (base_of (N / 6) (side_f N c e)) ∙ ap₂ (λ (a b : ℕ). a + b) (lift_of_length (N / 6) (side_f N c e)) (base_of-length (N / 6) (side_f N c e))

  pub side_front : take (N / 6 * (N / 6)) (side_list N c e) ≡ lift_of (N / 6) (side_f N c e)
  unfolding side_list
  side_front =
      ap (λ (n : ℕ). take n (lift_of (N / 6) (side_f N c e) ++ base_of (N / 6) (side_f N c e))) (sym (lift_of_length (N / 6) (side_f N c e)))
      ∙ take-append_seam (lift_of (N / 6) (side_f N c e)) (base_of (N / 6) (side_f N c e))

  pub side-back : drop (N / 6 * (N / 6)) (side_list N c e) ≡ base_of (N / 6) (side_f N c e)
  unfolding side_list
  side-back =
      ap (λ (n : ℕ). drop n (lift_of (N / 6) (side_f N c e) ++ base_of (N / 6) (side_f N c e))) (sym (lift_of_length (N / 6) (side_f N c e)))
      ∙ drop-append_seam (lift_of (N / 6) (side_f N c e)) (base_of (N / 6) (side_f N c e))
