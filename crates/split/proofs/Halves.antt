-- The halves of doubled sums are the sums with the folded kernel.
use Rattle.std.specs.Prelude.{◌≡◌, List, ℕ, ◌/◌, ◌≤◌, ℤ, pos, negsuc, ◌+ℤ◌}
use Rattle.std.proofs.Common.{ap, ◌∙◌, arith}
use Rattle.arithmetic.specs.Rounding.{floor}
use Rattle.arithmetic.specs.Lists.{at, table}
use Rattle.arithmetic.specs.ListLaws.{get_d_table, table_ext}
use Rattle.cosine.specs.LengthLaws.{Part}
use Rattle.level.specs.Places.{sum_at, twice}
use Rattle.transform.specs.InverseLaws.{folds}
use Rattle.transform.proofs.Twice.{sum_folds}

pub floor_twice : (a : ℤ) → floor (a +ℤ a) 2 ≡ a
unfolding floor
floor_twice (pos n) = ap pos (omega arith)
floor_twice (negsuc n) = ap negsuc (omega arith)

module _ (n Q : ℕ) (count : Q ≡ n / 6) (part : Part (n / 3)) (most : Q ≤ 108) where
  half_count : Q ≡ n / 3 / 2
  half_count = omega arith

  pub halves_are : (z s : List ℤ) → s ≡ twice Q z → table Q (λ k. floor (at s k) 2) ≡ table (n / 3 / 2) (folds (n / 3) z)
  unfolding twice
  halves_are z s e =
      table_ext Q (λ k. floor (at s k) 2) (folds (n / 3) z)
      (λ k p.
      rw (e, get_d_table (λ k. sum_at Q z k +ℤ sum_at Q z k) (pos 0) Q k p) (floor_twice (sum_at Q z k))
      ∙ ap (λ (m : ℕ). sum_at m z k) half_count
      ∙ sum_folds (n / 3) (omega (arith, part.four)) (omega (arith, half_count)) z k (omega (arith, half_count)))
      ∙ ap (λ (m : ℕ). table m (folds (n / 3) z)) half_count
