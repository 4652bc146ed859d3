-- What sums with lifted numbers are given: a record for each.
use Rattle.std.specs.Prelude.{◌≡◌, List, ℕ, ◌*◌, ◌/◌, ◌^◌, ◌≤◌, T, leb, length, ℤ, nat_abs}
use Rattle.std.proofs.Common.{sym, ap, ◌∙◌, arith, leb→le}
use Rattle.cosine.specs.Kernels.{F}
use Rattle.cosine.specs.KernelLaws.{F-size}
use Rattle.lifted_sums.specs.LiftLists.{Lifted, lift_of, base_of, lift_of_length, lift_of_is, base_of-length, lift_list, base_list}

-- a kernel of m × m, lifted, and the sums of its numbers
pub record Weights (m : ℕ) (rows base : List ℤ) : Type 0 where
  pub few : m ≤ 36
  pub kernel : ℕ → ℕ → ℤ
  pub small : (k j : ℕ) → nat_abs (kernel k j) ≤ 2 ^ 26
  pub rows_are : rows ≡ lift_of m kernel
  pub base_are : base ≡ base_of m kernel

module _ {m : ℕ} {rows base : List ℤ} (w : Weights m rows base) where
  pub rows_long : length rows ≡ m * m
  rows_long = ap length w.rows_are ∙ lift_of_length m w.kernel

  pub rows-lifted : Lifted rows (2 ^ 27)
  rows-lifted = rw w.rows_are (lift_of_is m w.kernel w.small)

  pub base_long : length base ≡ m
  base_long = ap length w.base_are ∙ base_of-length m w.kernel

-- the folded kernel of N, so. The test on N is one that computes: a body's search sees it
pub record Kernel (N : ℕ) (rows base : List ℤ) : Type 0 where
  pub few : T (leb (N / 2) 36)
  pub rows_are : rows ≡ lift_list N
  pub base_are : base ≡ base_list N

pub kernel_weights : (N m : ℕ) (rows base : List ℤ) → m ≡ N / 2 → Kernel N rows base → Weights m rows base
unfolding lift_list base_list
kernel_weights N m rows base e k =
    record {
      few = omega (arith, e, leb→le (N / 2) 36 k.few);
      kernel = F N;
      small = F-size N;
      rows_are = k.rows_are ∙ ap (λ (n : ℕ). lift_of n (F N)) (sym e);
      base_are = k.base_are ∙ ap (λ (n : ℕ). base_of n (F N)) (sym e);
    }
