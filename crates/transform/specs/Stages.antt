-- What the leaves of a block hand on to each other: a record for each stage.
use Rattle.std.specs.Prelude.{◌≡◌, List, ℕ, ◌*◌, ◌/◌, ◌^◌, ◌≤◌, ◌<◌, length, ℤ, pos, nat_abs, ◌*ℤ◌}
use Rattle.std.proofs.Common.{ap, ◌∙◌, arith}
use Rattle.arithmetic.specs.Lists.{at, table, Small}
use Rattle.arithmetic.specs.ListLaws.{length-table, get_d_table}
use Rattle.cosine.specs.Kernels.{d, F}
use Rattle.arithmetic.specs.OrderLaws.{abs_mul_le}
use Rattle.arithmetic.specs.SumLaws.{sum_abs}
use Rattle.cosine.specs.KernelLaws.{F-size}
use Rattle.cosine.specs.LengthLaws.{Length, Part, d-third, third-part}
use Rattle.windows.specs.HalfLaws.{rise_list, fall_list}
use Rattle.transform.specs.Analysis.{y}
use Rattle.transform.specs.FoldLaws.{folded}
use Rattle.transform.specs.InverseLaws.{folds}

-- z is the block x, windowed by joints of these shapes, and folded
pub record Folded (N l r : ℕ) (x z : List ℤ) : Type 0 where
  pub whole : Length N
  pub is : z ≡ table (N / 2) (folded N (y N (at (rise_list l N)) (at (fall_list r N)) x))
  pub small : Small z (2 ^ 24)

-- x can be summed with the folded kernel
pub record Input (N : ℕ) (x : List ℤ) : Type 0 where
  pub most : N / 2 ≤ 108
  pub long : length x ≡ N / 2
  pub small : Small x (2 ^ 29)

-- a length that has sixths, whose third has a kernel of its own
pub record Sixths (N : ℕ) : Type 0 where
  pub whole : 6 * (N / 6) ≡ N
  pub parts : d (N / 3) ≡ 3 * d N
  pub part : Part (N / 3)
  pub few : N / 6 ≤ 36

pub sixths_of : (N : ℕ) → Length N → Sixths N
sixths_of N l = record { whole = omega (arith, l.twelve); parts = d-third N l; part = third-part N l; few = omega (arith, l.most) }

-- x can be summed, and so can every third of its numbers
pub record Ready (N : ℕ) (x : List ℤ) : Type 0 where
  pub six : Sixths N
  pub input : Input N x

-- a sum is as small as its inputs let it be
pub folds_abs : (N : ℕ) (X : List ℤ) (B : ℕ) → length X ≡ N / 2 → Small X B → (k : ℕ) → nat_abs (folds N X k) ≤ N / 2 * (B * 2 ^ 26)
unfolding folds
folds_abs N X B l s k = sum_abs (N / 2) (λ j. at X j *ℤ F N k j) (B * 2 ^ 26) (λ j p. abs_mul_le (at X j) (F N k j) (s.small j (rw l p)) (F-size N k j))

-- t has the sums of x
pub record Sums (N : ℕ) (x t : List ℤ) : Type 0 where
  pub are : t ≡ table (N / 2) (folds N x)
  pub small : Small t (2 ^ 62)

pub sums_of : (N : ℕ) (x t : List ℤ) → Input N x → t ≡ table (N / 2) (folds N x) → Sums N x t
sums_of N x t i e =
    record {
      are = e;
      small =
          record {
            small = λ k p.
                let b : k < N / 2 = omega (arith, ap length e, length-table (folds N x) (N / 2)) in
                rw (e, get_d_table (folds N x) (pos 0) (N / 2) k b) (omega (arith, folds_abs N x (2 ^ 29) i.long i.small k, i.most));
          };
    }

pub folded_ready : (N l r : ℕ) (x z : List ℤ) → Folded N l r x z → Ready N z
folded_ready N l r x z f =
    record {
      six = sixths_of N f.whole;
      input =
          record {
            most = omega (arith, f.whole.most);
            long = ap length f.is ∙ length-table (folded N (y N (at (rise_list l N)) (at (fall_list r N)) x)) (N / 2);
            small = record { small = λ i p. omega (arith, f.small.small i p) };
          };
    }
