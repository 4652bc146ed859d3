-- Laws of one step on valid input: the tail's limit, and what the code leaves.
use Rattle.std.specs.Prelude.{◌≡◌, ℕ, ◌+◌, ◌*◌, ◌/◌, ◌^◌, ◌≤◌, ◌<◌, T, length, ℤ, pos, nat_abs, ◌+ℤ◌}
use Rattle.std.proofs.Common.{sym, ◌∙◌, arith}
use Rattle.std.proofs.Math.Path.{ap}
use mathlib.Core.List.{List, ◌++◌}
use Rattle.std.proofs.Math.ListN.{drop}
use Rattle.arithmetic.specs.Rounding.{rnd, clamp}
use Rattle.arithmetic.specs.Lists.{at, table, Small}
use Rattle.arithmetic.specs.QuotientLaws.{splits}
use Rattle.arithmetic.specs.ListLaws.{table_ext, get_d_table, length-table}
use Rattle.cosine.specs.Kernels.{tabled, rising, falling}
use Rattle.cosine.specs.LengthLaws.{Part}
use Rattle.cosine.specs.KernelLaws.{rising-size, falling-size}
use Rattle.transform.specs.Synthesis.{V'}
use Rattle.transform.specs.Stages.{Input}
use Rattle.transform.specs.SizeLaws.{V_size}
use Rattle.stream.specs.Synthesis.{storage, sample, hop, new_tail}

-- the first M entries lie within plus or minus M × 2^55
pub record Bounded (M : ℕ) (xs : List ℤ) : Type 0 where
  pub within : (i : ℕ) → i < M → nat_abs (at xs i) ≤ M * 2 ^ 55

-- m entries at least, and the first m within that limit
pub record Held (m : ℕ) (xs : List ℤ) : Type 0 where
  pub long : m ≤ length xs
  pub bounded : Bounded m xs

-- ---- a step of N on valid input: coefficients, a tail, and room for the hop
pub record Step (N : ℕ) (x tail out : List ℤ) : Type 0 where
  pub part : Part N
  pub divides : T (splits N)
  pub most : N ≤ 2 * storage
  pub input : Input N x
  pub stored : length tail ≡ storage
  pub bounded : Bounded (N / 2) tail
  pub room : length out ≡ N / 2

-- the same as a tabled length's callers show it
abbrev pub Valid : ℕ → List ℤ → List ℤ → List ℤ → Type 0
Valid N x tail out = T (tabled N) × (length x ≡ N / 2) × Small x (2 ^ 29) × (length tail ≡ storage) × Bounded (N / 2) tail × (length out ≡ N / 2)

-- ---- V as the code has it
module _ (N l r : ℕ) (t : Part N) (X vl : List ℤ) (small : (k : ℕ) → k < N / 2 → nat_abs (at X k) ≤ 2 ^ 29)
    (is : vl ≡ table N (V' N (rising l N) (falling r N) X)) where
  abbrev values : ℕ → ℤ
  values = V' N (rising l N) (falling r N) X

  two : N / 2 + N / 2 ≡ N
  two = omega (arith, t.four)

  entry : (i : ℕ) → i < N → at vl i ≡ values i
  entry i p = ap (λ (l : List ℤ). at l i) is ∙ get_d_table values (pos 0) N i p

  pub values_long : length vl ≡ N
  values_long = ap length is ∙ length-table values N

  pub values-bounded : Bounded (N / 2) vl
  values-bounded = record {
    within = λ i p. rw (entry i (omega arith))
        (V_size N (rising l N) (falling r N) t (λ n q. rising-size l N n) (λ n q. falling-size r N n) X small i (omega arith));
  }

  pub hop-step : (tail out : List ℤ) → out ≡ table (N / 2) (λ i. clamp (rnd (at tail i +ℤ at vl i) (N * 2 ^ 30))) → out ≡ hop N (rising l N) (falling r N) tail X
  unfolding hop sample
  hop-step tail out h =
      h
      ∙ table_ext (N / 2) (λ i. clamp (rnd (at tail i +ℤ at vl i) (N * 2 ^ 30))) (λ i. clamp (rnd (at tail i +ℤ values i) (N * 2 ^ 30)))
      (λ i p. ap (λ (z : ℤ). clamp (rnd (at tail i +ℤ z) (N * 2 ^ 30))) (entry i (omega arith)))

  pub tail_step : (tail new : List ℤ) → new ≡ table (N / 2) (λ i. at vl (N / 2 + i)) ++ drop (N / 2) tail → new ≡ new_tail N (rising l N) (falling r N) tail X
  unfolding new_tail
  tail_step tail new h =
      h
      ∙ ap (λ (l : List ℤ). l ++ drop (N / 2) tail)
      (table_ext (N / 2) (λ i. at vl (N / 2 + i)) (λ i. values (N / 2 + i)) (λ i p. entry (N / 2 + i) (omega (arith, two))))

-- ---- a step at a length under another name, of the part of the coefficients that is lent, which is all of them
pub step-at : (n N l r : ℕ) (tail X X' tail' out : List ℤ) → n ≡ N → X' ≡ X →
    (tail' ≡ new_tail N (rising l N) (falling r N) tail X') × (out ≡ hop N (rising l N) (falling r N) tail X') →
    (tail' ≡ new_tail n (rising l n) (falling r n) tail X) × (out ≡ hop n (rising l n) (falling r n) tail X)
step-at n N l r tail X X' tail' out e w h = rw (e, sym w) h
