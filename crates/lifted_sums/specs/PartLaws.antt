-- Laws of the parts of N/3: a part's inputs, lifted, and its sums from them. The parts themselves are `split`'s PartLaws.
use Rattle.std.specs.Prelude.{◌≡◌, List, cond, ℕ, ◌/◌, ◌^◌, ◌≤◌, ◌<◌, eqb, ℤ}
use Rattle.std.proofs.Math.Path.{refl, sym, ap}
use Rattle.std.proofs.Common.{◌∙◌, arith}
use Rattle.std.proofs.Math.Dec.{eqb→eq}
use Rattle.std.proofs.Math.ListN.{length}
use Rattle.arithmetic.specs.Lists.{at, table}
use Rattle.arithmetic.specs.ListLaws.{length-table}
use Rattle.arithmetic.specs.TestLaws.{cond_no}
use Rattle.cosine.specs.LengthLaws.{Part}
use Rattle.transform.specs.Analysis.{S}
use Rattle.transform.specs.FoldLaws.{folded}
use Rattle.split.specs.ShortRoute.{r_b}
use Rattle.split.specs.Parts.{middle, turned_c}
use Rattle.split.specs.TurnLaws.{signed}
use Rattle.split.specs.PartLaws.{halved, place, third, Given, Third, halved-input, halved-sums}
use Rattle.lifted_sums.specs.LiftLists.{Lifted, lift_list, base_list}
use Rattle.lifted_sums.specs.LiftLaws.{lifted, lifted-length, lifted-is, raised, lowered, folds-summed}
use Rattle.lifted_sums.specs.LiftLaws as lifts
use Rattle.lifted_sums.specs.RotationLaws.{rotated, beside_e, beside_f, rotated-is}

-- a part's inputs, folded to half their number and lifted
unfoldable pub inputs : List ℤ → List ℤ
inputs w = lifted (halved w)

pub inputs_are : (w z l : List ℤ) → z ≡ halved w → l ≡ lifted z → l ≡ inputs w
unfolding inputs
inputs_are w z l e h = h ∙ ap lifted e

module _ (N : ℕ) (y : ℕ → ℤ) where
  -- a place of an outer part is a rotation
  pub place-rotated : (k : ℕ) → 0 < k → (n : ℕ) → n < N / 3 → signed k N n (rotated N y (beside_e k N) (beside_f k N) n) ≡ place k N y n
  unfolding place
  place-rotated k o n l =
      rotated-is N y n l k
      ∙ sym (cond_no (eqb k 0) (middle N y n) (cond (eqb k 1) (r_b N y n) (turned_c N y n)) (λ t. let z = eqb→eq k 0 t in omega arith))

-- lifted inputs of a part of P, half as many
pub record Ready (P : ℕ) (z : List ℤ) : Type 0 where
  pub most : P / 2 ≤ 36
  pub long : length z ≡ P / 2
  pub lifted : Lifted z (2 ^ 30)

module _ (k N : ℕ) (y w : List ℤ) (t : Third k N y w) where
  pub inputs_ready : Ready (N / 3) (inputs w)
  unfolding inputs
  inputs_ready =
      let i = halved-input k N y w t (halved w) refl in
      record { most = t.most; long = lifted-length (halved w) ∙ i.long; lifted = lifted-is (halved w) i.small }

-- z has those of part k, folded
pub record Inputs (k N : ℕ) (y z : List ℤ) : Type 0 where
  pub part : Part (N / 3)
  pub are : z ≡ inputs (third k N (at y))
  pub ready : Ready (N / 3) z

-- za, zb and zg have those of the three parts
pub record Parts (N : ℕ) (y za zb zg : List ℤ) : Type 0 where
  pub given : Given N y
  pub first : Inputs 0 N y za
  pub second : Inputs 1 N y zb
  pub last : Inputs 2 N y zg

-- as many of each
pub record Abreast (x y z : List ℤ) : Type 0 where
  pub most : length x ≤ 36
  pub second_long : length y ≡ length x
  pub third_long : length z ≡ length x
  pub first : Lifted x (2 ^ 30)
  pub second : Lifted y (2 ^ 30)
  pub third : Lifted z (2 ^ 30)

-- their sums with the lifted kernel
pub record Raised (P : ℕ) (za zb zg a b g : List ℤ) : Type 0 where
  pub first_is : a ≡ table (P / 2) (raised za (lift_list P))
  pub second_is : b ≡ table (P / 2) (raised zb (lift_list P))
  pub third_is : g ≡ table (P / 2) (raised zg (lift_list P))

-- the sums of a part, without what the lifts added
module _ (P : ℕ) (p : Part P) (w : List ℤ) (long : length w ≡ P) where
  pub part_sums_are : (z base t s : List ℤ) → z ≡ inputs w → base ≡ base_list P → t ≡ table (length z) (raised z (lift_list P)) →
      s ≡ table (length z) (lowered z base t) → s ≡ table (P / 2) (S P (at w))
  unfolding inputs lifts.summed
  part_sums_are z base t s e b u h =
      let l : length (halved w) ≡ P / 2 = length-table (folded (length w) (at w)) (length w / 2) ∙ ap (λ (n : ℕ). n / 2) long in
      halved-sums P p w long s (rw (u, e) at h ∙ folds-summed P (halved w) (lift_list P) base l refl b)
