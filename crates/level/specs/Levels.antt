-- What the tables of a level are: definitions.
use Rattle.std.specs.Prelude.{◌≡◌, cond, List, ℕ, suc, ◌+◌, ◌-◌, ◌*◌, ◌<◌, ◌≤◌, ◌^◌, ltb, length, get_or, ℤ, pos, neg_ℤ, nat_abs, ◌+ℤ◌, ◌-ℤ◌, ◌*ℤ◌}
use Rattle.arithmetic.specs.Rounding.{floor}
use Rattle.arithmetic.specs.Lists.{at, table}
use Rattle.level.specs.Places.{spot, kernel_at}
use Rattle.level.specs.PairLaws.{Pairs}

-- the place at an index
abbrev pub place_at : List ℕ → ℕ → ℕ
place_at xs i = get_or xs i 0

-- the places lie in a block of m
pub record AreSpots (m : ℕ) (places : List ℕ) : Type 0 where
  pub less : (i : ℕ) → i < length places → spot (place_at places i) < m

-- the kernel of the pairs' sums, and that of their differences
unfoldable pub plus_of : ℕ → (ℕ → ℕ) → (ℕ → ℕ) → List (List ℤ)
plus_of h n f = table h (λ k. table h (λ i. kernel_at (h + (h + h)) (n i) (n k) +ℤ kernel_at (h + (h + h)) (n i) (f k)))

unfoldable pub minus_of : ℕ → (ℕ → ℕ) → (ℕ → ℕ) → List (List ℤ)
minus_of h n f = table h (λ k. table h (λ i. kernel_at (h + (h + h)) (n i) (n k) -ℤ kernel_at (h + (h + h)) (n i) (f k)))

-- the kernel of a block of d, doubled
unfoldable pub doubled_of : ℕ → List (List ℤ)
doubled_of d = table d (λ k. table d (λ j. kernel_at d j k +ℤ kernel_at d j k))

-- the tables of a block of 3 h, whose third's pairs lie at near' and far'
pub record IsLevel (h l : ℕ) (near far : List ℕ) (plus minus : List (List ℤ)) (near' far' : List ℕ) : Type 0 where
  pub near_long : length near ≡ h
  pub far_long : length far ≡ h
  pub pairs : Pairs h l (place_at near) (place_at far) (place_at near') (place_at far')
  pub plus_is : plus ≡ plus_of h (place_at near) (place_at far)
  pub minus_is : minus ≡ minus_of h (place_at near) (place_at far)

-- three numbers of a block of 3 h to one
abbrev pub three_to_one : ℕ → List ℤ → ℕ → ℤ
three_to_one h z q = at z q -ℤ at z (h + (h - 1 - q)) -ℤ at z (h + (h + q))

-- the pairs' sums from their sums and differences, and behind them every third's
abbrev pub joined_at : ℕ → List ℤ → List ℤ → List ℤ → ℕ → ℤ
joined_at h p m s i =
    cond (ltb i h) (at p i +ℤ at m i) (cond (ltb i (h + h)) (at p (i - h) -ℤ at m (i - h)) (at s (i - (h + h))))

-- what is joined there stays below 2^63
pub record Joinable (h : ℕ) (p m : List ℤ) : Type 0 where
  pub sums : (i : ℕ) → i < h → nat_abs (at p i +ℤ at m i) ≤ 108 * 2 ^ 56
  pub differences : (i : ℕ) → i < h → nat_abs (at p i -ℤ at m i) ≤ 108 * 2 ^ 56

-- what is left of a number beside 256 times its high part: 0 .. 255
unfoldable pub low_part : ℤ → ℤ
low_part z = z -ℤ pos 256 *ℤ floor z 256

-- the place of the sum that stands at an index there
unfoldable pub joined_place : ℕ → (ℕ → ℕ) → (ℕ → ℕ) → ℕ → ℕ
joined_place h n f i = cond (ltb i h) (n i) (cond (ltb i (h + h)) (f (i - h)) (3 * (i - (h + h)) + 1))

-- `of` finds each place's sum, and the sums at every third place are those of the block folded three to one
pub record IsJoin (h : ℕ) (near far of : List ℕ) : Type 0 where
  pub long : length of ≡ h + (h + h)
  pub spots : (j : ℕ) → j < h + (h + h) → spot (place_at of j) < h + (h + h)
  pub there : (j : ℕ) → j < h + (h + h) → spot (joined_place h (place_at near) (place_at far) (spot (place_at of j))) ≡ j
  pub sign : (j : ℕ) → j < h + (h + h) → ltb (joined_place h (place_at near) (place_at far) (spot (place_at of j))) 128 ≡ ltb (place_at of j) 128
  pub first : (q i : ℕ) → q < h → i < h → kernel_at (h + (h + h)) q (3 * i + 1) ≡ kernel_at h q i
  pub second : (q i : ℕ) → q < h → i < h → kernel_at (h + (h + h)) (h + (h - suc q)) (3 * i + 1) ≡ neg_ℤ (kernel_at h q i)
  pub third : (q i : ℕ) → q < h → i < h → kernel_at (h + (h + h)) (h + (h + q)) (3 * i + 1) ≡ neg_ℤ (kernel_at h q i)
