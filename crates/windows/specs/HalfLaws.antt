-- Laws of the halves of a joint, as the code lends them. Each table of the code is proved equal to its definition by computing.
use Rattle.std.specs.Prelude.{◌≡◌, ◌≢◌, Bool, true, false, List, ℕ, ◌-◌, ◌/◌, ◌^◌, ◌<◌, T, eqb, length, ℤ, pos, ◌≤ℤ◌}
use Rattle.std.proofs.Common.{sym, ap, ◌∙◌, arith, eq-eqb, ne_eqb}
use Rattle.arithmetic.specs.Lists.{at, Small, table}
use Rattle.arithmetic.specs.ListLaws.{length-table, get_d_table, table_ext}
use Rattle.cosine.specs.Kernels.{tabled, rising, falling}
use Rattle.cosine.specs.LengthLaws.{Length, Part, whole_part, part_of}
use Rattle.cosine.specs.KernelLaws.{rising-size, falling-size, rising-low, falling-low, falling_mirror}
use Rattle.cosine.specs.PowerLaws.{table_rise, rise_table}

-- the halves of a joint of N, by its shape
unfoldable pub rise_list : ℕ → ℕ → List ℤ
rise_list shape N = table (N / 2) (rising shape N)

unfoldable pub fall_list : ℕ → ℕ → List ℤ
fall_list shape N = table (N / 2) (falling shape N)

-- ---- the same read from the table of 217 numbers, which computes
unfoldable pub rise_numbers : Bool → ℕ → List ℤ
rise_numbers long N = table (N / 2) (table_rise long N)

unfoldable pub fall_numbers : Bool → ℕ → List ℤ
fall_numbers long N = table (N / 2) (λ n. table_rise long N (N / 2 - 1 - n))

rise_numbers_are : (shape N : ℕ) → rise_numbers (eqb shape 0) N ≡ rise_list shape N
unfolding rise_numbers rise_list
rise_numbers_are shape N = table_ext (N / 2) (table_rise (eqb shape 0) N) (rising shape N) (λ n p. sym (rise_table shape N n))

fall_numbers_are : (shape N : ℕ) → Part N → fall_numbers (eqb shape 0) N ≡ fall_list shape N
unfolding fall_numbers fall_list
fall_numbers_are shape N t =
    table_ext (N / 2) (λ n. table_rise (eqb shape 0) N (N / 2 - 1 - n)) (falling shape N)
    (λ n p. sym (falling_mirror N t shape n p ∙ rise_table shape N (N / 2 - 1 - n)))

pub rise_long : (shape N : ℕ) → shape ≡ 0 → rise_numbers true N ≡ rise_list shape N
rise_long shape N e = ap (λ (long : Bool). rise_numbers long N) (sym (eq-eqb shape 0 e)) ∙ rise_numbers_are shape N

pub rise_short : (shape N : ℕ) → shape ≢ 0 → rise_numbers false N ≡ rise_list shape N
rise_short shape N n = ap (λ (long : Bool). rise_numbers long N) (sym (ne_eqb shape 0 n)) ∙ rise_numbers_are shape N

pub fall_long : (shape N : ℕ) → T (tabled N) → shape ≡ 0 → fall_numbers true N ≡ fall_list shape N
fall_long shape N t e = ap (λ (long : Bool). fall_numbers long N) (sym (eq-eqb shape 0 e)) ∙ fall_numbers_are shape N (part_of N t)

pub fall_short : (shape N : ℕ) → T (tabled N) → shape ≢ 0 → fall_numbers false N ≡ fall_list shape N
fall_short shape N t n = ap (λ (long : Bool). fall_numbers long N) (sym (ne_eqb shape 0 n)) ∙ fall_numbers_are shape N (part_of N t)

-- ---- entries and sizes
pub rise_length : (shape N : ℕ) → length (rise_list shape N) ≡ N / 2
unfolding rise_list
rise_length shape N = length-table (rising shape N) (N / 2)

pub rise_at : (shape N n : ℕ) → n < N / 2 → at (rise_list shape N) n ≡ rising shape N n
unfolding rise_list
rise_at shape N n p = get_d_table (rising shape N) (pos 0) (N / 2) n p

pub fall_length : (shape N : ℕ) → length (fall_list shape N) ≡ N / 2
unfolding fall_list
fall_length shape N = length-table (falling shape N) (N / 2)

pub fall_at : (shape N n : ℕ) → n < N / 2 → at (fall_list shape N) n ≡ falling shape N n
unfolding fall_list
fall_at shape N n p = get_d_table (falling shape N) (pos 0) (N / 2) n p

-- no entry is below zero
pub record NotNegative (xs : List ℤ) : Type 0 where
  pub low : (i : ℕ) → i < length xs → pos 0 ≤ℤ at xs i

-- a half of a joint
pub record WindowHalf (half : List ℤ) : Type 0 where
  pub small : Small half (2 ^ 26)
  pub low : NotNegative half

module _ (N : ℕ) (t : Length N) (shape : ℕ) where
  rise_half : WindowHalf (rise_list shape N)
  rise_half = record {
    small = record { small = λ n p. rw (rise_at shape N n (below n p)) (rising-size shape N n) };
    low = record { low = λ n p. rw (rise_at shape N n (below n p)) (rising-low N (whole_part N t) shape n (below n p)) };
  }
    where
      below : (n : ℕ) → n < length (rise_list shape N) → n < N / 2
      below n p = omega (arith, rise_length shape N)

  fall_half : WindowHalf (fall_list shape N)
  fall_half = record {
    small = record { small = λ n p. rw (fall_at shape N n (below n p)) (falling-size shape N n) };
    low = record { low = λ n p. rw (fall_at shape N n (below n p)) (falling-low N (whole_part N t) shape n (below n p)) };
  }
    where
      below : (n : ℕ) → n < length (fall_list shape N) → n < N / 2
      below n p = omega (arith, fall_length shape N)

-- ---- the halves that are lent: m numbers each
pub record Halves (m : ℕ) (left right : List ℤ) : Type 0 where
  pub left_long : length left ≡ m
  pub right_long : length right ≡ m
  pub rise : WindowHalf left
  pub fall : WindowHalf right

-- and those of a length, by the shapes of its left joint and its right one
pub record Lent (N l r : ℕ) (left right : List ℤ) : Type 0 where
  pub whole : Length N
  pub rise : left ≡ rise_list l N
  pub fall : right ≡ fall_list r N

pub lent-window : (N l r : ℕ) (left right : List ℤ) → Lent N l r left right → WindowHalf left × WindowHalf right
lent-window N l r left right e = (rw e.rise (rise_half N e.whole l), rw e.fall (fall_half N e.whole r))

pub lent_halves : (N l r m : ℕ) (left right : List ℤ) → Lent N l r left right → m ≡ N / 2 → Halves m left right
lent_halves N l r m left right e h =
    record {
      left_long = ap length e.rise ∙ rise_length l N ∙ sym h;
      right_long = ap length e.fall ∙ fall_length r N ∙ sym h;
      rise = (lent-window N l r left right e).0;
      fall = (lent-window N l r left right e).1;
    }
