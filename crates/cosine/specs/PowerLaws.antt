-- Laws of a joint: what its rising half must satisfy for the sound to come back, and that the long one's and the short one's do.
use Rattle.std.specs.Prelude.{◌≡◌, Bool, true, false, cond, ℕ, ◌+◌, ◌-◌, ◌*◌, ◌/◌, ◌^◌, ◌≤◌, ◌<◌, T, eqb, ltb, leb, ℤ, pos, nat_abs, ◌+ℤ◌, ◌-ℤ◌, ◌*ℤ◌, ◌≤ℤ◌}
use Rattle.std.proofs.Common.{leb→le}
use Rattle.std.specs.Int.Signed.{le_z, le_z_yes}
use Rattle.arithmetic.specs.Lists.{all, every}
use Rattle.arithmetic.specs.TestLaws.{all-at, both_left, both_right}
use Rattle.cosine.specs.Cosine.{quarter, eighth, reduced, to_half, to_turn, continued}
use Rattle.cosine.specs.Kernels.{lengths, tabled, d, W, short_rise, rising}
use Rattle.cosine.specs.TableLaws.{numbers}
use Rattle.cosine.specs.CosineLaws.{table_c, C-table}
use Rattle.cosine.specs.LengthLaws.{of_tabled, part_of}
use Rattle.cosine.specs.KernelLaws.{rising-size, rising-low}

-- the rising half r of a joint between hops of M samples. The falling half is its mirror, r(M-1-n).
-- In units of 2^26 the squares of the two make 1, up to 2^-25, and the two make at most 3/2
pub record Joint (M : ℕ) (r : ℕ → ℤ) : Type 0 where
  pub low : (n : ℕ) → n < M → pos 0 ≤ℤ r n
  pub size : (n : ℕ) → n < M → nat_abs (r n) ≤ 2 ^ 26
  pub both : (n : ℕ) → n < M → (r n +ℤ r (M - 1 - n)) ≤ℤ pos (3 * 2 ^ 25)
  pub power : (n : ℕ) → n < M → nat_abs (r n *ℤ r n +ℤ r (M - 1 - n) *ℤ r (M - 1 - n) -ℤ pos (2 ^ 52)) ≤ 2 ^ 27

-- ---- the test, over all lengths
right : ℤ → ℤ → Bool
right a b = cond (le_z (a +ℤ b) (pos (3 * 2 ^ 25))) (leb (nat_abs (a *ℤ a +ℤ b *ℤ b -ℤ pos (2 ^ 52))) (2 ^ 27)) false

right_is : (a b : ℤ) → T (right a b) → ((a +ℤ b) ≤ℤ pos (3 * 2 ^ 25)) × (nat_abs (a *ℤ a +ℤ b *ℤ b -ℤ pos (2 ^ 52)) ≤ 2 ^ 27)
unfolding right
right_is a b t =
    let f = le_z (a +ℤ b) (pos (3 * 2 ^ 25)) in
    let off = nat_abs (a *ℤ a +ℤ b *ℤ b -ℤ pos (2 ^ 52)) in
    (le_z_yes (both_left f (leb off (2 ^ 27)) t), leb→le off (2 ^ 27) (both_right f (leb off (2 ^ 27)) t))

-- the rising half of a joint, long or short, read from the table
unfoldable pub table_rise : Bool → ℕ → ℕ → ℤ
table_rise long N n =
    let R = N / 6 in
    cond long (table_c (pos (d N) *ℤ (pos N -ℤ pos (2 * n + 1))))
    (cond (ltb n R) (pos 0) (cond (ltb n (2 * R)) (table_c (pos quarter -ℤ pos (eighth / R * (2 * (n - R) + 1)))) (pos (2 ^ 26))))

pub rise_table : (shape N n : ℕ) → rising shape N n ≡ table_rise (eqb shape 0) N n
unfolding rising W short_rise table_rise
rise_table shape N n = rw (C-table (pos (d N) *ℤ (pos N -ℤ pos (2 * n + 1))), C-table (pos quarter -ℤ pos (eighth / (N / 6) * (2 * (n - N / 6) + 1))))

right_at : Bool → ℕ → Bool
right_at long N = all (N / 2) (λ n. right (table_rise long N n) (table_rise long N (N / 2 - 1 - n)))

test : (long : Bool) → T (every (right_at long) lengths)
unfolding every lengths right_at all right table_rise table_c continued to_turn to_half reduced numbers
test true = tt
test false = tt

-- the rising half of a joint of either shape
pub joint : (shape N : ℕ) → T (tabled N) → Joint (N / 2) (rising shape N)
joint shape N t = record {
  low = rising-low N (part_of N t) shape;
  size = λ n p. rising-size shape N n;
  both = λ n p. rw (rise_table shape N n, rise_table shape N (N / 2 - 1 - n)) (tested n p).0;
  power = λ n p. rw (rise_table shape N n, rise_table shape N (N / 2 - 1 - n)) (tested n p).1;
}
  where
    tested : (n : ℕ) → n < N / 2 →
        ((table_rise (eqb shape 0) N n +ℤ table_rise (eqb shape 0) N (N / 2 - 1 - n)) ≤ℤ pos (3 * 2 ^ 25)) ×
        (nat_abs (table_rise (eqb shape 0) N n *ℤ table_rise (eqb shape 0) N n +ℤ table_rise (eqb shape 0) N (N / 2 - 1 - n) *ℤ table_rise (eqb shape 0) N (N / 2 - 1 - n) -ℤ pos (2 ^ 52)) ≤ 2 ^ 27)
    tested n p =
        let r : ℕ → ℤ = table_rise (eqb shape 0) N in
        right_is (r n) (r (N / 2 - 1 - n)) (unfold right_at in all-at (N / 2) (λ n. right (r n) (r (N / 2 - 1 - n))) (of_tabled (right_at (eqb shape 0)) (test (eqb shape 0)) N t) n p)
