-- Laws of C, for every whole number: a turn more, the other sign, half a turn less, its range, and the table it can be read from.
use Rattle.std.specs.Prelude.{◌≡◌, ℕ, ◌+◌, ◌-◌, ◌%◌, ◌^◌, ◌≤◌, ◌<◌, ℤ, pos, negsuc, neg_ℤ, nat_abs, ◌+ℤ◌, ◌-ℤ◌, ◌*ℤ◌}
use Rattle.std.proofs.Common.{ap, ◌∙◌, lit<}
use native.Mathlib.Omega.{arith}
use Rattle.std.proofs.Math.Decide.{dec_le}
use Rattle.std.proofs.Math.IntN.{neg_ℤ-neg_ℤ}
use Rattle.arithmetic.specs.Rounding.{floor}
use Rattle.arithmetic.specs.Lists.{at}
use Rattle.arithmetic.specs.IntegerLaws.{ints}
use Rattle.arithmetic.specs.OrderLaws.{abs_neg}
use Rattle.arithmetic.specs.RoundingLaws.{floor-is, floor_unique}
use Rattle.arithmetic.specs.TestLaws.{cond_le, cond_gt}
use Rattle.cosine.specs.Cosine.{turn, half_turn, quarter, first_quarter, reduced, to_half, to_turn, continued, C}
use Rattle.cosine.specs.TableLaws.{numbers, series_rule, size, at-quarter}

-- ---- t modulo a turn
pub reduced-less : (t : ℤ) → reduced t < turn
unfolding reduced
reduced-less (pos t) = omega arith
reduced-less (negsuc t) = omega arith

reduced-is : (t : ℤ) → t ≡ pos turn *ℤ floor t turn +ℤ pos (reduced t)
unfolding reduced floor
reduced-is (pos t) = simp ints (omega arith)
reduced-is (negsuc t) = simp ints (omega arith)

pub reduced_unique : (t q : ℤ) (r : ℕ) → r < turn → t ≡ pos turn *ℤ q +ℤ pos r → reduced t ≡ r
reduced_unique t q r h e =
    let f : floor t turn ≡ q = floor_unique (floor-is t (lit< tt)) (record { low = rw e (simp ints (omega arith)); high = rw e (simp ints (omega arith)) }) in
    let g = simp ints at (rw f at (reduced-is t)) in
    let k = simp ints at e in
    omega arith

-- ---- a rule c for the first quarter, continued
module _ (c : ℕ → ℤ) where
  half-low : (t : ℕ) → t ≤ quarter → to_half c t ≡ c t
  unfolding to_half
  half-low t p = cond_le t quarter (c t) (neg_ℤ (c (half_turn - t))) p

  half_high : (t : ℕ) → quarter < t → to_half c t ≡ neg_ℤ (c (half_turn - t))
  unfolding to_half
  half_high t p = cond_gt t quarter (c t) (neg_ℤ (c (half_turn - t))) p

  turn_low : (t : ℕ) → t ≤ half_turn → to_turn c t ≡ to_half c t
  unfolding to_turn
  turn_low t p = cond_le t half_turn (to_half c t) (to_half c (turn - t)) p

  turn-high : (t : ℕ) → half_turn < t → to_turn c t ≡ to_half c (turn - t)
  unfolding to_turn
  turn-high t p = cond_gt t half_turn (to_half c t) (to_half c (turn - t)) p

  -- at two places that make a turn
  turn_mirror : (a b : ℕ) → a + b ≡ turn → to_turn c a ≡ to_turn c b
  turn_mirror a b e = go (dec_le a half_turn) (dec_le b half_turn)
    where
      go : Dec (a ≤ half_turn) → Dec (b ≤ half_turn) → to_turn c a ≡ to_turn c b
      go (yes p) (yes q) = let i : a ≡ b = omega arith in rw i
      go (yes p) (no q) = let i : turn - b ≡ a = omega arith in rw (turn_low a p, turn-high b (omega arith), i)
      go (no p) (yes q) = let i : turn - a ≡ b = omega arith in rw (turn-high a (omega arith), turn_low b q, i)
      go (no p) (no q) = absurd (omega arith)

  module _ (zero_at : c quarter ≡ pos 0) where
    -- at two places that make half a turn
    half_anti : (a b : ℕ) → a + b ≡ half_turn → to_half c a ≡ neg_ℤ (to_half c b)
    half_anti a b e = go (dec_le a quarter) (dec_le b quarter)
      where
        go : Dec (a ≤ quarter) → Dec (b ≤ quarter) → to_half c a ≡ neg_ℤ (to_half c b)
        go (yes p) (yes q) =
            let i : a ≡ quarter = omega arith in
            let j : b ≡ quarter = omega arith in
            rw (half-low a p, half-low b q, i, j, zero_at)
        go (yes p) (no q) = let i : half_turn - b ≡ a = omega arith in rw (half-low a p, half_high b (omega arith), i, neg_ℤ-neg_ℤ)
        go (no p) (yes q) = let i : half_turn - a ≡ b = omega arith in rw (half_high a (omega arith), half-low b q, i)
        go (no p) (no q) = absurd (omega arith)

    turn_anti : (a b : ℕ) → a + b ≡ half_turn → to_turn c a ≡ neg_ℤ (to_turn c b)
    turn_anti a b e = rw (turn_low a (omega arith), turn_low b (omega arith)) (half_anti a b e)

    -- the same a turn later
    turn_anti_late : (a b : ℕ) → a ≤ turn → b ≤ turn → a + b ≡ turn + half_turn → to_turn c a ≡ neg_ℤ (to_turn c b)
    turn_anti_late a b p q e = rw (turn_mirror a (turn - a) (omega arith), turn_mirror b (turn - b) (omega arith)) (turn_anti (turn - a) (turn - b) (omega arith))

-- ---- C
-- j turns more
pub C_period : (t j : ℤ) → C (t +ℤ pos turn *ℤ j) ≡ C t
unfolding C continued
C_period t j = ap (to_turn first_quarter) (reduced_unique (t +ℤ pos turn *ℤ j) (floor t turn +ℤ j) (reduced t) (reduced-less t) (more t j (floor t turn) (reduced t) (reduced-is t)))
  where
    more : (t j f : ℤ) (r : ℕ) → t ≡ pos turn *ℤ f +ℤ pos r → t +ℤ pos turn *ℤ j ≡ pos turn *ℤ (f +ℤ j) +ℤ pos r
    more t j f r e = rw e (simp ints (omega arith))

-- the other sign
pub C_mirror : (t : ℤ) → C (neg_ℤ t) ≡ C t
unfolding C continued
C_mirror t = go (reduced t) (floor t turn) (reduced-less t) (reduced-is t)
  where
    go : (r : ℕ) (f : ℤ) → r < turn → t ≡ pos turn *ℤ f +ℤ pos r → to_turn first_quarter (reduced (neg_ℤ t)) ≡ to_turn first_quarter (reduced t)
    go r f p e = by (dec_le 1 r)
      where
        is : reduced t ≡ r
        is = reduced_unique t f r p e

        by : Dec (1 ≤ r) → to_turn first_quarter (reduced (neg_ℤ t)) ≡ to_turn first_quarter (reduced t)
        by (yes q) =
            let n : reduced (neg_ℤ t) ≡ turn - r = reduced_unique (neg_ℤ t) (neg_ℤ f -ℤ pos 1) (turn - r) (omega arith) (rw e (simp ints (omega arith))) in
            rw (is, n) (turn_mirror first_quarter (turn - r) r (omega arith))
        by (no q) =
            let n : reduced (neg_ℤ t) ≡ r = reduced_unique (neg_ℤ t) (neg_ℤ f) r p (rw e (simp ints (omega arith))) in
            rw (is, n)

-- half a turn less t
pub C-half : (t : ℤ) → C (pos half_turn -ℤ t) ≡ neg_ℤ (C t)
unfolding C continued
C-half t = go (reduced t) (floor t turn) (reduced-less t) (reduced-is t)
  where
    go : (r : ℕ) (f : ℤ) → r < turn → t ≡ pos turn *ℤ f +ℤ pos r → to_turn first_quarter (reduced (pos half_turn -ℤ t)) ≡ neg_ℤ (to_turn first_quarter (reduced t))
    go r f p e = by (dec_le r half_turn)
      where
        is : reduced t ≡ r
        is = reduced_unique t f r p e

        by : Dec (r ≤ half_turn) → to_turn first_quarter (reduced (pos half_turn -ℤ t)) ≡ neg_ℤ (to_turn first_quarter (reduced t))
        by (yes q) =
            let n : reduced (pos half_turn -ℤ t) ≡ half_turn - r = reduced_unique (pos half_turn -ℤ t) (neg_ℤ f) (half_turn - r) (omega arith) (rw e (simp ints (omega arith))) in
            rw (is, n) (turn_anti first_quarter at-quarter (half_turn - r) r (omega arith))
        by (no q) =
            let n : reduced (pos half_turn -ℤ t) ≡ turn + half_turn - r = reduced_unique (pos half_turn -ℤ t) (neg_ℤ f -ℤ pos 1) (turn + half_turn - r) (omega arith) (rw e (simp ints (omega arith))) in
            rw (is, n) (turn_anti_late first_quarter at-quarter (turn + half_turn - r) r (omega arith) (omega arith) (omega arith))

-- what follows for angles that make an odd number of half turns, differ by one, or make whole turns
pub C-less : (a b j : ℤ) → a +ℤ b ≡ pos half_turn +ℤ pos turn *ℤ j → C a ≡ neg_ℤ (C b)
C-less a b j e =
    let f : a ≡ (pos half_turn -ℤ b) +ℤ pos turn *ℤ j = simp ints (omega (arith, simp ints at e)) in
    rw f (C_period (pos half_turn -ℤ b) j ∙ C-half b)

pub C-more : (a b j : ℤ) → a ≡ b +ℤ pos half_turn +ℤ pos turn *ℤ j → C a ≡ neg_ℤ (C b)
C-more a b j e =
    let f : a +ℤ neg_ℤ b ≡ pos half_turn +ℤ pos turn *ℤ j = simp ints (omega (arith, simp ints at e)) in
    C-less a (neg_ℤ b) j f ∙ ap neg_ℤ (C_mirror b)

pub C-same : (a b j : ℤ) → a +ℤ b ≡ pos turn *ℤ j → C a ≡ C b
C-same a b j e =
    let f : a ≡ neg_ℤ b +ℤ pos turn *ℤ j = simp ints (omega (arith, simp ints at e)) in
    rw f (C_period (neg_ℤ b) j ∙ C_mirror b)

-- ---- on each quarter of the turn
module _ (t : ℕ) where
  abbrev r : ℕ
  r = t % turn

  pub C_quarter_1 : r ≤ quarter → C (pos t) ≡ first_quarter r
  unfolding C continued reduced
  C_quarter_1 p = rw (turn_low first_quarter r (omega arith), half-low first_quarter r p)

  pub C_quarter_2 : quarter < r → r ≤ half_turn → C (pos t) ≡ neg_ℤ (first_quarter (half_turn - r))
  unfolding C continued reduced
  C_quarter_2 p q = rw (turn_low first_quarter r q, half_high first_quarter r p)

  pub C_quarter_3 : half_turn < r → r < half_turn + quarter → C (pos t) ≡ neg_ℤ (first_quarter (r - half_turn))
  unfolding C continued reduced
  C_quarter_3 p q =
      let e : half_turn - (turn - r) ≡ r - half_turn = omega arith in
      rw (turn-high first_quarter r p, half_high first_quarter (turn - r) (omega arith), e)

  pub C_quarter_4 : half_turn + quarter ≤ r → C (pos t) ≡ first_quarter (turn - r)
  unfolding C continued reduced
  C_quarter_4 p = rw (turn-high first_quarter r (omega arith), half-low first_quarter (turn - r) (omega arith))

pub C-low : (t : ℕ) → t ≤ quarter → C (pos t) ≡ first_quarter t
C-low t p = let i : t % turn ≡ t = omega arith in rw i at (C_quarter_1 t (omega arith))

-- what holds of two rules on the first quarter, and of their negatives, holds of them continued
by_quarter : (c e : ℕ → ℤ) (R : ℤ → ℤ → Type 0) →
    ((t : ℕ) → t ≤ quarter → R (c t) (e t)) → ((t : ℕ) → t ≤ quarter → R (neg_ℤ (c t)) (neg_ℤ (e t))) →
    (t : ℤ) → R (continued c t) (continued e t)
unfolding continued
by_quarter c e R f g t = whole (reduced t) (reduced-less t)
  where
    part : (r : ℕ) → r ≤ half_turn → R (to_half c r) (to_half e r)
    part r p = go (dec_le r quarter)
      where
        go : Dec (r ≤ quarter) → R (to_half c r) (to_half e r)
        go (yes q) = rw (half-low c r q, half-low e r q) (f r q)
        go (no q) = rw (half_high c r (omega arith), half_high e r (omega arith)) (g (half_turn - r) (omega arith))

    whole : (r : ℕ) → r < turn → R (to_turn c r) (to_turn e r)
    whole r p = go (dec_le r half_turn)
      where
        go : Dec (r ≤ half_turn) → R (to_turn c r) (to_turn e r)
        go (yes q) = rw (turn_low c r q, turn_low e r q) (part r q)
        go (no q) = rw (turn-high c r (omega arith), turn-high e r (omega arith)) (part (turn - r) (omega arith))

pub C-size : (t : ℤ) → nat_abs (C t) ≤ 2 ^ 26
unfolding C
C-size = by_quarter first_quarter first_quarter (λ x y. nat_abs x ≤ 2 ^ 26) size (λ t p. rw (abs_neg (first_quarter t)) (size t p))

-- C read from the 217 numbers, for computed tests
unfoldable pub table_c : ℤ → ℤ
table_c t = continued (at numbers) t

pub C-table : (t : ℤ) → C t ≡ table_c t
unfolding C table_c
C-table = by_quarter first_quarter (at numbers) (λ x y. x ≡ y) series_rule (λ t p. ap neg_ℤ (series_rule t p))
