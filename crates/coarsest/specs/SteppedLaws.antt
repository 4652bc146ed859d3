-- Laws of a coefficient by one step and back: what comes back is small, and how the code divides.
use Rattle.std.specs.Prelude.{◌≡◌, true, false, List, ℕ, ◌+◌, ◌-◌, ◌*◌, ◌/◌, ◌%◌, ◌^◌, ◌≤◌, ◌<◌, length, ℤ, ◌-ℤ◌, ◌*ℤ◌}
use Rattle.std.proofs.Common.{◌∙◌, mul-le-mul, div-lt_iff_lt-mul, arith, lit<}
use Rattle.std.proofs.Math.Nat.{div-add-mod, mod-lt, mul_comm, add-mul, one-mul, mul-le-mul_left}
use Rattle.std.proofs.Math.IntN.{pos, nat_abs}
use Rattle.std.specs.Int.Signed.{lt_z}
use Rattle.arithmetic.specs.IntegerLaws.{posints}
use Rattle.arithmetic.specs.OrderLaws.{posbounds}
use Rattle.arithmetic.specs.Lists.{at, Small}
use Rattle.arithmetic.specs.ListLaws.{length-table, get_d_table}
use Rattle.arithmetic.specs.QuotientLaws.{by_product}
use Rattle.levels.specs.Levels.{level, back}
use Rattle.levels.specs.LevelLaws.{back_small, level_above, level_below, clipped-within}
use Rattle.coarsest.specs.Coarsest.{stepped}

-- a step that a search tries: the sure step, which is never tried, is 15 at least
pub record Tried (step : ℕ) : Type 0 where
  pub least : 16 ≤ step
  pub most : step ≤ 1024

-- ---- a block
module _ (step : ℕ) (X : List ℤ) where
  pub stepped_long : length (stepped step X) ≡ length X
  unfolding stepped
  stepped_long = length-table (λ k. back step (level step (at X k))) (length X)

  pub stepped-at : (k : ℕ) → k < length X → at (stepped step X) k ≡ back step (level step (at X k))
  unfolding stepped
  stepped-at k p = get_d_table (λ k. back step (level step (at X k))) (pos 0) (length X) k p

  pub stepped_small : Small (stepped step X) (2 ^ 29)
  stepped_small = record { small = λ k p. rw (stepped-at k (omega (arith, stepped_long))) (back_small step (level step (at X k))) }

-- ---- the quotient by a product, with the next whole number above 2^39 / step
unfoldable pub inverse_of : ℕ → ℕ
inverse_of step = 2 ^ 39 / step + 1

module _ (step : ℕ) (t : Tried step) where
  -- multiplied by the step it has at most the step more than 2^39
  abbrev more : ℕ
  more = step - 2 ^ 39 % step

  more-is : inverse_of step * step ≡ 2 ^ 39 + more
  unfolding inverse_of
  more-is =
      let s : 0 < step = omega (arith, t.least) in
      add-mul (2 ^ 39 / step) 1 step ∙ omega (arith, one-mul step, div-add-mod (2 ^ 39) step, mul_comm (2 ^ 39 / step) step, mod-lt (2 ^ 39) s)

  pub inverse_most : inverse_of step ≤ 2 ^ 35 + 1
  unfolding inverse_of
  inverse_most =
      let s : 0 < step = omega (arith, t.least) in
      let p : 2 ^ 39 / step < 2 ^ 35 + 1 = (div-lt_iff_lt-mul {k = step} {x = 2 ^ 39} {y = 2 ^ 35 + 1} s).1 (omega (arith, mul-le-mul_left (2 ^ 35 + 1) t.least)) in
      omega (arith, p)

  -- of a size with half a step on it, as large as direct analysis gives it
  module _ (r : ℕ) (few : r ≤ 216 * 2 ^ 21 + 512) where
    pub product-fits : r * inverse_of step < 2 ^ 64
    product-fits = omega (arith, mul-le-mul few inverse_most)

    pub quotient_is : r * inverse_of step / 2 ^ 39 ≡ r / step
    quotient_is =
        let s : 0 < step = omega (arith, t.least) in
        let m : more ≤ 1024 = omega (arith, t.most) in
        by_product step (inverse_of step) (2 ^ 39) more r s more-is (lit< tt) (omega (arith, mul-le-mul few m))

    -- the multiple below it
    pub multiple-most : r / step * step ≤ r
    multiple-most = omega (arith, div-add-mod r step, mul_comm (r / step) step)

    pub quotient_most : r / step ≤ r
    quotient_most = omega (arith, multiple-most, mul-le-mul_left (r / step) t.least)

-- ---- what comes back from the level of a coefficient, by its size: no clip is needed
module _ (step : ℕ) (t : Tried step) (X : ℤ) (small : nat_abs X ≤ 216 * 2 ^ 21) where
  abbrev pub raised : ℕ
  raised = nat_abs X + step / 2

  pub raised-few : raised ≤ 216 * 2 ^ 21 + 512
  raised-few = omega (arith, t.most)

  abbrev pub multiple : ℕ
  multiple = raised / step * step

  pub multiple_small : multiple ≤ 2 ^ 29
  multiple_small = omega (arith, multiple-most step t raised raised-few, raised-few)

  pub back_above : lt_z X (pos 0) ≡ false → back step (level step X) ≡ pos multiple
  unfolding back
  back_above h =
      let e : pos (raised / step) *ℤ pos step ≡ pos multiple = simp posints (omega arith) in
      rw (level_above step X h, e) (clipped-within (pos multiple) multiple_small)

  pub back_below : lt_z X (pos 0) ≡ true → back step (level step X) ≡ pos 0 -ℤ pos multiple
  unfolding back
  back_below h =
      let e : (pos 0 -ℤ pos (raised / step)) *ℤ pos step ≡ pos 0 -ℤ pos multiple = simp posints (omega arith) in
      let s : nat_abs (pos 0 -ℤ pos multiple) ≤ 2 ^ 29 = simp posbounds (omega (arith, multiple_small)) in
      rw (level_below step X h, e) (clipped-within (pos 0 -ℤ pos multiple) s)
