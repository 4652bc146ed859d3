-- The sums of a level: what its two products and the sums of its third make.
use Rattle.std.specs.Prelude.{◌≡◌, List, [], ℕ, ◌+◌, ◌*◌, ◌/◌, ◌%◌, ◌^◌, ◌<◌, ◌≤◌, length, ℤ, pos, nat_abs, ◌+ℤ◌, ◌-ℤ◌, ◌*ℤ◌}
use Rattle.std.proofs.Common.{sym, ap, ◌∙◌, arith}
use Rattle.std.proofs.Math.Path.{ap₂}
use native.Mathlib.Nat.{le-div_iff_mul-le, mul-le-mul_left, div-mul-le_self}
use Rattle.std.proofs.Math.Nat.{mod-lt}
use Rattle.arithmetic.specs.Lists.{at, table, Small}
use Rattle.arithmetic.specs.OrderLaws.{abs_add, abs_sub}
use Rattle.arithmetic.specs.ListLaws.{length-table, get_d_table}
use Rattle.arithmetic.specs.SumLaws.{sum_ext, sum_add}
use Rattle.arithmetic.specs.RingLaws.{*ℤ_distl}
use Rattle.arithmetic.specs.IntegerLaws.{ints, zarith}
use Rattle.inner_products.specs.Products.{products, row, SmallRows}
use Rattle.level.specs.Places.{signed_at, kernel_at, sum_at}
use Rattle.level.specs.Levels.{place_at, IsLevel, AreSpots, plus_of, minus_of, doubled_of}
use Rattle.level.specs.PairLaws.{pair_sum, pair_difference, near_spot, far_spot}
use Rattle.level.proofs.Sizes.{sum_at_size, kernel_at_size}

-- ---- shares of 2^31
pub smaller_share : (n a b : ℕ) → 0 < a → a ≤ b → n / b ≤ n / a
smaller_share n a b p h = (le-div_iff_mul-le p).1 (omega (arith, mul-le-mul_left (n / b) h, div-mul-le_self n b))

pub light : (x : List ℤ) (m : ℕ) → 6 ≤ m → Small x (2 ^ 31 / m) → Small x (2 ^ 29)
light x m h s = record { small = λ i q. let t = smaller_share (2 ^ 31) 6 m (omega arith) h in omega (arith, s.small i q) }

module _ {h l : ℕ} {near far near' far' : List ℕ} {plus minus : List (List ℤ)} (level : IsLevel h l near far plus minus near' far') (z y : List ℤ) (y_is : y ≡ table h (λ i. at z (3 * i + 1))) where
  abbrev m : ℕ
  m = h + (h + h)

  every : (i : ℕ) → i < h → at y i ≡ at z (3 * i + 1)
  every i p = rw y_is (get_d_table (λ i. at z (3 * i + 1)) (pos 0) h i p)

  plus_at : (k i : ℕ) → k < h → i < h → at (row plus k) i ≡ kernel_at m (place_at near i) (place_at near k) +ℤ kernel_at m (place_at near i) (place_at far k)
  unfolding plus_of
  plus_at k i p q =
      rw (level.plus_is, get_d_table (λ k. table h (λ i. kernel_at m (place_at near i) (place_at near k) +ℤ kernel_at m (place_at near i) (place_at far k))) [] h k p)
      (get_d_table (λ i. kernel_at m (place_at near i) (place_at near k) +ℤ kernel_at m (place_at near i) (place_at far k)) (pos 0) h i q)

  minus_at : (k i : ℕ) → k < h → i < h → at (row minus k) i ≡ kernel_at m (place_at near i) (place_at near k) -ℤ kernel_at m (place_at near i) (place_at far k)
  unfolding minus_of
  minus_at k i p q =
      rw (level.minus_is, get_d_table (λ k. table h (λ i. kernel_at m (place_at near i) (place_at near k) -ℤ kernel_at m (place_at near i) (place_at far k))) [] h k p)
      (get_d_table (λ i. kernel_at m (place_at near i) (place_at near k) -ℤ kernel_at m (place_at near i) (place_at far k)) (pos 0) h i q)

  pub sums_are : (third a : List ℤ) → 0 < l → third ≡ table l (λ k. sum_at h y (place_at near' k) +ℤ sum_at h y (place_at far' k)) → a ≡ table h (λ i. signed_at z (place_at near i) +ℤ signed_at z (place_at far i)) → (k : ℕ) → k < h →
      at third (k % l) +ℤ products h a (row plus k) ≡ sum_at m z (place_at near k) +ℤ sum_at m z (place_at far k)
  unfolding products
  sums_are third a some third_is a_is k p =
      ap₂ (λ (s t : ℤ). s +ℤ t) (rw third_is (get_d_table (λ k. sum_at h y (place_at near' k) +ℤ sum_at h y (place_at far' k)) (pos 0) l (k % l) (mod-lt k some)))
      (sum_ext h (λ j. at a j *ℤ at (row plus k) j) (λ i. (signed_at z (place_at near i) +ℤ signed_at z (place_at far i)) *ℤ (kernel_at m (place_at near i) (place_at near k) +ℤ kernel_at m (place_at near i) (place_at far k)))
      (λ i q. ap₂ (λ (s t : ℤ). s *ℤ t) (rw a_is (get_d_table (λ i. signed_at z (place_at near i) +ℤ signed_at z (place_at far i)) (pos 0) h i q)) (plus_at k i p q)))
      ∙ sym (pair_sum level.pairs z y every k p)

  pub differences_are : (third b : List ℤ) → 0 < l → third ≡ table l (λ k. sum_at h y (place_at near' k) -ℤ sum_at h y (place_at far' k)) → b ≡ table h (λ i. signed_at z (place_at near i) -ℤ signed_at z (place_at far i)) → (k : ℕ) → k < h →
      at third (k % l) +ℤ products h b (row minus k) ≡ sum_at m z (place_at near k) -ℤ sum_at m z (place_at far k)
  unfolding products
  differences_are third b some third_is b_is k p =
      ap₂ (λ (s t : ℤ). s +ℤ t) (rw third_is (get_d_table (λ k. sum_at h y (place_at near' k) -ℤ sum_at h y (place_at far' k)) (pos 0) l (k % l) (mod-lt k some)))
      (sum_ext h (λ j. at b j *ℤ at (row minus k) j) (λ i. (signed_at z (place_at near i) -ℤ signed_at z (place_at far i)) *ℤ (kernel_at m (place_at near i) (place_at near k) -ℤ kernel_at m (place_at near i) (place_at far k)))
      (λ i q. ap₂ (λ (s t : ℤ). s *ℤ t) (rw b_is (get_d_table (λ i. signed_at z (place_at near i) -ℤ signed_at z (place_at far i)) (pos 0) h i q)) (minus_at k i p q)))
      ∙ sym (pair_difference level.pairs z y every k p)

  -- ---- sizes
  pub near_spots : AreSpots m near
  near_spots =
      record {
        less = λ i p. let q = level.pairs.less i (omega (arith, level.near_long)) in let e = near_spot level.pairs z i (omega (arith, level.near_long)) in omega arith;
      }

  pub far_spots : AreSpots m far
  far_spots =
      record {
        less = λ i p. let q = level.pairs.less (h + i) (omega (arith, level.far_long)) in let e = far_spot level.pairs z i (omega (arith, level.far_long)) in omega arith;
      }

  pub y_small : (B : ℕ) → length z ≡ m → Small z B → Small y B
  y_small B long s =
      record {
        small = λ i p.
            let e : length y ≡ h = ap length y_is ∙ length-table (λ i. at z (3 * i + 1)) h in
            rw (every i (omega arith)) (s.small (3 * i + 1) (omega arith));
      }

  pub third_small : length z ≡ m → Small z (2 ^ 29) → (e : ℕ) → nat_abs (sum_at h y e) ≤ 36 * 2 ^ 55
  third_small long s e =
      let l : length y ≡ h = ap length y_is ∙ length-table (λ i. at z (3 * i + 1)) h in
      omega (arith, sum_at_size h (2 ^ 29) y e l (y_small (2 ^ 29) long s), level.pairs.few)

  pub plus_small : SmallRows plus (2 ^ 27)
  unfolding plus_of
  plus_small =
      record {
        rows = λ k p. record {
          small = λ i q.
              let e : length plus ≡ h = ap length level.plus_is ∙ length-table (λ k. table h (λ i. kernel_at m (place_at near i) (place_at near k) +ℤ kernel_at m (place_at near i) (place_at far k))) h in
              let r : k < h = omega arith in
              let w : row plus k ≡ table h (λ i. kernel_at m (place_at near i) (place_at near k) +ℤ kernel_at m (place_at near i) (place_at far k)) =
              ap (λ (x : List (List ℤ)). row x k) level.plus_is ∙ get_d_table (λ k. table h (λ i. kernel_at m (place_at near i) (place_at near k) +ℤ kernel_at m (place_at near i) (place_at far k))) [] h k r
              in
              let t : length (row plus k) ≡ h = ap length w ∙ length-table (λ i. kernel_at m (place_at near i) (place_at near k) +ℤ kernel_at m (place_at near i) (place_at far k)) h in
              rw (plus_at k i r (omega arith)) (omega (arith, abs_add (kernel_at m (place_at near i) (place_at near k)) (kernel_at m (place_at near i) (place_at far k)), kernel_at_size m (place_at near i) (place_at near k), kernel_at_size m (place_at near i) (place_at far k)));
        };
      }

  pub minus_small : SmallRows minus (2 ^ 27)
  unfolding minus_of
  minus_small =
      record {
        rows = λ k p. record {
          small = λ i q.
              let e : length minus ≡ h = ap length level.minus_is ∙ length-table (λ k. table h (λ i. kernel_at m (place_at near i) (place_at near k) -ℤ kernel_at m (place_at near i) (place_at far k))) h in
              let r : k < h = omega arith in
              let w : row minus k ≡ table h (λ i. kernel_at m (place_at near i) (place_at near k) -ℤ kernel_at m (place_at near i) (place_at far k)) =
              ap (λ (x : List (List ℤ)). row x k) level.minus_is ∙ get_d_table (λ k. table h (λ i. kernel_at m (place_at near i) (place_at near k) -ℤ kernel_at m (place_at near i) (place_at far k))) [] h k r
              in
              let t : length (row minus k) ≡ h = ap length w ∙ length-table (λ i. kernel_at m (place_at near i) (place_at near k) -ℤ kernel_at m (place_at near i) (place_at far k)) h in
              rw (minus_at k i r (omega arith)) (omega (arith, abs_sub (kernel_at m (place_at near i) (place_at near k)) (kernel_at m (place_at near i) (place_at far k)), kernel_at_size m (place_at near i) (place_at near k), kernel_at_size m (place_at near i) (place_at far k)));
        };
      }

-- ---- tables of sums and differences of two numbers of at most B
pub sums_small : (h B : ℕ) (f g : ℕ → ℤ) (xs : List ℤ) → xs ≡ table h (λ k. f k +ℤ g k) → ((k : ℕ) → k < h → nat_abs (f k) ≤ B) → ((k : ℕ) → k < h → nat_abs (g k) ≤ B) → Small xs (2 * B)
sums_small h B f g xs e p q =
    record {
      small = λ k r.
          let l : length xs ≡ h = ap length e ∙ length-table (λ k. f k +ℤ g k) h in
          rw (e, get_d_table (λ k. f k +ℤ g k) (pos 0) h k (omega arith)) (omega (arith, abs_add (f k) (g k), p k (omega arith), q k (omega arith)));
    }

pub differences_small : (h B : ℕ) (f g : ℕ → ℤ) (xs : List ℤ) → xs ≡ table h (λ k. f k -ℤ g k) → ((k : ℕ) → k < h → nat_abs (f k) ≤ B) → ((k : ℕ) → k < h → nat_abs (g k) ≤ B) → Small xs (2 * B)
differences_small h B f g xs e p q =
    record {
      small = λ k r.
          let l : length xs ≡ h = ap length e ∙ length-table (λ k. f k -ℤ g k) h in
          rw (e, get_d_table (λ k. f k -ℤ g k) (pos 0) h k (omega arith)) (omega (arith, abs_sub (f k) (g k), p k (omega arith), q k (omega arith)));
    }

-- ---- a block without a third
module _ (d : ℕ) where
  doubled_row : (k : ℕ) → k < d → row (doubled_of d) k ≡ table d (λ j. kernel_at d j k +ℤ kernel_at d j k)
  unfolding doubled_of
  doubled_row k p = get_d_table (λ k. table d (λ j. kernel_at d j k +ℤ kernel_at d j k)) [] d k p

  pub doubled_sum : (z : List ℤ) (k : ℕ) → k < d → products d z (row (doubled_of d) k) ≡ sum_at d z k +ℤ sum_at d z k
  unfolding products sum_at
  doubled_sum z k p =
      sum_ext d (λ j. at z j *ℤ at (row (doubled_of d) k) j) (λ j. at z j *ℤ kernel_at d j k +ℤ at z j *ℤ kernel_at d j k)
      (λ j q. rw (doubled_row k p, get_d_table (λ j. kernel_at d j k +ℤ kernel_at d j k) (pos 0) d j q) (*ℤ_distl (at z j) (kernel_at d j k) (kernel_at d j k)))
      ∙ sum_add d (λ j. at z j *ℤ kernel_at d j k) (λ j. at z j *ℤ kernel_at d j k)

  pub doubled_small : SmallRows (doubled_of d) (2 ^ 27)
  unfolding doubled_of
  doubled_small =
      record {
        rows = λ k p. record {
          small = λ i q.
              let r : k < d = omega (arith, length-table (λ k. table d (λ j. kernel_at d j k +ℤ kernel_at d j k)) d) in
              let t : length (row (doubled_of d) k) ≡ d = ap length (doubled_row k r) ∙ length-table (λ j. kernel_at d j k +ℤ kernel_at d j k) d in
              rw (doubled_row k r, get_d_table (λ j. kernel_at d j k +ℤ kernel_at d j k) (pos 0) d i (omega arith)) (omega (arith, abs_add (kernel_at d i k) (kernel_at d i k), kernel_at_size d i k));
        };
      }

pub none_left : (x : ℤ) → pos 0 ≡ x -ℤ x
none_left x = simp ints (omega zarith)
