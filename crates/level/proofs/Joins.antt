-- All sums of a block: those at every third place by the block folded three to one, and each to its place.
use Rattle.std.specs.Prelude.{◌≡◌, refl, cond, true, false, Bool, List, ℕ, suc, ◌+◌, ◌-◌, ◌*◌, ◌/◌, ◌^◌, ◌<◌, ◌≤◌, ltb, length, ℤ, pos, neg_ℤ, nat_abs, ◌+ℤ◌, ◌-ℤ◌, ◌*ℤ◌}
use Rattle.std.proofs.Common.{sym, ap, ◌∙◌, arith, lt→ltb, ltb→lt}
use Rattle.std.proofs.Math.Path.{ap₂}
use Rattle.std.proofs.Math.Decide.{dec_lt}
use Rattle.std.proofs.Math.Logic.{dite}
use native.Mathlib.Nat.{le-div_iff_mul-le, div-mul-le_self, mul_assoc, mul-add}
use Rattle.arithmetic.specs.Sums.{sum}
use Rattle.arithmetic.specs.Lists.{at, table, Small}
use Rattle.arithmetic.specs.IntegerLaws.{ints, zarith}
use Rattle.arithmetic.specs.OrderLaws.{abs_add, abs_sub}
use Rattle.arithmetic.specs.SumLaws.{sum_ext, sum_add, sum-split, sum_rev, sum_neg}
use Rattle.arithmetic.specs.ListLaws.{length-table, get_d_table}
use Rattle.arithmetic.specs.TestLaws.{is_true, is_false}
use Rattle.cosine.specs.Kernels.{F}
use Rattle.level.proofs.Sizes.{sum_at_size}
use Rattle.level.specs.Places.{spot, turn_by, signed_at, kernel_at, sum_at, twice}
use Rattle.level.specs.Levels.{place_at, IsJoin, three_to_one, joined_at, Joinable, joined_place}

-- ---- signs
by_sign : (b : Bool) (x z : ℤ) → x *ℤ cond b z (neg_ℤ z) ≡ cond b (x *ℤ z) (neg_ℤ (x *ℤ z))
by_sign true x z = refl
by_sign false x z = simp ints (omega zarith)

sum_by_sign : (b : Bool) (m : ℕ) (f : ℕ → ℤ) → sum m (λ j. cond b (f j) (neg_ℤ (f j))) ≡ cond b (sum m f) (neg_ℤ (sum m f))
sum_by_sign true m f = refl
sum_by_sign false m f = sum_neg m f

swap_sign : (a b : Bool) (z : ℤ) → cond a (cond b z (neg_ℤ z)) (neg_ℤ (cond b z (neg_ℤ z))) ≡ cond b (cond a z (neg_ℤ z)) (neg_ℤ (cond a z (neg_ℤ z)))
swap_sign true true z = refl
swap_sign true false z = refl
swap_sign false true z = refl
swap_sign false false z = refl

twice_sign : (b : Bool) (z : ℤ) → cond b (cond b z (neg_ℤ z)) (neg_ℤ (cond b z (neg_ℤ z))) ≡ z
twice_sign true z = refl
twice_sign false z = simp ints (omega zarith)

double_sign : (b : Bool) (z : ℤ) → cond b (z +ℤ z) (neg_ℤ (z +ℤ z)) ≡ cond b z (neg_ℤ z) +ℤ cond b z (neg_ℤ z)
double_sign true z = refl
double_sign false z = simp ints (omega zarith)

both_sum : (a b : ℤ) → (a +ℤ b) +ℤ (a -ℤ b) ≡ a +ℤ a
both_sum a b = simp ints (omega zarith)

both_difference : (a b : ℤ) → (a +ℤ b) -ℤ (a -ℤ b) ≡ b +ℤ b
both_difference a b = simp ints (omega zarith)

-- the sum at a place is that at its number, turned
pub S_turned : (m : ℕ) (x : List ℤ) (e : ℕ) → spot e < 128 → sum_at m x e ≡ turn_by e (sum_at m x (spot e))
unfolding sum_at kernel_at
S_turned m x e p =
    let b : ltb (spot e) 128 ≡ true = is_true (lt→ltb (spot e) 128 p) in
    rw b
    (sum_ext m (λ j. at x j *ℤ kernel_at m j e) (λ j. cond (ltb e 128) (at x j *ℤ turn_by j (F (2 * m) (spot j) (spot e))) (neg_ℤ (at x j *ℤ turn_by j (F (2 * m) (spot j) (spot e)))))
    (λ j q. ap (λ (z : ℤ). at x j *ℤ z) (swap_sign (ltb j 128) (ltb e 128) (F (2 * m) (spot j) (spot e))) ∙ by_sign (ltb e 128) (at x j) (turn_by j (F (2 * m) (spot j) (spot e))))
    ∙ sum_by_sign (ltb e 128) m (λ j. at x j *ℤ turn_by j (F (2 * m) (spot j) (spot e))))

module _ {h : ℕ} {near far of : List ℕ} (join : IsJoin h near far of) (z w : List ℤ) (w_is : w ≡ table h (three_to_one h z)) where
  abbrev m : ℕ
  m = h + (h + h)

  -- the sum at every third place
  pub third_output : (i : ℕ) → i < h → sum_at m z (3 * i + 1) ≡ sum_at h w i
  unfolding sum_at
  third_output i p =
      let g : ℕ → ℤ = λ j. at z j *ℤ kernel_at m j (3 * i + 1) in
      let k : ℕ → ℤ = λ q. kernel_at h q i in
      sum-split h (h + h) g
      ∙ ap₂ (λ (a b : ℤ). a +ℤ b) (sum_ext h g (λ q. at z q *ℤ k q) (λ q r. rw (join.first q i r p) refl))
      (sum-split h h (λ q. g (h + q))
      ∙ ap₂ (λ (a b : ℤ). a +ℤ b)
      (sum_rev h (λ q. g (h + q)) ∙ sum_ext h (λ q. g (h + (h - suc q))) (λ q. at z (h + (h - suc q)) *ℤ neg_ℤ (k q)) (λ q r. rw (join.second q i r p) refl))
      (sum_ext h (λ q. g (h + (h + q))) (λ q. at z (h + (h + q)) *ℤ neg_ℤ (k q)) (λ q r. rw (join.third q i r p) refl)))
      ∙ ap (λ (a : ℤ). sum h (λ q. at z q *ℤ k q) +ℤ a) (sym (sum_add h (λ q. at z (h + (h - suc q)) *ℤ neg_ℤ (k q)) (λ q. at z (h + (h + q)) *ℤ neg_ℤ (k q))))
      ∙ sym (sum_add h (λ q. at z q *ℤ k q) (λ q. at z (h + (h - suc q)) *ℤ neg_ℤ (k q) +ℤ at z (h + (h + q)) *ℤ neg_ℤ (k q)))
      ∙ sum_ext h (λ q. at z q *ℤ k q +ℤ (at z (h + (h - suc q)) *ℤ neg_ℤ (k q) +ℤ at z (h + (h + q)) *ℤ neg_ℤ (k q))) (λ q. at w q *ℤ k q)
      (λ q r.
      let e : h - suc q ≡ h - 1 - q = omega arith in
      rw (w_is, get_d_table (three_to_one h z) (pos 0) h q r, e) (three (at z q) (at z (h + (h - 1 - q))) (at z (h + (h + q))) (k q)))
    where
      three : (a b d k : ℤ) → a *ℤ k +ℤ (b *ℤ neg_ℤ k +ℤ d *ℤ neg_ℤ k) ≡ (a -ℤ b -ℤ d) *ℤ k
      three a b d k = simp ints (omega zarith)

  -- the number at an index of the line is twice the sum at its place
  module _ (p d s : List ℤ) (p_is : p ≡ table h (λ k. sum_at m z (place_at near k) +ℤ sum_at m z (place_at far k))) (d_is : d ≡ table h (λ k. sum_at m z (place_at near k) -ℤ sum_at m z (place_at far k))) (s_is : s ≡ table h (λ k. sum_at h w k +ℤ sum_at h w k)) where
    p_at : (i : ℕ) → i < h → at p i ≡ sum_at m z (place_at near i) +ℤ sum_at m z (place_at far i)
    p_at i q = rw p_is (get_d_table (λ k. sum_at m z (place_at near k) +ℤ sum_at m z (place_at far k)) (pos 0) h i q)

    d_at : (i : ℕ) → i < h → at d i ≡ sum_at m z (place_at near i) -ℤ sum_at m z (place_at far i)
    d_at i q = rw d_is (get_d_table (λ k. sum_at m z (place_at near k) -ℤ sum_at m z (place_at far k)) (pos 0) h i q)

    pub joined_is : (i : ℕ) → i < m → joined_at h p d s i ≡ sum_at m z (joined_place h (place_at near) (place_at far) i) +ℤ sum_at m z (joined_place h (place_at near) (place_at far) i)
    unfolding joined_place
    joined_is i q =
        dite (dec_lt i h)
        (λ l. let b : ltb i h ≡ true = is_true (lt→ltb i h l) in rw (b, p_at i l, d_at i l) (both_sum (sum_at m z (place_at near i)) (sum_at m z (place_at far i))))
        (λ g. let b : ltb i h ≡ false = is_false (λ t. g (ltb→lt i h t)) in
        dite (dec_lt i (h + h))
        (λ l. let c : ltb i (h + h) ≡ true = is_true (lt→ltb i (h + h) l) in
        let r : i - h < h = omega arith in
        rw (b, c, p_at (i - h) r, d_at (i - h) r) (both_difference (sum_at m z (place_at near (i - h))) (sum_at m z (place_at far (i - h)))))
        (λ k. let c : ltb i (h + h) ≡ false = is_false (λ t. k (ltb→lt i (h + h) t)) in
        let r : i - (h + h) < h = omega arith in
        rw (b, c, s_is, get_d_table (λ k. sum_at h w k +ℤ sum_at h w k) (pos 0) h (i - (h + h)) r, third_output (i - (h + h)) r) refl))

    pub put_is : h ≤ 36 → (u : List ℤ) → u ≡ table m (joined_at h p d s) → (j : ℕ) → j < m → signed_at u (place_at of j) ≡ sum_at m z j +ℤ sum_at m z j
    put_is few u u_is j q =
        let e = place_at of j in
        let i = spot e in
        let c = joined_place h (place_at near) (place_at far) i in
        let there : spot c ≡ j = join.there j q in
        let sign : ltb c 128 ≡ ltb e 128 = join.sign j q in
        let a : at u i ≡ sum_at m z c +ℤ sum_at m z c = rw u_is (get_d_table (joined_at h p d s) (pos 0) m i (join.spots j q) ∙ joined_is i (join.spots j q)) in
        let t : sum_at m z c ≡ cond (ltb e 128) (sum_at m z j) (neg_ℤ (sum_at m z j)) =
        S_turned m z c (omega arith) ∙ ap (λ (k : ℕ). turn_by c (sum_at m z k)) there ∙ ap (λ (b : Bool). cond b (sum_at m z j) (neg_ℤ (sum_at m z j))) sign
        in
        ap (λ (x : ℤ). turn_by e x) (a ∙ ap (λ (x : ℤ). x +ℤ x) t ∙ sym (double_sign (ltb e 128) (sum_at m z j))) ∙ twice_sign (ltb e 128) (sum_at m z j +ℤ sum_at m z j)

-- ---- sizes
three_shares : (n h : ℕ) → 0 < h → 3 * (n / (h + (h + h))) ≤ n / h
three_shares n h p =
    let x = n / (h + (h + h)) in
    let a : x * (h + (h + h)) ≤ n = div-mul-le_self n (h + (h + h)) in
    let e : x * (h + (h + h)) ≡ x * h + (x * h + x * h) = omega (arith, mul-add x h (h + h), mul-add x h h) in
    let f : 3 * x * h ≡ 3 * (x * h) = mul_assoc 3 x h in
    (le-div_iff_mul-le p).1 (omega arith)

pub folded_small : (h : ℕ) (z w : List ℤ) → 0 < h → length z ≡ h + (h + h) → w ≡ table h (three_to_one h z) → Small z (2 ^ 31 / (h + (h + h))) → Small w (2 ^ 31 / h)
folded_small h z w some long w_is s =
    record {
      small = λ q p.
          let l : length w ≡ h = ap length w_is ∙ length-table (three_to_one h z) h in
          let t = three_shares (2 ^ 31) h some in
          rw (w_is, get_d_table (three_to_one h z) (pos 0) h q (omega arith))
          (omega (arith, abs_sub (at z q -ℤ at z (h + (h - 1 - q))) (at z (h + (h + q))), abs_sub (at z q) (at z (h + (h - 1 - q))), s.small q (omega arith), s.small (h + (h - 1 - q)) (omega arith), s.small (h + (h + q)) (omega arith)));
    }

pub folded_light : (h : ℕ) (z w : List ℤ) → length z ≡ h + (h + h) → w ≡ table h (three_to_one h z) → Small z (2 ^ 29) → Small w (3 * 2 ^ 29)
folded_light h z w long w_is s =
    record {
      small = λ q p.
          let l : length w ≡ h = ap length w_is ∙ length-table (three_to_one h z) h in
          rw (w_is, get_d_table (three_to_one h z) (pos 0) h q (omega arith))
          (omega (arith, abs_sub (at z q -ℤ at z (h + (h - 1 - q))) (at z (h + (h + q))), abs_sub (at z q) (at z (h + (h - 1 - q))), s.small q (omega arith), s.small (h + (h - 1 - q)) (omega arith), s.small (h + (h + q)) (omega arith)));
    }

-- a table of doubled sums
pub sums_at_most : (m : ℕ) (f g : ℕ → ℤ) (u : List ℤ) → u ≡ table m f → ((i : ℕ) → i < m → f i ≡ g i +ℤ g i) → ((i : ℕ) → i < m → nat_abs (g i) ≤ 108 * 2 ^ 55) → Small u (108 * 2 ^ 56)
sums_at_most m f g u e j b =
    record {
      small = λ i q.
          let l : length u ≡ m = ap length e ∙ length-table f m in
          rw (e, get_d_table f (pos 0) m i (omega arith), j i (omega arith)) (omega (arith, abs_add (g i) (g i), b i (omega arith)));
    }

-- ---- what `from_parts` needs, for a length n that is given as 3 h
module _ (n h : ℕ) (near far of : List ℕ) (z p d s : List ℤ) (three : n ≡ h + (h + h)) (few : h ≤ 36) (join : IsJoin h near far of) (long : length z ≡ n) (small : Small z (2 ^ 29))
    (p_is : p ≡ table h (λ k. sum_at n z (place_at near k) +ℤ sum_at n z (place_at far k))) (d_is : d ≡ table h (λ k. sum_at n z (place_at near k) -ℤ sum_at n z (place_at far k)))
    (s_is : s ≡ twice h (table h (three_to_one h z))) where
  light : (e : ℕ) → nat_abs (sum_at n z e) ≤ 108 * 2 ^ 55
  light e = omega (arith, sum_at_size n (2 ^ 29) z e long small)

  light_of : (e : ℕ) → nat_abs (sum_at (h + (h + h)) z e) ≤ 108 * 2 ^ 55
  light_of e = rw three at (light e)

  p_of : p ≡ table h (λ k. sum_at (h + (h + h)) z (place_at near k) +ℤ sum_at (h + (h + h)) z (place_at far k))
  p_of = rw three at p_is

  d_of : d ≡ table h (λ k. sum_at (h + (h + h)) z (place_at near k) -ℤ sum_at (h + (h + h)) z (place_at far k))
  d_of = rw three at d_is

  w : List ℤ
  w = table h (three_to_one h z)

  s_of : s ≡ table h (λ k. sum_at h w k +ℤ sum_at h w k)
  unfolding w twice
  s_of = s_is

  w_of : w ≡ table h (three_to_one h z)
  unfolding w
  w_of = refl

  joined_of : (i : ℕ) → i < h + (h + h) → joined_at h p d s i ≡ sum_at (h + (h + h)) z (joined_place h (place_at near) (place_at far) i) +ℤ sum_at (h + (h + h)) z (joined_place h (place_at near) (place_at far) i)
  joined_of = joined_is join z w w_of p d s p_of d_of s_of

  pub joinable : Joinable h p d
  joinable = record {
    sums = λ i q. rw (p_is, d_is, get_d_table (λ k. sum_at n z (place_at near k) +ℤ sum_at n z (place_at far k)) (pos 0) h i q, get_d_table (λ k. sum_at n z (place_at near k) -ℤ sum_at n z (place_at far k)) (pos 0) h i q, both_sum (sum_at n z (place_at near i)) (sum_at n z (place_at far i)))
        (omega (arith, abs_add (sum_at n z (place_at near i)) (sum_at n z (place_at near i)), light (place_at near i)));
    differences = λ i q. rw (p_is, d_is, get_d_table (λ k. sum_at n z (place_at near k) +ℤ sum_at n z (place_at far k)) (pos 0) h i q, get_d_table (λ k. sum_at n z (place_at near k) -ℤ sum_at n z (place_at far k)) (pos 0) h i q, both_difference (sum_at n z (place_at near i)) (sum_at n z (place_at far i)))
        (omega (arith, abs_add (sum_at n z (place_at far i)) (sum_at n z (place_at far i)), light (place_at far i)));
  }

  module _ (u : List ℤ) (u_is : u ≡ table n (joined_at h p d s)) where
    u_of : u ≡ table (h + (h + h)) (joined_at h p d s)
    u_of = rw three at u_is

    pub line_small : Small u (108 * 2 ^ 56)
    line_small =
        sums_at_most (h + (h + h)) (joined_at h p d s) (λ i. sum_at (h + (h + h)) z (joined_place h (place_at near) (place_at far) i)) u u_of joined_of
        (λ i q. light_of (joined_place h (place_at near) (place_at far) i))

    pub line_is : (j : ℕ) → j < n → signed_at u (place_at of j) ≡ sum_at n z j +ℤ sum_at n z j
    line_is j q = rw three (put_is join z w w_of p d s p_of d_of s_of few u u_of j (omega arith))

-- the sum at a number, in the words of the folded kernel
pub sum_at_is : (m : ℕ) (x : List ℤ) (k : ℕ) → m ≤ 128 → k < m → sum_at m x k ≡ sum m (λ j. at x j *ℤ F (2 * m) j k)
unfolding sum_at kernel_at
sum_at_is m x k few less =
    let b : ltb k 128 ≡ true = is_true (lt→ltb k 128 (omega arith)) in
    sum_ext m (λ j. at x j *ℤ kernel_at m j k) (λ j. at x j *ℤ F (2 * m) j k) (λ j p. let a : ltb j 128 ≡ true = is_true (lt→ltb j 128 (omega arith)) in rw (a, b) refl)
