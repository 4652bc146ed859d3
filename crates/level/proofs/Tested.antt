-- The pairs of each length, by one computed test.
use Rattle.std.specs.Prelude.{◌≡◌, refl, cond, true, false, Bool, T, List, [], ◌∷◌, ℕ, suc, eqb, ◌+◌, ◌-◌, ◌*◌, ◌%◌, ◌<◌, ltb, leb, length, ℤ, pos, neg_ℤ, ◌+ℤ◌, ◌-ℤ◌}
use Rattle.std.proofs.Common.{sym, ap, ◌∙◌, ltb→lt, leb→le, eqb→eq}
use Rattle.arithmetic.specs.Sums.{sum}
use Rattle.arithmetic.specs.Lists.{all, every, table}
use Rattle.arithmetic.specs.TestLaws.{all-at, both_left, both_right, same, same-is}
use Rattle.cosine.specs.Cosine.{reduced, to_half, to_turn, continued}
use Rattle.cosine.specs.CosineLaws.{table_c, C-table}
use Rattle.cosine.specs.TableLaws.{numbers}
use Rattle.cosine.specs.Kernels.{d, F}
use Rattle.level.specs.Places.{spot, turn_by, kernel_at}
use Rattle.level.specs.PairLaws.{order, Pairs}
use Rattle.level.specs.ReorderLaws.{one_at}
use Rattle.level.specs.Levels.{place_at, IsLevel, IsJoin, plus_of, minus_of, doubled_of, joined_place}
use Rattle.arithmetic.specs.ListLaws.{table_ext}
use Rattle.level.specs.Spots.{near_2, far_2, near_4, far_4, near_6, far_6, near_12, far_12, near_18, far_18, near_36, far_36, near_54, far_54, near_108, far_108}

-- the kernel read from the table of 217 numbers, which computes
unfoldable pub read_kernel : ℕ → ℕ → ℕ → ℤ
read_kernel m a b = turn_by a (turn_by b (table_c (pos (d (2 * m) * (2 * spot a + 1) * (2 * spot b + 1)))))

table_is : (m a b : ℕ) → read_kernel m a b ≡ kernel_at m a b
unfolding read_kernel kernel_at F
table_is m a b = rw (C-table (pos (d (2 * m) * (2 * spot a + 1) * (2 * spot b + 1))))

alike_at : (h : ℕ) (p q : ℕ → ℕ → ℤ) → T (all h (λ i. all h (λ k. same (p i k) (q i k)))) → (i k : ℕ) → i < h → k < h → p i k ≡ q i k
alike_at h p q t i k r s =
    same-is (p i k) (q i k) (all-at h (λ k. same (p i k) (q i k)) (all-at h (λ i. all h (λ k. same (p i k) (q i k))) t i r) k s)

abbrev both : Bool → Bool → Bool
both a b = cond a b false

module _ (h l : ℕ) (n f n' f' : ℕ → ℕ) where
  abbrev pub m : ℕ
  m = h + (h + h)

  unfoldable pub places : Bool
  places = all m (λ i. ltb (order h n f i) m)

  unfoldable pub counts : Bool
  counts = all m (λ j. same (sum m (λ i. one_at (order h n f i) j)) (pos 1))

  abbrev pub alike : (ℕ → ℕ → ℤ) → (ℕ → ℕ → ℤ) → Bool
  alike p q = all h (λ i. all h (λ k. same (p i k) (q i k)))

  unfoldable pub same_sides : Bool
  same_sides = alike (λ i k. read_kernel m (f i) (f k)) (λ i k. read_kernel m (n i) (n k))

  unfoldable pub other_sides : Bool
  other_sides = alike (λ i k. read_kernel m (f i) (n k)) (λ i k. read_kernel m (n i) (f k))

  unfoldable pub near_thirds : Bool
  near_thirds = alike (λ i k. read_kernel m (3 * i + 1) (n k)) (λ i k. read_kernel h i (n' (k % l)))

  unfoldable pub far_thirds : Bool
  far_thirds = alike (λ i k. read_kernel m (3 * i + 1) (f k)) (λ i k. read_kernel h i (f' (k % l)))

  pub pairs_of : T (leb h 36) → T places → T counts → T same_sides → T other_sides → T near_thirds → T far_thirds → Pairs h l n f n' f'
  unfolding places counts same_sides other_sides near_thirds far_thirds
  pairs_of few p c s o nt ft =
      let g = table_is in
      record {
        few = leb→le h 36 few;
        less = λ i q. ltb→lt (order h n f i) m (all-at m (λ i. ltb (order h n f i) m) p i q);
        once = λ j q. same-is (sum m (λ i. one_at (order h n f i) j)) (pos 1) (all-at m (λ j. same (sum m (λ i. one_at (order h n f i) j)) (pos 1)) c j q);
        same_side = λ i k q r. sym (g m (f i) (f k)) ∙ alike_at h (λ i k. read_kernel m (f i) (f k)) (λ i k. read_kernel m (n i) (n k)) s i k q r ∙ g m (n i) (n k);
        other_side = λ i k q r. sym (g m (f i) (n k)) ∙ alike_at h (λ i k. read_kernel m (f i) (n k)) (λ i k. read_kernel m (n i) (f k)) o i k q r ∙ g m (n i) (f k);
        third_near = λ i k q r. sym (g m (3 * i + 1) (n k)) ∙ alike_at h (λ i k. read_kernel m (3 * i + 1) (n k)) (λ i k. read_kernel h i (n' (k % l))) nt i k q r ∙ g h i (n' (k % l));
        third_far = λ i k q r. sym (g m (3 * i + 1) (f k)) ∙ alike_at h (λ i k. read_kernel m (3 * i + 1) (f k)) (λ i k. read_kernel h i (f' (k % l))) ft i k q r ∙ g h i (f' (k % l));
      }

pub pairs_6 : Pairs 2 2 (place_at near_6) (place_at far_6) (place_at near_2) (place_at far_2)
unfolding places counts same_sides other_sides near_thirds far_thirds order read_kernel all sum same table_c continued to_turn to_half reduced numbers near_6 far_6 near_2 far_2
pairs_6 = pairs_of 2 2 (place_at near_6) (place_at far_6) (place_at near_2) (place_at far_2) tt tt tt tt tt tt tt

pub pairs_12 : Pairs 4 4 (place_at near_12) (place_at far_12) (place_at near_4) (place_at far_4)
unfolding places counts same_sides other_sides near_thirds far_thirds order read_kernel all sum same table_c continued to_turn to_half reduced numbers near_12 far_12 near_4 far_4
pairs_12 = pairs_of 4 4 (place_at near_12) (place_at far_12) (place_at near_4) (place_at far_4) tt tt tt tt tt tt tt

pub pairs_18 : Pairs 6 2 (place_at near_18) (place_at far_18) (place_at near_6) (place_at far_6)
unfolding places counts same_sides other_sides near_thirds far_thirds order read_kernel all sum same table_c continued to_turn to_half reduced numbers near_18 far_18 near_6 far_6
pairs_18 = pairs_of 6 2 (place_at near_18) (place_at far_18) (place_at near_6) (place_at far_6) tt tt tt tt tt tt tt

pub pairs_36 : Pairs 12 4 (place_at near_36) (place_at far_36) (place_at near_12) (place_at far_12)
unfolding places counts same_sides other_sides near_thirds far_thirds order read_kernel all sum same table_c continued to_turn to_half reduced numbers near_36 far_36 near_12 far_12
pairs_36 = pairs_of 12 4 (place_at near_36) (place_at far_36) (place_at near_12) (place_at far_12) tt tt tt tt tt tt tt

pub pairs_54 : Pairs 18 6 (place_at near_54) (place_at far_54) (place_at near_18) (place_at far_18)
unfolding places counts same_sides other_sides near_thirds far_thirds order read_kernel all sum same table_c continued to_turn to_half reduced numbers near_54 far_54 near_18 far_18
pairs_54 = pairs_of 18 6 (place_at near_54) (place_at far_54) (place_at near_18) (place_at far_18) tt tt tt tt tt tt tt

pub pairs_108 : Pairs 36 12 (place_at near_108) (place_at far_108) (place_at near_36) (place_at far_36)
unfolding places counts same_sides other_sides near_thirds far_thirds order read_kernel all sum same table_c continued to_turn to_half reduced numbers near_108 far_108 near_36 far_36
pairs_108 = pairs_of 36 12 (place_at near_108) (place_at far_108) (place_at near_36) (place_at far_36) tt tt tt tt tt tt tt

-- ---- a level's kernels, read from the table of 217 numbers
unfoldable pub tabled_plus : ℕ → (ℕ → ℕ) → (ℕ → ℕ) → List (List ℤ)
tabled_plus h n f = table h (λ k. table h (λ i. read_kernel (h + (h + h)) (n i) (n k) +ℤ read_kernel (h + (h + h)) (n i) (f k)))

unfoldable pub tabled_minus : ℕ → (ℕ → ℕ) → (ℕ → ℕ) → List (List ℤ)
tabled_minus h n f = table h (λ k. table h (λ i. read_kernel (h + (h + h)) (n i) (n k) -ℤ read_kernel (h + (h + h)) (n i) (f k)))

unfoldable pub tabled_doubled : ℕ → List (List ℤ)
tabled_doubled d = table d (λ k. table d (λ j. read_kernel d j k +ℤ read_kernel d j k))

pub doubled_is : (d : ℕ) → tabled_doubled d ≡ doubled_of d
unfolding tabled_doubled doubled_of
doubled_is d = table_ext d _ _ (λ k p. table_ext d _ _ (λ j q. rw (table_is d j k) refl))

module _ (h : ℕ) (n f : ℕ → ℕ) where
  plus_is : tabled_plus h n f ≡ plus_of h n f
  unfolding tabled_plus plus_of
  plus_is = table_ext h _ _ (λ k p. table_ext h _ _ (λ i q. rw (table_is (h + (h + h)) (n i) (n k), table_is (h + (h + h)) (n i) (f k)) refl))

  minus_is : tabled_minus h n f ≡ minus_of h n f
  unfolding tabled_minus minus_of
  minus_is = table_ext h _ _ (λ k p. table_ext h _ _ (λ i q. rw (table_is (h + (h + h)) (n i) (n k), table_is (h + (h + h)) (n i) (f k)) refl))

pub level_of : (h l : ℕ) (near far near' far' : List ℕ) → length near ≡ h → length far ≡ h → Pairs h l (place_at near) (place_at far) (place_at near') (place_at far') →
    IsLevel h l near far (tabled_plus h (place_at near) (place_at far)) (tabled_minus h (place_at near) (place_at far)) near' far'
level_of h l near far near' far' a b pairs =
    record { near_long = a; far_long = b; pairs = pairs; plus_is = plus_is h (place_at near) (place_at far); minus_is = minus_is h (place_at near) (place_at far) }

-- ---- each sum to its place, by one computed test
unfoldable pub agree : Bool → Bool → Bool
agree a b = cond a b (cond b false true)

agree_is : (a b : Bool) → T (agree a b) → a ≡ b
unfolding agree
agree_is true true t = refl
agree_is true false t = absurd t
agree_is false true t = absurd t
agree_is false false t = refl

module _ (h : ℕ) (near far of : List ℕ) where
  abbrev place_of : ℕ → ℕ
  place_of j = joined_place h (place_at near) (place_at far) (spot (place_at of j))

  abbrev tests : List Bool
  tests =
      all (h + (h + h)) (λ j. ltb (spot (place_at of j)) (h + (h + h)))
      ∷ all (h + (h + h)) (λ j. eqb (spot (place_of j)) j)
      ∷ all (h + (h + h)) (λ j. agree (ltb (place_of j) 128) (ltb (place_at of j) 128))
      ∷ all h (λ q. all h (λ i. same (read_kernel (h + (h + h)) q (3 * i + 1)) (read_kernel h q i)))
      ∷ all h (λ q. all h (λ i. same (read_kernel (h + (h + h)) (h + (h - suc q)) (3 * i + 1)) (neg_ℤ (read_kernel h q i))))
      ∷ all h (λ q. all h (λ i. same (read_kernel (h + (h + h)) (h + (h + q)) (3 * i + 1)) (neg_ℤ (read_kernel h q i))))
      ∷ []

  unfoldable pub join_test : Bool
  join_test = every (λ b. b) tests

  pub join_of : length of ≡ h + (h + h) → T join_test → IsJoin h near far of
  unfolding join_test every
  join_of long t0 =
      let m = h + (h + h) in
      let a0 = all m (λ j. ltb (spot (place_at of j)) m) in
      let a1 = all m (λ j. eqb (spot (place_of j)) j) in
      let a2 = all m (λ j. agree (ltb (place_of j) 128) (ltb (place_at of j) 128)) in
      let a3 = all h (λ q. all h (λ i. same (read_kernel m q (3 * i + 1)) (read_kernel h q i))) in
      let a4 = all h (λ q. all h (λ i. same (read_kernel m (h + (h - suc q)) (3 * i + 1)) (neg_ℤ (read_kernel h q i)))) in
      let a5 = all h (λ q. all h (λ i. same (read_kernel m (h + (h + q)) (3 * i + 1)) (neg_ℤ (read_kernel h q i)))) in
      let t1 = both_right a0 _ t0 in
      let t2 = both_right a1 _ t1 in
      let t3 = both_right a2 _ t2 in
      let t4 = both_right a3 _ t3 in
      let t5 = both_right a4 _ t4 in
      let g = table_is in
      record {
        long = long;
        spots = λ j p. ltb→lt (spot (place_at of j)) m (all-at m (λ j. ltb (spot (place_at of j)) m) (both_left a0 _ t0) j p);
        there = λ j p. eqb→eq (spot (place_of j)) j (all-at m (λ j. eqb (spot (place_of j)) j) (both_left a1 _ t1) j p);
        sign = λ j p. agree_is (ltb (place_of j) 128) (ltb (place_at of j) 128) (all-at m (λ j. agree (ltb (place_of j) 128) (ltb (place_at of j) 128)) (both_left a2 _ t2) j p);
        first = λ q i r s. sym (g m q (3 * i + 1)) ∙ alike_at h (λ q i. read_kernel m q (3 * i + 1)) (λ q i. read_kernel h q i) (both_left a3 _ t3) q i r s ∙ g h q i;
        second = λ q i r s. sym (g m (h + (h - suc q)) (3 * i + 1)) ∙ alike_at h (λ q i. read_kernel m (h + (h - suc q)) (3 * i + 1)) (λ q i. neg_ℤ (read_kernel h q i)) (both_left a4 _ t4) q i r s ∙ ap neg_ℤ (g h q i);
        third = λ q i r s. sym (g m (h + (h + q)) (3 * i + 1)) ∙ alike_at h (λ q i. read_kernel m (h + (h + q)) (3 * i + 1)) (λ q i. neg_ℤ (read_kernel h q i)) (both_left a5 _ t5) q i r s ∙ ap neg_ℤ (g h q i);
      }
