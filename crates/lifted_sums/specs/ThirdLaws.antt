-- Laws of the sums of a block by thirds of its places: a sum with the folded kernel of N, M = 3h, by sums with the kernel of a third of the length and with the places that are not the middle of their
-- three. Nothing is rounded: the angles differ by half turns.
use Rattle.std.specs.Prelude.{◌≡◌, refl, cond, ltb, pos, neg_ℤ, ◌+ℤ◌, ◌-ℤ◌, ◌*ℤ◌}
use Rattle.std.proofs.Math.Path.{sym, ap}
use Rattle.std.proofs.Common.{ap₂, ◌∙◌}
use mathlib.Core.List.{List}
use Prim.Native.Nat.{ℕ, zero, suc, ◌+◌, ◌-◌, ◌*◌, ◌/◌, ◌^◌, ◌<◌, ◌≤◌}
use Rattle.std.proofs.Math.Nat.{mul-le-mul_right, le_trans}
use native.Mathlib.Omega.{arith}
use Rattle.std.proofs.Math.Decide.{dec_lt}
use Rattle.std.proofs.Math.ListN.{length}
use Rattle.std.proofs.Math.IntN.{ℤ, nat_abs}
use Rattle.arithmetic.specs.Sums.{sum}
use Rattle.arithmetic.specs.Lists.{at, table, Small}
use Rattle.arithmetic.specs.SumLaws.{sum_ext, sum_add, sum-split, sum_rev, sum_neg, sum_abs}
use Rattle.arithmetic.specs.ListLaws.{length-table, get_d_table, table_ext}
use Rattle.arithmetic.specs.TestLaws.{cond_lt, cond_ge}
use Rattle.arithmetic.specs.IntegerLaws.{ints}
use Rattle.arithmetic.specs.OrderLaws.{abs_mul_le, abs_add, abs_sub}
use Rattle.cosine.specs.Kernels.{F}
use Rattle.cosine.specs.LengthLaws.{Part}
use Rattle.cosine.specs.KernelLaws.{F-size, F_symmetric, F-less, F-more}
use Rattle.cosine.specs.SplitLaws.{F-parts}
use Rattle.lifted_sums.specs.SideLists.{side_f}
use Rattle.lifted_sums.specs.LiftLists.{lift_of, base_of, lift_list}
use Rattle.transform.specs.InverseLaws.{folds}
use Rattle.lifted_sums.specs.LiftLaws.{summed, summed-is, plain, folds-plain}
use Rattle.transform.specs.Stages.{Input, Sixths}

-- ---- sums over 3h places
regroup : (s t u v a b c : ℤ) → s ≡ t +ℤ u +ℤ v → s +ℤ a +ℤ b +ℤ c ≡ (t +ℤ a) +ℤ (u +ℤ b) +ℤ (v +ℤ c)
regroup s t u v a b c e = rw e (simp ints (omega arith))

-- by the place in each three
sum-three : (h : ℕ) (f : ℕ → ℤ) → sum (3 * h) f ≡ sum h (λ i. f (3 * i)) +ℤ sum h (λ i. f (3 * i + 1)) +ℤ sum h (λ i. f (3 * i + 2))
unfolding sum
sum-three zero f = refl
sum-three (suc h) f =
    let three : 3 * suc h ≡ suc (suc (suc (3 * h))) = omega arith in
    let mid : suc (3 * h) ≡ 3 * h + 1 = omega arith in
    let last : suc (suc (3 * h)) ≡ 3 * h + 2 = omega arith in
    ap (λ (n : ℕ). sum n f) three
    ∙ ap₂ (λ (x y : ℤ). sum (3 * h) f +ℤ f (3 * h) +ℤ x +ℤ y) (ap f mid) (ap f last)
    ∙ regroup (sum (3 * h) f) (sum h (λ i. f (3 * i))) (sum h (λ i. f (3 * i + 1))) (sum h (λ i. f (3 * i + 2))) (f (3 * h)) (f (3 * h + 1)) (f (3 * h + 2)) (sum-three h f)

-- folded in three, the second third backwards
sum-thirds : (h : ℕ) (f : ℕ → ℤ) → sum (3 * h) f ≡ sum h (λ i. f i +ℤ f (2 * h - 1 - i) +ℤ f (2 * h + i))
sum-thirds h f =
    let e : 3 * h ≡ h + (h + h) = omega arith in
    ap (λ (n : ℕ). sum n f) e
    ∙ sum-split h (h + h) f
    ∙ ap (λ (x : ℤ). sum h f +ℤ x) (sum-split h h (λ i. f (h + i)) ∙ ap₂ (λ (x y : ℤ). x +ℤ y) middle late)
    ∙ assoc (sum h f) (sum h (λ i. f (2 * h - 1 - i))) (sum h (λ i. f (2 * h + i)))
    ∙ ap (λ (x : ℤ). x +ℤ sum h (λ i. f (2 * h + i))) (sym (sum_add h f (λ i. f (2 * h - 1 - i))))
    ∙ sym (sum_add h (λ i. f i +ℤ f (2 * h - 1 - i)) (λ i. f (2 * h + i)))
  where
    assoc : (a b c : ℤ) → a +ℤ (b +ℤ c) ≡ (a +ℤ b) +ℤ c
    assoc a b c = simp ints (omega arith)

    middle : sum h (λ i. f (h + i)) ≡ sum h (λ i. f (2 * h - 1 - i))
    middle = sum_rev h (λ i. f (h + i)) ∙ sum_ext h (λ i. f (h + (h - suc i))) (λ i. f (2 * h - 1 - i)) (λ i p. ap f (omega arith))

    late : sum h (λ i. f (h + (h + i))) ≡ sum h (λ i. f (2 * h + i))
    late = sum_ext h (λ i. f (h + (h + i))) (λ i. f (2 * h + i)) (λ i p. ap f (omega arith))

-- ---- the folded kernel beyond its own M = h places
module _ (P h : ℕ) (len : Part P) (two : P ≡ 2 * h) where
  F-back : (i q : ℕ) → i < 2 * h → F P (2 * h - 1 - i) q ≡ neg_ℤ (F P i q)
  F-back i q p = F-less P len (2 * h - 1 - i) i q (omega (arith, two))

  F-late : (i q : ℕ) → F P (2 * h + i) q ≡ neg_ℤ (F P i q)
  F-late i q = F-more P len (2 * h + i) i q (omega (arith, two))

  -- so the sums of its rows beyond them
  module _ (y : ℕ → ℤ) where
    turned : (j k : ℕ) → ((i : ℕ) → F P j i ≡ neg_ℤ (F P k i)) → sum h (λ i. y i *ℤ F P j i) ≡ neg_ℤ (sum h (λ i. y i *ℤ F P k i))
    turned j k e =
        sum_ext h (λ i. y i *ℤ F P j i) (λ i. neg_ℤ (y i *ℤ F P k i)) (λ i p. rw (e i) (out (y i) (F P k i)))
        ∙ sum_neg h (λ i. y i *ℤ F P k i)
      where
        out : (a b : ℤ) → a *ℤ neg_ℤ b ≡ neg_ℤ (a *ℤ b)
        out a b = simp ints (omega arith)

    rows_back : (k : ℕ) → k < 2 * h → sum h (λ i. y i *ℤ F P (2 * h - 1 - k) i) ≡ neg_ℤ (sum h (λ i. y i *ℤ F P k i))
    rows_back k p = turned (2 * h - 1 - k) k (λ i. F-back k i p)

    rows-late : (k : ℕ) → sum h (λ i. y i *ℤ F P (2 * h + k) i) ≡ neg_ℤ (sum h (λ i. y i *ℤ F P k i))
    rows-late k = turned (2 * h + k) k (λ i. F-late k i)

-- ---- what the sums of N, M = 3h, are made of
-- the inputs folded in three, the second third backwards
unfoldable pub folded_three : ℕ → List ℤ → ℕ → ℤ
folded_three h x i = at x i -ℤ at x (2 * h - 1 - i) -ℤ at x (2 * h + i)

-- the sum of the middle inputs 3i + 1, by the kernel of a third
unfoldable pub inner : ℕ → List ℤ → ℕ → ℤ
inner N x k = sum (N / 6) (λ i. at x (3 * i + 1) *ℤ F (N / 3) k i)

-- the sum of the inputs 3i + c, for output 3k + e
unfoldable pub side : ℕ → ℕ → ℕ → List ℤ → ℕ → ℤ
side N c e x k = sum (N / 6) (λ i. at x (3 * i + c) *ℤ side_f N c e k i)

-- of those that are not the middle of their three
unfoldable pub outer : ℕ → ℕ → List ℤ → ℕ → ℤ
outer N e x k = side N 0 e x k +ℤ side N 2 e x k

-- the first h of the inner sums, continued to 3h
unfoldable pub continued : ℕ → (ℕ → ℤ) → ℕ → ℤ
continued h g k = cond (ltb k h) (g k) (cond (ltb k (2 * h)) (neg_ℤ (g (2 * h - 1 - k))) (neg_ℤ (g (k - 2 * h))))

module _ (h : ℕ) (g : ℕ → ℤ) (k : ℕ) where
  pub continued-first : k < h → continued h g k ≡ g k
  unfolding continued
  continued-first p = cond_lt k h (g k) (cond (ltb k (2 * h)) (neg_ℤ (g (2 * h - 1 - k))) (neg_ℤ (g (k - 2 * h)))) p

  later : h ≤ k → continued h g k ≡ cond (ltb k (2 * h)) (neg_ℤ (g (2 * h - 1 - k))) (neg_ℤ (g (k - 2 * h)))
  unfolding continued
  later p = cond_ge k h (g k) (cond (ltb k (2 * h)) (neg_ℤ (g (2 * h - 1 - k))) (neg_ℤ (g (k - 2 * h)))) p

  pub continued-second : h ≤ k → k < 2 * h → continued h g k ≡ neg_ℤ (g (2 * h - 1 - k))
  continued-second p q = later p ∙ cond_lt k (2 * h) (neg_ℤ (g (2 * h - 1 - k))) (neg_ℤ (g (k - 2 * h))) q

  pub continued-third : h ≤ k → 2 * h ≤ k → continued h g k ≡ neg_ℤ (g (k - 2 * h))
  continued-third p q = later p ∙ cond_ge k (2 * h) (neg_ℤ (g (2 * h - 1 - k))) (neg_ℤ (g (k - 2 * h))) q

-- room for m numbers, three times
pub record Rooms (m : ℕ) (u z t : List ℤ) : Type 0 where
  pub first : length u ≡ m
  pub second : length z ≡ m
  pub third : length t ≡ m

-- the parts of the sums of x: of the outputs 3q + 1, the inner sums, and the outer ones of the outputs 3k and 3k + 2
pub record Thirds (N : ℕ) (x a g p q : List ℤ) : Type 0 where
  pub middles : a ≡ table (N / 6) (λ q. folds N x (3 * q + 1))
  pub inners : g ≡ table (N / 6) (inner N x)
  pub firsts : p ≡ table (N / 6) (outer N 0 x)
  pub lasts : q ≡ table (N / 6) (outer N 2 x)

module _ (N : ℕ) (s : Sixths N) (x : List ℤ) where
  abbrev h : ℕ
  h = N / 6

  pub half_is : N / 2 ≡ 3 * h
  half_is = omega (arith, s.whole)

  pub third_is : N / 3 ≡ 2 * h
  third_is = omega (arith, s.whole)

  pub sixth-is : N / 3 / 2 ≡ h
  sixth-is = omega arith

  pub third_small : (c : ℕ) (u : List ℤ) → c < 3 → Input N x → u ≡ table h (λ i. at x (3 * i + c)) → Small u (2 ^ 29)
  third_small c u l i e =
      record {
        small = λ j p.
            let q : j < h = omega (arith, ap length e, length-table (λ i. at x (3 * i + c)) h) in
            rw (e, get_d_table (λ i. at x (3 * i + c)) (pos 0) h j q) (i.small.small (3 * j + c) (omega (arith, i.long, half_is)));
      }

  folds-three : (k : ℕ) → folds N x k ≡ sum (3 * h) (λ j. at x j *ℤ F N k j)
  unfolding folds
  folds-three k = ap (λ (m : ℕ). sum m (λ j. at x j *ℤ F N k j)) half_is

  -- the folded inputs are three inputs each
  pub folded_small : (w : List ℤ) → Input N x → w ≡ table h (folded_three h x) → Small w (3 * 2 ^ 29)
  unfolding folded_three
  folded_small w i e =
      let b : (j : ℕ) → j < 3 * h → nat_abs (at x j) ≤ 2 ^ 29 = λ j p. i.small.small j (omega (arith, i.long, half_is)) in
      record {
        small = λ j p.
            let q : j < h = omega (arith, ap length e, length-table (folded_three h x) h) in
            let y = at x (2 * h - 1 - j) in
            let z = at x (2 * h + j) in
            rw (e, get_d_table (folded_three h x) (pos 0) h j q)
            (omega (arith, abs_sub (at x j -ℤ y) z, abs_sub (at x j) y, b j (omega arith), b (2 * h - 1 - j) (omega arith), b (2 * h + j) (omega arith)));
      }

  -- every third input is one of a third of the length
  pub third-input : (c : ℕ) (u : List ℤ) → c < 3 → Input N x → u ≡ table h (λ i. at x (3 * i + c)) → Input (N / 3) u
  third-input c u l i e =
      let long : length u ≡ h = ap length e ∙ length-table (λ i. at x (3 * i + c)) h in
      record {
        most = omega (arith, s.few, sixth-is);
        long = long ∙ sym sixth-is;
        small = third_small c u l i e;
      }

  -- output 3q + 1
  middle_is : (q : ℕ) → folds N x (3 * q + 1) ≡ sum h (λ i. folded_three h x i *ℤ F (N / 3) q i)
  unfolding folded_three
  middle_is q =
      folds-three (3 * q + 1)
      ∙ sum-thirds h (λ j. at x j *ℤ F N (3 * q + 1) j)
      ∙ sum_ext h (λ i. at x i *ℤ F N (3 * q + 1) i +ℤ at x (2 * h - 1 - i) *ℤ F N (3 * q + 1) (2 * h - 1 - i) +ℤ at x (2 * h + i) *ℤ F N (3 * q + 1) (2 * h + i))
      (λ i. (at x i -ℤ at x (2 * h - 1 - i) -ℤ at x (2 * h + i)) *ℤ F (N / 3) q i)
      (λ i p. rw (entry i, entry (2 * h - 1 - i), entry (2 * h + i), F-back (N / 3) h s.part third_is i q (omega arith), F-late (N / 3) h s.part third_is i q, F_symmetric (N / 3) q i)
      (go (at x i) (at x (2 * h - 1 - i)) (at x (2 * h + i)) (F (N / 3) i q)))
    where
      entry : (j : ℕ) → F N (3 * q + 1) j ≡ F (N / 3) j q
      entry j = F_symmetric N (3 * q + 1) j ∙ F-parts N s.parts j q

      go : (a b c f : ℤ) → a *ℤ f +ℤ b *ℤ neg_ℤ f +ℤ c *ℤ neg_ℤ f ≡ (a -ℤ b -ℤ c) *ℤ f
      go a b c f = simp ints (omega arith)

  -- by plain sums of the folded inputs w
  pub middles_are : (w rows : List ℤ) → w ≡ table h (folded_three h x) → rows ≡ lift_list (N / 3) → table (length w) (plain w rows) ≡ table h (λ q. folds N x (3 * q + 1))
  unfolding folds
  middles_are w rows e r =
      let long : length w ≡ N / 3 / 2 = ap length e ∙ length-table (folded_three h x) h ∙ sym sixth-is in
      folds-plain (N / 3) w rows long r
      ∙ ap (λ (m : ℕ). table m (λ k. sum m (λ j. at w j *ℤ F (N / 3) k j))) sixth-is
      ∙ table_ext h (λ k. sum h (λ j. at w j *ℤ F (N / 3) k j)) (λ q. folds N x (3 * q + 1))
      (λ q p. sum_ext h (λ j. at w j *ℤ F (N / 3) q j) (λ j. folded_three h x j *ℤ F (N / 3) q j)
      (λ j l. ap (λ (z : ℤ). z *ℤ F (N / 3) q j) (ap (λ (v : List ℤ). at v j) e ∙ get_d_table (folded_three h x) (pos 0) h j l))
      ∙ sym (middle_is q))

  -- the inner sums, by the sums of a third of the length
  pub inners_are : (u g : List ℤ) → u ≡ table h (λ i. at x (3 * i + 1)) → g ≡ table (N / 3 / 2) (folds (N / 3) u) → g ≡ table h (inner N x)
  unfolding folds inner
  inners_are u g e r =
      r
      ∙ ap (λ (m : ℕ). table m (λ k. sum m (λ j. at u j *ℤ F (N / 3) k j))) sixth-is
      ∙ table_ext h (λ k. sum h (λ j. at u j *ℤ F (N / 3) k j)) (λ k. sum h (λ i. at x (3 * i + 1) *ℤ F (N / 3) k i))
      (λ k p. sum_ext h (λ j. at u j *ℤ F (N / 3) k j) (λ j. at x (3 * j + 1) *ℤ F (N / 3) k j)
      (λ j l. ap (λ (z : ℤ). z *ℤ F (N / 3) k j) (ap (λ (v : List ℤ). at v j) e ∙ get_d_table (λ i. at x (3 * i + 1)) (pos 0) h j l)))

  -- the sums with a side's kernel
  pub sides_are : (c e : ℕ) (u rows base : List ℤ) → u ≡ table h (λ i. at x (3 * i + c)) → rows ≡ lift_of h (side_f N c e) → base ≡ base_of h (side_f N c e) → summed u rows base ≡ table h (side N c e x)
  unfolding side
  sides_are c e u rows base f r b =
      summed-is h (side_f N c e) u rows base (ap length f ∙ length-table (λ i. at x (3 * i + c)) h) r b
      ∙ table_ext h (λ k. sum h (λ j. at u j *ℤ side_f N c e k j)) (λ k. sum h (λ i. at x (3 * i + c) *ℤ F N (3 * k + e) (3 * i + c)))
      (λ k p. sum_ext h (λ j. at u j *ℤ side_f N c e k j) (λ i. at x (3 * i + c) *ℤ F N (3 * k + e) (3 * i + c))
      (λ j l. ap (λ (z : ℤ). z *ℤ F N (3 * k + e) (3 * j + c)) (ap (λ (v : List ℤ). at v j) f ∙ get_d_table (λ i. at x (3 * i + c)) (pos 0) h j l)))

  -- the inner sums beyond the first h
  pub continued-is : (g : ℕ → ℤ) → ((k : ℕ) → k < h → g k ≡ inner N x k) → (k : ℕ) → k < 3 * h → continued h g k ≡ inner N x k
  unfolding inner
  continued-is g e k p = go (dec_lt k h) (dec_lt k (2 * h))
    where
      m : ℕ → ℤ
      m i = at x (3 * i + 1)

      go : Dec (k < h) → Dec (k < 2 * h) → continued h g k ≡ sum h (λ i. m i *ℤ F (N / 3) k i)
      go (yes a) b = continued-first h g k a ∙ e k a
      go (no a) (yes b) =
          let j = 2 * h - 1 - k in
          let back : 2 * h - 1 - j ≡ k = omega arith in
          continued-second h g k (omega arith) b
          ∙ ap neg_ℤ (e j (omega arith))
          ∙ sym (rows_back (N / 3) h s.part third_is m j (omega arith))
          ∙ ap (λ (i : ℕ). sum h (λ l. m l *ℤ F (N / 3) i l)) back
      go (no a) (no b) =
          let j = k - 2 * h in
          let late : 2 * h + j ≡ k = omega arith in
          continued-third h g k (omega arith) (omega arith)
          ∙ ap neg_ℤ (e j (omega arith))
          ∙ sym (rows-late (N / 3) h s.part third_is m j)
          ∙ ap (λ (i : ℕ). sum h (λ l. m l *ℤ F (N / 3) i l)) late

  -- any output: the outer sums and the inner one
  pub outer-is : (e k : ℕ) → outer N e x k +ℤ inner N x (3 * k + e) ≡ folds N x (3 * k + e)
  unfolding outer side inner
  outer-is e k =
      let r = 3 * k + e in
      let a = sum h (λ i. at x (3 * i) *ℤ F N r (3 * i)) in
      let b = sum h (λ i. at x (3 * i + 1) *ℤ F (N / 3) r i) in
      let c = sum h (λ i. at x (3 * i + 2) *ℤ F N r (3 * i + 2)) in
      let zero_is : sum h (λ i. at x (3 * i + 0) *ℤ F N r (3 * i + 0)) ≡ a =
      sum_ext h (λ i. at x (3 * i + 0) *ℤ F N r (3 * i + 0)) (λ i. at x (3 * i) *ℤ F N r (3 * i)) (λ i p. let z : 3 * i + 0 ≡ 3 * i = omega arith in rw z)
      in
      rw zero_is (turn a b c)
      ∙ ap (λ (z : ℤ). a +ℤ z +ℤ c) (sum_ext h (λ i. at x (3 * i + 1) *ℤ F (N / 3) r i) (λ i. at x (3 * i + 1) *ℤ F N r (3 * i + 1)) (λ i p. ap (λ (z : ℤ). at x (3 * i + 1) *ℤ z) (sym (F-parts N s.parts r i))))
      ∙ sym (sum-three h (λ j. at x j *ℤ F N r j))
      ∙ sym (folds-three r)
    where
      turn : (a b c : ℤ) → (a +ℤ c) +ℤ b ≡ a +ℤ b +ℤ c
      turn a b c = simp ints (omega arith)

  -- ---- sizes
  inner_abs : Input N x → (k : ℕ) → nat_abs (inner N x k) ≤ 36 * 2 ^ 55
  unfolding inner
  inner_abs i k =
      le_trans
      (sum_abs h (λ j. at x (3 * j + 1) *ℤ F (N / 3) k j) (2 ^ 29 * 2 ^ 26) (λ j p. abs_mul_le (at x (3 * j + 1)) (F (N / 3) k j) (i.small.small (3 * j + 1) (omega (arith, i.long, half_is))) (F-size (N / 3) k j)))
      (omega (arith, mul-le-mul_right (2 ^ 29 * 2 ^ 26) s.few))

  pub inner_small : (g : List ℤ) → Input N x → g ≡ table h (inner N x) → Small g (36 * 2 ^ 55)
  inner_small g i e =
      record {
        small = λ k p.
            let q : k < h = omega (arith, ap length e, length-table (inner N x) h) in
            rw (e, get_d_table (inner N x) (pos 0) h k q) (inner_abs i k);
      }

  pub side_abs : (c e k : ℕ) → c < 3 → Input N x → nat_abs (side N c e x k) ≤ 36 * 2 ^ 55
  unfolding side
  side_abs c e k l i =
      le_trans
      (sum_abs h (λ j. at x (3 * j + c) *ℤ F N (3 * k + e) (3 * j + c)) (2 ^ 29 * 2 ^ 26) (λ j p. abs_mul_le (at x (3 * j + c)) (F N (3 * k + e) (3 * j + c)) (i.small.small (3 * j + c) (omega (arith, i.long, half_is))) (F-size N (3 * k + e) (3 * j + c))))
      (omega (arith, mul-le-mul_right (2 ^ 29 * 2 ^ 26) s.few))

  pub outer_abs : (e k : ℕ) → Input N x → nat_abs (outer N e x k) ≤ 72 * 2 ^ 55
  unfolding outer
  outer_abs e k i = omega (arith, abs_add (side N 0 e x k) (side N 2 e x k), side_abs 0 e k (omega arith) i, side_abs 2 e k (omega arith) i)
