-- Laws of the split by three, source 000, sections 2.1, 2.2 and 3.1. A coefficient 3k+1 has the short kernel for its kernel, exactly. The kernel of the
-- two beside it is what rB and rC make of the short kernel, up to 3 × 2^26 of 2^53, by one computed test.
use Rattle.std.specs.Prelude.{◌≡◌, refl, true, false, cond, T, eqb, leb, ℤ, neg_ℤ, nat_abs, ◌+ℤ◌, ◌-ℤ◌, ◌*ℤ◌}
use Rattle.std.proofs.Common.{ap, ◌∙◌, mul_left_comm, arith, leb→le}
use Rattle.std.proofs.Math.Path.{fun_ext}
use Rattle.std.proofs.Math.Bool.{Bool}
use Prim.Native.Nat.{ℕ, ◌+◌, ◌-◌, ◌*◌, ◌/◌, ◌%◌, ◌^◌, ◌≤◌, ◌<◌}
use Rattle.std.proofs.Math.IntN.{pos}
use Rattle.arithmetic.specs.Lists.{all, every}
use Rattle.arithmetic.specs.IntegerLaws.{ints}
use Rattle.arithmetic.specs.OrderLaws.{abs_neg}
use Rattle.arithmetic.specs.TestLaws.{all-at, both_left, both_right}
use Rattle.cosine.specs.Cosine.{quarter, third, sixth, twelfth, reduced, to_half, to_turn, continued, C}
use Rattle.cosine.specs.Kernels.{short_lengths, tabled, short_tabled, d, K, F, L, s, e_b, f_b, e_c, f_c, turned}
use Rattle.cosine.specs.TableLaws.{numbers}
use Rattle.cosine.specs.CosineLaws.{table_c, C-table, C-less, C-same}
use Rattle.cosine.specs.LengthLaws.{tabled_length, d-third, third-part, of_short}
use Rattle.cosine.specs.KernelLaws.{L-size}

-- ---- the coefficients 3k+1
odd-third : (k : ℕ) → 2 * (3 * k + 1) + 1 ≡ 3 * (2 * k + 1)
odd-third k = omega arith

-- the folded kernel of a length whose third has three times its d
pub F-parts : (N : ℕ) → d (N / 3) ≡ 3 * d N → (j q : ℕ) → F N j (3 * q + 1) ≡ F (N / 3) j q
unfolding F
F-parts N e j q = rw (e, odd-third q) (ap (λ (x : ℕ). C (pos x)) (go (d N) (2 * j + 1) (2 * q + 1)))
  where
    go : (d a o : ℕ) → d * a * (3 * o) ≡ 3 * d * a * o
    go d a o = omega arith

module _ (N : ℕ) (t : T (tabled N)) where
  two-thirds : 2 * N / 3 ≡ 2 * (N / 3)
  two-thirds =
      let l : 3 * (N / 3) ≡ N = omega (arith, (tabled_length N t).twelve) in
      omega arith

  parts : d (N / 3) ≡ 3 * d N
  parts = d-third N (tabled_length N t)

  -- the angles of K(m, 3k+1) and L(n,k) make a whole number of quarter turns: of whole turns, or an odd number of half turns
  module _ (m n k : ℕ) where
    angles : (c : ℕ) → 2 * m + 1 + N / 2 + (2 * n + 1 + N / 6) ≡ c * (N / 3) →
        d N * (2 * m + 1 + N / 2) * (2 * (3 * k + 1) + 1) + 3 * d N * (2 * n + 1 + N / 6) * (2 * k + 1) ≡ c * quarter * (2 * k + 1)
    angles c e = rw (odd-third k, both (d N) (2 * m + 1 + N / 2) (2 * n + 1 + N / 6) (2 * k + 1), e, mul_left_comm (3 * d N) c (N / 3), ← parts, (third-part N (tabled_length N t)).parts)
      where
        both : (d a b o : ℕ) → d * a * (3 * o) + 3 * d * b * o ≡ 3 * d * (a + b) * o
        both d a b o = omega arith

    whole : (j : ℕ) → 2 * m + 1 + N / 2 + (2 * n + 1 + N / 6) ≡ 4 * j * (N / 3) → K N m (3 * k + 1) ≡ L N n k
    unfolding K L
    whole j e =
        C-same (pos (d N * (2 * m + 1 + N / 2) * (2 * (3 * k + 1) + 1))) (pos (3 * d N * (2 * n + 1 + N / 6) * (2 * k + 1))) (pos (j * (2 * k + 1)))
        (ap pos (angles (4 * j) e ∙ omega arith))

    half : 2 * m + 1 + N / 2 + (2 * n + 1 + N / 6) ≡ 6 * (N / 3) → K N m (3 * k + 1) ≡ neg_ℤ (L N n k)
    unfolding K L
    half e =
        C-less (pos (d N * (2 * m + 1 + N / 2) * (2 * (3 * k + 1) + 1))) (pos (3 * d N * (2 * n + 1 + N / 6) * (2 * k + 1))) (pos (3 * k + 1))
        (ap pos (angles 6 e ∙ omega arith))

  module _ (n k : ℕ) (p : n < N / 3) where
    -- at the places of a, b and c
    pub K_third_a : K N (N / 3 - 1 - n) (3 * k + 1) ≡ L N n k
    K_third_a = whole (N / 3 - 1 - n) n k 1 (omega (arith, (tabled_length N t).twelve))

    pub K_third_b : K N (2 * N / 3 - 1 - n) (3 * k + 1) ≡ neg_ℤ (L N n k)
    K_third_b = rw two-thirds (half (2 * (N / 3) - 1 - n) n k (omega (arith, (tabled_length N t).twelve)))

    pub K_third_c : K N (N - 1 - n) (3 * k + 1) ≡ L N n k
    K_third_c = whole (N - 1 - n) n k 2 (omega (arith, (tabled_length N t).twelve))

-- ---- the sign of rC(n)
pub turned_abs : (N n : ℕ) (z : ℤ) → nat_abs (turned N n z) ≡ nat_abs z
unfolding turned
turned_abs N n z = go (eqb ((n + N / 12) % 2) 0)
  where
    go : (b : Bool) → nat_abs (cond b (neg_ℤ z) z) ≡ nat_abs z
    go true = abs_neg z
    go false = refl

-- it may as well stand on the other factor
pub turned_mul : (N n : ℕ) (l z : ℤ) → l *ℤ turned N n z ≡ turned N n l *ℤ z
unfolding turned
turned_mul N n l z = go (eqb ((n + N / 12) % 2) 0)
  where
    go : (b : Bool) → l *ℤ cond b (neg_ℤ z) z ≡ cond b (neg_ℤ l) l *ℤ z
    go true = simp ints (omega arith)
    go false = refl

-- the short kernel beside rC(n) in D(k), with that sign
abbrev pub L' : (N k n : ℕ) → ℤ
L' N k n = turned N n (L N n (N / 6 - 1 - k))

pub L'-size : (N k n : ℕ) → nat_abs (L' N k n) ≤ 2 ^ 26
L'-size N k n = rw (turned_abs N n (L N n (N / 6 - 1 - k))) (L-size N n (N / 6 - 1 - k))

-- ---- the coefficients 3k and 3k+2
-- What stands beside a, b and c in 2^26 × (B(k) ± D(k)), rB and rC unrounded, is 2^27 times the kernel at their places ka, kb and kc, up to 3 × 2^26.
-- l and g are the short kernel beside rB and rC, g with the sign of D(k); u and v stand beside e and f in rB, w and z in rC
pub record Split (l g u v w z ka kb kc : ℤ) : Type 0 where
  pub a_near : nat_abs (l *ℤ (neg_ℤ u -ℤ v) +ℤ g *ℤ (neg_ℤ w +ℤ z) -ℤ pos (2 ^ 27) *ℤ ka) ≤ 3 * 2 ^ 26
  pub b_near : nat_abs (l *ℤ (u -ℤ v) +ℤ g *ℤ (w +ℤ z) -ℤ pos (2 ^ 27) *ℤ kb) ≤ 3 * 2 ^ 26
  pub c_near : nat_abs (l *ℤ (pos 2 *ℤ u) +ℤ g *ℤ (pos 2 *ℤ w) -ℤ pos (2 ^ 27) *ℤ kc) ≤ 3 * 2 ^ 26

abbrev near : ℤ → ℤ → Bool
near f k = leb (nat_abs (f -ℤ pos (2 ^ 27) *ℤ k)) (3 * 2 ^ 26)

splits : (l g u v w z ka kb kc : ℤ) → Bool
splits l g u v w z ka kb kc =
    cond (near (l *ℤ (neg_ℤ u -ℤ v) +ℤ g *ℤ (neg_ℤ w +ℤ z)) ka)
    (cond (near (l *ℤ (u -ℤ v) +ℤ g *ℤ (w +ℤ z)) kb) (near (l *ℤ (pos 2 *ℤ u) +ℤ g *ℤ (pos 2 *ℤ w)) kc) false) false

splits-is : (l g u v w z ka kb kc : ℤ) → T (splits l g u v w z ka kb kc) → Split l g u v w z ka kb kc
unfolding splits
splits-is l g u v w z ka kb kc t =
    let fa = l *ℤ (neg_ℤ u -ℤ v) +ℤ g *ℤ (neg_ℤ w +ℤ z) in
    let fb = l *ℤ (u -ℤ v) +ℤ g *ℤ (w +ℤ z) in
    let fc = l *ℤ (pos 2 *ℤ u) +ℤ g *ℤ (pos 2 *ℤ w) in
    let rest = both_right (near fa ka) (cond (near fb kb) (near fc kc) false) t in
    record {
      a_near = leb→le (nat_abs (fa -ℤ pos (2 ^ 27) *ℤ ka)) (3 * 2 ^ 26) (both_left (near fa ka) (cond (near fb kb) (near fc kc) false) t);
      b_near = leb→le (nat_abs (fb -ℤ pos (2 ^ 27) *ℤ kb)) (3 * 2 ^ 26) (both_left (near fb kb) (near fc kc) rest);
      c_near = leb→le (nat_abs (fc -ℤ pos (2 ^ 27) *ℤ kc)) (3 * 2 ^ 26) (both_right (near fb kb) (near fc kc) rest);
    }

-- the kernels and the cosines by a rule c: with C for it they are those of `Kernels`, with table_c they are read from the table
module _ (c : ℤ → ℤ) (N : ℕ) where
  abbrev kernel : ℕ → ℕ → ℤ
  kernel n k = c (pos (d N * (2 * n + 1 + N / 2) * (2 * k + 1)))

  abbrev short_kernel : ℕ → ℕ → ℤ
  short_kernel n k = c (pos (3 * d N * (2 * n + 1 + N / 6) * (2 * k + 1)))

  abbrev splits_at : ℕ → ℕ → ℕ → ℤ → Bool
  splits_at n k i g =
      splits (short_kernel n k) g
      (c (pos quarter -ℤ pos (s N n))) (c (pos (s N n) -ℤ pos twelfth) +ℤ c (pos (s N n) +ℤ pos twelfth))
      (c (pos (s N n))) (c (pos sixth -ℤ pos (s N n)) +ℤ c (pos third -ℤ pos (s N n)))
      (kernel (N / 3 - 1 - n) i) (kernel (2 * N / 3 - 1 - n) i) (kernel (N - 1 - n) i)

  abbrev splits_both : ℕ → ℕ → ℤ → Bool
  splits_both n k g = cond (splits_at n k (3 * k) g) (splits_at n k (3 * k + 2) (neg_ℤ g)) false

  right : Bool
  right = all (N / 3) (λ n. all (N / 6) (λ k. splits_both n k (turned N n (short_kernel n (N / 6 - 1 - k)))))

test : T (every (right table_c) short_lengths)
unfolding every short_lengths right all splits turned s table_c continued to_turn to_half reduced numbers
test = tt

tested : (N : ℕ) → T (short_tabled N) → T (right C N)
tested = of_short (right C) (rw (fun_ext C-table) test)

-- at coefficient i
abbrev pub SplitAt : (N n k i : ℕ) → ℤ → Type 0
SplitAt N n k i g = Split (L N n k) g (e_b N n) (f_b N n) (e_c N n) (f_c N n) (K N (N / 3 - 1 - n) i) (K N (2 * N / 3 - 1 - n) i) (K N (N - 1 - n) i)

splits-C : (N n k i : ℕ) (g : ℤ) → T (splits_at C N n k i g) → SplitAt N n k i g
unfolding L K e_b f_b e_c f_c
splits-C N n k i g = splits-is (L N n k) g (e_b N n) (f_b N n) (e_c N n) (f_c N n) (K N (N / 3 - 1 - n) i) (K N (2 * N / 3 - 1 - n) i) (K N (N - 1 - n) i)

module _ (N : ℕ) (t : T (short_tabled N)) (n k : ℕ) (p : n < N / 3) (q : k < N / 6) where
  both : T (splits_both C N n k (L' N k n))
  unfolding right L
  both =
      let row : ℕ → ℕ → Bool = λ n k. splits_both C N n k (turned N n (short_kernel C N n (N / 6 - 1 - k))) in
      all-at (N / 6) (row n) (all-at (N / 3) (λ n. all (N / 6) (row n)) (tested N t) n p) k q

  pub split-plus : SplitAt N n k (3 * k) (L' N k n)
  split-plus = splits-C N n k (3 * k) (L' N k n) (both_left (splits_at C N n k (3 * k) (L' N k n)) (splits_at C N n k (3 * k + 2) (neg_ℤ (L' N k n))) both)

  pub split-minus : SplitAt N n k (3 * k + 2) (neg_ℤ (L' N k n))
  split-minus = splits-C N n k (3 * k + 2) (neg_ℤ (L' N k n)) (both_right (splits_at C N n k (3 * k) (L' N k n)) (splits_at C N n k (3 * k + 2) (neg_ℤ (L' N k n))) both)
