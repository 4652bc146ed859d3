-- Laws of sums with lifted numbers: a power of two is added to a sum's inputs and to the kernel's numbers, so that none is negative, and what that adds to
-- the sum is taken off again.
use Rattle.std.specs.Prelude.{◌≡◌, List, ℕ, zero, suc, ◌+◌, ◌*◌, ◌/◌, ◌^◌, ◌≤◌, ◌<◌, length, ℤ, pos, ◌+ℤ◌, ◌-ℤ◌, ◌*ℤ◌}
use Rattle.std.proofs.Common.{ap, ◌∙◌, arith}
use Rattle.arithmetic.specs.Sums.{sum}
use Rattle.arithmetic.specs.Lists.{at, Small, table}
use Rattle.arithmetic.specs.SumLaws.{sum_ext, sum-suc, sum-zero, sum_abs}
use Rattle.arithmetic.specs.IntegerLaws.{ints, zarith}
use Rattle.arithmetic.specs.OrderLaws.{abs_mul_le}
use Rattle.arithmetic.specs.RingLaws.{ring, lins}
use Rattle.arithmetic.specs.ListLaws.{length-table, get_d_table, table_ext}
use Rattle.cosine.specs.Kernels.{F}
use Rattle.transform.specs.InverseLaws.{folds}
use Rattle.lifted_sums.specs.LiftLists.{Lifted, sign_up, size-up, lift_of, base_of, lift_list, base_list, place, lift_of_at, base_of-at}

-- a sum's inputs, lifted by 2^29
unfoldable pub lifted : List ℤ → List ℤ
lifted xs = table (length xs) (λ j. at xs j +ℤ pos (2 ^ 29))

pub lifted-length : (xs : List ℤ) → length (lifted xs) ≡ length xs
unfolding lifted
lifted-length xs = length-table (λ j. at xs j +ℤ pos (2 ^ 29)) (length xs)

pub lifted-at : (xs : List ℤ) (j : ℕ) → j < length xs → at (lifted xs) j ≡ at xs j +ℤ pos (2 ^ 29)
unfolding lifted
lifted-at xs j p = get_d_table (λ j. at xs j +ℤ pos (2 ^ 29)) (pos 0) (length xs) j p

pub lifted-is : (xs : List ℤ) → Small xs (2 ^ 29) → Lifted (lifted xs) (2 ^ 30)
lifted-is xs s =
    record {
      sign = λ i p. let q = rw (lifted-length xs) at p in rw (lifted-at xs i q) (sign_up (at xs i) (2 ^ 29) (s.small i q));
      size = λ i p. let q = rw (lifted-length xs) at p in rw (lifted-at xs i q) (size-up (at xs i) (2 ^ 29) (s.small i q));
    }

-- ---- what the lifts add to a sum
step_is : (s t b x f L P : ℤ) →
    s +ℤ (x +ℤ L) *ℤ (f +ℤ P) -ℤ P *ℤ (t +ℤ (x +ℤ L)) -ℤ L *ℤ (b +ℤ f) ≡ s -ℤ P *ℤ t -ℤ L *ℤ b +ℤ x *ℤ f
step_is s t b x f L P = simp ring (simp lins (omega zarith))

pub sum-lifted : (m : ℕ) (L P : ℤ) (x f : ℕ → ℤ) →
    sum m (λ j. (x j +ℤ L) *ℤ (f j +ℤ P)) -ℤ P *ℤ sum m (λ j. x j +ℤ L) -ℤ L *ℤ sum m f ≡ sum m (λ j. x j *ℤ f j)
sum-lifted zero L P x f = rw (sum-zero (λ j. (x j +ℤ L) *ℤ (f j +ℤ P)), sum-zero (λ j. x j +ℤ L), sum-zero f, sum-zero (λ j. x j *ℤ f j)) (simp ints (omega zarith))
sum-lifted (suc m) L P x f =
    rw (sum-suc m (λ j. (x j +ℤ L) *ℤ (f j +ℤ P)), sum-suc m (λ j. x j +ℤ L), sum-suc m f, sum-suc m (λ j. x j *ℤ f j))
    (step_is (sum m (λ j. (x j +ℤ L) *ℤ (f j +ℤ P))) (sum m (λ j. x j +ℤ L)) (sum m f) (x m) (f m) L P ∙ ap (λ (z : ℤ). z +ℤ x m *ℤ f m) (sum-lifted m L P x f))

-- the sums of lifted inputs with the columns of the lifted kernel
unfoldable pub raised : List ℤ → List ℤ → ℕ → ℤ
raised z rows k = sum (length z) (λ j. at z j *ℤ at rows (j * length z + k))

-- 36 products of 2^57 at most
pub raised_small : (z rows : List ℤ) → length rows ≡ length z * length z → length z ≤ 36 → Lifted z (2 ^ 30) → Lifted rows (2 ^ 27) → Small (table (length z) (raised z rows)) (36 * 2 ^ 57)
unfolding raised
raised_small z rows l most u v =
    let m = length z in
    record {
      small = λ k p.
          let q : k < m = omega (arith, length-table (raised z rows) m) in
          rw (get_d_table (raised z rows) (pos 0) m k q) (
          omega (
            arith,
            sum_abs m (λ j. at z j *ℤ at rows (j * m + k)) (2 ^ 30 * 2 ^ 27)
                (λ j h. abs_mul_le (at z j) (at rows (j * m + k)) (u.size j h) (v.size (j * m + k) (omega (arith, place m j k h q, l)))),
            most,
          )
          );
    }

-- what is left once the lifts are taken off
unfoldable pub lowered : List ℤ → List ℤ → List ℤ → ℕ → ℤ
lowered z base t k = at t k -ℤ pos (2 ^ 26) *ℤ sum (length z) (at z) -ℤ pos (2 ^ 29) *ℤ at base k

-- what sums by lifted numbers give of x, with a kernel of m × m and the sums of its numbers
unfoldable pub summed : List ℤ → List ℤ → List ℤ → List ℤ
summed x rows base = table (length (lifted x)) (lowered (lifted x) base (table (length (lifted x)) (raised (lifted x) rows)))

-- they are the sums with that kernel, f
pub summed-is : (m : ℕ) (f : ℕ → ℕ → ℤ) (x rows base : List ℤ) → length x ≡ m → rows ≡ lift_of m f → base ≡ base_of m f → summed x rows base ≡ table m (λ k. sum m (λ j. at x j *ℤ f k j))
unfolding summed raised lowered
summed-is m f x rows base l r b =
    let z = lifted x in
    let t = table (length z) (raised z rows) in
    let long : length z ≡ m = lifted-length x ∙ l in
    let input : (j : ℕ) → j < m → at z j ≡ at x j +ℤ pos (2 ^ 29) = λ j p. lifted-at x j (rw l p) in
    let each : (k : ℕ) → k < m → at t k -ℤ pos (2 ^ 26) *ℤ sum m (at z) -ℤ pos (2 ^ 29) *ℤ at base k ≡ sum m (λ j. at x j *ℤ f k j) =
    λ k p.
    let first : at t k ≡ sum m (λ j. (at x j +ℤ pos (2 ^ 29)) *ℤ (f k j +ℤ pos (2 ^ 26))) =
    get_d_table (raised z rows) (pos 0) (length z) k (rw long p)
    ∙ ap (λ (n : ℕ). sum n (λ j. at z j *ℤ at rows (j * n + k))) long
    ∙ sum_ext m (λ j. at z j *ℤ at rows (j * m + k)) (λ j. (at x j +ℤ pos (2 ^ 29)) *ℤ (f k j +ℤ pos (2 ^ 26)))
    (λ j q. rw (input j q, r, lift_of_at m f j k q p))
    in
    let second : sum m (at z) ≡ sum m (λ j. at x j +ℤ pos (2 ^ 29)) = sum_ext m (at z) (λ j. at x j +ℤ pos (2 ^ 29)) input in
    let third : at base k ≡ sum m (λ j. f k j) = ap (λ (w : List ℤ). at w k) b ∙ base_of-at m f k p in
    rw (first, second, third) (sum-lifted m (pos (2 ^ 29)) (pos (2 ^ 26)) (at x) (λ j. f k j))
    in
    ap (λ (n : ℕ). table n (λ k. at t k -ℤ pos (2 ^ 26) *ℤ sum n (at z) -ℤ pos (2 ^ 29) *ℤ at base k)) long
    ∙ table_ext m (λ k. at t k -ℤ pos (2 ^ 26) *ℤ sum m (at z) -ℤ pos (2 ^ 29) *ℤ at base k) (λ k. sum m (λ j. at x j *ℤ f k j)) each

-- so with the folded kernel
pub folds-summed : (N : ℕ) (x rows base : List ℤ) → length x ≡ N / 2 → rows ≡ lift_list N → base ≡ base_list N → summed x rows base ≡ table (N / 2) (folds N x)
unfolding folds lift_list base_list
folds-summed N = summed-is (N / 2) (F N)

-- the sums of inputs that are not lifted
abbrev pub plain : List ℤ → List ℤ → ℕ → ℤ
plain x rows k = sum (length x) (λ j. at x j *ℤ (at rows (j * length x + k) -ℤ pos (2 ^ 26)))

pub plain-is : (m : ℕ) (f : ℕ → ℕ → ℤ) (x rows : List ℤ) → length x ≡ m → rows ≡ lift_of m f → table (length x) (plain x rows) ≡ table m (λ k. sum m (λ j. at x j *ℤ f k j))
plain-is m f x rows l r = ap (λ (n : ℕ). table n (plain x rows)) l ∙ table_ext m (plain x rows) (λ k. sum m (λ j. at x j *ℤ f k j)) each
  where
    each : (k : ℕ) → k < m → plain x rows k ≡ sum m (λ j. at x j *ℤ f k j)
    each k p =
        ap (λ (n : ℕ). sum n (λ j. at x j *ℤ (at rows (j * n + k) -ℤ pos (2 ^ 26)))) l
        ∙ sum_ext m (λ j. at x j *ℤ (at rows (j * m + k) -ℤ pos (2 ^ 26))) (λ j. at x j *ℤ f k j)
        (λ j q. ap (λ (z : ℤ). at x j *ℤ z) (rw (r, lift_of_at m f j k q p) (simp ints (omega zarith))))

pub folds-plain : (N : ℕ) (x rows : List ℤ) → length x ≡ N / 2 → rows ≡ lift_list N → table (length x) (plain x rows) ≡ table (N / 2) (folds N x)
unfolding folds lift_list
folds-plain N = plain-is (N / 2) (F N)
