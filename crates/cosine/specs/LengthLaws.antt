-- Laws of the block lengths: what every tabled N is, and how a test computed over all lengths becomes a law of N.
use Rattle.std.specs.Prelude.{◌≡◌, Bool, true, false, not, cond, List, [], ◌∷◌, ℕ, ◌*◌, ◌/◌, ◌≤◌, ◌<◌, T, eqb, leb, ltb}
use Rattle.std.proofs.Common.{subst, sym, ap, mul-le-mul, div-le_self, lt_of_le_of_lt, arith, lit<, eqb→eq, leb→le, ltb→lt, Fits}
use Rattle.std.proofs.Math.Nat.{div-eq_of_eq-mul_left}
use Rattle.std.specs.Int.{w64}
use Rattle.arithmetic.specs.Lists.{every}
use Rattle.arithmetic.specs.TestLaws.{both_left, both_right}
use Rattle.arithmetic.specs.QuotientLaws.{quarters, splits}
use Rattle.cosine.specs.Cosine.{quarter, eighth}
use Rattle.cosine.specs.Kernels.{lengths, tabled, short_lengths, short_tabled, d}

-- a test of every number of a list holds of one that is listed there
pub of_listed : (p : ℕ → Bool) (ls : List ℕ) → T (every p ls) → (N : ℕ) → T (not (every (λ L. not (eqb N L)) ls)) → T (p N)
unfolding every
of_listed p ls t N h = among ls t h
  where
    pick : (L : ℕ) (b more : Bool) → (T b → N ≡ L) → T (p L) → (T (not more) → T (p N)) → T (not (cond (not b) more false)) → T (p N)
    pick L true more e l r h = subst (λ (n : ℕ). T (p n)) (sym (e tt)) l
    pick L false more e l r h = r h

    among : (ls : List ℕ) → T (every p ls) → T (not (every (λ L. not (eqb N L)) ls)) → T (p N)
    among [] t h = absurd h
    among (L ∷ ls) t h =
        pick L (eqb N L) (every (λ L. not (eqb N L)) ls) (eqb→eq N L) (both_left (p L) (every p ls) t) (λ u. among ls (both_right (p L) (every p ls) t) u) h

-- a test of every length holds of a tabled one
pub of_tabled : (p : ℕ → Bool) → T (every p lengths) → (N : ℕ) → T (tabled N) → T (p N)
unfolding tabled
of_tabled p t N h = of_listed p lengths t N h

-- and one of the first four, of one at which the short route is offered
pub of_short : (p : ℕ → Bool) → T (every p short_lengths) → (N : ℕ) → T (short_tabled N) → T (p N)
unfolding short_tabled
of_short p t N h = of_listed p short_lengths t N h

short-test : T (every tabled short_lengths)
unfolding every tabled lengths short_lengths
short-test = tt

pub short_is_tabled : (N : ℕ) → T (short_tabled N) → T (tabled N)
short_is_tabled = of_short tabled short-test

-- the lengths by their tests: what is not one of the others is the last
listed : ℕ → Bool
listed N = cond (eqb N 12) true (cond (eqb N 24) true (cond (eqb N 36) true (cond (eqb N 72) true (cond (eqb N 108) true (eqb N 216)))))

listed-test : T (every listed lengths)
unfolding every listed lengths
listed-test = tt

-- a test that failed leaves the rest
other : (N L : ℕ) (more : Bool) → ¬ (N ≡ L) → T (cond (eqb N L) true more) → T more
other N L more n = go (eqb N L) (eqb→eq N L)
  where
    go : (b : Bool) → (T b → N ≡ L) → T (cond b true more) → T more
    go true e t = absurd (n (e tt))
    go false e t = t

pub last-length : (N : ℕ) → T (tabled N) → ¬ (N ≡ 12) → ¬ (N ≡ 24) → ¬ (N ≡ 36) → ¬ (N ≡ 72) → ¬ (N ≡ 108) → N ≡ 216
unfolding listed
last-length N h a b c e f =
    let r5 = eqb N 216 in
    let r4 = cond (eqb N 108) true r5 in
    let r3 = cond (eqb N 72) true r4 in
    let r2 = cond (eqb N 36) true r3 in
    let r1 = cond (eqb N 24) true r2 in
    eqb→eq N 216 (other N 108 r5 f (other N 72 r4 e (other N 36 r3 c (other N 24 r2 b (other N 12 r1 a (of_tabled listed listed-test N h))))))

listed_short : ℕ → Bool
listed_short N = cond (eqb N 12) true (cond (eqb N 24) true (cond (eqb N 36) true (eqb N 72)))

listed_short-test : T (every listed_short short_lengths)
unfolding every listed_short short_lengths
listed_short-test = tt

pub last-short : (N : ℕ) → T (short_tabled N) → ¬ (N ≡ 12) → ¬ (N ≡ 24) → ¬ (N ≡ 36) → N ≡ 72
unfolding listed_short
last-short N h a b c =
    let r3 = eqb N 72 in
    let r2 = cond (eqb N 36) true r3 in
    let r1 = cond (eqb N 24) true r2 in
    eqb→eq N 72 (other N 36 r3 c (other N 24 r2 b (other N 12 r1 a (of_short listed_short listed_short-test N h))))

-- a length is a multiple of 12, and d of its parts make a quarter turn
pub record Length (N : ℕ) : Type 0 where
  pub twelve : 12 * (N / 12) ≡ N
  pub parts : d N * N ≡ quarter
  pub some : 0 < N
  pub most : N ≤ quarter

right : ℕ → Bool
right N = cond (eqb (12 * (N / 12)) N) (cond (eqb (d N * N) quarter) (cond (ltb 0 N) (leb N quarter) false) false) false

test : T (every right lengths)
unfolding every right lengths
test = tt

pub tabled_length : (N : ℕ) → T (tabled N) → Length N
unfolding right
tabled_length N h =
    let a = eqb (12 * (N / 12)) N in
    let b = eqb (d N * N) quarter in
    let c = ltb 0 N in
    let e = leb N quarter in
    let t = of_tabled right test N h in
    let u = both_right a (cond b (cond c e false) false) t in
    let v = both_right b (cond c e false) u in
    record {
      twelve = eqb→eq (12 * (N / 12)) N (both_left a (cond b (cond c e false) false) t);
      parts = eqb→eq (d N * N) quarter (both_left b (cond c e false) u);
      some = ltb→lt 0 N (both_left c e v);
      most = leb→le N quarter (both_right c e v);
    }

-- a quarter of it is 3, 9, 27 or twice one of them, as the last step of a sample asks
splits-test : T (every splits lengths)
unfolding every splits quarters lengths
splits-test = tt

pub splits_of : (N : ℕ) → T (tabled N) → T (splits N)
splits_of = of_tabled splits splits-test

-- a short joint's rise goes in steps of 3d: 108 / R, with R = M/3
rising_parts : ℕ → Bool
rising_parts N = eqb (eighth / (N / 6)) (3 * d N)

rise_test : T (every rising_parts lengths)
unfolding every rising_parts lengths
rise_test = tt

pub rise_parts : (N : ℕ) → T (tabled N) → eighth / (N / 6) ≡ 3 * d N
unfolding rising_parts
rise_parts N h = eqb→eq (eighth / (N / 6)) (3 * d N) (of_tabled rising_parts rise_test N h)

-- ---- what the kernel's laws ask of a length: four parts of it, and d of its parts make a quarter turn. A tabled length has it, and its third
pub record Part (P : ℕ) : Type 0 where
  pub four : 4 * (P / 4) ≡ P
  pub parts : d P * P ≡ quarter
  pub some : 0 < P

pub whole_part : (N : ℕ) → Length N → Part N
whole_part N l = record { four = omega (arith, l.twelve); parts = l.parts; some = l.some }

module _ (N : ℕ) (l : Length N) where
  third-some : 0 < N / 3
  third-some = omega (arith, l.twelve, l.some)

  third-whole : 3 * d N * (N / 3) ≡ quarter
  third-whole =
      let n : N ≡ 3 * (N / 3) = omega (arith, l.twelve) in
      omega (arith, l.parts, ap (λ (x : ℕ). d N * x) n)

  -- a third of the length has three times the d
  pub d-third : d (N / 3) ≡ 3 * d N
  d-third = div-eq_of_eq-mul_left {n = N / 3} third-some (sym third-whole)

  pub third-part : Part (N / 3)
  third-part =
      let four : N / 3 ≡ 4 * (N / 12) = omega (arith, l.twelve) in
      record { four = rw four (omega arith); parts = rw d-third third-whole; some = third-some }

pub part_of : (N : ℕ) → T (tabled N) → Part N
part_of N h = whole_part N (tabled_length N h)

-- the products of an angle's factors stay small
pub d-most : (N : ℕ) → d N ≤ quarter
d-most N = div-le_self quarter N

pub part-fits : (d a : ℕ) → d ≤ 3 * quarter → a ≤ 4 * quarter → Fits w64 (d * a)
part-fits d a p q = record { fits = lt_of_le_of_lt (mul-le-mul p q) (lit< tt) }

pub angle-fits : (d a o : ℕ) → d ≤ 3 * quarter → a ≤ 4 * quarter → o ≤ 4 * quarter → Fits w64 (d * a * o)
angle-fits d a o p q r = record { fits = lt_of_le_of_lt (mul-le-mul (mul-le-mul p q) r) (lit< tt) }
