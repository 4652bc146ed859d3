-- Laws of the rotation of e and f by two cosines, whose values are rB and rC.
use Rattle.std.specs.Prelude.{◌≡◌, Bool, List, ℕ, ◌*◌, ◌/◌, ◌^◌, ◌≤◌, ◌<◌, T, eqb, ltb, length, ℤ, nat_abs, ◌+ℤ◌, ◌*ℤ◌}
use Rattle.std.proofs.Math.Path.{ap}
use Rattle.std.proofs.Math.Bool.{true, false, cond}
use native.Mathlib.Omega.{arith}
use Rattle.std.proofs.Common.{eqb→eq, ltb→lt, lit<}
use Rattle.arithmetic.specs.Rounding.{rnd}
use Rattle.arithmetic.specs.Lists.{at}
use Rattle.arithmetic.specs.RingLaws.{*ℤ_neg_ℤ}
use Rattle.arithmetic.specs.OrderLaws.{abs_add, abs_mul_le, abs_neg}
use Rattle.arithmetic.specs.RoundingLaws.{rnd_le}
use Rattle.arithmetic.specs.TestLaws.{cond_no}
use Rattle.cosine.specs.Kernels.{e_b, f_b, e_c, f_c, turned}
use Rattle.split.specs.TurnLists.{cosines, negated, cosines-length, cosines-at, IsTurns}
use Rattle.split.specs.ShortRoute.{e, f, r_b, r_c}
use Rattle.split.specs.ShortSizeLaws.{e-size, f-size, e_b_size, f_b_size, e_c_size, f_c_size}

-- e and f turned by p and q, the cosines beside them as the code lends them, and rounded
unfoldable pub rotated : ℕ → (ℕ → ℤ) → List ℤ → List ℤ → ℕ → ℤ
rotated N y p q n = rnd (e N y n *ℤ at p n +ℤ f N y n *ℤ at q n) (2 ^ 26)

-- the size of the inputs that are turned in a part of n, within which no sum overflows; from 36 on a part is a windowed block, within 2^23
unfoldable pub limit : ℕ → ℕ
limit n = cond (ltb n 36) (2 ^ 26) (2 ^ 25)

module _ (n : ℕ) where
  pub limit-most : limit n ≤ 2 ^ 26
  unfolding limit
  limit-most = go (ltb n 36)
    where
      go : (b : Bool) → cond b (2 ^ 26) (2 ^ 25) ≤ 2 ^ 26
      go true = omega arith
      go false = omega arith

  pub limit_long : 36 ≤ n → limit n ≤ 2 ^ 25
  unfolding limit
  limit_long h = go (ltb n 36) (ltb→lt n 36)
    where
      go : (b : Bool) → (T b → n < 36) → cond b (2 ^ 26) (2 ^ 25) ≤ 2 ^ 25
      go true less = absurd (omega (arith, less tt, h))
      go false less = omega arith

  -- a windowed block is within it
  pub limit-least : 2 ^ 23 ≤ limit n
  unfolding limit
  limit-least = go (ltb n 36)
    where
      go : (b : Bool) → 2 ^ 23 ≤ cond b (2 ^ 26) (2 ^ 25)
      go true = omega arith
      go false = omega arith

-- m cosines of each kind
pub record Turns (m : ℕ) (p q : List ℤ) : Type 0 where
  pub p_long : length p ≡ m
  pub q_long : length q ≡ m
  pub p_small : (n : ℕ) → n < m → nat_abs (at p n) ≤ 2 ^ 26
  pub q_small : (n : ℕ) → n < m → nat_abs (at q n) ≤ 2 ^ 27

-- what is rounded, and the value, stay small
module _ (N : ℕ) (y : ℕ → ℤ) (Q : ℕ) (y≤ : (n : ℕ) → n < N → nat_abs (y n) ≤ Q) (p q : List ℤ) (t : Turns (N / 3) p q) (n : ℕ) (l : n < N / 3) where
  pub turn-size : nat_abs (e N y n *ℤ at p n +ℤ f N y n *ℤ at q n) ≤ 2 ^ 26 * (8 * Q)
  turn-size =
      let u = at p n in
      let v = at q n in
      omega (
        arith,
        abs_add (e N y n *ℤ u) (f N y n *ℤ v),
        abs_mul_le (e N y n) u (e-size N y Q y≤ n l) (t.p_small n l),
        abs_mul_le (f N y n) v (f-size N y Q y≤ n l) (t.q_small n l),
      )

  pub rotated-size : nat_abs (rotated N y p q n) ≤ 8 * Q
  unfolding rotated
  rotated-size = rnd_le (e N y n *ℤ at p n +ℤ f N y n *ℤ at q n) {b = 2 ^ 26} {n = 8 * Q} (lit< tt) turn-size

-- ---- the two rotations: of part 1 for rB, of part 2 for rC
abbrev pub beside_e : ℕ → ℕ → List ℤ
beside_e k N = cosines (cond (eqb k 1) e_b e_c) N

abbrev pub beside_f : ℕ → ℕ → List ℤ
beside_f k N = cosines (cond (eqb k 1) (negated f_b) f_c) N

-- p and q are those of part k
pub record Beside (k N : ℕ) (p q : List ℤ) : Type 0 where
  pub outer : 0 < k
  pub p_is : p ≡ beside_e k N
  pub q_is : q ≡ beside_f k N

pub beside_b : (N : ℕ) (eb fb ec fc : List ℤ) → IsTurns N eb fb ec fc → Beside 1 N eb fb
beside_b N eb fb ec fc t = record { outer = lit< tt; p_is = t.e_b_is; q_is = t.f_b_is }

pub beside_c : (N : ℕ) (eb fb ec fc : List ℤ) → IsTurns N eb fb ec fc → Beside 2 N ec fc
beside_c N eb fb ec fc t = record { outer = lit< tt; p_is = t.e_c_is; q_is = t.f_c_is }

-- the sign of rC
unfoldable pub signed : ℕ → ℕ → ℕ → ℤ → ℤ
signed k N n z = cond (eqb k 1) z (turned N n z)

module _ (k N n : ℕ) (z : ℤ) where
  pub signed-first : k ≡ 1 → signed k N n z ≡ z
  unfolding signed
  signed-first e = rw e

  pub signed-second : ¬ (k ≡ 1) → signed k N n z ≡ turned N n z
  unfolding signed
  signed-second h = cond_no (eqb k 1) z (turned N n z) (λ t. h (eqb→eq k 1 t))

lent-turns : (c c' : ℕ → ℕ → ℤ) (N : ℕ) → ((n : ℕ) → nat_abs (c N n) ≤ 2 ^ 26) → ((n : ℕ) → nat_abs (c' N n) ≤ 2 ^ 27) → Turns (N / 3) (cosines c N) (cosines c' N)
lent-turns c c' N s s' =
    record {
      p_long = cosines-length c N;
      q_long = cosines-length c' N;
      p_small = λ n l. rw (cosines-at c N n l) (s n);
      q_small = λ n l. rw (cosines-at c' N n l) (s' n);
    }

negated_size : (N n : ℕ) → nat_abs (negated f_b N n) ≤ 2 ^ 27
unfolding negated
negated_size N n = rw (abs_neg (f_b N n)) (f_b_size N n)

pub turns : (k N : ℕ) → Turns (N / 3) (beside_e k N) (beside_f k N)
turns k N = go (eqb k 1)
  where
    go : (b : Bool) → Turns (N / 3) (cosines (cond b e_b e_c) N) (cosines (cond b (negated f_b) f_c) N)
    go true = lent-turns e_b (negated f_b) N (e_b_size N) (negated_size N)
    go false = lent-turns e_c f_c N (e_c_size N) (f_c_size N)

module _ (N : ℕ) (y : ℕ → ℤ) (n : ℕ) (l : n < N / 3) where
  rotated-B : rotated N y (cosines e_b N) (cosines (negated f_b) N) n ≡ r_b N y n
  unfolding rotated r_b negated
  rotated-B = rw (cosines-at e_b N n l, cosines-at (negated f_b) N n l, *ℤ_neg_ℤ (f N y n) (f_b N n))

  rotated-C : rotated N y (cosines e_c N) (cosines f_c N) n ≡ r_c N y n
  unfolding rotated r_c
  rotated-C = rw (cosines-at e_c N n l, cosines-at f_c N n l)

  pub rotated-is : (k : ℕ) → signed k N n (rotated N y (beside_e k N) (beside_f k N) n) ≡ cond (eqb k 1) (r_b N y n) (turned N n (r_c N y n))
  unfolding signed
  rotated-is k = go (eqb k 1)
    where
      go : (b : Bool) → let z = rotated N y (cosines (cond b e_b e_c) N) (cosines (cond b (negated f_b) f_c) N) n in
          cond b z (turned N n z) ≡ cond b (r_b N y n) (turned N n (r_c N y n))
      go true = rotated-B
      go false = ap (turned N n) rotated-C
