-- Laws of signs: the numbers of a split turn their sign with its inputs', since rnd does.
use Rattle.std.specs.Prelude.{◌≡◌, refl, Bool, true, false, cond, ℕ, ◌+◌, ◌-◌, ◌*◌, ◌/◌, ◌%◌, ◌^◌, ◌<◌, eqb, ℤ, ◌+ℤ◌, ◌-ℤ◌, ◌*ℤ◌}
use Rattle.std.proofs.Common.{ap, ◌∙◌, arith, lit<}
use Rattle.std.proofs.Math.IntN.{pos, neg_ℤ}
use Rattle.arithmetic.specs.Rounding.{rnd}
use Rattle.arithmetic.specs.Sums.{sum}
use Rattle.arithmetic.specs.IntegerLaws.{ints}
use Rattle.arithmetic.specs.RingLaws.{neg_ℤ_*ℤ}
use Rattle.arithmetic.specs.RoundingLaws.{rnd_neg}
use Rattle.arithmetic.specs.SumLaws.{sum_ext, sum_neg}
use Rattle.cosine.specs.Kernels.{K, e_b, f_b, e_c, f_c, turned}
use Rattle.transform.specs.Analysis.{S}
use Rattle.split.specs.ShortRoute.{a, b, c, e, f, r_b, r_c}
use Rattle.split.specs.Parts.{middle, turned_c}

pub cond_neg : (t : Bool) (a b : ℤ) → cond t (neg_ℤ a) (neg_ℤ b) ≡ neg_ℤ (cond t a b)
cond_neg true a b = refl
cond_neg false a b = refl

-- a sum and a difference, from their turned numbers
pub plus_neg : (a b : ℤ) → neg_ℤ a +ℤ neg_ℤ b ≡ neg_ℤ (a +ℤ b)
plus_neg a b = simp ints (omega arith)

pub minus_neg : (a b : ℤ) → neg_ℤ a -ℤ neg_ℤ b ≡ neg_ℤ (a -ℤ b)
minus_neg a b = simp ints (omega arith)

-- a rounded number, from its turned number
pub rnd-turn : (b : ℕ) → 0 < b → (z z' : ℤ) → z' ≡ neg_ℤ z → rnd z' b ≡ neg_ℤ (rnd z b)
rnd-turn b p z z' e = ap (λ (w : ℤ). rnd w b) e ∙ rnd_neg z p

pub sum-turn : (n : ℕ) (f g : ℕ → ℤ) → ((i : ℕ) → g i ≡ neg_ℤ (f i)) → sum n g ≡ neg_ℤ (sum n f)
sum-turn n f g h = sum_ext n g (λ i. neg_ℤ (f i)) (λ i p. h i) ∙ sum_neg n f

module _ (N : ℕ) (u v : ℕ → ℤ) (t : (n : ℕ) → v n ≡ neg_ℤ (u n)) where
  -- the direct sums
  pub S-turn : (k : ℕ) → S N v k ≡ neg_ℤ (S N u k)
  unfolding S
  S-turn k = sum-turn N (λ n. u n *ℤ K N n k) (λ n. v n *ℤ K N n k) (λ n. rw (t n) (neg_ℤ_*ℤ (u n) (K N n k)))

  -- the inputs of the three parts
  module _ (n : ℕ) where
    pub middle-turn : middle N v n ≡ neg_ℤ (middle N u n)
    unfolding a b c
    middle-turn = rw (t (N / 3 - 1 - n), t (2 * N / 3 - 1 - n), t (N - 1 - n)) (go (u (N / 3 - 1 - n)) (u (2 * N / 3 - 1 - n)) (u (N - 1 - n)))
      where
        go : (a b c : ℤ) → neg_ℤ a -ℤ neg_ℤ b +ℤ neg_ℤ c ≡ neg_ℤ (a -ℤ b +ℤ c)
        go a b c = simp ints (omega arith)

    e-turn : e N v n ≡ neg_ℤ (e N u n)
    unfolding e a b c
    e-turn = rw (t (N / 3 - 1 - n), t (2 * N / 3 - 1 - n), t (N - 1 - n)) (go (u (N / 3 - 1 - n)) (u (2 * N / 3 - 1 - n)) (u (N - 1 - n)))
      where
        go : (a b c : ℤ) → pos 2 *ℤ neg_ℤ c -ℤ neg_ℤ a +ℤ neg_ℤ b ≡ neg_ℤ (pos 2 *ℤ c -ℤ a +ℤ b)
        go a b c = simp ints (omega arith)

    f-turn : f N v n ≡ neg_ℤ (f N u n)
    unfolding f a b
    f-turn = rw (t (N / 3 - 1 - n), t (2 * N / 3 - 1 - n)) (plus_neg (u (N / 3 - 1 - n)) (u (2 * N / 3 - 1 - n)))

    pub r_b_turn : r_b N v n ≡ neg_ℤ (r_b N u n)
    unfolding r_b
    r_b_turn =
        rnd-turn (2 ^ 26) (lit< tt) (e N u n *ℤ e_b N n -ℤ f N u n *ℤ f_b N n) (e N v n *ℤ e_b N n -ℤ f N v n *ℤ f_b N n)
        (rw (e-turn, f-turn) (go (e N u n) (f N u n) (e_b N n) (f_b N n)))
      where
        go : (e f p q : ℤ) → neg_ℤ e *ℤ p -ℤ neg_ℤ f *ℤ q ≡ neg_ℤ (e *ℤ p -ℤ f *ℤ q)
        go e f p q = simp ints (omega arith)

    r_c_turn : r_c N v n ≡ neg_ℤ (r_c N u n)
    unfolding r_c
    r_c_turn =
        rnd-turn (2 ^ 26) (lit< tt) (e N u n *ℤ e_c N n +ℤ f N u n *ℤ f_c N n) (e N v n *ℤ e_c N n +ℤ f N v n *ℤ f_c N n)
        (rw (e-turn, f-turn) (go (e N u n) (f N u n) (e_c N n) (f_c N n)))
      where
        go : (e f p q : ℤ) → neg_ℤ e *ℤ p +ℤ neg_ℤ f *ℤ q ≡ neg_ℤ (e *ℤ p +ℤ f *ℤ q)
        go e f p q = simp ints (omega arith)

    pub turned_c_turn : turned_c N v n ≡ neg_ℤ (turned_c N u n)
    unfolding turned
    turned_c_turn = rw r_c_turn (cond_neg (eqb ((n + N / 12) % 2) 0) (neg_ℤ (r_c N u n)) (r_c N u n))
