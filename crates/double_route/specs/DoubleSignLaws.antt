-- The law of signs, document 02's P5, for the double route: the coefficients of the block with its signs turned are its coefficients, turned.
use Rattle.std.specs.Prelude.{◌≡◌, refl, Bool, true, false, cond, ℕ, zero, suc, ◌-◌, ◌/◌, ◌%◌, ◌^◌, eqb, ℤ, pos, neg_ℤ, ◌+ℤ◌, ◌-ℤ◌, ◌*ℤ◌}
use Rattle.std.proofs.Common.{lit<}
use Rattle.arithmetic.specs.RingLaws.{*ℤ_neg_ℤ}
use Rattle.split.specs.ShortRoute.{r_b}
use Rattle.split.specs.Parts.{middle, turned_c}
use Rattle.split.specs.SignLaws.{cond_neg, plus_neg, minus_neg, rnd-turn, S-turn, middle-turn, r_b_turn, turned_c_turn}
use Rattle.double_route.specs.Double.{splits, joined, scaled_in, scaled, double_x}

module _ (N : ℕ) (A B G A' B' G' : ℕ → ℤ) (a : (k : ℕ) → A' k ≡ neg_ℤ (A k)) (b : (k : ℕ) → B' k ≡ neg_ℤ (B k)) (g : (k : ℕ) → G' k ≡ neg_ℤ (G k)) where
  joined-turn : (i : ℕ) → joined N A' B' G' i ≡ neg_ℤ (joined N A B G i)
  unfolding joined
  joined-turn i =
      let k = i / 3 in
      let m = N / 6 - 1 - i / 3 in
      rw (
        a k,
        b k,
        g m,
        *ℤ_neg_ℤ (pos 2) (A k),
        plus_neg (B k) (G m),
        minus_neg (B k) (G m),
        cond_neg (eqb (i % 3) 0) (B k +ℤ G m) (B k -ℤ G m),
      )
      (cond_neg (eqb (i % 3) 1) (pos 2 *ℤ A k) (cond (eqb (i % 3) 0) (B k +ℤ G m) (B k -ℤ G m)))

in_turn : (f N : ℕ) (u v : ℕ → ℤ) → ((n : ℕ) → v n ≡ neg_ℤ (u n)) → (k : ℕ) → scaled_in f N v k ≡ neg_ℤ (scaled_in f N u k)
unfolding scaled_in
in_turn zero N u v t k = S-turn N u v t k
in_turn (suc f) N u v t k = go (splits N) refl (λ u v. in_turn f (N / 3) u v)
  where
    go : (b : Bool) → splits N ≡ b → ((u v : ℕ → ℤ) → ((n : ℕ) → v n ≡ neg_ℤ (u n)) → (k : ℕ) → scaled_in f (N / 3) v k ≡ neg_ℤ (scaled_in f (N / 3) u k)) →
        scaled_in (suc f) N v k ≡ neg_ℤ (scaled_in (suc f) N u k)
    go true e more =
        rw e
        (joined-turn N _ _ _ _ _ _ (more (middle N u) (middle N v) (middle-turn N u v t)) (more (r_b N u) (r_b N v) (r_b_turn N u v t))
        (more (turned_c N u) (turned_c N v) (turned_c_turn N u v t)) k)
    go false e more = rw e (S-turn N u v t k)

module _ (N : ℕ) (u v : ℕ → ℤ) (t : (n : ℕ) → v n ≡ neg_ℤ (u n)) where
  scaled-turn : (k : ℕ) → scaled N v k ≡ neg_ℤ (scaled N u k)
  unfolding scaled
  scaled-turn k = in_turn N N u v t k

  pub double_x_turn : (k : ℕ) → double_x N v k ≡ neg_ℤ (double_x N u k)
  unfolding double_x
  double_x_turn k = rnd-turn (2 ^ 30) (lit< tt) (scaled N u k) (scaled N v k) (scaled-turn k)
