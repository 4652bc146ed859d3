-- Laws of the split at one triple of inputs a, b and c of size Q: what rB and rC make of it is twice what it adds to the direct sum, up to 2^26 + 9 Q.
use Rattle.std.specs.Prelude.{◌≡◌, ℕ, ◌+◌, ◌*◌, ◌^◌, ◌≤◌, ℤ, neg_ℤ, ◌+ℤ◌, ◌-ℤ◌, ◌*ℤ◌}
use Rattle.std.proofs.Common.{arith}
use Rattle.std.proofs.Math.IntN.{pos, nat_abs}
use Rattle.arithmetic.specs.IntegerLaws.{posints}
use Rattle.arithmetic.specs.RingLaws.{*ℤ_distl, *ℤ_lcomm}
use Rattle.arithmetic.specs.OrderLaws.{abs_add, abs_mul, abs_mul_le}
use Rattle.cosine.specs.SplitLaws.{Split}

-- what rB and rC round, e u - f v and e w + f z, are made so of e = 2c - a + b and f = a + b. In rB v has the other sign
unfoldable pub made : (a b c u v : ℤ) → ℤ
made a b c u v = (pos 2 *ℤ c -ℤ a +ℤ b) *ℤ u +ℤ (a +ℤ b) *ℤ v

-- l times that, by a, b and c
made-is : (l a b c u v : ℤ) → l *ℤ made a b c u v ≡ a *ℤ (l *ℤ (neg_ℤ u +ℤ v)) +ℤ b *ℤ (l *ℤ (u +ℤ v)) +ℤ c *ℤ (l *ℤ (pos 2 *ℤ u))
unfolding made
made-is l a b c u v = rw (flat a b c u v) (each l a b c (neg_ℤ u +ℤ v) (u +ℤ v) (pos 2 *ℤ u))
  where
    flat : (a b c u v : ℤ) → (pos 2 *ℤ c -ℤ a +ℤ b) *ℤ u +ℤ (a +ℤ b) *ℤ v ≡ a *ℤ (neg_ℤ u +ℤ v) +ℤ b *ℤ (u +ℤ v) +ℤ c *ℤ (pos 2 *ℤ u)
    flat a b c u v = simp posints (omega arith)

    each : (l a b c p q r : ℤ) → l *ℤ (a *ℤ p +ℤ b *ℤ q +ℤ c *ℤ r) ≡ a *ℤ (l *ℤ p) +ℤ b *ℤ (l *ℤ q) +ℤ c *ℤ (l *ℤ r)
    each l a b c p q r = rw (*ℤ_distl l (a *ℤ p +ℤ b *ℤ q) (c *ℤ r), *ℤ_distl l (a *ℤ p) (b *ℤ q), *ℤ_lcomm l a p, *ℤ_lcomm l b q, *ℤ_lcomm l c r)

module _ (l g u v w z ka kb kc : ℤ) (near : Split l g u v w z ka kb kc) (l≤ : nat_abs l ≤ 2 ^ 26) (g≤ : nat_abs g ≤ 2 ^ 26)
    (Q : ℕ) (a b c : ℤ) (a≤ : nat_abs a ≤ Q) (b≤ : nat_abs b ≤ Q) (c≤ : nat_abs c ≤ Q)
    (rb rc : ℤ) (rb≈ : nat_abs (pos (2 ^ 26) *ℤ rb -ℤ made a b c u (neg_ℤ v)) ≤ 2 ^ 25) (rc≈ : nat_abs (pos (2 ^ 26) *ℤ rc -ℤ made a b c w z) ≤ 2 ^ 25) where
  abbrev fa : ℤ
  fa = l *ℤ (neg_ℤ u -ℤ v) +ℤ g *ℤ (neg_ℤ w +ℤ z) -ℤ pos (2 ^ 27) *ℤ ka

  abbrev fb : ℤ
  fb = l *ℤ (u -ℤ v) +ℤ g *ℤ (w +ℤ z) -ℤ pos (2 ^ 27) *ℤ kb

  abbrev fc : ℤ
  fc = l *ℤ (pos 2 *ℤ u) +ℤ g *ℤ (pos 2 *ℤ w) -ℤ pos (2 ^ 27) *ℤ kc

  abbrev in_b : ℤ
  in_b = pos (2 ^ 26) *ℤ rb -ℤ made a b c u (neg_ℤ v)

  abbrev in_c : ℤ
  in_c = pos (2 ^ 26) *ℤ rc -ℤ made a b c w z

  off : ℤ
  off = l *ℤ rb +ℤ g *ℤ rc -ℤ pos 2 *ℤ (a *ℤ ka +ℤ b *ℤ kb +ℤ c *ℤ kc)

  -- by its causes: the two roundings, and the kernel's split beside a, b and c
  causes : pos (2 ^ 26) *ℤ off ≡ l *ℤ in_b +ℤ g *ℤ in_c +ℤ (a *ℤ fa +ℤ b *ℤ fb +ℤ c *ℤ fc)
  unfolding off
  causes =
      rw (less l rb (made a b c u (neg_ℤ v)), less g rc (made a b c w z), made-is l a b c u (neg_ℤ v), made-is g a b c w z)
      (whole (l *ℤ rb) (g *ℤ rc) a b c (l *ℤ (neg_ℤ u -ℤ v)) (l *ℤ (u -ℤ v)) (l *ℤ (pos 2 *ℤ u)) (g *ℤ (neg_ℤ w +ℤ z)) (g *ℤ (w +ℤ z)) (g *ℤ (pos 2 *ℤ w)) ka kb kc)
    where
      less : (l r R : ℤ) → l *ℤ (pos (2 ^ 26) *ℤ r -ℤ R) ≡ pos (2 ^ 26) *ℤ (l *ℤ r) -ℤ l *ℤ R
      less l r R = simp posints (omega arith)

      whole : (x y a b c p q r d e f ka kb kc : ℤ) →
          pos (2 ^ 26) *ℤ (x +ℤ y -ℤ pos 2 *ℤ (a *ℤ ka +ℤ b *ℤ kb +ℤ c *ℤ kc)) ≡
          pos (2 ^ 26) *ℤ x -ℤ (a *ℤ p +ℤ b *ℤ q +ℤ c *ℤ r) +ℤ (pos (2 ^ 26) *ℤ y -ℤ (a *ℤ d +ℤ b *ℤ e +ℤ c *ℤ f))
          +ℤ (a *ℤ (p +ℤ d -ℤ pos (2 ^ 27) *ℤ ka) +ℤ b *ℤ (q +ℤ e -ℤ pos (2 ^ 27) *ℤ kb) +ℤ c *ℤ (r +ℤ f -ℤ pos (2 ^ 27) *ℤ kc))
      whole x y a b c p q r d e f ka kb kc =
          rw (part a p d ka, part b q e kb, part c r f kc) (lin x y (a *ℤ p) (b *ℤ q) (c *ℤ r) (a *ℤ d) (b *ℤ e) (c *ℤ f) (a *ℤ ka) (b *ℤ kb) (c *ℤ kc))
        where
          part : (a p d k : ℤ) → a *ℤ (p +ℤ d -ℤ pos (2 ^ 27) *ℤ k) ≡ a *ℤ p +ℤ a *ℤ d -ℤ pos (2 ^ 27) *ℤ (a *ℤ k)
          part a p d k = simp posints (omega arith)

          lin : (x y p q r d e f ka kb kc : ℤ) →
              pos (2 ^ 26) *ℤ (x +ℤ y -ℤ pos 2 *ℤ (ka +ℤ kb +ℤ kc)) ≡
              pos (2 ^ 26) *ℤ x -ℤ (p +ℤ q +ℤ r) +ℤ (pos (2 ^ 26) *ℤ y -ℤ (d +ℤ e +ℤ f))
              +ℤ (p +ℤ d -ℤ pos (2 ^ 27) *ℤ ka +ℤ (q +ℤ e -ℤ pos (2 ^ 27) *ℤ kb) +ℤ (r +ℤ f -ℤ pos (2 ^ 27) *ℤ kc))
          lin x y p q r d e f ka kb kc = simp posints (omega arith)

  pub off≤ : nat_abs (l *ℤ rb +ℤ g *ℤ rc -ℤ pos 2 *ℤ (a *ℤ ka +ℤ b *ℤ kb +ℤ c *ℤ kc)) ≤ 2 ^ 26 + 9 * Q
  unfolding off
  off≤ =
      let k : nat_abs (pos (2 ^ 26) *ℤ off) ≤ 2 ^ 26 * (2 ^ 26 + 9 * Q) =
      rw causes
      (five (l *ℤ in_b) (g *ℤ in_c) (a *ℤ fa) (b *ℤ fb) (c *ℤ fc)
      (abs_mul_le l in_b l≤ rb≈) (abs_mul_le g in_c g≤ rc≈) (abs_mul_le a fa a≤ near.a_near) (abs_mul_le b fb b≤ near.b_near) (abs_mul_le c fc c≤ near.c_near)) in
      omega (arith, rw abs_mul at k)
    where
      five : (x y p q r : ℤ) → nat_abs x ≤ 2 ^ 26 * 2 ^ 25 → nat_abs y ≤ 2 ^ 26 * 2 ^ 25 →
          nat_abs p ≤ Q * (3 * 2 ^ 26) → nat_abs q ≤ Q * (3 * 2 ^ 26) → nat_abs r ≤ Q * (3 * 2 ^ 26) → nat_abs (x +ℤ y +ℤ (p +ℤ q +ℤ r)) ≤ 2 ^ 26 * (2 ^ 26 + 9 * Q)
      five x y p q r hx hy hp hq hr = omega (arith, abs_add (x +ℤ y) (p +ℤ q +ℤ r), abs_add x y, abs_add (p +ℤ q) r, abs_add p q)
