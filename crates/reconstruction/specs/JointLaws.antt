-- Laws of the place where two blocks meet: their mirrored parts cancel, and the sample comes back times 2^52. a and b are the rising and
-- the falling half of the joint at one place, s is the sample there, t the one at the mirrored place of the hop.
use Rattle.std.specs.Prelude.{◌≡◌, ℕ, ◌+◌, ◌*◌, ◌^◌, ◌≤◌, ℤ, neg_ℤ, nat_abs, ◌+ℤ◌, ◌-ℤ◌, ◌*ℤ◌}
use Rattle.std.proofs.Common.{le_refl, mul-le-mul_right, arith}
use Rattle.std.proofs.Math.IntN.{pos}
use Rattle.arithmetic.specs.IntegerLaws.{posints, zarith}
use Rattle.arithmetic.specs.RingLaws.{ring, lins}
use Rattle.arithmetic.specs.OrderLaws.{abs_add, abs_neg, abs_mul_le}

-- b e and a f, where |a| + |b| ≤ R
pub two : (a b : ℤ) (R E : ℕ) (e f : ℤ) → nat_abs e ≤ E → nat_abs f ≤ E → nat_abs a + nat_abs b ≤ R → nat_abs (b *ℤ e +ℤ a *ℤ f) ≤ R * E
two a b R E e f p q r =
    omega (arith, abs_add (b *ℤ e) (a *ℤ f), abs_mul_le b e (le_refl (nat_abs b)) p, abs_mul_le a f (le_refl (nat_abs a)) q, mul-le-mul_right E r)

-- U1 and U2 are what the two blocks bring, y1 and y2 their windowed samples at the place, z1 and z2 at the mirrored one
module _ (M : ℕ) (a b U1 U2 y1 z1 y2 z2 s t : ℤ) where
  -- the errors of what the blocks bring, of the windowed samples, and of the joint's power
  blocks : ℤ
  blocks = b *ℤ (pos 8 *ℤ U1 -ℤ pos M *ℤ (y1 +ℤ z1)) +ℤ a *ℤ (pos 8 *ℤ U2 -ℤ pos M *ℤ (y2 -ℤ z2))

  mains : ℤ
  mains = b *ℤ (pos (2 ^ 18) *ℤ y1 -ℤ b *ℤ s) +ℤ a *ℤ (pos (2 ^ 18) *ℤ y2 -ℤ a *ℤ s)

  mirrors : ℤ
  mirrors = b *ℤ (pos (2 ^ 18) *ℤ z1 -ℤ a *ℤ t) +ℤ a *ℤ neg_ℤ (pos (2 ^ 18) *ℤ z2 -ℤ b *ℤ t)

  power : ℤ
  power = (a *ℤ a +ℤ b *ℤ b -ℤ pos (2 ^ 52)) *ℤ s

  -- what the two blocks would bring without error, windowed
  exact : ℤ
  exact = b *ℤ (y1 +ℤ z1) +ℤ a *ℤ (y2 -ℤ z2)

  blocks_are : blocks ≡ pos 8 *ℤ (b *ℤ U1 +ℤ a *ℤ U2) -ℤ pos M *ℤ exact
  unfolding blocks exact
  blocks_are = simp ring (simp lins (omega zarith))

  others_are : mains +ℤ mirrors +ℤ power ≡ pos (2 ^ 18) *ℤ exact -ℤ pos (2 ^ 52) *ℤ s
  unfolding mains mirrors power exact
  others_are = simp ring (simp lins (omega zarith))

  split : pos (2 ^ 21) *ℤ (b *ℤ U1 +ℤ a *ℤ U2) -ℤ pos M *ℤ (pos (2 ^ 52) *ℤ s) ≡ pos (2 ^ 18) *ℤ blocks +ℤ pos M *ℤ (mains +ℤ mirrors +ℤ power)
  split = rw (blocks_are, others_are) (alg (b *ℤ U1 +ℤ a *ℤ U2) exact s)
    where
      alg : (x w s : ℤ) → pos (2 ^ 21) *ℤ x -ℤ pos M *ℤ (pos (2 ^ 52) *ℤ s) ≡ pos (2 ^ 18) *ℤ (pos 8 *ℤ x -ℤ pos M *ℤ w) +ℤ pos M *ℤ (pos (2 ^ 18) *ℤ w -ℤ pos (2 ^ 52) *ℤ s)
      alg x w s = simp posints (omega arith)

  module _ (E R F G B : ℕ)
      (e1 : nat_abs (pos 8 *ℤ U1 -ℤ pos M *ℤ (y1 +ℤ z1)) ≤ E)
      (e2 : nat_abs (pos 8 *ℤ U2 -ℤ pos M *ℤ (y2 -ℤ z2)) ≤ E)
      (f1 : nat_abs (pos (2 ^ 18) *ℤ y1 -ℤ b *ℤ s) ≤ F)
      (f2 : nat_abs (pos (2 ^ 18) *ℤ z1 -ℤ a *ℤ t) ≤ F)
      (f3 : nat_abs (pos (2 ^ 18) *ℤ y2 -ℤ a *ℤ s) ≤ F)
      (f4 : nat_abs (pos (2 ^ 18) *ℤ z2 -ℤ b *ℤ t) ≤ F)
      (r : nat_abs a + nat_abs b ≤ R)
      (g : nat_abs (a *ℤ a +ℤ b *ℤ b -ℤ pos (2 ^ 52)) ≤ G)
      (s≤ : nat_abs s ≤ B) where
    blocks≤ : nat_abs blocks ≤ R * E
    unfolding blocks
    blocks≤ = two a b R E (pos 8 *ℤ U1 -ℤ pos M *ℤ (y1 +ℤ z1)) (pos 8 *ℤ U2 -ℤ pos M *ℤ (y2 -ℤ z2)) e1 e2 r

    mains≤ : nat_abs mains ≤ R * F
    unfolding mains
    mains≤ = two a b R F (pos (2 ^ 18) *ℤ y1 -ℤ b *ℤ s) (pos (2 ^ 18) *ℤ y2 -ℤ a *ℤ s) f1 f3 r

    mirrors≤ : nat_abs mirrors ≤ R * F
    unfolding mirrors
    mirrors≤ = two a b R F (pos (2 ^ 18) *ℤ z1 -ℤ a *ℤ t) (neg_ℤ (pos (2 ^ 18) *ℤ z2 -ℤ b *ℤ t)) f2 (rw abs_neg f4) r

    power≤ : nat_abs power ≤ G * B
    unfolding power
    power≤ = abs_mul_le (a *ℤ a +ℤ b *ℤ b -ℤ pos (2 ^ 52)) s g s≤

    others≤ : nat_abs (mains +ℤ mirrors +ℤ power) ≤ 2 * (R * F) + G * B
    others≤ = omega (arith, abs_add (mains +ℤ mirrors) power, abs_add mains mirrors, mains≤, mirrors≤, power≤)

    pub meet : nat_abs (pos (2 ^ 21) *ℤ (b *ℤ U1 +ℤ a *ℤ U2) -ℤ pos M *ℤ (pos (2 ^ 52) *ℤ s)) ≤ 2 ^ 18 * (R * E) + M * (2 * (R * F) + G * B)
    meet = rw split
        (omega (arith, abs_add (pos (2 ^ 18) *ℤ blocks) (pos M *ℤ (mains +ℤ mirrors +ℤ power)), abs_mul_le (pos (2 ^ 18)) blocks (le_refl (2 ^ 18)) blocks≤, abs_mul_le (pos M) (mains +ℤ mirrors +ℤ power) (le_refl M) others≤))
