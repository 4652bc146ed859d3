-- Laws of the distance: the hop that two blocks share comes back from their coefficients Z₁ and Z₂, changed by at most A in all in each block.
-- At place n of the hop the last division gets V(M + n) of the first block and V(n) of the second.
use Rattle.std.specs.Prelude.{◌≡◌, List, ℕ, ◌+◌, ◌-◌, ◌*◌, ◌/◌, ◌^◌, ◌≤◌, ◌<◌, T, ℤ, pos, negsuc, nat_abs, ◌+ℤ◌, ◌-ℤ◌, ◌*ℤ◌, ◌≤ℤ◌}
use Rattle.std.proofs.Common.{le_trans, mul-le-mul_right, lit<}
use native.Mathlib.Omega.{arith}
use Rattle.arithmetic.specs.Rounding.{rnd, clamp, Sample}
use Rattle.arithmetic.specs.Sums.{sum_ℕ}
use Rattle.arithmetic.specs.Lists.{at}
use Rattle.arithmetic.specs.IntegerLaws.{ints, posints}
use Rattle.arithmetic.specs.OrderLaws.{abs_mul}
use Rattle.arithmetic.specs.RoundingLaws.{sample_abs, rnd_near}
use Rattle.arithmetic.specs.SumLaws.{sum_ℕ_le}
use Rattle.cosine.specs.Kernels.{tabled, rising, falling}
use Rattle.cosine.specs.LengthLaws.{Part, part_of}
use Rattle.cosine.specs.KernelLaws.{rising-size, falling-size, falling_mirror}
use Rattle.cosine.specs.PowerLaws.{joint}
use Rattle.transform.specs.Analysis.{window, y, X}
use Rattle.transform.specs.Synthesis.{U, V'}
use Rattle.transform.specs.SizeLaws.{window-left, window-right, y-size}
use Rattle.reconstruction.specs.Neighbours.{Neighbours}
use Rattle.reconstruction.specs.BlockLaws.{first-hop, second-hop}
use Rattle.reconstruction.specs.JointLaws.{meet}
use Rattle.reconstruction.specs.ReturnLaws.{returned-near, by-each, by-none, none_equal}

-- the sizes of two halves that are not negative
both_size : (a b : ℤ) (R : ℕ) → pos 0 ≤ℤ a → pos 0 ≤ℤ b → (a +ℤ b) ≤ℤ pos R → nat_abs a + nat_abs b ≤ R
both_size (pos a) (pos b) R p q r = omega (arith, simp ints at r)
both_size (pos a) (negsuc b) R p q r = absurd (omega (arith, simp ints at q))
both_size (negsuc a) b R p q r = absurd (omega (arith, simp ints at p))

-- the errors of both blocks, of the windowed samples and of the joint, in one
total : (M N A : ℕ) (E s : ℤ) → M + M ≡ N → 2 ≤ M →
    nat_abs (pos (2 ^ 21) *ℤ E -ℤ pos M *ℤ (pos (2 ^ 52) *ℤ s)) ≤ 2 ^ 18 * (3 * 2 ^ 25 * (3 * N + 8 * A + 4)) + M * (2 * (3 * 2 ^ 25 * 2 ^ 17) + 2 ^ 27 * 32768) →
    64 * nat_abs (E -ℤ pos (N * 2 ^ 30) *ℤ s) ≤ (6 * A + 4 * N) * 2 ^ 30
total M N A E s e p b =
    let f : pos (2 ^ 21) *ℤ E -ℤ pos M *ℤ (pos (2 ^ 52) *ℤ s) ≡ pos (2 ^ 21) *ℤ (E -ℤ pos (N * 2 ^ 30) *ℤ s) = rw (← e) (simp posints (omega arith)) in
    omega (arith, rw (f, abs_mul) at b)

module _ (N : ℕ) (t : T (tabled N)) {rise₁ fall₁ rise₂ fall₂ : ℕ → ℤ} {x₁ x₂ : List ℤ} (nb : Neighbours N rise₁ fall₁ rise₂ fall₂ x₁ x₂) where
  len : Part N
  len = part_of N t

  -- ---- the two windows on the shared hop
  window₁ : (n : ℕ) → n < N / 2 → window N rise₁ fall₁ (N / 2 + n) ≡ rise₂ (N / 2 - 1 - n)
  window₁ n p =
      let e : N / 2 + n - N / 2 ≡ n = omega arith in
      rw (window-right N rise₁ fall₁ (N / 2 + n) (omega arith), e) (nb.mirrored n p)

  window₂ : (n : ℕ) → n < N / 2 → window N rise₂ fall₂ n ≡ rise₂ n
  window₂ n p = window-left N rise₂ fall₂ n p

  y₁_near : (n : ℕ) → n < N / 2 → nat_abs (pos (2 ^ 18) *ℤ y N rise₁ fall₁ x₁ (N / 2 + n) -ℤ rise₂ (N / 2 - 1 - n) *ℤ at x₂ n) ≤ 2 ^ 17
  unfolding y
  y₁_near n p = rw (← (window₁ n p), ← (nb.shared n p)) (rnd_near (window N rise₁ fall₁ (N / 2 + n) *ℤ at x₁ (N / 2 + n)) {b = 2 ^ 18} (lit< tt))

  y₂_near : (n : ℕ) → n < N / 2 → nat_abs (pos (2 ^ 18) *ℤ y N rise₂ fall₂ x₂ n -ℤ rise₂ n *ℤ at x₂ n) ≤ 2 ^ 17
  unfolding y
  y₂_near n p = rw (← (window₂ n p)) (rnd_near (window N rise₂ fall₂ n *ℤ at x₂ n) {b = 2 ^ 18} (lit< tt))

  y₁_size : (n : ℕ) → n < N → nat_abs (y N rise₁ fall₁ x₁ n) ≤ 2 ^ 23
  y₁_size = y-size N rise₁ fall₁ len nb.before (λ n p. rw (nb.mirrored n p) (nb.joint.size (N / 2 - 1 - n) (omega arith))) x₁ (λ n p. sample_abs (nb.first n p))

  y₂_size : (n : ℕ) → n < N → nat_abs (y N rise₂ fall₂ x₂ n) ≤ 2 ^ 23
  y₂_size = y-size N rise₂ fall₂ len nb.joint.size nb.after x₂ (λ n p. sample_abs (nb.second n p))

  module _ (A : ℕ) (Z₁ Z₂ : List ℤ)
      (near₁ : sum_ℕ (N / 2) (λ k. nat_abs (at Z₁ k -ℤ X N (y N rise₁ fall₁ x₁) k)) ≤ A)
      (near₂ : sum_ℕ (N / 2) (λ k. nat_abs (at Z₂ k -ℤ X N (y N rise₂ fall₂ x₂) k)) ≤ A) where
    -- what the last division gets, against N × 2^30 times the sample
    pub distance : (n : ℕ) → n < N / 2 →
        64 * nat_abs (V' N rise₁ fall₁ Z₁ (N / 2 + n) +ℤ V' N rise₂ fall₂ Z₂ n -ℤ pos (N * 2 ^ 30) *ℤ at x₂ n) ≤ (6 * A + 4 * N) * 2 ^ 30
    unfolding V'
    distance n p =
        let m = N / 2 - 1 - n in
        let q : m < N / 2 = omega arith in
        let e : N / 2 - 1 - m ≡ n = omega arith in
        let u₁ = U N Z₁ (N / 2 + n) in
        let u₂ = U N Z₂ n in
        rw (window₁ n p, window₂ n p)
        (total (N / 2) N A (rise₂ m *ℤ u₁ +ℤ rise₂ n *ℤ u₂) (at x₂ n) (omega (arith, len.four)) (omega (arith, len.four, len.some))
        (meet (N / 2) (rise₂ n) (rise₂ m) u₁ u₂ (y N rise₁ fall₁ x₁ (N / 2 + n)) (y N rise₁ fall₁ x₁ (N / 2 + m)) (y N rise₂ fall₂ x₂ n) (y N rise₂ fall₂ x₂ m) (at x₂ n) (at x₂ m)
        (3 * N + 8 * A + 4) (3 * 2 ^ 25) (2 ^ 17) (2 ^ 27) 32768
        (second-hop N t A (y N rise₁ fall₁ x₁) y₁_size Z₁ near₁ n p)
        (first-hop N t A (y N rise₂ fall₂ x₂) y₂_size Z₂ near₂ n p)
        (y₁_near n p) (rw e at (y₁_near m q)) (y₂_near n p) (y₂_near m q)
        (both_size (rise₂ n) (rise₂ m) (3 * 2 ^ 25) (nb.joint.low n p) (nb.joint.low m q) (nb.joint.both n p))
        (nb.joint.power n p)
        (sample_abs (nb.second n (omega arith)))))

    -- the sample that comes back, against the one recorded
    pub returned : (n : ℕ) → n < N / 2 →
        nat_abs (clamp (rnd (V' N rise₁ fall₁ Z₁ (N / 2 + n) +ℤ V' N rise₂ fall₂ Z₂ n) (N * 2 ^ 30)) -ℤ at x₂ n) ≤ (6 * A + 36 * N) / (64 * N)
    returned n p = returned-near N A (V' N rise₁ fall₁ Z₁ (N / 2 + n) +ℤ V' N rise₂ fall₂ Z₂ n) (at x₂ n) len.some (nb.second n (omega arith)) (distance n p)

  -- ---- each coefficient changed by at most Q
  module _ (Q : ℕ) (Z₁ Z₂ : List ℤ)
      (near₁ : (k : ℕ) → k < N / 2 → nat_abs (at Z₁ k -ℤ X N (y N rise₁ fall₁ x₁) k) ≤ Q)
      (near₂ : (k : ℕ) → k < N / 2 → nat_abs (at Z₂ k -ℤ X N (y N rise₂ fall₂ x₂) k) ≤ Q) where
    pub returned-each : (n : ℕ) → n < N / 2 →
        nat_abs (clamp (rnd (V' N rise₁ fall₁ Z₁ (N / 2 + n) +ℤ V' N rise₂ fall₂ Z₂ n) (N * 2 ^ 30)) -ℤ at x₂ n) ≤ (3 * Q + 36) / 64
    returned-each n p =
        le_trans
        (returned (N / 2 * Q) Z₁ Z₂
        (sum_ℕ_le (N / 2) Q (λ k. nat_abs (at Z₁ k -ℤ X N (y N rise₁ fall₁ x₁) k)) near₁)
        (sum_ℕ_le (N / 2) Q (λ k. nat_abs (at Z₂ k -ℤ X N (y N rise₂ fall₂ x₂) k)) near₂) n p)
        (by-each N (N / 2 * Q) Q len.some (twice (N / 2) (omega arith)))
      where
        twice : (M : ℕ) → 2 * M ≤ N → 2 * (M * Q) ≤ N * Q
        twice M h = omega (arith, mul-le-mul_right Q h)

    -- changes of at most 9 alter no sample
    pub returned-same : Q ≤ 9 → (n : ℕ) → n < N / 2 → clamp (rnd (V' N rise₁ fall₁ Z₁ (N / 2 + n) +ℤ V' N rise₂ fall₂ Z₂ n) (N * 2 ^ 30)) ≡ at x₂ n
    returned-same h n p =
        none_equal (clamp (rnd (V' N rise₁ fall₁ Z₁ (N / 2 + n) +ℤ V' N rise₂ fall₂ Z₂ n) (N * 2 ^ 30))) (at x₂ n) (rw (by-none Q h) at (returned-each n p))

-- blocks that meet in a joint of the shape j, the first with a left joint of the shape l, the second with a right joint of the shape r
pub joint_neighbours : (N l j r : ℕ) → T (tabled N) → (x₁ x₂ : List ℤ) →
    ((n : ℕ) → n < N → Sample (at x₁ n)) → ((n : ℕ) → n < N → Sample (at x₂ n)) → ((n : ℕ) → n < N / 2 → at x₁ (N / 2 + n) ≡ at x₂ n) →
    Neighbours N (rising l N) (falling j N) (rising j N) (falling r N) x₁ x₂
joint_neighbours N l j r t x₁ x₂ first second shared = record {
  joint = joint j N t;
  mirrored = falling_mirror N (part_of N t) j;
  before = λ n p. rising-size l N n;
  after = λ n p. falling-size r N n;
  first = first;
  second = second;
  shared = shared;
}
