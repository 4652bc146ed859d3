-- Laws of a windowed sample, and of the folded block by its two hops.
use Rattle.std.specs.Prelude.{◌≡◌, refl, List, ℕ, ◌+◌, ◌-◌, ◌*◌, ◌/◌, ◌^◌, ◌≤◌, ◌<◌, ℤ, pos, negsuc, neg_ℤ, nat_abs, ◌+ℤ◌, ◌-ℤ◌, ◌*ℤ◌}
use Rattle.std.proofs.Common.{sym, ap, ◌∙◌, lit<}
use native.Mathlib.Omega.{arith}
use Rattle.std.specs.Int.Signed.{mag}
use Rattle.arithmetic.specs.Rounding.{floor, rnd}
use Rattle.arithmetic.specs.IntegerLaws.{ints, posints}
use Rattle.arithmetic.specs.Lists.{at}
use Rattle.arithmetic.specs.RoundingLaws.{floor_floor, floor_shr, under, under_shr, under_times, rnd-half}
use Rattle.transform.specs.Analysis.{y}
use Rattle.transform.specs.FoldLaws.{folded, folded_low, folded-high}
use Rattle.transform.specs.SizeLaws.{window-left, window-right}

-- sample n, windowed by entry i of a half of the joint
unfoldable pub windowed : List ℤ → ℕ → List ℤ → ℕ → ℤ
windowed half i x n = rnd (at half i *ℤ at x n) (2 ^ 18)

-- as the code rounds it: with x beside 2^16 times the product, where a number below zero is seen
pub windowed-beside : (w : ℕ) (x : ℤ) → nat_abs x ≤ 2 ^ 15 → floor ((pos w *ℤ pos 65536 +ℤ pos 1) *ℤ x +ℤ pos (2 ^ 33)) (2 ^ 34) ≡ rnd (pos w *ℤ x) (2 ^ 18)
windowed-beside w x h =
    let z = pos w *ℤ x in
    ap (λ (a : ℤ). floor a (2 ^ 34)) (apart w x)
    ∙ sym (floor_floor x (z +ℤ pos (2 ^ 17)) {b = 65536} {m = 2 ^ 18} (lit< tt) (lit< tt) (lit< tt))
    ∙ ap (λ (a : ℤ). floor (a +ℤ (z +ℤ pos (2 ^ 17))) (2 ^ 18)) (sym (floor_shr x 65536) ∙ under_shr x (less x h))
    ∙ ap (λ (a : ℤ). floor a (2 ^ 18)) (swapped (under x) z (pos (2 ^ 17)))
    ∙ rnd-half (2 ^ 17) (lit< tt) refl z (under x) (under_times w x)
  where
    apart : (w : ℕ) (x : ℤ) → (pos w *ℤ pos 65536 +ℤ pos 1) *ℤ x +ℤ pos (2 ^ 33) ≡ x +ℤ pos 65536 *ℤ (pos w *ℤ x +ℤ pos (2 ^ 17))
    apart w x = simp posints (omega arith)

    less : (x : ℤ) → nat_abs x ≤ 2 ^ 15 → mag x < 65536
    less (pos n) h = omega arith
    less (negsuc n) h = omega arith

    swapped : (s z b : ℤ) → s +ℤ (z +ℤ b) ≡ z +ℤ s +ℤ b
    swapped s z b = simp ints (omega arith)

-- M samples to a hop: the block is 2 M long, and M is even. The block, windowed and folded
abbrev pub hops : ℕ → List ℤ → List ℤ → List ℤ → ℕ → ℤ
hops M left right x = folded (2 * M) (y (2 * M) (at left) (at right) x)

module _ (M : ℕ) (left right x : List ℤ) where
  pub y-first : (n : ℕ) → n < M → y (2 * M) (at left) (at right) x n ≡ windowed left n x n
  unfolding y windowed
  y-first n p = rw (window-left (2 * M) (at left) (at right) n (omega arith))

  pub y-second : (n i : ℕ) → n ≡ M + i → y (2 * M) (at left) (at right) x n ≡ windowed right i x n
  unfolding y windowed
  y-second n i e =
      let f : n - 2 * M / 2 ≡ i = omega arith in
      rw (window-right (2 * M) (at left) (at right) n (omega arith), f)

  -- the first hop makes the upper half: a sample less its mirrored one
  pub folded_upper : (j : ℕ) → 2 * (M / 2) ≡ M → M / 2 ≤ j → j < M →
      windowed left (j - M / 2) x (j - M / 2) -ℤ windowed left (3 * (M / 2) - 1 - j) x (3 * (M / 2) - 1 - j) ≡ hops M left right x j
  folded_upper j e p q =
      let h : 2 * M / 4 ≡ M / 2 = omega arith in
      let f = rw h at (folded-high (2 * M) (y (2 * M) (at left) (at right) x) j (omega arith)) in
      rw (f, y-first (j - M / 2) (omega arith), y-first (3 * (M / 2) - 1 - j) (omega arith))

  -- the second hop makes the lower half: a sample and its mirrored one, both with the sign changed
  pub folded-lower : (j : ℕ) → 2 * (M / 2) ≡ M → j < M / 2 →
      neg_ℤ (windowed right (M / 2 - 1 - j) x (3 * (M / 2) - 1 - j)) -ℤ windowed right (M / 2 + j) x (3 * (M / 2) + j) ≡ hops M left right x j
  folded-lower j e p =
      let h : 2 * M / 4 ≡ M / 2 = omega arith in
      let f = rw h at (folded_low (2 * M) (y (2 * M) (at left) (at right) x) j (omega arith)) in
      rw (f, y-second (3 * (M / 2) - 1 - j) (M / 2 - 1 - j) (omega arith), y-second (3 * (M / 2) + j) (M / 2 + j) (omega arith))
