-- Laws of the window as the code applies it: its numbers are never negative, and a sample times one of them is made of products of 16 bits.
use Rattle.std.specs.Prelude.{◌≡◌, refl, List, [], ◌∷◌, ◌++◌, ℕ, zero, suc, ◌+◌, ◌-◌, ◌*◌, ◌/◌, ◌%◌, ◌^◌, ◌≤◌, ◌<◌, length, take, drop, ℤ, pos, nat_abs, ◌+ℤ◌, ◌*ℤ◌}
use Rattle.std.proofs.Common.{sym, ap, ap₂, ◌∙◌, append-nil, append_assoc, arith, lit<, length-append, length-drop, drop_of_length-le, take_at, drop_at, drop-drop, get_or-take, get_or-append-add}
use Rattle.std.proofs.Math.Decide.{dec_lt}
use Rattle.std.proofs.Math.ListN.{get_or-append}
use Rattle.arithmetic.specs.Rounding.{floor, rnd}
use Rattle.arithmetic.specs.Lists.{at, table, Small}
use Rattle.arithmetic.specs.IntegerLaws.{pp, np, ints, posints}
use Rattle.arithmetic.specs.RoundingLaws.{floor-is, floor_unique, under, under_times, rnd-after}
use Rattle.arithmetic.specs.ListLaws.{length-table, table_ext, part_at}
use Rattle.transform.specs.Analysis.{y}
use Rattle.transform.specs.HopLaws.{windowed, y-first, y-second}

-- a multiple of b comes out of a floor by b
floor-more : (a c : ℤ) {b : ℕ} → 0 < b → floor (a +ℤ pos b *ℤ c) b ≡ c +ℤ floor a b
floor-more a c {b} p =
    let f = floor-is a p in
    floor_unique
    (floor-is (a +ℤ pos b *ℤ c) p)
    (record { low = simp posints (omega (arith, simp posints at f.low)); high = simp posints (omega (arith, simp posints at f.high)) })

-- a w by the parts of w, w = 2^13 hi + lo
by_parts : (a : ℤ) (w : ℕ) → pos w *ℤ a ≡ a *ℤ pos (w % 8192) +ℤ pos 8192 *ℤ (a *ℤ pos (w / 8192))
by_parts a w = let e : w ≡ w % 8192 + 8192 * (w / 8192) = omega arith in simp posints (omega (arith, ap (λ (x : ℕ). x * pp a) e, ap (λ (x : ℕ). x * np a) e))

pub windowed-parts : (a : ℤ) (w : ℕ) → floor (a *ℤ pos (w / 8192) +ℤ floor (a *ℤ pos (w % 8192) +ℤ under a) 8192 +ℤ pos 16) 32 ≡ rnd (pos w *ℤ a) (2 ^ 18)
windowed-parts a w =
    let lo = a *ℤ pos (w % 8192) in
    let hi = a *ℤ pos (w / 8192) in
    let e : lo +ℤ under a +ℤ pos 8192 *ℤ hi ≡ pos w *ℤ a +ℤ under a = rw (by_parts a w) (swapped lo (under a) (pos 8192 *ℤ hi)) in
    ap (λ (z : ℤ). floor (z +ℤ pos 16) 32) (sym (floor-more (lo +ℤ under a) hi {b = 8192} (lit< tt)) ∙ ap (λ (z : ℤ). floor z 8192) e)
    ∙ rnd-after (pos w *ℤ a) (under a) 8192 16 (lit< tt) (lit< tt) (under_times w a)
  where
    swapped : (x y z : ℤ) → x +ℤ y +ℤ z ≡ x +ℤ z +ℤ y
    swapped x y z = simp ints (omega arith)

-- ---- the block from its two hops
abbrev pub weighted : List ℤ → List ℤ → List ℤ → List ℤ
weighted left right x = table (length x) (y (length x) (at left) (at right) x)

table-append : (m k : ℕ) (f : ℕ → ℤ) → table m f ++ table k (λ i. f (m + i)) ≡ table (m + k) f
unfolding table
table-append m zero f = let e : m + 0 ≡ m = omega arith in rw e (append-nil (table m f))
table-append m (suc k) f =
    let e : m + suc k ≡ suc (m + k) = omega arith in
    rw e (sym (append_assoc (table m f) (table k (λ i. f (m + i))) (f (m + k) ∷ [])) ∙ ap (λ (l : List ℤ). l ++ (f (m + k) ∷ [])) (table-append m k f))

small_append : (xs ys : List ℤ) (B : ℕ) → Small xs B → Small ys B → Small (xs ++ ys) B
small_append xs ys B s t = record { small = λ i p. go i p (dec_lt i (length xs)) }
  where
    go : (i : ℕ) → i < length (xs ++ ys) → Dec (i < length xs) → nat_abs (at (xs ++ ys) i) ≤ B
    go i p (yes l) = rw (get_or-append xs ys (pos 0) i l) (s.small i l)
    go i p (no l) =
        let e : i ≡ length xs + (i - length xs) = omega arith in
        rw (ap (at (xs ++ ys)) e, get_or-append-add xs ys (i - length xs) (pos 0)) (t.small (i - length xs) (omega (arith, length-append xs ys)))

-- the hops are written into the halves of `out`, one after the other
module _ (left right x out first second : List ℤ) (same : length left ≡ length right) (two : length x ≡ 2 * length left) (room : length out ≡ length x)
    (first_is : first ≡ table (length left) (λ n. windowed left n (take (length left) x) n))
    (second_is : second ≡ table (length right) (λ n. windowed right n (take (length x - length left) (drop (length left) x)) n)) where
  abbrev M : ℕ
  M = length left

  abbrev hop : List ℤ → List ℤ → ℕ → ℤ
  hop half x n = windowed half n x n

  abbrev written : List ℤ
  written = first ++ drop M out

  abbrev block : List ℤ
  block = take M written ++ (second ++ drop (length written - M) (drop M written))

  both : block ≡ first ++ second
  both =
      let long : length first ≡ M = ap length first_is ∙ length-table (hop left (take M x)) M in
      let all : length out ≤ M + (length written - M) = omega (arith, length-append first (drop M out), length-drop M out) in
      rw (take_at first (drop M out) M long, drop_at first (drop M out) M long, drop-drop (length written - M) M out, drop_of_length-le out {i = M + (length written - M)} all)
      (ap (λ (l : List ℤ). first ++ l) (append-nil second))

  -- a sample of each
  one : (n : ℕ) → n < M → hop left (take M x) n ≡ y (2 * M) (at left) (at right) x n
  unfolding windowed
  one n p = rw (get_or-take M x n (pos 0) p) (sym (y-first M left right x n p))

  other : (n : ℕ) → n < M → hop right (take (length x - M) (drop M x)) n ≡ y (2 * M) (at left) (at right) x (M + n)
  unfolding windowed
  other n p = rw (part_at x M (length x - M) M (omega arith) (omega arith) n p) (sym (y-second M left right x (M + n) n refl))

  pub hops_are : block ≡ weighted left right x
  hops_are =
      let e : length x ≡ M + M = omega arith in
      let rest = take (length x - M) (drop M x) in
      both
      ∙ ap₂ (λ (p q : List ℤ). p ++ q)
      (first_is ∙ table_ext M (hop left (take M x)) (y (2 * M) (at left) (at right) x) one)
      (second_is ∙ ap (λ (m : ℕ). table m (hop right rest)) (sym same) ∙ table_ext M (hop right rest) (λ n. y (2 * M) (at left) (at right) x (M + n)) other)
      ∙ table-append M M (y (2 * M) (at left) (at right) x)
      ∙ ap₂ (λ (m n : ℕ). table m (y n (at left) (at right) x)) (sym e) (sym two)

  pub hops_small : Small first (2 ^ 23) → Small second (2 ^ 23) → Small block (2 ^ 23)
  hops_small s t = rw both (small_append first second (2 ^ 23) s t)
