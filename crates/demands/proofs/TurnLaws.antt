-- Laws of signs: every stage of analysis turns its sign with its input's, since rnd does. The theorem `sign_rule`.
use Rattle.std.specs.Prelude.{◌≡◌, refl, cond, List, [], ◌∷◌, ◌++◌, ℕ, zero, suc, ◌+◌, ◌-◌, ◌*◌, ◌/◌, ◌%◌, ◌^◌, ◌<◌, eqb, length, take, drop, replicate, ℤ, pos, neg_ℤ, ◌+ℤ◌, ◌-ℤ◌, ◌*ℤ◌, ◌≤ℤ◌, ◌<ℤ◌}
use Rattle.std.proofs.Common.{sym, ap₂, ◌∙◌, ⊎_elim, arith, lit<}
use Rattle.std.proofs.Math.Path.{ap}
use Rattle.arithmetic.specs.Rounding.{rnd, least, largest, Sample}
use Rattle.arithmetic.specs.Lists.{at, table}
use Rattle.arithmetic.specs.IntegerLaws.{ints}
use Rattle.arithmetic.specs.OrderLaws.{<ℤ_≤ℤ, ≤ℤ_antisym}
use Rattle.arithmetic.specs.RingLaws.{*ℤ_neg_ℤ}
use Rattle.arithmetic.specs.ListLaws.{table_ext}
use Rattle.cosine.specs.Kernels.{L, rising, falling}
use Rattle.transform.specs.Analysis.{window, y, S, X, direct}
use Rattle.split.specs.ShortRoute as R
use Rattle.split.specs.Parts.{middle, turned_c}
use Rattle.split.specs.SignLaws.{cond_neg, plus_neg, minus_neg, rnd-turn, sum-turn, S-turn, middle-turn, r_b_turn, turned_c_turn}
use Rattle.double_route.specs.Double.{double_x, double}
use Rattle.double_route.specs.DoubleSignLaws.{double_x_turn}
use Rattle.analysis.specs.declared.Route.{Route}
use Rattle.analysis.specs.declared.Route.TheVariants.{Direct, Short, Double}
use Rattle.analysis.specs.Analysis.{spectrum, coefficients}
use Rattle.recording.specs.Recordings.{silence, padded, standing, block, analysis}
use Rattle.block_calls.specs.AnalysisLaws.{analyse_taken}
use Rattle.orders.specs.declared.Order.{Order}
use Rattle.orders.specs.Orders.{block_at, coefficient_at, laid}
use Rattle.recording_calls.specs.RecordingLaws.{recorded_taken}
use Rattle.demands.specs.Turned.{opposite, SignRule}

-- ---- lists
opposite-length : (xs : List ℤ) → length (opposite xs) ≡ length xs
unfolding opposite
opposite-length [] = refl
opposite-length (x ∷ xs) = ap suc (opposite-length xs)

opposite-at : (xs : List ℤ) (i : ℕ) → at (opposite xs) i ≡ neg_ℤ (at xs i)
unfolding opposite
opposite-at [] zero = refl
opposite-at [] (suc i) = refl
opposite-at (x ∷ xs) zero = refl
opposite-at (x ∷ xs) (suc i) = opposite-at xs i

opposite-append : (xs ys : List ℤ) → opposite (xs ++ ys) ≡ opposite xs ++ opposite ys
unfolding opposite
opposite-append [] ys = refl
opposite-append (x ∷ xs) ys = ap (λ (l : List ℤ). neg_ℤ x ∷ l) (opposite-append xs ys)

opposite-take : (n : ℕ) (xs : List ℤ) → take n (opposite xs) ≡ opposite (take n xs)
unfolding opposite
opposite-take zero xs = refl
opposite-take (suc n) [] = refl
opposite-take (suc n) (x ∷ xs) = ap (λ (l : List ℤ). neg_ℤ x ∷ l) (opposite-take n xs)

opposite-drop : (n : ℕ) (xs : List ℤ) → drop n (opposite xs) ≡ opposite (drop n xs)
unfolding opposite
opposite-drop zero xs = refl
opposite-drop (suc n) [] = refl
opposite-drop (suc n) (x ∷ xs) = opposite-drop n xs

opposite-table : (m : ℕ) (f : ℕ → ℤ) → table m (λ i. neg_ℤ (f i)) ≡ opposite (table m f)
unfolding opposite table
opposite-table zero f = refl
opposite-table (suc m) f = ap (λ (l : List ℤ). l ++ (neg_ℤ (f m) ∷ [])) (opposite-table m f) ∙ sym (opposite-append (table m f) (f m ∷ []))

table-turn : (m : ℕ) (f g : ℕ → ℤ) → ((i : ℕ) → g i ≡ neg_ℤ (f i)) → table m g ≡ opposite (table m f)
table-turn m f g h = table_ext m g (λ i. neg_ℤ (f i)) (λ i p. h i) ∙ opposite-table m f

-- ---- the windowed block
y-turn : (N : ℕ) (left right : ℕ → ℤ) (x : List ℤ) (n : ℕ) → y N left right (opposite x) n ≡ neg_ℤ (y N left right x n)
unfolding y
y-turn N left right x n =
    let w = window N left right n in
    rnd-turn (2 ^ 18) (lit< tt) (w *ℤ at x n) (w *ℤ at (opposite x) n) (ap (λ (z : ℤ). w *ℤ z) (opposite-at x n) ∙ *ℤ_neg_ℤ w (at x n))

-- ---- each route, from a turned windowed block
module _ (N : ℕ) (u v : ℕ → ℤ) (t : (n : ℕ) → v n ≡ neg_ℤ (u n)) where
  X-turn : (k : ℕ) → X N v k ≡ neg_ℤ (X N u k)
  unfolding X
  X-turn k = rnd-turn (2 ^ 28) (lit< tt) (S N u k) (S N v k) (S-turn N u v t k)

  A-turn : (k : ℕ) → R.A N v k ≡ neg_ℤ (R.A N u k)
  unfolding R.A
  A-turn k =
      sum-turn (N / 3) (λ n. L N n k *ℤ middle N u n) (λ n. L N n k *ℤ middle N v n)
      (λ n. ap (λ (z : ℤ). L N n k *ℤ z) (middle-turn N u v t n) ∙ *ℤ_neg_ℤ (L N n k) (middle N u n))

  B-turn : (k : ℕ) → R.B N v k ≡ neg_ℤ (R.B N u k)
  unfolding R.B
  B-turn k = sum-turn (N / 3) (λ n. L N n k *ℤ R.r_b N u n) (λ n. L N n k *ℤ R.r_b N v n) (λ n. rw (r_b_turn N u v t n) (*ℤ_neg_ℤ (L N n k) (R.r_b N u n)))

  G-turn : (k : ℕ) → R.G N v k ≡ neg_ℤ (R.G N u k)
  unfolding R.G
  G-turn k =
      sum-turn (N / 3) (λ n. L N n k *ℤ turned_c N u n) (λ n. L N n k *ℤ turned_c N v n)
      (λ n. ap (λ (z : ℤ). L N n k *ℤ z) (turned_c_turn N u v t n) ∙ *ℤ_neg_ℤ (L N n k) (turned_c N u n))

  D-turn : (k : ℕ) → R.D N v k ≡ neg_ℤ (R.D N u k)
  unfolding R.D
  D-turn k = G-turn (N / 6 - 1 - k)

  short_x_turn : (i : ℕ) → R.short_x N v i ≡ neg_ℤ (R.short_x N u i)
  unfolding R.short_x
  short_x_turn i =
      let k = i / 3 in
      rw (
        rnd-turn (2 ^ 28) (lit< tt) (R.A N u k) (R.A N v k) (A-turn k),
        rnd-turn (2 ^ 29) (lit< tt) (R.B N u k +ℤ R.D N u k) (R.B N v k +ℤ R.D N v k) (rw (B-turn k, D-turn k) (plus_neg (R.B N u k) (R.D N u k))),
        rnd-turn (2 ^ 29) (lit< tt) (R.B N u k -ℤ R.D N u k) (R.B N v k -ℤ R.D N v k) (rw (B-turn k, D-turn k) (minus_neg (R.B N u k) (R.D N u k))),
        cond_neg (eqb (i % 3) 0) (rnd (R.B N u k +ℤ R.D N u k) (2 ^ 29)) (rnd (R.B N u k -ℤ R.D N u k) (2 ^ 29)),
      )
      (cond_neg (eqb (i % 3) 1) (rnd (R.A N u k) (2 ^ 28)) (cond (eqb (i % 3) 0) (rnd (R.B N u k +ℤ R.D N u k) (2 ^ 29)) (rnd (R.B N u k -ℤ R.D N u k) (2 ^ 29))))

  spectrum-turn : (route : Route) → spectrum route N v ≡ opposite (spectrum route N u)
  unfolding spectrum direct R.short double
  spectrum-turn Direct = table-turn (N / 2) (X N u) (X N v) X-turn
  spectrum-turn Short = table-turn (N / 2) (R.short_x N u) (R.short_x N v) short_x_turn
  spectrum-turn Double = table-turn (N / 2) (double_x N u) (double_x N v) (double_x_turn N u v t)

-- ---- a block and a recording
block-turn : (route : Route) (N : ℕ) (left right : ℕ → ℤ) (x : List ℤ) → spectrum route N (y N left right (opposite x)) ≡ opposite (spectrum route N (y N left right x))
block-turn route N left right x = spectrum-turn N (y N left right x) (y N left right (opposite x)) (y-turn N left right x) route

coefficients-turn : (route : Route) (N l r : ℕ) (x : List ℤ) → coefficients route N l r (opposite x) ≡ opposite (coefficients route N l r x)
unfolding coefficients
coefficients-turn route N l r x = block-turn route N (rising l N) (falling r N) x

-- zeros turned are zeros
zeros-turn : (m : ℕ) → replicate m (pos 0) ≡ opposite (replicate m (pos 0))
unfolding opposite
zeros-turn zero = refl
zeros-turn (suc m) = ap (λ (l : List ℤ). pos 0 ∷ l) (zeros-turn m)

padded-turn : (N : ℕ) (x : List ℤ) → padded N (opposite x) ≡ opposite (padded N x)
unfolding padded silence
padded-turn N x =
    let z = replicate (N / 2) (pos 0) in
    ap₂ (λ (p q : List ℤ). p ++ (opposite x ++ q)) (zeros-turn (N / 2)) (zeros-turn (N / 2))
    ∙ ap (λ (l : List ℤ). opposite z ++ l) (sym (opposite-append x z))
    ∙ sym (opposite-append z (x ++ z))

cut_turn : (N : ℕ) (x : List ℤ) (b : ℕ) → block N (opposite x) b ≡ opposite (block N x b)
unfolding block standing
cut_turn N x b =
    let from = b * (N / 2) in
    ap (λ (l : List ℤ). take N (drop from l)) (padded-turn N x) ∙ ap (take N) (opposite-drop from (padded N x)) ∙ opposite-take N (drop from (padded N x))

analysis-turn : (route : Route) (order : Order) (N H : ℕ) (x : List ℤ) → analysis route order N H (opposite x) ≡ opposite (analysis route order N H x)
unfolding analysis laid
analysis-turn route order N H x =
    let B = H + 1 in
    let c : ℕ → ℕ → ℤ = λ b k. at (coefficients route N 0 0 (block N x b)) k in
    table-turn (B * (N / 2)) (λ i. c (block_at order (N / 2) B i) (coefficient_at order (N / 2) B i))
    (λ i. at (coefficients route N 0 0 (block N (opposite x) (block_at order (N / 2) B i))) (coefficient_at order (N / 2) B i))
    (λ i.
    let b = block_at order (N / 2) B i in
    let k = coefficient_at order (N / 2) B i in
    ap (λ (l : List ℤ). at l k) (ap (coefficients route N 0 0) (cut_turn N x b) ∙ coefficients-turn route N 0 0 (block N x b)) ∙ opposite-at (coefficients route N 0 0 (block N x b)) k)

-- ---- -32,768
sample-turn : (s : ℤ) → Sample s → (s ≡ least → ⊥) → Sample (neg_ℤ s)
sample-turn s S n =
    record {
      low = simp ints (omega (arith, simp ints at S.high));
      high = above s S.low n;
    }
  where
    above : (s : ℤ) → least ≤ℤ s → (s ≡ least → ⊥) → neg_ℤ s ≤ℤ largest
    above s h n = ⊎_elim (λ (l : least <ℤ s). simp ints (omega (arith, simp ints at l))) (λ (l : s ≤ℤ least). absurd (n (≤ℤ_antisym l h))) (<ℤ_≤ℤ least s)

pub sign_rule : SignRule
sign_rule = record {
  samples = λ x T i p.
      let q : i < length x = omega (arith, opposite-length x) in
      rw (opposite-at x i) (sample-turn (at x i) (T.sample i q) (T.not_least i q));
  without_least = λ S. omega (arith, simp ints at S.high);
  block = block-turn;
  analysed = λ route N l r x out out' c c'.
      sym (analyse_taken route N l r (opposite x) out' c').1 ∙ coefficients-turn route N l r x ∙ ap opposite (analyse_taken route N l r x out c).1;
  recorded = λ route order N H x out out' c c'.
      sym (recorded_taken route order N H (opposite x) out' c').1 ∙ analysis-turn route order N H x ∙ ap opposite (recorded_taken route order N H x out c).1;
}
