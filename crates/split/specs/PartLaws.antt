-- Laws of the parts of N/3: a part's inputs as the code lends them, and its sums from them.
use Rattle.std.specs.Prelude.{◌≡◌, List, Bool, cond, ℕ, ◌/◌, ◌^◌, ◌≤◌, ◌<◌, eqb, ℤ}
use Rattle.std.proofs.Math.Path.{refl, sym, ap}
use Rattle.std.proofs.Common.{subst, ◌∙◌, arith}
use Rattle.std.proofs.Math.Bool.{true, false}
use Rattle.std.proofs.Math.Dec.{eqb→eq}
use Rattle.std.proofs.Math.ListN.{length}
use Rattle.std.proofs.Math.IntN.{nat_abs}
use Rattle.arithmetic.specs.Lists.{at, table, Small}
use Rattle.arithmetic.specs.ListLaws.{length-table, table_ext}
use Rattle.arithmetic.specs.TestLaws.{cond_no}
use Rattle.cosine.specs.LengthLaws.{Part, Length}
use Rattle.transform.specs.Analysis.{y, S}
use Rattle.transform.specs.FoldLaws.{folded, folded-size}
use Rattle.transform.specs.InverseLaws.{folds}
use Rattle.transform.specs.DirectLaws.{S-folds}
use Rattle.transform.specs.Stages.{Input}
use Rattle.windows.specs.HalfLaws.{rise_list, fall_list}
use Rattle.split.specs.ShortRoute.{r_b, A, B, G}
use Rattle.split.specs.Parts.{middle, turned_c}
use Rattle.split.specs.ShortSizeLaws.{middle-size, r_b_size, turned-size}
use Rattle.split.specs.ShortStepLaws.{table_small, third-step}
use Rattle.split.specs.TurnLaws.{rotated, beside_e, beside_f, signed, rotated-is}

-- a part's inputs, folded to half their number
abbrev pub halved : List ℤ → List ℤ
halved w = table (length w / 2) (folded (length w) (at w))

-- ---- the three parts of the split of N inputs y, by their numbers
unfoldable pub place : ℕ → ℕ → (ℕ → ℤ) → ℕ → ℤ
place k N y n = cond (eqb k 0) (middle N y n) (cond (eqb k 1) (r_b N y n) (turned_c N y n))

unfoldable pub third : ℕ → ℕ → (ℕ → ℤ) → List ℤ
third k N y = table (N / 3) (place k N y)

pub third_length : (k N : ℕ) (y : ℕ → ℤ) → length (third k N y) ≡ N / 3
unfolding third
third_length k N y = length-table (place k N y) (N / 3)

module _ (N : ℕ) (y : ℕ → ℤ) where
  pub third-middle : third 0 N y ≡ table (N / 3) (middle N y)
  unfolding third place
  third-middle = refl

  pub third_r_b : third 1 N y ≡ table (N / 3) (r_b N y)
  unfolding third place
  third_r_b = refl

  pub third_r_c : third 2 N y ≡ table (N / 3) (turned_c N y)
  unfolding third place
  third_r_c = refl

  -- a place of an outer part is a rotation
  pub place-rotated : (k : ℕ) → 0 < k → (n : ℕ) → n < N / 3 → signed k N n (rotated N y (beside_e k N) (beside_f k N) n) ≡ place k N y n
  unfolding place
  place-rotated k o n l =
      rotated-is N y n l k
      ∙ sym (cond_no (eqb k 0) (middle N y n) (cond (eqb k 1) (r_b N y n) (turned_c N y n)) (λ t. let z = eqb→eq k 0 t in omega arith))

module _ (N : ℕ) (y : ℕ → ℤ) (y≤ : (n : ℕ) → n < N → nat_abs (y n) ≤ 2 ^ 23) (k n : ℕ) (l : n < N / 3) where
  place-size : nat_abs (place k N y n) ≤ 2 ^ 26
  unfolding place
  place-size = go (eqb k 0) (eqb k 1)
    where
      go : (b c : Bool) → nat_abs (cond b (middle N y n) (cond c (r_b N y n) (turned_c N y n))) ≤ 2 ^ 26
      go true c = omega (arith, middle-size N y (2 ^ 23) y≤ n l)
      go false true = r_b_size N y (2 ^ 23) y≤ n l
      go false false = turned-size N y (2 ^ 23) y≤ n l

-- ---- what the leaves of the split hand on to each other
-- the split is given N inputs y, windowed, few enough for its sums to fit
pub record Given (N : ℕ) (y : List ℤ) : Type 0 where
  pub whole : Length N
  pub few : N ≤ 72
  pub part : Part (N / 3)
  pub all : length y ≡ N
  pub small : Small y (2 ^ 23)

-- they are the block x, windowed by joints of these shapes
pub record Windowed (N l r : ℕ) (x block : List ℤ) : Type 0 where
  pub given : Given N block
  pub is : block ≡ table N (y N (at (rise_list l N)) (at (fall_list r N)) x)

pub windowed-length : (N l r : ℕ) (x block : List ℤ) → block ≡ table N (y N (at (rise_list l N)) (at (fall_list r N)) x) → length block ≡ N
windowed-length N l r x block e = ap length e ∙ length-table (y N (at (rise_list l N)) (at (fall_list r N)) x) N

-- w has the inputs of part k
pub record Third (k N : ℕ) (y w : List ℤ) : Type 0 where
  pub part : Part (N / 3)
  pub most : N / 3 / 2 ≤ 36
  pub is : w ≡ third k N (at y)
  pub small : Small w (2 ^ 28)

pub third-made : (k N : ℕ) (y w : List ℤ) → Given N y → w ≡ third k N (at y) → Third k N y w
unfolding third
third-made k N y w g h =
    record { part = g.part; most = omega (arith, g.few); is = h; small = rw h (table_small (N / 3) (2 ^ 28) (place k N (at y)) (λ i l. omega (arith, place-size N (at y) (λ j q. g.small.small j (rw g.all q)) k i l))) }

module _ (k N : ℕ) (y w : List ℤ) (t : Third k N y w) where
  pub third_long : length w ≡ N / 3
  third_long = ap length t.is ∙ third_length k N (at y)

  -- folded into room for N/6
  pub third-halved : (m : ℕ) (z : List ℤ) → m ≡ N / 6 → z ≡ table m (folded (length w) (at w)) → z ≡ halved w
  third-halved m z e h = h ∙ ap (λ (n : ℕ). table n (folded (length w) (at w))) (omega (arith, third_long))

  pub halved-input : (z : List ℤ) → z ≡ halved w → Input (N / 3) z
  halved-input z e =
      let p : Part (length w) = subst Part (sym third_long) t.part in
      let s = table_small (length w / 2) (2 ^ 29) (folded (length w) (at w)) (folded-size (length w) p (2 ^ 28) (at w) (λ i q. t.small.small i q)) in
      rw e (record {
        most = omega (arith, t.most);
        long = length-table (folded (length w) (at w)) (length w / 2) ∙ ap (λ (n : ℕ). n / 2) third_long;
        small = s;
      })

-- room for m numbers, twice
pub record Room (m : ℕ) (z t : List ℤ) : Type 0 where
  pub first : length z ≡ m
  pub second : length t ≡ m

-- room for m numbers of each part
pub record Rooms (m : ℕ) (a b g : List ℤ) : Type 0 where
  pub first : length a ≡ m
  pub second : length b ≡ m
  pub last : length g ≡ m

-- the sums of part k: those of its direct analysis
abbrev pub summed : ℕ → ℕ → List ℤ → List ℤ
summed k N y = table (N / 3 / 2) (S (N / 3) (at (third k N (at y))))

-- and of the three
pub record Summed (N : ℕ) (y a b g : List ℤ) : Type 0 where
  pub given : Given N y
  pub a_is : a ≡ summed 0 N y
  pub b_is : b ≡ summed 1 N y
  pub g_is : g ≡ summed 2 N y

-- from the folded inputs
module _ (P : ℕ) (p : Part P) (w : List ℤ) (long : length w ≡ P) where
  pub halved-sums : (s : List ℤ) → s ≡ table (P / 2) (folds P (halved w)) → s ≡ table (P / 2) (S P (at w))
  halved-sums s h =
      let f : halved w ≡ table (P / 2) (folded P (at w)) = ap (λ (n : ℕ). table (n / 2) (folded n (at w))) long in
      h ∙ table_ext (P / 2) (folds P (halved w)) (S P (at w)) (λ k _. ap (λ (x : List ℤ). folds P x k) f ∙ S-folds P p (at w) k)

-- their sums are A, B and G
module _ (N : ℕ) (l : Length N) (t : Part (N / 3)) (y : ℕ → ℤ) (w s : List ℤ) (h : s ≡ table (N / 3 / 2) (S (N / 3) (at w))) where
  abbrev six : N / 3 / 2 ≡ N / 6
  six = omega arith

  pub A_are : w ≡ table (N / 3) (middle N y) → s ≡ table (N / 6) (A N y)
  unfolding A
  A_are e = third-step N l t y (middle N y) (N / 3 / 2) (N / 3) w s six refl e h

  pub B_are : w ≡ table (N / 3) (r_b N y) → s ≡ table (N / 6) (B N y)
  unfolding B
  B_are e = third-step N l t y (r_b N y) (N / 3 / 2) (N / 3) w s six refl e h

  pub G_are : w ≡ table (N / 3) (turned_c N y) → s ≡ table (N / 6) (G N y)
  unfolding G
  G_are e = third-step N l t y (turned_c N y) (N / 3 / 2) (N / 3) w s six refl e h
