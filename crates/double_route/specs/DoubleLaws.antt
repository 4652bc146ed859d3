-- Laws of the double route's recursion: what it is of a part that is split and of one that is not, and the inputs that it depends on.
use Rattle.std.specs.Prelude.{◌≡◌, Bool, true, false, eqb, ℤ, pos, ◌+ℤ◌, ◌-ℤ◌, ◌*ℤ◌}
use Rattle.std.proofs.Math.Path.{refl, ap}
use Rattle.std.proofs.Common.{◌∙◌, le_refl, eqb→eq}
use Prim.Native.Nat.{ℕ, zero, suc, ◌+◌, ◌-◌, ◌*◌, ◌/◌, ◌%◌, ◌^◌, ◌≤◌, ◌<◌}
use native.Mathlib.Omega.{arith}
use Rattle.arithmetic.specs.Rounding.{rnd}
use Rattle.arithmetic.specs.ListLaws.{table_ext}
use Rattle.cosine.specs.Kernels.{turned}
use Rattle.transform.specs.Analysis.{S}
use Rattle.transform.specs.DirectLaws.{S_ext}
use Rattle.split.specs.ShortRoute.{r_b}
use Rattle.split.specs.Parts.{middle, turned_c}
use Rattle.split.specs.ShortStepLaws.{middle_ext, r_b_ext, r_c_ext}
use Rattle.double_route.specs.Double.{splits, joined, scaled_in, scaled, double_x, double}

-- a joined sum depends on one entry of each part
pub joined_ext : (N : ℕ) (A B G A' B' G' : ℕ → ℤ) (i : ℕ) → A (i / 3) ≡ A' (i / 3) → B (i / 3) ≡ B' (i / 3) → G (N / 6 - 1 - i / 3) ≡ G' (N / 6 - 1 - i / 3) → joined N A B G i ≡ joined N A' B' G' i
unfolding joined
joined_ext N A B G A' B' G' i p q r = rw (p, q, r)

module _ (N : ℕ) (A B G : ℕ → ℤ) (k : ℕ) where
  pub joined-first : joined N A B G (3 * k) ≡ B k +ℤ G (N / 6 - 1 - k)
  unfolding joined
  joined-first =
      let q : 3 * k / 3 ≡ k = omega arith in
      let r : 3 * k % 3 ≡ 0 = omega arith in
      rw (q, r)

  pub joined-middle : joined N A B G (3 * k + 1) ≡ pos 2 *ℤ A k
  unfolding joined
  joined-middle =
      let q : (3 * k + 1) / 3 ≡ k = omega arith in
      let r : (3 * k + 1) % 3 ≡ 1 = omega arith in
      rw (q, r)

  pub joined-last : joined N A B G (3 * k + 2) ≡ B k -ℤ G (N / 6 - 1 - k)
  unfolding joined
  joined-last =
      let q : (3 * k + 2) / 3 ≡ k = omega arith in
      let r : (3 * k + 2) % 3 ≡ 2 = omega arith in
      rw (q, r)

-- ---- how deep the first number allows does not matter, once it is the length
deep : (g h N : ℕ) → 0 < N → N ≤ g → N ≤ h → (y : ℕ → ℤ) (k : ℕ) → scaled_in g N y k ≡ scaled_in h N y k
unfolding scaled_in splits
deep zero h N s p q y k = absurd (omega arith)
deep (suc g) zero N s p q y k = absurd (omega arith)
deep (suc g) (suc h) N s p q y k = go (splits N) refl (λ v. deep g h (N / 3) v)
  where
    go : (b : Bool) → splits N ≡ b → (0 < N / 3 → N / 3 ≤ g → N / 3 ≤ h → (y : ℕ → ℤ) (k : ℕ) → scaled_in g (N / 3) y k ≡ scaled_in h (N / 3) y k) → scaled_in (suc g) N y k ≡ scaled_in (suc h) N y k
    go true e more =
        let t : N % 12 ≡ 0 = eqb→eq (N % 12) 0 (rw e tt) in
        let same = more (omega arith) (omega arith) (omega arith) in
        rw e (joined_ext N _ _ _ _ _ _ k (same (middle N y) (k / 3)) (same (r_b N y) (k / 3)) (same (turned_c N y) (N / 6 - 1 - k / 3)))
    go false e more = rw e refl

-- ---- a part that is split, and one that is not
in_split : (g N : ℕ) (y : ℕ → ℤ) → N % 12 ≡ 0 → (k : ℕ) →
    scaled_in (suc g) N y k ≡ joined N (λ j. scaled_in g (N / 3) (middle N y) j) (λ j. scaled_in g (N / 3) (r_b N y) j) (λ j. scaled_in g (N / 3) (turned_c N y) j) k
unfolding scaled_in splits
in_split g N y e k = rw e

in_plain : (g N : ℕ) (y : ℕ → ℤ) → ¬ (N % 12 ≡ 0) → (k : ℕ) → scaled_in g N y k ≡ S N y k
unfolding scaled_in splits
in_plain zero N y h k = refl
in_plain (suc g) N y h k = go (eqb (N % 12) 0) refl
  where
    go : (b : Bool) → eqb (N % 12) 0 ≡ b → scaled_in (suc g) N y k ≡ S N y k
    go true e = absurd (h (eqb→eq (N % 12) 0 (rw e tt)))
    go false e = rw e

module _ (N : ℕ) (y : ℕ → ℤ) where
  pub scaled-split : 0 < N → N % 12 ≡ 0 → (k : ℕ) → scaled N y k ≡ joined N (scaled (N / 3) (middle N y)) (scaled (N / 3) (r_b N y)) (scaled (N / 3) (turned_c N y)) k
  unfolding scaled
  scaled-split s e k = go N refl
    where
      third : (g : ℕ) → N ≡ suc g → (v : ℕ → ℤ) (j : ℕ) → scaled_in g (N / 3) v j ≡ scaled_in (N / 3) (N / 3) v j
      third g i v j = deep g (N / 3) (N / 3) (omega arith) (omega arith) (le_refl (N / 3)) v j

      once : (g : ℕ) → scaled_in (suc g) N y k ≡ joined N (λ j. scaled_in g (N / 3) (middle N y) j) (λ j. scaled_in g (N / 3) (r_b N y) j) (λ j. scaled_in g (N / 3) (turned_c N y) j) k
      once g = in_split g N y e k

      go : (m : ℕ) → N ≡ m → scaled_in m N y k ≡ joined N (scaled (N / 3) (middle N y)) (scaled (N / 3) (r_b N y)) (scaled (N / 3) (turned_c N y)) k
      go zero i = absurd (omega arith)
      go (suc g) i = once g ∙ joined_ext N _ _ _ _ _ _ k (third g i (middle N y) (k / 3)) (third g i (r_b N y) (k / 3)) (third g i (turned_c N y) (N / 6 - 1 - k / 3))

  pub scaled-plain : ¬ (N % 12 ≡ 0) → (k : ℕ) → scaled N y k ≡ S N y k
  unfolding scaled
  scaled-plain h k = in_plain N N y h k

-- ---- it depends on N entries of y
in_ext : (g N : ℕ) (u v : ℕ → ℤ) → ((i : ℕ) → i < N → u i ≡ v i) → (k : ℕ) → scaled_in g N u k ≡ scaled_in g N v k
unfolding scaled_in
in_ext zero N u v same k = S_ext N u v same k
in_ext (suc g) N u v same k = go (splits N) refl (λ u v. in_ext g (N / 3) u v)
  where
    go : (b : Bool) → splits N ≡ b → ((u v : ℕ → ℤ) → ((i : ℕ) → i < N / 3 → u i ≡ v i) → (k : ℕ) → scaled_in g (N / 3) u k ≡ scaled_in g (N / 3) v k) → scaled_in (suc g) N u k ≡ scaled_in (suc g) N v k
    go true e more =
        rw e
        (joined_ext N _ _ _ _ _ _ k (more (middle N u) (middle N v) (middle_ext N u v same) (k / 3)) (more (r_b N u) (r_b N v) (r_b_ext N u v same) (k / 3))
        (more (turned_c N u) (turned_c N v) (λ i p. ap (turned N i) (r_c_ext N u v same i p)) (N / 6 - 1 - k / 3)))
    go false e more = rw e (S_ext N u v same k)

module _ (N : ℕ) (u v : ℕ → ℤ) (same : (i : ℕ) → i < N → u i ≡ v i) where
  pub scaled_ext : (k : ℕ) → scaled N u k ≡ scaled N v k
  unfolding scaled
  scaled_ext k = in_ext N N u v same k

  pub double_ext : double N u ≡ double N v
  unfolding double double_x
  double_ext = table_ext (N / 2) (double_x N u) (double_x N v) (λ k p. ap (λ (z : ℤ). rnd z (2 ^ 30)) (scaled_ext k))
