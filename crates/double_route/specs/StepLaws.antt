-- Laws of the split's steps as the code takes them: the inputs of the three parts, the sums of each, and what these join to.
use Rattle.std.specs.Prelude.{◌≡◌, ℕ, ◌-◌, ◌*◌, ◌/◌, ◌%◌, ◌^◌, ◌≤◌, ◌<◌, ℤ, pos, nat_abs}
use Rattle.std.proofs.Math.Path.{sym, ap}
use Rattle.std.proofs.Common.{◌∙◌, le_trans}
use mathlib.Core.List.{List}
use native.Mathlib.Omega.{arith}
use Rattle.std.proofs.Math.ListN.{length}
use Rattle.arithmetic.specs.Rounding.{rnd}
use Rattle.arithmetic.specs.Lists.{at, table, Small}
use Rattle.arithmetic.specs.ListLaws.{length-table, get_d_table, table_ext}
use Rattle.cosine.specs.Kernels.{rising, falling}
use Rattle.cosine.specs.LengthLaws.{Length, third-part}
use Rattle.windows.specs.HalfLaws.{rise_list, fall_list}
use Rattle.transform.specs.Analysis.{y, S}
use Rattle.transform.specs.DirectLaws.{S_ext, y-lent}
use Rattle.split.specs.ShortRoute.{r_b}
use Rattle.split.specs.Parts.{middle, turned_c}
use Rattle.split.specs.ShortStepLaws.{table_small}
use Rattle.split.specs.PartLaws.{place, third, third_length, Third, Rooms, summed}
use Rattle.double_route.specs.Double.{joined, scaled, double_x, double}
use Rattle.double_route.specs.DoubleLaws.{joined_ext, scaled-split, scaled-plain, scaled_ext, double_ext}
use Rattle.double_route.specs.PieceLaws.{room, Piece, short-length, short-most, short-piece, third-piece, third-short, room-third, room_most}
use Rattle.double_route.specs.DoubleSizeLaws.{place-size, scaled-size}

-- the sums of part k of N inputs y, doubled for each split in it
unfoldable pub part_sums : ℕ → ℕ → List ℤ → List ℤ
part_sums k N y = table (N / 6) (scaled (N / 3) (place k N (at y)))

-- ---- what the leaves hand on to each other
-- wa, wb and wg have the inputs of the three parts
pub record Thirds (N : ℕ) (y wa wb wg : List ℤ) : Type 0 where
  pub piece : Piece N y
  pub first : Third 0 N y wa
  pub second : Third 1 N y wb
  pub last : Third 2 N y wg

-- the same at a length under another name
pub piece-at : (n N : ℕ) (y : List ℤ) → n ≡ N → Piece n y → Piece N y
piece-at n N y e p = rw e at p

pub given-at : (n N : ℕ) (y wa wb wg : List ℤ) → n ≡ N → Piece n y → Rooms (n / 3) wa wb wg → Piece N y × Rooms (N / 3) wa wb wg
given-at n N y wa wb wg e p r = (piece-at n N y e p, rw e at r)

pub thirds-at : (n N : ℕ) (y wa wb wg : List ℤ) → n ≡ N → Thirds N y wa wb wg → Thirds n y wa wb wg
thirds-at n N y wa wb wg e h = rw e h

pub sums_at : (n N : ℕ) (y x : List ℤ) → n ≡ N → x ≡ table (N / 2) (scaled N (at y)) → x ≡ table (n / 2) (scaled n (at y))
sums_at n N y x e h = rw e h

-- a, b and g have the sums of three parts that are not split
pub record Ended (N : ℕ) (y a b g : List ℤ) : Type 0 where
  pub piece : Piece N y
  pub a_is : a ≡ summed 0 N y
  pub b_is : b ≡ summed 1 N y
  pub g_is : g ≡ summed 2 N y

-- and of any three
pub record Sums (N : ℕ) (y a b g : List ℤ) : Type 0 where
  pub piece : Piece N y
  pub a_is : a ≡ part_sums 0 N y
  pub b_is : b ≡ part_sums 1 N y
  pub g_is : g ≡ part_sums 2 N y

-- ---- one of the three parts
module _ (N : ℕ) (y : List ℤ) (p : Piece N y) (k : ℕ) where
  within : (i : ℕ) → i < N / 3 → nat_abs (place k N (at y) i) ≤ room (N / 3)
  within i l = le_trans (place-size N p.short (at y) (room N) (λ n q. p.small.small n (rw p.all q)) i l k) (room-third N p.short)

  third_at : (i : ℕ) → i < N / 3 → at (third k N (at y)) i ≡ place k N (at y) i
  unfolding third
  third_at i l = get_d_table (place k N (at y)) (pos 0) (N / 3) i l

  third-room : Small (third k N (at y)) (room (N / 3))
  unfolding third
  third-room = table_small (N / 3) (room (N / 3)) (place k N (at y)) within

  pub third_of : (w : List ℤ) → w ≡ third k N (at y) → Third k N y w
  third_of w e =
      record {
        part = third-part N (short-length N p.short);
        most = omega (arith, short-most N p.short);
        is = e;
        small = rw e (record { small = λ i l. le_trans (third-room.small i l) (room_most (N / 3)) });
      }

  -- split again
  pub third_again : N / 3 % 12 ≡ 0 → (w : List ℤ) → w ≡ third k N (at y) → Piece (length w) w
  third_again d w e =
      rw (e, third_length k N (at y)) (record { short = third-short N p.short d; all = third_length k N (at y); small = third-room })

  sums_of : (m : ℕ) → m ≡ N / 3 → (w : List ℤ) → w ≡ third k N (at y) → (x : List ℤ) → x ≡ table (m / 2) (scaled m (at w)) → x ≡ part_sums k N y
  unfolding part_sums
  sums_of m i w e x h =
      let six : N / 3 / 2 ≡ N / 6 = omega arith in
      rw (i, e, six) at h
      ∙ table_ext (N / 6) (scaled (N / 3) (at (third k N (at y)))) (scaled (N / 3) (place k N (at y)))
      (λ j _. scaled_ext (N / 3) (at (third k N (at y))) (place k N (at y)) third_at j)

  pub split-sums : (w : List ℤ) → w ≡ third k N (at y) → (x : List ℤ) → x ≡ table (length w / 2) (scaled (length w) (at w)) → x ≡ part_sums k N y
  split-sums w e x h = sums_of (length w) (ap length e ∙ third_length k N (at y)) w e x h

  -- not split: its third is a last part
  pub plain-sums : N < 36 → (x : List ℤ) → x ≡ summed k N y → x ≡ part_sums k N y
  unfolding part_sums
  plain-sums few x h =
      let l = short-length N p.short in
      let six : N / 3 / 2 ≡ N / 6 = omega arith in
      let not : ¬ (N / 3 % 12 ≡ 0) = λ (e : N / 3 % 12 ≡ 0). omega (arith, l.twelve, l.some) in
      rw six at h
      ∙ table_ext (N / 6) (S (N / 3) (at (third k N (at y)))) (scaled (N / 3) (place k N (at y)))
      (λ j _. S_ext (N / 3) (at (third k N (at y))) (place k N (at y)) third_at j ∙ sym (scaled-plain (N / 3) (place k N (at y)) not j))

  pub sums_long : (x : List ℤ) → x ≡ part_sums k N y → length x ≡ N / 6
  unfolding part_sums
  sums_long x e = ap length e ∙ length-table (scaled (N / 3) (place k N (at y))) (N / 6)

  pub sums_small : (x : List ℤ) → x ≡ part_sums k N y → Small x (2 ^ 61)
  unfolding part_sums
  sums_small x e =
      rw e
      (table_small (N / 6) (2 ^ 61) (scaled (N / 3) (place k N (at y)))
      (λ j q. omega (arith, scaled-size (N / 3) (third-piece N p.short) (place k N (at y)) within j, short-most N p.short)))

pub ended-sums : (N : ℕ) (y a b g : List ℤ) → N < 36 → Ended N y a b g → Sums N y a b g
ended-sums N y a b g few e =
    record { piece = e.piece; a_is = plain-sums N y e.piece 0 few a e.a_is; b_is = plain-sums N y e.piece 1 few b e.b_is; g_is = plain-sums N y e.piece 2 few g e.g_is }

-- ---- joined
module _ (N : ℕ) (y a b g : List ℤ) (s : Sums N y a b g) where
  pub a_long : length a ≡ N / 6
  a_long = sums_long N y s.piece 0 a s.a_is

  pub b_long : length b ≡ N / 6
  b_long = sums_long N y s.piece 1 b s.b_is

  pub g_long : length g ≡ N / 6
  g_long = sums_long N y s.piece 2 g s.g_is

  pub a_small : Small a (2 ^ 61)
  a_small = sums_small N y s.piece 0 a s.a_is

  pub b_small : Small b (2 ^ 61)
  b_small = sums_small N y s.piece 1 b s.b_is

  pub g_small : Small g (2 ^ 61)
  g_small = sums_small N y s.piece 2 g s.g_is

  pub half : 3 * length a ≡ N / 2
  half = omega (arith, a_long, (short-length N s.piece.short).twelve)

  pub join_sums : (out : List ℤ) → out ≡ table (3 * length a) (joined (6 * length a) (at a) (at b) (at g)) → out ≡ table (N / 2) (scaled N (at y))
  unfolding part_sums place
  join_sums out h =
      let l = short-length N s.piece.short in
      let six : 6 * length a ≡ N = omega (arith, a_long, l.twelve) in
      let A = scaled (N / 3) (middle N (at y)) in
      let B = scaled (N / 3) (r_b N (at y)) in
      let G = scaled (N / 3) (turned_c N (at y)) in
      rw (half, six) at h
      ∙ table_ext (N / 2) (joined N (at a) (at b) (at g)) (scaled N (at y))
      (λ i u.
      let below : i / 3 < N / 6 = omega (arith, l.twelve) in
      joined_ext N (at a) (at b) (at g) A B G i
      (rw s.a_is (get_d_table A (pos 0) (N / 6) (i / 3) below))
      (rw s.b_is (get_d_table B (pos 0) (N / 6) (i / 3) below))
      (rw s.g_is (get_d_table G (pos 0) (N / 6) (N / 6 - 1 - i / 3) (omega arith)))
      ∙ sym (scaled-split N (at y) l.some (omega (arith, l.twelve)) i))

-- ---- rounded
module _ (N : ℕ) (y : List ℤ) (p : Piece N y) (s : List ℤ) (is : s ≡ table (N / 2) (scaled N (at y))) where
  pub whole_long : length s ≡ N / 2
  whole_long = ap length is ∙ length-table (scaled N (at y)) (N / 2)

  pub whole_small : Small s (72 * 2 ^ 54)
  whole_small =
      rw is
      (table_small (N / 2) (72 * 2 ^ 54) (scaled N (at y))
      (λ k q. omega (arith, scaled-size N (short-piece N p.short) (at y) (λ i l. p.small.small i (rw p.all l)) k, short-most N p.short)))

  pub rounded-is : (out : List ℤ) → out ≡ table (length s) (λ k. rnd (at s k) (2 ^ 30)) → out ≡ double N (at y)
  unfolding double double_x
  rounded-is out h =
      rw whole_long at h
      ∙ table_ext (N / 2) (λ k. rnd (at s k) (2 ^ 30)) (double_x N (at y))
      (λ k q. ap (λ (z : ℤ). rnd z (2 ^ 30)) (ap (λ (x : List ℤ). at x k) is ∙ get_d_table (scaled N (at y)) (pos 0) (N / 2) k q))

-- ---- of a block x, windowed
pub block_is : (N l r : ℕ) → Length N → (x block : List ℤ) → length block ≡ N → block ≡ table N (y N (at (rise_list l N)) (at (fall_list r N)) x) → (out : List ℤ) → out ≡ double (length block) (at block) →
    out ≡ double N (y N (rising l N) (falling r N) x)
block_is N l r len x block long is out h =
    let lent = y N (at (rise_list l N)) (at (fall_list r N)) x in
    rw long at h
    ∙ double_ext N (at block) (y N (rising l N) (falling r N) x) (λ n p. ap (λ (b : List ℤ). at b n) is ∙ get_d_table lent (pos 0) N n p ∙ y-lent N l r len x n p)
