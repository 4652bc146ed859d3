-- Laws of a stream that was made fresh, step by step: its hops and its tail by their entries, and what it holds after any steps on
-- coefficients in range.
use Rattle.std.specs.Prelude.{◌≡◌, List, ◌++◌, T, length, drop, replicate, ℤ, pos, nat_abs, ◌+ℤ◌}
use Rattle.std.proofs.Math.Path.{refl, ap}
use Rattle.std.proofs.Common.{◌∙◌, arith, length-append, length-drop, drop_at}
use Prim.Native.Nat.{ℕ, zero, suc, ◌+◌, ◌-◌, ◌*◌, ◌/◌, ◌^◌, ◌≤◌, ◌<◌}
use Rattle.std.proofs.Math.ListN.{length-replicate, get_or-append}
use Rattle.std.proofs.lemmas.List.{get_or-replicate}
use Rattle.arithmetic.specs.Lists.{at, table}
use Rattle.arithmetic.specs.Rounding.{rnd, clamp}
use Rattle.arithmetic.specs.ListLaws.{length-table, get_d_table}
use Rattle.cosine.specs.Kernels.{tabled, rising, falling}
use Rattle.cosine.specs.LengthLaws.{tabled_length, part_of}
use Rattle.cosine.specs.KernelLaws.{rising-size, falling-size}
use Rattle.transform.specs.Synthesis.{V'}
use Rattle.transform.specs.SizeLaws.{V_size}
use Rattle.stream.specs.declared.Stream.{Stream}
use Rattle.stream.specs.Synthesis as S
use Rattle.stream.specs.Synthesis.{storage}
use Rattle.stream.specs.Steps.{next, hop, stream_after, returned}

drop-replicate : {A : Type 0} (k n : ℕ) (a : A) → drop k (replicate n a) ≡ replicate (n - k) a
drop-replicate zero n a = let e : n - 0 ≡ n = omega arith in rw e
drop-replicate (suc k) zero a = let e : 0 - suc k ≡ 0 = omega arith in rw e
drop-replicate (suc k) (suc n) a = let e : suc n - suc k ≡ n - k = omega arith in rw e (drop-replicate k n a)

-- ---- the hop and the tail of a step that is taken, by their entries
module _ (N : ℕ) (s : Stream) (e : s.n ≡ N) (l r : ℕ) (x : List ℤ) where
  abbrev v : ℕ → ℤ
  v n = V' N (rising l N) (falling r N) x n

  pub hop_long : length (hop s l r x) ≡ N / 2
  unfolding hop S.hop
  hop_long = rw e (length-table (S.sample N (rising l N) (falling r N) s.tail x) (N / 2))

  pub hop_entry : (n : ℕ) → n < N / 2 → at (hop s l r x) n ≡ clamp (rnd (at s.tail n +ℤ v n) (N * 2 ^ 30))
  unfolding hop S.hop S.sample
  hop_entry n p = rw e (get_d_table (S.sample N (rising l N) (falling r N) s.tail x) (pos 0) (N / 2) n p)

  pub next-n : (next s l r x).n ≡ N
  unfolding next
  next-n = e

  pub next-shape : (next s l r x).shape ≡ r
  unfolding next
  next-shape = refl

  pub next_expected : (next s l r x).expected ≡ s.expected + 1
  unfolding next
  next_expected = refl

  next-is : (next s l r x).tail ≡ table (N / 2) (λ n. v (N / 2 + n)) ++ drop (N / 2) s.tail
  unfolding next S.new_tail
  next-is = rw e

  pub next-at : (n : ℕ) → n < N / 2 → at (next s l r x).tail n ≡ v (N / 2 + n)
  next-at n p =
      let f : ℕ → ℤ = λ n. v (N / 2 + n) in
      rw next-is (get_or-append (table (N / 2) f) (drop (N / 2) s.tail) (pos 0) n (omega (arith, length-table f (N / 2))) ∙ get_d_table f (pos 0) (N / 2) n p)

  pub next-kept : drop (N / 2) (next s l r x).tail ≡ drop (N / 2) s.tail
  next-kept = let f : ℕ → ℤ = λ n. v (N / 2 + n) in rw next-is (drop_at (table (N / 2) f) (drop (N / 2) s.tail) (N / 2) (length-table f (N / 2)))

  pub next_long : N / 2 ≤ length s.tail → length (next s l r x).tail ≡ length s.tail
  next_long h =
      let f : ℕ → ℤ = λ n. v (N / 2 + n) in
      rw next-is (length-append (table (N / 2) f) (drop (N / 2) s.tail) ∙ omega (arith, length-table f (N / 2), length-drop (N / 2) s.tail))

-- ---- a stream of N that no step refuses for its own sake
pub record Fine (N : ℕ) (s : Stream) : Type 0 where
  pub n_is : s.n ≡ N
  pub limited : (n : ℕ) → n < N / 2 → nat_abs (at s.tail n) ≤ N / 2 * 2 ^ 55
  pub long : length s.tail ≡ storage
  pub zeros : drop (N / 2) s.tail ≡ replicate (storage - N / 2) (pos 0)

module _ (N : ℕ) (t : T (tabled N)) where
  room : N / 2 ≤ storage
  room = omega (arith, (tabled_length N t).most)

  pub fine_fresh : Fine N (S.fresh N)
  unfolding S.fresh
  fine_fresh = record {
    n_is = refl;
    limited = λ n p. rw (get_or-replicate storage n (pos 0) (pos 0) (omega (arith, room))) (omega arith);
    long = length-replicate storage (pos 0);
    zeros = drop-replicate (N / 2) storage (pos 0);
  }

  -- a step on coefficients in range leaves a tail within the limit, whatever stood in it
  pub next-limited : (s : Stream) → s.n ≡ N → (l r : ℕ) (x : List ℤ) → ((k : ℕ) → k < N / 2 → nat_abs (at x k) ≤ 2 ^ 29) →
      (n : ℕ) → n < N / 2 → nat_abs (at (next s l r x).tail n) ≤ N / 2 * 2 ^ 55
  next-limited s e l r x small n p =
      rw (next-at N s e l r x n p)
      (V_size N (rising l N) (falling r N) (part_of N t) (λ n q. rising-size l N n) (λ n q. falling-size r N n) x small (N / 2 + n) (omega (arith, (part_of N t).four)))

  pub fine_next : (s : Stream) → Fine N s → (l r : ℕ) (x : List ℤ) → ((k : ℕ) → k < N / 2 → nat_abs (at x k) ≤ 2 ^ 29) → Fine N (next s l r x)
  fine_next s fine l r x small = record {
    n_is = next-n N s fine.n_is l r x;
    limited = next-limited s fine.n_is l r x small;
    long = next_long N s fine.n_is l r x (omega (arith, room, fine.long)) ∙ fine.long;
    zeros = next-kept N s fine.n_is l r x ∙ fine.zeros;
  }

-- ---- the stream after b steps, whatever the coefficients
module _ (N : ℕ) (blocks : ℕ → List ℤ) where
  pub stream_n : (b : ℕ) → (stream_after N blocks b).n ≡ N
  unfolding stream_after S.fresh
  stream_n zero = refl
  stream_n (suc b) = next-n N (stream_after N blocks b) (stream_n b) 0 0 (blocks b)

  pub stream_expected : (b : ℕ) → (stream_after N blocks b).expected ≡ b
  unfolding stream_after S.fresh
  stream_expected zero = refl
  stream_expected (suc b) = next_expected N (stream_after N blocks b) (stream_n b) 0 0 (blocks b) ∙ omega (arith, stream_expected b)

  pub stream_shape : (b : ℕ) → (stream_after N blocks b).shape ≡ 0
  unfolding stream_after S.fresh
  stream_shape zero = refl
  stream_shape (suc b) = next-shape N (stream_after N blocks b) (stream_n b) 0 0 (blocks b)

  pub returned_long : (b : ℕ) → length (returned N blocks b) ≡ N / 2
  unfolding returned
  returned_long b = hop_long N (stream_after N blocks b) (stream_n b) 0 0 (blocks b)

  -- the hop that step b + 1 returns is made of the second half of V of block b and the first half of V of block b + 1
  pub returned-at : (b n : ℕ) → n < N / 2 →
      at (returned N blocks (suc b)) n ≡ clamp (rnd (V' N (rising 0 N) (falling 0 N) (blocks b) (N / 2 + n) +ℤ V' N (rising 0 N) (falling 0 N) (blocks (suc b)) n) (N * 2 ^ 30))
  unfolding returned stream_after
  returned-at b n p =
      hop_entry N (stream_after N blocks (suc b)) (stream_n (suc b)) 0 0 (blocks (suc b)) n p
      ∙ ap (λ (z : ℤ). clamp (rnd (z +ℤ V' N (rising 0 N) (falling 0 N) (blocks (suc b)) n) (N * 2 ^ 30))) (next-at N (stream_after N blocks b) (stream_n b) 0 0 (blocks b) n p)

  -- on coefficients in range
  pub stream_fine : T (tabled N) → (B : ℕ) → ((b : ℕ) → b < B → (k : ℕ) → k < N / 2 → nat_abs (at (blocks b) k) ≤ 2 ^ 29) → (b : ℕ) → b ≤ B → Fine N (stream_after N blocks b)
  unfolding stream_after
  stream_fine t B range zero p = fine_fresh N t
  stream_fine t B range (suc b) p = fine_next N t (stream_after N blocks b) (stream_fine t B range b (omega arith)) 0 0 (blocks b) (range b (omega arith))
