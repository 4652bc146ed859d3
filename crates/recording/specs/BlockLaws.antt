-- Laws of the blocks of a recording: their entries, where they stand in its samples, and the first and the last one.
use Rattle.std.specs.Prelude.{◌≡◌, replicate, ℤ}
use Rattle.std.proofs.Math.Path.{refl, sym, ap}
use Rattle.std.proofs.Common.{◌∙◌, length-take-le, take_all}
use mathlib.Core.List.{List, ◌++◌, append_assoc, append-nil}
use Prim.Native.Nat.{ℕ, suc, ◌+◌, ◌-◌, ◌*◌, ◌/◌, ◌≤◌, ◌<◌}
use Rattle.std.proofs.Math.Nat.{mul-le-mul_right, suc-mul, zero-mul}
use native.Mathlib.Omega.{arith}
use Rattle.std.proofs.Math.Decide.{dec_lt}
use Rattle.std.proofs.Math.ListN.{length, take, drop, length-append, length-drop, length-replicate, get_or-replicate, get_or-append, get_or-eq_default}
use Rattle.std.proofs.lemmas.List.{replicate-append-replicate}
use Rattle.std.proofs.Math.Seq.{take_at, drop_at, take-append-le, drop-append-le, take-append-add, drop-append-add, get_or-append-add, get_or-take, get_or-drop}
use Rattle.std.proofs.Math.IntN.{pos}
use Rattle.std.specs.Int.Signed.{le_z_yes}
use Rattle.arithmetic.specs.Rounding.{Sample}
use Rattle.arithmetic.specs.Lists.{at}
use Rattle.arithmetic.specs.ListLaws.{part_length}
use Rattle.recording.specs.Recordings.{silence, padded, standing, block}

abbrev zeros : ℕ → List ℤ
zeros n = replicate n (pos 0)

-- a block of one hop, which stands at place p, and of zeros
unfoldable pub edge : ℕ → ℕ → List ℤ → List ℤ
edge N p hop = zeros p ++ (hop ++ zeros (N / 2 - p))

-- ---- the entries of the padded recording, and of a block
module _ (N : ℕ) (x : List ℤ) where
  silence_long : length (silence N) ≡ N / 2
  unfolding silence
  silence_long = length-replicate (N / 2) (pos 0)

  silent : (i : ℕ) → at (silence N) i ≡ pos 0
  unfolding silence
  silent i = go (dec_lt i (N / 2))
    where
      go : Dec (i < N / 2) → at (zeros (N / 2)) i ≡ pos 0
      go (yes p) = get_or-replicate (N / 2) i (pos 0) (pos 0) p
      go (no p) = get_or-eq_default (zeros (N / 2)) (pos 0) {n = i} (omega (arith, length-replicate (N / 2) (pos 0)))

  behind : (i : ℕ) → at (padded N x) (N / 2 + i) ≡ at (x ++ silence N) i
  unfolding padded
  behind i = rw (← silence_long) (get_or-append-add (silence N) (x ++ silence N) i (pos 0))

  -- entry i of the recording stands a hop further on
  pub padded-at : (i : ℕ) → i < length x → at (padded N x) (N / 2 + i) ≡ at x i
  padded-at i p = behind i ∙ get_or-append x (silence N) (pos 0) i p

  -- what holds of zero and of every entry of the recording holds of every entry of the padded one
  pub padded-each : (P : ℤ → Type 0) → P (pos 0) → ((i : ℕ) → i < length x → P (at x i)) → (i : ℕ) → P (at (padded N x) i)
  unfolding padded
  padded-each P z each i = go (dec_lt i (N / 2)) (dec_lt (i - N / 2) (length x))
    where
      go : Dec (i < N / 2) → Dec (i - N / 2 < length x) → P (at (padded N x) i)
      go (yes p) d = rw (get_or-append (silence N) (x ++ silence N) (pos 0) i (omega (arith, silence_long)), silent i) z
      go (no p) (yes q) =
          let e : i ≡ N / 2 + (i - N / 2) = omega arith in
          rw (ap (at (padded N x)) e ∙ padded-at (i - N / 2) q) (each (i - N / 2) q)
      go (no p) (no q) =
          let j = i - N / 2 - length x in
          let e : i ≡ N / 2 + (length x + j) = omega arith in
          rw (ap (at (padded N x)) e ∙ behind (length x + j) ∙ get_or-append-add x (silence N) j (pos 0) ∙ silent j) z

  pub block_at : (b n : ℕ) → n < N → at (block N x b) n ≡ at (padded N x) (b * (N / 2) + n)
  unfolding block standing
  block_at b n p = get_or-take N (drop (b * (N / 2)) (padded N x)) n (pos 0) p ∙ get_or-drop (b * (N / 2)) (padded N x) n (pos 0)

  -- of samples, each entry of a block is one
  pub block-sample : ((i : ℕ) → i < length x → Sample (at x i)) → (b n : ℕ) → n < N → Sample (at (block N x b) n)
  block-sample each b n p = rw (block_at b n p) (padded-each Sample (record { low = le_z_yes tt; high = le_z_yes tt }) each (b * (N / 2) + n))

-- ---- the blocks of a recording of H hops
module _ (N H : ℕ) (two : N / 2 + N / 2 ≡ N) (x : List ℤ) (long : length x ≡ H * (N / 2)) where
  abbrev M : ℕ
  M = N / 2

  pub block_long : (b : ℕ) → b ≤ H → length (block N x b) ≡ N
  unfolding block standing padded
  block_long b p =
      let l = length-append (silence N) (x ++ silence N) in
      let k = length-append x (silence N) in
      part_length (padded N x) (b * M) N N refl (omega (arith, l, k, silence_long N x, long, two, mul-le-mul_right M p))

  -- from its second block on a recording stands in the samples, up to the silence behind it
  block-next : (b : ℕ) → b < H → block N x (suc b) ≡ take N (drop (b * M) x ++ silence N)
  unfolding block standing padded
  block-next b p =
      let e : suc b * M ≡ length (silence N) + b * M = omega (arith, suc-mul b M, silence_long N x) in
      let f : b * M ≤ length x = omega (arith, long, mul-le-mul_right M p, suc-mul b M) in
      ap (λ (k : ℕ). take N (drop k (silence N ++ (x ++ silence N)))) e
      ∙ ap (take N) (drop-append-add (silence N) (x ++ silence N) (b * M) ∙ drop-append-le (b * M) x (silence N) f)

  -- block 0: silence, and the first hop
  pub block-first : 1 ≤ H → block N x 0 ≡ edge N M (take M x)
  unfolding block standing padded edge silence
  block-first some =
      let z : 0 * M ≡ 0 = zero-mul M in
      let e : N ≡ length (silence N) + M = omega (arith, two, silence_long N x) in
      let f : M ≤ length x = omega (arith, long, mul-le-mul_right M some) in
      let g : M - M ≡ 0 = omega arith in
      rw (z, g, append-nil (take M x))
      (ap (λ (k : ℕ). take k (silence N ++ (x ++ silence N))) e ∙ take-append-add (silence N) (x ++ silence N) M ∙ ap (λ (l : List ℤ). silence N ++ l) (take-append-le M x (silence N) f))

  -- block b + 1 stands in the samples, if hop b + 1 does
  pub block_inside : (b : ℕ) → suc b < H → block N x (suc b) ≡ standing N x b
  unfolding standing
  block_inside b p =
      let f : N ≤ length (drop (b * M) x) = omega (arith, length-drop (b * M) x, long, mul-le-mul_right M p, suc-mul b M, suc-mul (suc b) M, two) in
      block-next b (omega arith) ∙ take-append-le N (drop (b * M) x) (silence N) f

  -- block H: the last hop, and silence
  pub block_last : (h : ℕ) → H ≡ suc h → block N x (suc h) ≡ edge N 0 (drop (h * M) x)
  unfolding edge silence
  block_last h e =
      let hop = drop (h * M) x in
      let l : length hop ≡ M = length-drop (h * M) x ∙ omega (arith, long, suc-mul h M, ap (λ (k : ℕ). k * M) e) in
      let f : N ≡ length hop + M = omega (arith, l, two) in
      let g : M - 0 ≡ M = omega arith in
      rw g (
      block-next h (omega arith)
      ∙ ap (λ (k : ℕ). take k (hop ++ silence N)) f
      ∙ take-append-add hop (silence N) M
      ∙ ap (λ (l : List ℤ). hop ++ l) (take_all M (silence N) (omega (arith, silence_long N x))))

-- ---- an edge as the code makes it: a hop is put at place p of a room of zeros, and N entries are lent
module _ (N p room : ℕ) (hop : List ℤ) (two : N / 2 + N / 2 ≡ N) (fits : N ≤ room) (here : p ≤ N / 2) (long : length hop ≡ N / 2) where
  parted : (n m k : ℕ) → n + m ≡ k → zeros k ≡ zeros n ++ zeros m
  parted n m k e = ap zeros (sym e) ∙ sym (replicate-append-replicate n m (pos 0))

  pub edge_long : length (edge N p hop) ≡ N
  unfolding edge
  edge_long =
      length-append (zeros p) (hop ++ zeros (N / 2 - p))
      ∙ omega (arith, length-append hop (zeros (N / 2 - p)), length-replicate p (pos 0), length-replicate (N / 2 - p) (pos 0), long, two)

  pub edge-room : (k : ℕ) → k ≡ N / 2 → length (take p (zeros room) ++ (hop ++ drop k (drop p (zeros room)))) ≡ room
  edge-room k e =
      let z = zeros room in
      let l : length z ≡ room = length-replicate room (pos 0) in
      length-append (take p z) (hop ++ drop k (drop p z))
      ∙ omega (arith, length-append hop (drop k (drop p z)), length-take-le p z (omega arith), length-drop p z, length-drop k (drop p z), l, long)

  pub edge-made : (k : ℕ) → k ≡ N / 2 → take N (take p (zeros room) ++ (hop ++ drop k (drop p (zeros room)))) ≡ edge N p hop
  unfolding edge
  edge-made k e =
      rw (
        e,
        parted p (room - p) room (omega arith),
        take_at (zeros p) (zeros (room - p)) p (length-replicate p (pos 0)),
        drop_at (zeros p) (zeros (room - p)) p (length-replicate p (pos 0)),
        parted (N / 2) (room - p - N / 2) (room - p) (omega arith),
        drop_at (zeros (N / 2)) (zeros (room - p - N / 2)) (N / 2) (length-replicate (N / 2) (pos 0)),
        parted (N / 2 - p) (room - N) (room - p - N / 2) (omega arith),
        sym (append_assoc hop (zeros (N / 2 - p)) (zeros (room - N))),
        sym (append_assoc (zeros p) (hop ++ zeros (N / 2 - p)) (zeros (room - N))),
      )
      (take_at (zeros p ++ (hop ++ zeros (N / 2 - p))) (zeros (room - N)) N edge_long)
