-- The synthesis stream: definitions. Document 01, 'Synthesis stream', and document 02, P6 and P7. left and right are the halves of the block's joints.
use Rattle.std.specs.Prelude.{List, ◌++◌, ℕ, ◌+◌, ◌*◌, ◌/◌, ◌^◌, drop, replicate, ℤ, pos, ◌+ℤ◌}
use Rattle.arithmetic.specs.Rounding.{rnd, clamp}
use Rattle.arithmetic.specs.Lists.{at, table}
use Rattle.transform.specs.Synthesis.{V'}
use Rattle.stream.specs.declared.Stream.{Stream}

-- entries of a tail
abbrev pub storage : ℕ
storage = 108

-- a fresh stream expects block 0 and a long joint, and has a tail of zeros
unfoldable pub fresh : ℕ → Stream
fresh N = record { n = N; expected = 0; shape = 0; tail = replicate storage (pos 0) }

-- hop sample n, for n below M: rnd((tail(n) + V(n)) / (N × 2^30)), clamped
unfoldable pub sample : ℕ → (ℕ → ℤ) → (ℕ → ℤ) → List ℤ → List ℤ → ℕ → ℤ
sample N left right tail X n = clamp (rnd (at tail n +ℤ V' N left right X n) (N * 2 ^ 30))

unfoldable pub hop : ℕ → (ℕ → ℤ) → (ℕ → ℤ) → List ℤ → List ℤ → List ℤ
hop N left right tail X = table (N / 2) (sample N left right tail X)

-- the new tail is V(M) .. V(N-1); storage from M on is kept
unfoldable pub new_tail : ℕ → (ℕ → ℤ) → (ℕ → ℤ) → List ℤ → List ℤ → List ℤ
new_tail N left right tail X = table (N / 2) (λ n. V' N left right X (N / 2 + n)) ++ drop (N / 2) tail
