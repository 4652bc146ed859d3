-- One step of a stream, and the steps from a fresh stream: definitions. Document 01, 'Synthesis stream', and document 02, P6 and P7.
use Rattle.std.specs.Prelude.{List, ℕ, zero, suc, ◌+◌, ℤ}
use Rattle.cosine.specs.Kernels.{rising, falling}
use Rattle.stream.specs.declared.Stream.{Stream}
use Rattle.stream.specs.Synthesis as S

-- the stream after a step that was taken, on a block with joints of the shapes left and right: it expects one more, and remembers the right shape. And the
-- hop it returns
unfoldable pub next : Stream → (left right : ℕ) → List ℤ → Stream
next s left right x =
    record { n = s.n; expected = s.expected + 1; shape = right; tail = S.new_tail s.n (rising left s.n) (falling right s.n) s.tail x }

unfoldable pub hop : Stream → (left right : ℕ) → List ℤ → List ℤ
hop s left right x = S.hop s.n (rising left s.n) (falling right s.n) s.tail x

-- the stream after b steps from a fresh stream with long joints, as recordings and listings have them, `blocks b` being the coefficients that step b brings
unfoldable pub stream_after : ℕ → (ℕ → List ℤ) → ℕ → Stream
stream_after N blocks zero = S.fresh N
stream_after N blocks (suc b) = next (stream_after N blocks b) 0 0 (blocks b)

-- and the hop that step b returns
unfoldable pub returned : ℕ → (ℕ → List ℤ) → ℕ → List ℤ
returned N blocks b = hop (stream_after N blocks b) 0 0 (blocks b)
