-- Where the coefficients of a recording lie: definitions. Document 02, P10. M is a hop, B the number of blocks.
use Rattle.std.specs.Prelude.{Bool, cond, false, List, ℕ, zero, suc, ◌+◌, ◌-◌, ◌*◌, ◌/◌, ◌%◌, leb, ltb, ℤ}
use Rattle.arithmetic.specs.Lists.{at, table}
use Rattle.orders.specs.declared.Order.{Order}
use Rattle.orders.specs.declared.Order.TheVariants.{ByBlock, ByFrequency}

-- for C an order is a number, 0 by block and 1 by frequency. Any other is 2, tested where the lengths are: as a recording of no hops is
unfoldable pub order_of : ℕ → Order
order_of zero = ByBlock
order_of (suc n) = ByFrequency

unfoldable pub hops_in : (order H : ℕ) → ℕ
hops_in order H = cond (ltb order 2) H 0

-- the place of coefficient k of block b: 'place k × B + b instead of b × M + k'
unfoldable pub place : Order → (M B b k : ℕ) → ℕ
place ByBlock M B b k = b * M + k
place ByFrequency M B b k = k * B + b

-- the block and the coefficient that lie at place i
unfoldable pub block_at : Order → (M B i : ℕ) → ℕ
block_at ByBlock M B i = i / M
block_at ByFrequency M B i = i % B

unfoldable pub coefficient_at : Order → (M B i : ℕ) → ℕ
coefficient_at ByBlock M B i = i % M
coefficient_at ByFrequency M B i = i / B

-- the M coefficients of block b of a recording whose coefficients X lie in this order
unfoldable pub part : Order → (M B : ℕ) → List ℤ → ℕ → List ℤ
part order M B X b = table M (λ k. at X (place order M B b k))

-- the coefficients of the blocks 0 .. B - 1, laid in this order
unfoldable pub laid : Order → (M B : ℕ) → (ℕ → List ℤ) → List ℤ
laid order M B blocks = table (B * M) (λ i. at (blocks (block_at order M B i)) (coefficient_at order M B i))

-- block b is one of `count` blocks from `first` on
unfoldable pub among : (first count b : ℕ) → Bool
among first count b = cond (leb first b) (ltb b (first + count)) false

-- the same list with the coefficients of these blocks put in their places, which lie block after block in `tile`
unfoldable pub tiled : Order → (M B first count : ℕ) → (tile out : List ℤ) → List ℤ
tiled order M B first count tile out =
    table (B * M) (λ i. cond (among first count (block_at order M B i)) (at tile ((block_at order M B i - first) * M + coefficient_at order M B i)) (at out i))

unfoldable pub other : Order → Order
other ByBlock = ByFrequency
other ByFrequency = ByBlock

-- 'each order is obtained from the other': X lies in the order that `to` is not
unfoldable pub reordered : Order → (M B : ℕ) → List ℤ → List ℤ
reordered to M B X = laid to M B (part (other to) M B X)
