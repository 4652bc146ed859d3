-- Whole recordings: definitions. Document 01, 'Whole recordings', and document 02, P1 and P10. A recording of H hops has H + 1 blocks, whose coefficients lie in an order.
use Rattle.std.specs.Prelude.{List, ◌++◌, ℕ, suc, ◌+◌, ◌*◌, ◌/◌, take, drop, replicate, ℤ, pos}
use Rattle.arithmetic.specs.Lists.{joined}
use Rattle.orders.specs.declared.Order.{Order}
use Rattle.orders.specs.Orders.{part, laid}
use Rattle.stream.specs.Steps.{returned}
use Rattle.analysis.specs.declared.Route.{Route}
use Rattle.analysis.specs.Analysis.{coefficients}

-- a hop of zeros
unfoldable pub silence : ℕ → List ℤ
silence N = replicate (N / 2) (pos 0)

-- a recording has one hop of zeros put before it and one after it
unfoldable pub padded : ℕ → List ℤ → List ℤ
padded N x = silence N ++ (x ++ silence N)

-- the N samples of x that stand from hop b on: its hops b and b + 1
unfoldable pub standing : ℕ → List ℤ → ℕ → List ℤ
standing N x b = take N (drop (b * (N / 2)) x)

-- block b of a recording x, b from 0 to H, covers its hops b - 1 and b, which are hops b and b + 1 of the padded one
unfoldable pub block : ℕ → List ℤ → ℕ → List ℤ
block N x b = standing N (padded N x) b

-- analysis: the coefficients of the H + 1 blocks of the recording x, in the order named (document 02, P10), all with long joints (P7)
unfoldable pub analysis : Route → Order → ℕ → ℕ → List ℤ → List ℤ
analysis route order N H x = laid order (N / 2) (H + 1) (λ b. coefficients route N 0 0 (block N x b))

-- synthesis, of coefficients X that lie in this order: H + 1 steps from a fresh stream, one for each block. What the step of block 0 returns, the run-in, is dropped; hop h
-- of the recording is what the step of block h + 1 returns
unfoldable pub synthesis : Order → ℕ → ℕ → List ℤ → List ℤ
synthesis order N H X = joined H (λ h. returned N (part order (N / 2) (H + 1) X) (suc h))
