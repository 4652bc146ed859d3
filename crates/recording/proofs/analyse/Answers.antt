-- `analyse` meets its contract: by block all blocks are made in their places, one after the other.
use Rattle.std.proofs.Common.{arith, ◌≡◌, ◌∙◌, sym, ap, ℕ, ◌+◌, ◌/◌, List, ℤ}
use Rattle.arithmetic.specs.JoinLaws.{joined_same}
use Rattle.analysis.specs.Analysis.{coefficients}
use Rattle.analysis.specs.AnalysisLaws.{coefficients-length}
use Rattle.orders.specs.OrderLaws.{laid-joined}
use Rattle.recording.specs.Recordings.{block, analysis}
use Rattle.recording.proofs.analyse.Goals as goal

pub returns-in-ByBlock : goal.returns-in-ByBlock
unfolding analysis
returns-in-ByBlock c =
    let a = c.args in
    let B = a.hops + 1 in
    let g : ℕ → List ℤ = λ b. coefficients a.route a.n 0 0 (block a.n a.x.now b) in
    rw c.in-ByBlock.is
    (c.blocks_from.ensures
    ∙ joined_same B (λ j. g (0 + j)) g (λ j p. ap g (let h : 0 + j ≡ j = omega arith in h))
    ∙ sym (laid-joined (a.n / 2) B g (λ b p. coefficients-length a.route a.n 0 0 (block a.n a.x.now b))))
