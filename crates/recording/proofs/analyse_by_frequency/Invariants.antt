use Rattle.std.proofs.Common.{◌+◌, ◌/◌, min}
use Rattle.analysis.specs.Analysis.{coefficients}
use Rattle.orders.specs.declared.Order.TheVariants.{ByFrequency}
use Rattle.orders.specs.OrderLaws.{Laid}
use Rattle.recording.specs.Recordings.{block}
use Rattle.recording.proofs.analyse_by_frequency.Given as goal

-- The coefficients of the blocks before b are in their places; the last tile may have fewer than eight.
abbrev pub invariant-loop-b : goal.invariant-loop-b
invariant-loop-b l = Laid (l.n / 2) (l.hops + 1) ByFrequency (λ b. coefficients l.route l.n 0 0 (block l.n l.x b)) (min l.b (l.hops + 1)) l.out
