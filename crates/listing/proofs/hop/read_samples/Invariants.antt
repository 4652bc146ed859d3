-- The first entries are the values of the first fields, and the fields behind them start at `at`.
use Rattle.listing.proofs.HopReading.{Reading}
use Rattle.listing.proofs.hop.read_samples.Given as goal

abbrev pub invariant-loop-sample : goal.invariant-loop-sample
invariant-loop-sample l = Reading l.line l.initial.sample-items l.sample-items l.at l.sample-index
