use Rattle.std.proofs.Common.{◌-◌, ◌≤◌}
use Rattle.check_levels.proofs.random_lines.Given as goal

abbrev pub invariant-loop-first : goal.invariant-loop-first
invariant-loop-first l = l.first ≤ l.at.m

abbrev pub decreases-loop-first : goal.decreases-loop-first
decreases-loop-first l = l.fn.at.m - l.first
