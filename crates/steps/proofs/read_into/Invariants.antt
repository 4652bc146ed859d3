-- `read_into`: the verdict on the table is the one on what is left from `at` on, with what is found so far; a line takes two bytes at least, so that its number fits;
-- and of a table that is taken the places below `next` hold their steps.
use Rattle.std.proofs.Common.{length, drop, ◌+◌, ◌*◌, ◌-◌, ◌≡◌, ◌≤◌}
use Rattle.steps.specs.Table.{verdict, table_code}
use Rattle.steps.specs.Answers.{verdict_of}
use Rattle.steps.specs.VerdictLaws.{left}
use Rattle.steps.specs.PassLaws.{Filling}
use Rattle.steps.proofs.read_into.Given as goal

abbrev pub invariant-loop-at : goal.invariant-loop-at
invariant-loop-at l = record {
  inside : l.at ≤ length l.table;
  counted : 1 ≤ l.line;
  few : 2 * l.line ≤ l.at + 2;
  verdict : verdict l.m l.table ≡ left l.m l.line (verdict_of l.found) l.next (drop l.at l.table);
  room : length l.steps ≡ l.m;
  filling : table_code l.m l.table ≡ 0 → Filling l.m l.table l.at l.next l.steps l.initial.steps;
}

abbrev pub decreases-loop-at : goal.decreases-loop-at
decreases-loop-at l = length l.table - l.at
