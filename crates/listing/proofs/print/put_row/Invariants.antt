-- The first samples are put, in at most seven bytes each.
use Rattle.std.specs.Prelude.{map, ◌+◌, ◌*◌, ◌≤◌, take}
use Rattle.text.specs.Number.{printed}
use Rattle.text.specs.Lines.{more}
use Rattle.text.specs.Outputs.{Puts}
use Rattle.listing.proofs.print.put_row.Given as goal

abbrev pub invariant-loop-sample : goal.invariant-loop-sample
invariant-loop-sample l = record {
  put : Puts (more (map printed (take l.sample-index l.samples))) l.initial.output l.output;
  short : l.output.at ≤ l.initial.output.at + 7 * l.sample-index;
}
