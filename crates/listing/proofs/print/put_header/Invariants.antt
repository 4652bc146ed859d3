-- The first i names are put, in at most seven bytes each.
use Rattle.std.specs.Prelude.{◌++◌, ℕ, List, ◌+◌, ◌*◌, ◌≤◌}
use Rattle.arithmetic.specs.Lists.{table}
use Rattle.text.specs.Number.{decimal}
use Rattle.text.specs.Lines.{more}
use Rattle.text.specs.Outputs.{Puts}
use Rattle.listing.specs.Print.{word_s}
use Rattle.listing.proofs.print.put_header.Given as goal

abbrev pub name : ℕ → List ℕ
name i = word_s ++ decimal i

abbrev pub invariant-loop-i : goal.invariant-loop-i
invariant-loop-i l = record {
  put : Puts (more (table l.i name)) l.initial.output l.output;
  short : l.output.at ≤ l.initial.output.at + 7 * l.i;
}
