-- The rows of the first h hops are put, and the step of block h + 1 is to come.
use Rattle.std.specs.Prelude.{◌≡◌, suc, length}
use Rattle.stream.specs.Synthesis.{storage}
use Rattle.text.specs.Outputs.{Puts}
use Rattle.listing.specs.Listing.{returned_hops, rows}
use Rattle.listing.specs.StepLaws.{Reached}
use Rattle.listing.proofs.bank.put_rows.Given as goal

abbrev pub invariant-loop-h : goal.invariant-loop-h
invariant-loop-h l = record {
  long : length l.hop ≡ storage;
  reached : Reached l.input l.n l.fn.listing.hops (suc l.h) l.block l.place l.s;
  put : Puts (rows (returned_hops l.n l.input) l.h) l.fn.output l.output;
}
