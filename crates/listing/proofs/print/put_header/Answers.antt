use Rattle.std.specs.Prelude.{◌≡◌}
use Rattle.std.proofs.Common.{arith}
use Rattle.arithmetic.specs.Lists.{table}
use Rattle.text.specs.Lines.{line, more}
use Rattle.text.proofs.OutputLaws.{puts_none, puts_then}
use Rattle.listing.specs.Print.{header}
use Rattle.listing.specs.PrintLaws.{decimal-most, names-next}
use Rattle.listing.proofs.print.put_header.Invariants.{name}
use Rattle.listing.proofs.print.put_header.Goals as goal

pub loop-i-init : goal.loop-i-init
unfolding more table
loop-i-init c = record { put = puts_none; short = omega arith }

pub text-requires-in-loop-i : goal.text-requires-in-loop-i
text-requires-in-loop-i c = omega (arith, c.text.ensures.put.behind, c.text.ensures.long, c.loop-i.invariant.put.long)

pub digits-requires : goal.digits-requires
digits-requires c =
    omega (arith, c.text.ensures.put.behind, c.text.ensures.long, c.loop-i.invariant.put.long, c.text-in-loop-i.ensures.put.behind, c.text-in-loop-i.ensures.long, decimal-most c.loop-i.i (omega arith))

pub loop-i-preserved : goal.loop-i-preserved
loop-i-preserved c = record {
  put = rw (names-next name c.loop-i.i) (puts_then c.loop-i.invariant.put (puts_then c.text-in-loop-i.ensures c.digits.ensures));
  short = omega (arith, c.text-in-loop-i.ensures.put.behind, c.digits.ensures.put.behind, decimal-most c.loop-i.i (omega arith));
}

pub byte-requires : goal.byte-requires
byte-requires c = omega (arith, c.text.ensures.put.behind, c.text.ensures.long, c.loop-i.invariant.put.long)

pub returns : goal.returns
unfolding header line
returns c =
    let all : c.loop-i.i ≡ c.args.m = omega arith in
    puts_then (puts_then c.text.ensures (rw all at c.loop-i.invariant.put)) c.byte.ensures
