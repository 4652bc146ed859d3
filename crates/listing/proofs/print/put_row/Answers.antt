use Rattle.std.specs.Prelude.{◌≡◌, ◌≤◌, length, ℤ, nat_abs}
use Rattle.std.proofs.Common.{rules, arith, ◌∙◌, take_all}
use mir.Syntax.{w16, w64}
use mir.Val.{SFits, to_z, of_z}
use mir.Facts.{to_z-of_z, sfits_widen}
use Rattle.arithmetic.specs.Lists.{at}
use Rattle.arithmetic.specs.OrderLaws.{abs_sfits}
use Rattle.text.specs.Lines.{line, more}
use Rattle.text.proofs.OutputLaws.{puts_none, puts_then}
use Rattle.listing.specs.Print.{row}
use Rattle.listing.specs.PrintLaws.{decimal-short, printed-most, samples-next}
use Rattle.listing.proofs.print.put_row.Goals as goal

pub digits-requires : goal.digits-requires
digits-requires c = omega (arith, decimal-short c.args.hop c.requires.0)

pub loop-sample-init : goal.loop-sample-init
unfolding more
loop-sample-init c = record { put = puts_none; short = omega arith }

pub byte-requires : goal.byte-requires
byte-requires c = omega (arith, c.digits.ensures.put.behind, c.digits.ensures.long, c.loop-sample.invariant.put.long, decimal-short c.args.hop c.requires.0)

-- a sample has few digits, and is the machine's number
few : (z : ℤ) → SFits w16 z → nat_abs z ≤ 99999
few z fits = omega (arith, abs_sfits fits)

is : (z v : ℤ) → SFits w16 z → v ≡ to_z w16 (of_z w16 z) → to_z w64 (of_z w64 v) ≡ z
is z v fits e =
    let f : v ≡ z = e ∙ to_z-of_z fits in
    rw f (to_z-of_z (sfits_widen {w = w16} {w' = w64} tt fits))

pub number-requires : goal.number-requires
number-requires c =
    let z = at c.args.samples.now c.loop-sample.sample-index in
    let fits : SFits w16 z = search rules in
    rw (is z c.from.result fits c.from.ensures) (omega (arith, c.byte.ensures.put.behind, c.byte.ensures.long, c.digits.ensures.put.behind, c.digits.ensures.long, c.loop-sample.invariant.put.long, decimal-short c.args.hop c.requires.0, printed-most z (few z fits)))

pub loop-sample-preserved : goal.loop-sample-preserved
loop-sample-preserved c =
    let z = at c.args.samples.now c.loop-sample.sample-index in
    let fits : SFits w16 z = search rules in
    let number = rw (is z c.from.result fits c.from.ensures) at c.number.ensures in
    record {
      put = rw (samples-next c.args.samples.now c.loop-sample.sample-index (omega arith)) (puts_then c.loop-sample.invariant.put (puts_then c.byte.ensures number));
      short = omega (arith, c.byte.ensures.put.behind, number.put.behind, printed-most z (few z fits));
    }

pub byte-requires-2 : goal.byte-requires-2
byte-requires-2 c = omega (arith, c.digits.ensures.put.behind, c.digits.ensures.long, c.loop-sample.invariant.put.long, decimal-short c.args.hop c.requires.0)

pub returns : goal.returns
unfolding row line
returns c =
    let xs = c.args.samples.now in
    let all : length xs ≤ c.loop-sample.sample-index = omega arith in
    puts_then (puts_then c.digits.ensures (rw (take_all c.loop-sample.sample-index xs all) at c.loop-sample.invariant.put)) c.byte-2.ensures
