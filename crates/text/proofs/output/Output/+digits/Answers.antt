-- The digits of n are those of n / 10 and the last, or the last alone.
use Rattle.std.proofs.Common.{arith, ◌<◌, ◌%◌, ◌≡◌}
use Rattle.text.specs.NumberLaws.{decimal-one, decimal-more, decimal_length_one, decimal_length_more}
use Rattle.text.proofs.OutputLaws.{puts_then}
use Rattle.text.proofs.output.Output.+digits.Goals as goal
use Rattle.text.proofs.output.Output.+digits.Goals.{then-n-ge10, else-n-ge10}

pub digits-requires : goal.digits-requires
digits-requires t c = (omega arith, omega (arith, decimal_length_more c.args.n c.if-n-ge10.true))

pub byte-requires : goal.byte-requires
byte-requires t c =
    elim c.if-n-ge10.branch [
      | then-n-ge10 w ↦ rw w.self-is (omega (arith, decimal_length_more c.args.n w.if-n-ge10.true, w.digits.ensures.put.behind, w.digits.ensures.long))
      | else-n-ge10 w ↦ rw w.self-is (omega (arith, decimal_length_one c.args.n w.if-n-ge10.false))
    ]

pub returns : goal.returns
returns t c =
    elim c.if-n-ge10.branch [
      | then-n-ge10 w ↦ rw (decimal-more c.args.n w.if-n-ge10.true) (puts_then w.digits.ensures (rw w.self-is at c.byte.ensures))
      | else-n-ge10 w ↦
          let n = c.args.n in
          let h : n < 10 = w.if-n-ge10.false in
          let e : n % 10 ≡ n = omega arith in
          rw (decimal-one n h) (rw (w.self-is, e) at c.byte.ensures)
    ]
