use Rattle.std.proofs.Common.{w32}
use Rattle.std.proofs.Math.Facts.{to_z-of_z}
use mir.Val.{SFits}
use Rattle.std.specs.Prelude.{◌≡◌}
use Rattle.arithmetic.specs.Rounding.{floor}
use Rattle.level.proofs.Wide.{high_fits, low_reads, low_fits}
use Rattle.level.proofs.low.Goals as goal

-- the high part, as the machine has it
high_is : (c : goal.After-high) → c.high.result ≡ floor c.args.x 256
high_is c = rw (to_z-of_z c.ranges.x) at c.high.ensures

pub overflow_mul-result : goal.overflow_mul-result
overflow_mul-result c =
    let f : SFits w32 c.high.result = record { sfits = c.high.type_inv } in
    rw (to_z-of_z {w = w32} f, high_is c) (high_fits c.args.x c.requires.small)

pub overflow_sub-result : goal.overflow_sub-result
overflow_sub-result c =
    let f : SFits w32 c.high.result = record { sfits = c.high.type_inv } in
    rw (to_z-of_z {w = w32} f, high_is c, to_z-of_z c.ranges.x, to_z-of_z {w = w32} (high_fits c.args.x c.requires.small)) (low_fits c.args.x)

pub returns : goal.returns
returns c =
    let f : SFits w32 c.high.result = record { sfits = c.high.type_inv } in
    rw (to_z-of_z {w = w32} f, high_is c, to_z-of_z c.ranges.x) (low_reads c.args.x (high_fits c.args.x c.requires.small))
