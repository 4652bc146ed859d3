use Rattle.std.proofs.Common.{arith, ◌∙◌, ◌*◌, ◌<◌}
use Rattle.level.proofs.Wide.{high_parts_small, low_parts_small, high_long, low_long, small_share, twice_parts, twice_small}
use Rattle.level.proofs.sums_by_parts.Goals as goal

pub block_sums-requires : goal.block_sums-requires
block_sums-requires g c =
    let some = c.requires.some in
    let a : g.row.H * 4 < 9223372036854775808 = omega arith in
    let b : g.row.H * 8 < 9223372036854775808 = omega arith in
    (a, (b, small_share g.row.H c.part.new.high_parts some (high_parts_small g.row.H c.args.w.now c.part.new.high_parts c.part.new.low_parts c.told-w some.1 c.requires.small c.part.ensures.high c.part.ensures.low)))

pub block_sums-requires-2 : goal.block_sums-requires-2
block_sums-requires-2 g c =
    let some = c.requires.some in
    let a : g.row.H * 4 < 9223372036854775808 = omega arith in
    let b : g.row.H * 8 < 9223372036854775808 = omega arith in
    (a, (b, small_share g.row.H c.part.new.low_parts some (low_parts_small g.row.H c.args.w.now c.part.new.high_parts c.part.new.low_parts c.told-w some.1 c.requires.small c.part.ensures.high c.part.ensures.low)))

pub join_parts-requires : goal.join_parts-requires
join_parts-requires g c =
    let some = c.requires.some in
    let b : g.row.H * 8 < 9223372036854775808 = omega arith in
    let w = c.args.w.now in
    let p = c.part.new.high_parts in
    let q = c.part.new.low_parts in
    let s = c.requires.small in
    let h = high_parts_small g.row.H w p q c.told-w some.1 s c.part.ensures.high c.part.ensures.low in
    let l = low_parts_small g.row.H w p q c.told-w some.1 s c.part.ensures.high c.part.ensures.low in
    (b, (twice_small g.row.H p c.block_sums.new.t some.1 (high_long g.row.H w p q c.told-w some.1 s c.part.ensures.high c.part.ensures.low) h c.block_sums.ensures, twice_small g.row.H q c.block_sums-2.new.t some.1 (low_long g.row.H w p q c.told-w some.1 s c.part.ensures.high c.part.ensures.low) l c.block_sums-2.ensures))

pub returns : goal.returns
returns g c = c.join_parts.ensures ∙ twice_parts g.row.H c.args.w.now c.part.new.high_parts c.part.new.low_parts c.told-w c.requires.some.1 c.requires.small c.part.ensures.high c.part.ensures.low _ _ c.block_sums.ensures c.block_sums-2.ensures
