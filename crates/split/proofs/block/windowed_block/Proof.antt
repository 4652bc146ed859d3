-- `windowed_block` meets its contract: the two hops make the block.
use mathlib.Core.Path.{sym}
use native.Mathlib.Omega.{arith}
use lib.ListN.{length}
use lib.Seq.{length-take-le}
use Rattle.split.specs.WindowLaws.{hops_are, hops_small}
use borrow.Author.Rules.{rules}
use Rattle.split.proofs.block.windowed_block.Statement.{statement}
use Rattle.split.proofs.block.windowed_block.Tie as tie

slice_aggregate_window_hop : tie.Need-slice_bounds-window_hop-end
slice_aggregate_window_hop c = sym (length-take-le (length c.args.rise.now) c.args.x.now (omega arith))

slice_relend_prefix_window_hop : tie.Need-slice_bounds-window_hop-end-2
slice_relend_prefix_window_hop c = search rules

slice_aggregate_window_hop_2 : tie.Need-slice_bounds-window_hop-end-3
slice_aggregate_window_hop_2 c = let s = c.before in sym (length-take-le (length s.args.rise.now) s.args.out.now (omega arith))

window_hop_requires : tie.Need-window_hop-requires
window_hop_requires c κs =
    let s = c.before in
    let m = length s.args.rise.now in
    let q = s.requires in
    (q.1.1.1.0, (length-take-le m s.args.x.now (omega arith), length-take-le m s.args.out.now (omega arith)))

mul_window_hop : tie.Need-offset_bounds-x-m
mul_window_hop c = search rules

sub_window_hop : tie.Need-slice_bounds-window_hop-count
sub_window_hop c = search rules

part_window_hop_start : tie.Need-slice_bounds-window_hop-start
part_window_hop_start c = search rules

part_window_hop_end : tie.Need-slice_bounds-window_hop-end-4
part_window_hop_end c = search rules

mul_window_hop_2 : tie.Need-offset_bounds-out-m
mul_window_hop_2 c = search rules

sub_window_hop_2 : tie.Need-slice_bounds-window_hop-count-2
sub_window_hop_2 c = search rules

part_window_hop_start_2 : tie.Need-slice_bounds-window_hop-start-2
part_window_hop_start_2 c = search rules

part_window_hop_end_2 : tie.Need-slice_bounds-window_hop-end-5
part_window_hop_end_2 c = search rules

window_hop_requires_2 : tie.Need-window_hop-requires-2
window_hop_requires_2 c κs = (c.before.before.before.before.before.requires.1.1.1.1, (search rules, search rules))

same_length : tie.Need-shape_of-out
same_length c = search rules

returns : tie.Need-returns
returns c =
    let f = c.before.before.before.before.before in
    let g = c.before in
    let a = f.before.before.args in
    let q = f.before.before.requires in
    let first = f.window_hop.new.out in
    let second = g.window_hop-2.new.out in (
      hops_are a.rise.now a.fall.now a.x.now a.out.now first second q.0 q.1.0 q.1.1.0 f.window_hop.ensures.0 g.window_hop-2.ensures.0,
      hops_small a.rise.now a.fall.now a.x.now a.out.now first second q.0 q.1.0 q.1.1.0 f.window_hop.ensures.0 g.window_hop-2.ensures.0
          f.window_hop.ensures.1
          g.window_hop-2.ensures.1,
    )

pub windowed_block_spec : {M : Type 1} → statement M
windowed_block_spec =
    tie.close
    (tie.spec
    slice_aggregate_window_hop
    slice_relend_prefix_window_hop
    slice_aggregate_window_hop_2
    window_hop_requires
    mul_window_hop
    sub_window_hop
    part_window_hop_start
    part_window_hop_end
    mul_window_hop_2
    sub_window_hop_2
    part_window_hop_start_2
    part_window_hop_end_2
    window_hop_requires_2
    same_length
    returns)
