-- `in_parts` meets its contract: an entry of the half times a sample.
use mathlib.Core.Path.{◌≡◌}
use mir.Syntax.{w16, w32}
use mir.Val.{to_z, of_z}
use mir.Facts.{to_z-of_z}
use Rattle.arithmetic.specs.Lists.{at}
use Rattle.transform.specs.HopLaws.{windowed}
use borrow.Author.Rules.{rules}
use Rattle.split.proofs.block.in_parts.Statement.{statement}
use Rattle.split.proofs.block.in_parts.Tie as tie

mul_weighted : tie.Need-offset_bounds-half-i
mul_weighted c = search rules

shared_slice_copy_out_weighted : tie.Need-bounds-half-i
shared_slice_copy_out_weighted c = search rules

mul_weighted_2 : tie.Need-offset_bounds-x-n
mul_weighted_2 c = search rules

shared_slice_copy_out_weighted_2 : tie.Need-bounds-x-n
shared_slice_copy_out_weighted_2 c = search rules

-- the entry and the sample, as the machine has them
module _ (c : tie.After-weighted-arg-2-1) where
  abbrev s : tie.Start
  s = c.before.before

  w-is : to_z w32 (of_z w32 (at s.args.half.now s.args.i)) ≡ at s.args.half.now s.args.i
  w-is = to_z-of_z {w = w32} (record { sfits = c.before.weighted-arg-1.given })

  x-is : to_z w16 (of_z w16 (at s.args.x.now s.args.n)) ≡ at s.args.x.now s.args.n
  x-is = to_z-of_z {w = w16} (record { sfits = c.weighted-arg-2-1.given })

weighted_requires : tie.Need-weighted-requires
weighted_requires c κs =
    let q = (s c).requires in
    rw (w-is c) (q.0.low.low (s c).args.i q.1.0, q.0.small.small (s c).args.i q.1.0)

returns : tie.Need-returns
unfolding windowed
returns c =
    rw (to_z-of_z {w = w32} {z = c.weighted.result} (record { sfits = c.weighted.type_inv }))
    (rw (w-is c.before, x-is c.before) at c.weighted.ensures.0, c.weighted.ensures.1)

pub in_parts_spec : {M : Type 1} → statement M
in_parts_spec =
    tie.close
    (tie.spec
    mul_weighted
    shared_slice_copy_out_weighted
    mul_weighted_2
    shared_slice_copy_out_weighted_2
    weighted_requires
    returns)
