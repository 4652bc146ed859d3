-- `value` meets its contract: the four quarters of the block, each by its test.
use mathlib.Core.Path.{sym, ◌∙◌}
use Prim.Native.Nat.{◌+◌, ◌-◌, ◌*◌, ◌/◌}
use native.Mathlib.Omega.{arith}
use lib.ListN.{length}
use mir.Syntax.{w32, w64}
use mir.Facts.{to_z-of_z}
use Rattle.transform.specs.InverseLaws.{value-first, value-second, value-third, value_fourth}
use borrow.Author.Rules.{rules}
use Rattle.transform.proofs.unfold.value.Statement.{statement}
use Rattle.transform.proofs.unfold.value.Tie as tie

mul_weighted : tie.Need-offset_bounds-rise-n
mul_weighted c = search rules

shared_slice_copy_out_weighted : tie.Need-bounds-rise-n
shared_slice_copy_out_weighted c = search rules

add_weighted : tie.Need-overflow_add-h
add_weighted c = search rules

mul_weighted_2 : tie.Need-offset_bounds-t-h
mul_weighted_2 c = search rules

shared_slice_copy_out_weighted_2 : tie.Need-bounds-t-h
shared_slice_copy_out_weighted_2 c = search rules

weighted_requires : tie.Need-weighted-requires
weighted_requires c κs =
    let s = c.before.before.before in (
      rw (to_z-of_z {w = w32} (record { sfits = c.before.weighted-arg-1.given })) (s.requires.0.rise.small.small s.args.n (omega (arith, s.requires.0.left_long, s.requires.0.right_long))),
      rw (to_z-of_z {w = w64} (record { sfits = c.weighted-arg-then-n-h-1.given })) (s.requires.1.1.1.small (length s.args.t.now / 2 + s.args.n) (omega (arith, s.requires.0.left_long, s.requires.0.right_long))),
    )

returns : tie.Need-returns-then-n-h
returns c =
    let s = c.before.before.before.before in
    to_z-of_z {w = w64} {z = c.weighted.result} (record { sfits = c.weighted.type_inv })
    ∙ c.weighted.ensures
    ∙ rw (to_z-of_z {w = w32} (record { sfits = c.before.before.weighted-arg-1.given }), to_z-of_z {w = w64} (record { sfits = c.before.weighted-arg-then-n-h-1.given }))
    (sym (value-first s.args.rise.now s.args.fall.now s.args.t.now s.args.n (omega arith)))

mul_weighted_negated : tie.Need-offset_bounds-rise-n-then-n-m
mul_weighted_negated c = search rules

shared_slice_copy_out_weighted_negated : tie.Need-bounds-rise-n-then-n-m
shared_slice_copy_out_weighted_negated c = search rules

mul_weighted_negated_2 : tie.Need-overflow_mul-h
mul_weighted_negated_2 c = search rules

sub_weighted_negated : tie.Need-overflow_sub-h
sub_weighted_negated c = search rules

sub_weighted_negated_2 : tie.Need-overflow_sub-h-then-n-m
sub_weighted_negated_2 c = search rules

mul_weighted_negated_3 : tie.Need-offset_bounds-t-h-then-n-m
mul_weighted_negated_3 c = search rules

shared_slice_copy_out_weighted_negated_2 : tie.Need-bounds-t-h-then-n-m
shared_slice_copy_out_weighted_negated_2 c = search rules

weighted_negated_requires : tie.Need-weighted_negated-requires
weighted_negated_requires c κs =
    let s = c.before.before.before.before in (
      rw (to_z-of_z {w = w32} (record { sfits = c.before.weighted_negated-arg-1.given })) (s.requires.0.rise.small.small s.args.n (omega (arith, s.requires.0.left_long, s.requires.0.right_long))),
      rw (to_z-of_z {w = w64} (record { sfits = c.weighted_negated-arg-then-n-m-1.given })) (s.requires.1.1.1.small (3 * (length s.args.t.now / 2) - 1 - s.args.n) (omega (arith, s.requires.0.left_long, s.requires.0.right_long))),
    )

returns_2 : tie.Need-returns-then-n-m
returns_2 c =
    let s = c.before.before.before.before.before in
    to_z-of_z {w = w64} {z = c.weighted_negated.result} (record { sfits = c.weighted_negated.type_inv })
    ∙ c.weighted_negated.ensures
    ∙ rw (to_z-of_z {w = w32} (record { sfits = c.before.before.weighted_negated-arg-1.given }), to_z-of_z {w = w64} (record { sfits = c.before.weighted_negated-arg-then-n-m-1.given }))
    (sym (value-second s.args.rise.now s.args.fall.now s.args.t.now s.args.n (omega arith) (omega arith)))

mul_if3 : tie.Need-overflow_mul-h-2
mul_if3 c = search rules

mul_weighted_negated_4 : tie.Need-offset_bounds-fall-n
mul_weighted_negated_4 c = search rules

shared_slice_copy_out_weighted_negated_3 : tie.Need-bounds-fall-n
shared_slice_copy_out_weighted_negated_3 c = search rules

mul_weighted_negated_5 : tie.Need-overflow_mul-h-then-n-h-2
mul_weighted_negated_5 c = search rules

sub_weighted_negated_3 : tie.Need-overflow_sub-h-then-n-h-2
sub_weighted_negated_3 c = search rules

sub_weighted_negated_4 : tie.Need-overflow_sub-h-then-n-h-2-2
sub_weighted_negated_4 c = search rules

mul_weighted_negated_6 : tie.Need-offset_bounds-t-h-then-n-h-2
mul_weighted_negated_6 c = search rules

shared_slice_copy_out_weighted_negated_4 : tie.Need-bounds-t-h-then-n-h-2
shared_slice_copy_out_weighted_negated_4 c = search rules

weighted_negated_requires_2 : tie.Need-weighted_negated-requires-then-n-h-2
weighted_negated_requires_2 c κs =
    let s = c.before.before.before.before.before in (
      rw (to_z-of_z {w = w32} (record { sfits = c.before.weighted_negated-arg-then-n-h-2-1.given })) (s.requires.0.fall.small.small (s.args.n - length s.args.t.now) (omega (arith, s.requires.0.left_long, s.requires.0.right_long))),
      rw (to_z-of_z {w = w64} (record { sfits = c.weighted_negated-arg-then-n-h-2-2-1.given })) (s.requires.1.1.1.small (3 * (length s.args.t.now / 2) - 1 - s.args.n) (omega (arith, s.requires.0.left_long, s.requires.0.right_long))),
    )

returns_3 : tie.Need-returns-then-n-h-2
returns_3 c =
    let s = c.before.before.before.before.before.before in
    to_z-of_z {w = w64} {z = c.weighted_negated-then-n-h-2.result} (record { sfits = c.weighted_negated-then-n-h-2.type_inv })
    ∙ c.weighted_negated-then-n-h-2.ensures
    ∙ rw (to_z-of_z {w = w32} (record { sfits = c.before.before.weighted_negated-arg-then-n-h-2-1.given }), to_z-of_z {w = w64} (record { sfits = c.before.weighted_negated-arg-then-n-h-2-2-1.given }))
    (sym (value-third s.args.rise.now s.args.fall.now s.args.t.now s.args.n (omega arith) (omega arith)))

mul_weighted_negated_7 : tie.Need-offset_bounds-fall-n-2
mul_weighted_negated_7 c = search rules

shared_slice_copy_out_weighted_negated_5 : tie.Need-bounds-fall-n-2
shared_slice_copy_out_weighted_negated_5 c = search rules

mul_weighted_negated_8 : tie.Need-overflow_mul-h-3
mul_weighted_negated_8 c = search rules

sub_weighted_negated_5 : tie.Need-overflow_sub-n-3
sub_weighted_negated_5 c = search rules

mul_weighted_negated_9 : tie.Need-offset_bounds-t-n
mul_weighted_negated_9 c = search rules

shared_slice_copy_out_weighted_negated_6 : tie.Need-bounds-t-n
shared_slice_copy_out_weighted_negated_6 c = search rules

weighted_negated_requires_3 : tie.Need-weighted_negated-requires-2
weighted_negated_requires_3 c κs =
    let s = c.before.before.before.before.before in (
      rw (to_z-of_z {w = w32} (record { sfits = c.before.weighted_negated-arg-2-1.given })) (s.requires.0.fall.small.small (s.args.n - length s.args.t.now) (omega (arith, s.requires.0.left_long, s.requires.0.right_long))),
      rw (to_z-of_z {w = w64} (record { sfits = c.weighted_negated-arg-3-1.given })) (s.requires.1.1.1.small (s.args.n - 3 * (length s.args.t.now / 2)) (omega (arith, s.requires.0.left_long, s.requires.0.right_long))),
    )

returns_4 : tie.Need-returns
returns_4 c =
    let s = c.before.before.before.before.before.before in
    to_z-of_z {w = w64} {z = c.weighted_negated-2.result} (record { sfits = c.weighted_negated-2.type_inv })
    ∙ c.weighted_negated-2.ensures
    ∙ rw (to_z-of_z {w = w32} (record { sfits = c.before.before.weighted_negated-arg-2-1.given }), to_z-of_z {w = w64} (record { sfits = c.before.weighted_negated-arg-3-1.given }))
    (sym (value_fourth s.args.rise.now s.args.fall.now s.args.t.now s.args.n (omega arith) (omega arith)))

pub value_spec : {M : Type 1} → statement M
value_spec =
    tie.close
    (tie.spec
    mul_weighted
    shared_slice_copy_out_weighted
    add_weighted
    mul_weighted_2
    shared_slice_copy_out_weighted_2
    weighted_requires
    returns
    mul_weighted_negated
    shared_slice_copy_out_weighted_negated
    mul_weighted_negated_2
    sub_weighted_negated
    sub_weighted_negated_2
    mul_weighted_negated_3
    shared_slice_copy_out_weighted_negated_2
    weighted_negated_requires
    returns_2
    mul_if3
    mul_weighted_negated_4
    shared_slice_copy_out_weighted_negated_3
    mul_weighted_negated_5
    sub_weighted_negated_3
    sub_weighted_negated_4
    mul_weighted_negated_6
    shared_slice_copy_out_weighted_negated_4
    weighted_negated_requires_2
    returns_3
    mul_weighted_negated_7
    shared_slice_copy_out_weighted_negated_5
    mul_weighted_negated_8
    sub_weighted_negated_5
    mul_weighted_negated_9
    shared_slice_copy_out_weighted_negated_6
    weighted_negated_requires_3
    returns_4)
