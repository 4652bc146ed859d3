-- `folded_at` meets its contract: the lower half is made of the second hop, the upper of the first.
use mathlib.Core.Path.{◌≡◌, ◌∙◌}
use Prim.Native.Nat.{◌+◌, ◌-◌, ◌*◌, ◌/◌}
use native.Mathlib.Omega.{arith}
use mir.Syntax.{w32}
use mir.Facts.{to_z-of_z}
use Rattle.transform.specs.HopLaws.{folded_upper, folded-lower}
use borrow.Author.Rules.{rules}
use Rattle.transform.proofs.fold.folded_at.Statement.{statement}
use Rattle.transform.proofs.fold.folded_at.Tie as tie

sub_negated_sum : tie.Need-overflow_sub-h
sub_negated_sum c = search rules

sub_negated_sum_2 : tie.Need-overflow_sub-h-then-j-h
sub_negated_sum_2 c = search rules

add_negated_sum : tie.Need-overflow_add-h
add_negated_sum c = search rules

negated_sum_requires : tie.Need-negated_sum-requires
negated_sum_requires c κs = search rules

mul_difference : tie.Need-overflow_mul-h
mul_difference c = search rules

sub_difference : tie.Need-overflow_sub-h-else-j-h
sub_difference c = search rules

sub_difference_2 : tie.Need-overflow_sub-h-else-j-h-2
sub_difference_2 c = search rules

difference_requires : tie.Need-difference-requires
difference_requires c κs = search rules

returns : tie.Need-returns-then-j-h
returns c =
    let a = c.before.before.args in
    let q = c.before.before.requires in
    let m = a.m in
    let j = a.j in
    let lo : m + (m / 2 - 1 - j) ≡ 3 * (m / 2) - 1 - j = omega arith in
    let hi : m + (m / 2 + j) ≡ 3 * (m / 2) + j = omega arith in
    rw (to_z-of_z {w = w32} {z = c.negated_sum.result} (record { sfits = c.negated_sum.type_inv }))
    (c.negated_sum.ensures.0 ∙ rw (lo, hi) (folded-lower m a.rise.now a.fall.now a.x.now j q.1.1.0 (omega arith)), c.negated_sum.ensures.1)

returns_2 : tie.Need-returns-else-j-h
returns_2 c =
    let a = c.before.before.args in
    let q = c.before.before.requires in
    rw (to_z-of_z {w = w32} {z = c.difference.result} (record { sfits = c.difference.type_inv }))
    (c.difference.ensures.0 ∙ folded_upper a.m a.rise.now a.fall.now a.x.now a.j q.1.1.0 (omega arith) q.1.1.1, c.difference.ensures.1)

pub folded_at_spec : {M : Type 1} → statement M
folded_at_spec =
    tie.close
    (tie.spec
    sub_negated_sum
    sub_negated_sum_2
    add_negated_sum
    negated_sum_requires
    mul_difference
    sub_difference
    sub_difference_2
    difference_requires
    returns
    returns_2)
