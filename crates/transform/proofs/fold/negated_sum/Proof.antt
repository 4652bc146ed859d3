-- `negated_sum` meets its contract: the sum of two windowed samples, with its sign changed, is small.
use mathlib.Core.Path.{◌≡◌, ap₂}
use Prim.Native.Nat.{◌^◌, ◌≤◌}
use native.Mathlib.Omega.{arith}
use lib.IntN.{ℤ, pos, neg_ℤ, nat_abs, ◌-ℤ◌, +ℤ_idl}
use mir.Syntax.{w32}
use mir.Val.{SFits, to_z, of_z}
use mir.Facts.{to_z-of_z}
use Rattle.arithmetic.specs.OrderLaws.{sfits_abs, abs_sub, abs_neg}
use borrow.Author.Rules.{rules}
use Rattle.transform.proofs.fold.negated_sum.Statement.{statement}
use Rattle.transform.proofs.fold.negated_sum.Tie as tie

add_windowed : tie.Need-overflow_add-m
add_windowed c = search rules

windowed_requires : tie.Need-windowed-requires
windowed_requires c κs = search rules

-- a sample with its sign changed, as the machine has it
negated : (c : tie.After-windowed) → pos 0 -ℤ to_z w32 (of_z w32 c.windowed.result) ≡ neg_ℤ c.windowed.result
negated c = rw (to_z-of_z {w = w32} {z = c.windowed.result} (record { sfits = c.windowed.type_inv })) (+ℤ_idl (neg_ℤ c.windowed.result))

negated_fits : (c : tie.After-windowed) → SFits w32 (neg_ℤ c.windowed.result)
negated_fits c = sfits_abs (neg_ℤ c.windowed.result) (rw (abs_neg c.windowed.result) (omega (arith, c.windowed.ensures.1)))

less_abs : (c : tie.After-windowed-2) → nat_abs (neg_ℤ c.before.windowed.result -ℤ c.windowed-2.result) ≤ 2 ^ 24
less_abs c =
    omega (arith, abs_sub (neg_ℤ c.before.windowed.result) c.windowed-2.result, abs_neg c.before.windowed.result, c.before.windowed.ensures.1, c.windowed-2.ensures.1)

less-fits : (c : tie.After-windowed-2) → SFits w32 (neg_ℤ c.before.windowed.result -ℤ c.windowed-2.result)
less-fits c = sfits_abs (neg_ℤ c.before.windowed.result -ℤ c.windowed-2.result) (omega (arith, less_abs c))

sub_result : tie.Need-overflow_sub-result
sub_result c = rw (negated c) (negated_fits c)

add_windowed_2 : tie.Need-overflow_add-m-2
add_windowed_2 c = search rules

windowed_requires_2 : tie.Need-windowed-requires-2
windowed_requires_2 c κs = search rules

sub_result_2 : tie.Need-overflow_sub-result-2
sub_result_2 c = rw (negated c.before, to_z-of_z (negated_fits c.before), to_z-of_z {w = w32} {z = c.windowed-2.result} (record { sfits = c.windowed-2.type_inv })) (less-fits c)

returns : tie.Need-returns
returns c =
    rw (negated c.before, to_z-of_z (negated_fits c.before), to_z-of_z {w = w32} {z = c.windowed-2.result} (record { sfits = c.windowed-2.type_inv }), to_z-of_z (less-fits c))
    (ap₂ (λ (a b : ℤ). neg_ℤ a -ℤ b) c.before.windowed.ensures.0 c.windowed-2.ensures.0, less_abs c)

pub negated_sum_spec : {M : Type 1} → statement M
negated_sum_spec =
    tie.close
    (tie.spec
    add_windowed
    windowed_requires
    sub_result
    add_windowed_2
    windowed_requires_2
    sub_result_2
    returns)
