use Rattle.std.proofs.Common.{arith, w64, w32, of_z, to_z, ◌≡◌, ◌^◌, ◌≤◌}
use Rattle.std.specs.Prelude.{ℤ, nat_abs, ◌+ℤ◌, ◌*ℤ◌}
use Rattle.std.proofs.Math.Facts.{to_z-of_z}
use mir.Val.{SFits}
use Rattle.arithmetic.specs.OrderLaws.{sfits_abs, abs_add, abs_mul_le}
use Rattle.split.proofs.thirds.turn.Goals as goal

-- a factor, as the machine has it
read : (x : ℤ) → nat_abs x ≤ 2 ^ 28 → to_z w64 (of_z w64 (to_z w32 (of_z w32 x))) ≡ x
read x p = rw (to_z-of_z {w = w32} (sfits_abs {w = w32} x (omega arith))) (to_z-of_z {w = w64} (sfits_abs {w = w64} x (omega arith)))

product_fits : (x y : ℤ) → nat_abs x ≤ 2 ^ 28 → nat_abs y ≤ 2 ^ 27 → SFits w64 (x *ℤ y)
product_fits x y p q = sfits_abs (x *ℤ y) (omega (arith, abs_mul_le x y p q))

sum_fits : (e f p q : ℤ) → nat_abs e ≤ 2 ^ 28 → nat_abs f ≤ 2 ^ 28 → nat_abs p ≤ 2 ^ 27 → nat_abs q ≤ 2 ^ 27 → SFits w64 (e *ℤ p +ℤ f *ℤ q)
sum_fits e f p q h i j k = sfits_abs (e *ℤ p +ℤ f *ℤ q) (omega (arith, abs_add (e *ℤ p) (f *ℤ q), abs_mul_le e p h j, abs_mul_le f q i k))

pub overflow_mul-result : goal.overflow_mul-result
overflow_mul-result c =
    rw (read c.args.e c.requires.e_bound, read c.args.p (omega (arith, c.requires.p_bound))) (product_fits c.args.e c.args.p c.requires.e_bound c.requires.p_bound)

pub overflow_mul-result-2 : goal.overflow_mul-result-2
overflow_mul-result-2 c =
    rw (read c.args.f c.requires.f_bound, read c.args.q (omega (arith, c.requires.q_bound))) (product_fits c.args.f c.args.q c.requires.f_bound c.requires.q_bound)

pub overflow_add-result : goal.overflow_add-result
overflow_add-result c =
    let q = c.requires in
    rw (
      read c.args.e q.e_bound,
      read c.args.p (omega (arith, q.p_bound)),
      read c.args.f q.f_bound,
      read c.args.q (omega (arith, q.q_bound)),
      to_z-of_z {w = w64} (product_fits c.args.e c.args.p q.e_bound q.p_bound),
      to_z-of_z {w = w64} (product_fits c.args.f c.args.q q.f_bound q.q_bound),
    ) (sum_fits c.args.e c.args.f c.args.p c.args.q q.e_bound q.f_bound q.p_bound q.q_bound)

pub returns : goal.returns
returns c =
    let q = c.requires in
    rw (
      read c.args.e q.e_bound,
      read c.args.p (omega (arith, q.p_bound)),
      read c.args.f q.f_bound,
      read c.args.q (omega (arith, q.q_bound)),
      to_z-of_z {w = w64} (product_fits c.args.e c.args.p q.e_bound q.p_bound),
      to_z-of_z {w = w64} (product_fits c.args.f c.args.q q.f_bound q.q_bound),
    ) (to_z-of_z {w = w64} (sum_fits c.args.e c.args.f c.args.p c.args.q q.e_bound q.f_bound q.p_bound q.q_bound))
