-- `middle_at` meets its contract: twice the sum fits.
use mathlib.Core.Path.{◌≡◌}
use mathlib.Core.List.{List}
use Prim.Native.Nat.{ℕ}
use native.Mathlib.Omega.{arith}
use lib.IntN.{ℤ, pos, ◌*ℤ◌}
use mir.Syntax.{w64}
use mir.Val.{SFits, to_z, of_z}
use mir.Facts.{to_z-of_z}
use Rattle.arithmetic.specs.Lists.{at}
use Rattle.arithmetic.specs.OrderLaws.{abs_mul, sfits_abs}
use borrow.Author.Rules.{rules}
use Rattle.double_route.proofs.sums.middle_at.Statement.{statement}
use Rattle.double_route.proofs.sums.middle_at.Tie as tie

module _ (c : tie.After-result-1) where
  abbrev k : ℕ
  k = c.before.args.k

  abbrev a : List ℤ
  a = c.before.args.a.now

  a_is : to_z w64 (of_z w64 (at a k)) ≡ at a k
  a_is = to_z-of_z {w = w64} {z = at a k} (record { sfits = c.result-1.given })

  twice-fits : SFits w64 (pos 2 *ℤ at a k)
  twice-fits = let q = c.before.requires in sfits_abs (pos 2 *ℤ at a k) (omega (arith, abs_mul (pos 2) (at a k), q.1.small k q.0))

mul_result : tie.Need-offset_bounds-a-k
mul_result c = search rules

shared_slice_copy_out_result : tie.Need-bounds-a-k
shared_slice_copy_out_result c = search rules

mul_result_2 : tie.Need-overflow_mul-result
mul_result_2 c = rw (a_is c) (twice-fits c)

returns : tie.Need-returns
returns c = rw (a_is c) (to_z-of_z (twice-fits c))

pub middle_at_spec : {M : Type 1} → statement M
middle_at_spec = tie.close (tie.spec mul_result shared_slice_copy_out_result mul_result_2 returns)
