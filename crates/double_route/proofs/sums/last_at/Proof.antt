-- `last_at` meets its contract: the difference fits.
use mathlib.Core.Path.{◌≡◌}
use mathlib.Core.List.{List}
use Prim.Native.Nat.{ℕ, ◌-◌}
use native.Mathlib.Omega.{arith}
use lib.ListN.{length}
use lib.IntN.{ℤ, ◌-ℤ◌}
use mir.Syntax.{w64}
use mir.Val.{SFits, to_z, of_z}
use mir.Facts.{to_z-of_z}
use Rattle.arithmetic.specs.Lists.{at}
use Rattle.arithmetic.specs.OrderLaws.{abs_sub, sfits_abs}
use borrow.Author.Rules.{rules}
use Rattle.double_route.proofs.sums.last_at.Statement.{statement}
use Rattle.double_route.proofs.sums.last_at.Tie as tie

module _ (c : tie.After-result-2-1) where
  abbrev k : ℕ
  k = c.before.before.args.k

  abbrev b : List ℤ
  b = c.before.before.args.b.now

  abbrev g : List ℤ
  g = c.before.before.args.g.now

  b_is : to_z w64 (of_z w64 (at b k)) ≡ at b k
  b_is = to_z-of_z {w = w64} {z = at b k} (record { sfits = c.before.result-1.given })

  g_is : to_z w64 (of_z w64 (at g (length b - 1 - k))) ≡ at g (length b - 1 - k)
  g_is = to_z-of_z {w = w64} {z = at g (length b - 1 - k)} (record { sfits = c.result-2-1.given })

  both_fit : SFits w64 (at b k -ℤ at g (length b - 1 - k))
  both_fit =
      let q = c.before.before.requires in
      sfits_abs (at b k -ℤ at g (length b - 1 - k)) (omega (arith, abs_sub (at b k) (at g (length b - 1 - k)), q.1.1.0.small k q.1.0, q.1.1.1.small (length b - 1 - k) (omega (arith, q.0, q.1.0))))

mul_result : tie.Need-offset_bounds-b-k
mul_result c = search rules

shared_slice_copy_out_result : tie.Need-bounds-b-k
shared_slice_copy_out_result c = search rules

sub_result : tie.Need-overflow_sub-result
sub_result c = search rules

sub_result_2 : tie.Need-overflow_sub-result-2
sub_result_2 c = search rules

mul_result_2 : tie.Need-offset_bounds-g-b
mul_result_2 c = search rules

shared_slice_copy_out_result_2 : tie.Need-bounds-g-b
shared_slice_copy_out_result_2 c = search rules

sub_result_3 : tie.Need-overflow_sub-result-3
sub_result_3 c = rw (b_is c, g_is c) (both_fit c)

returns : tie.Need-returns
returns c = rw (b_is c, g_is c) (to_z-of_z (both_fit c))

pub last_at_spec : {M : Type 1} → statement M
last_at_spec =
    tie.close
    (tie.spec
    mul_result
    shared_slice_copy_out_result
    sub_result
    sub_result_2
    mul_result_2
    shared_slice_copy_out_result_2
    sub_result_3
    returns)
