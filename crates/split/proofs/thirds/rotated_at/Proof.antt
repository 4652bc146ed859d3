-- `rotated_at` meets its contract: e and f are turned by their cosines, which keeps them below 2^55, and 2^29 once divided.
use mathlib.Core.Path.{◌≡◌, ◌∙◌}
use Prim.Native.Nat.{ℕ, ◌+◌, ◌-◌, ◌*◌, ◌<◌, ◌^◌, ◌≤◌}
use native.Mathlib.Nat.{le_trans}
use native.Mathlib.Omega.{arith}
use lib.ListN.{length}
use lib.IntN.{ℤ, nat_abs, ◌+ℤ◌, ◌*ℤ◌}
use mir.Syntax.{w32, w64}
use mir.Val.{SFits, to_z, of_z}
use mir.Facts.{to_z-of_z}
use Rattle.arithmetic.specs.Lists.{at, Small}
use Rattle.arithmetic.specs.OrderLaws.{sfits_abs}
use Rattle.split.specs.ShortRoute.{e, f}
use Rattle.split.specs.ShortSizeLaws.{e-size, f-size}
use Rattle.split.specs.TurnLaws.{rotated, limit, limit-most, turn-size, rotated-size}
use borrow.Author.Rules.{rules}
use Rattle.split.proofs.thirds.rotated_at.Statement.{statement}
use Rattle.split.proofs.thirds.rotated_at.Tie as tie

module _ (c : tie.Start) where
  abbrev N : ℕ
  N = length c.args.y.now

  abbrev u : ℕ → ℤ
  u = at c.args.y.now

  abbrev n : ℕ
  n = c.args.n

  abbrev p : ℤ
  p = at c.args.p.now n

  abbrev q : ℤ
  q = at c.args.q.now n

  abbrev Q : ℕ
  Q = limit c.args.size

  small : (i : ℕ) → i < N → nat_abs (u i) ≤ Q
  small i l = c.requires.1.0.small i l

  within : Small c.args.y.now (2 ^ 26)
  within = record { small = λ i l. le_trans (small i l) (limit-most c.args.size) }

e_at_requires : tie.Need-e_at-requires
e_at_requires c κs = (c.requires.0, within c)

f_at_requires : tie.Need-f_at-requires
f_at_requires c κs = let s = c.before in (s.requires.0, within s)

mul_turn : tie.Need-offset_bounds-p-n
mul_turn c = search rules

shared_slice_copy_out_turn : tie.Need-bounds-p-n
shared_slice_copy_out_turn c = let s = c.before.before in rw s.requires.1.1.p_long s.requires.0

mul_turn_2 : tie.Need-offset_bounds-q-n
mul_turn_2 c = search rules

shared_slice_copy_out_turn_2 : tie.Need-bounds-q-n
shared_slice_copy_out_turn_2 c = let s = c.before.before.before in rw s.requires.1.1.q_long s.requires.0

-- e, f and their cosines, as the machine has them
module _ (c : tie.After-turn-arg-2-1) where
  abbrev s : tie.Start
  s = c.before.before.before.before

  e-is : to_z w32 (of_z w32 c.before.before.before.e_at.result) ≡ e (N s) (u s) (n s)
  e-is = let x = c.before.before.before.e_at in to_z-of_z {w = w32} {z = x.result} (record { sfits = x.type_inv }) ∙ x.ensures

  f-is : to_z w32 (of_z w32 c.before.before.f_at.result) ≡ f (N s) (u s) (n s)
  f-is = let x = c.before.before.f_at in to_z-of_z {w = w32} {z = x.result} (record { sfits = x.type_inv }) ∙ x.ensures

  p_is : to_z w32 (of_z w32 (p s)) ≡ p s
  p_is = to_z-of_z {w = w32} {z = p s} (record { sfits = c.before.turn-arg-1.given })

  q_is : to_z w32 (of_z w32 (q s)) ≡ q s
  q_is = to_z-of_z {w = w32} {z = q s} (record { sfits = c.turn-arg-2-1.given })

turn_requires : tie.Need-turn-requires
turn_requires c κs =
    let x = s c in
    rw (e-is c, f-is c, p_is c, q_is c) (
      omega (arith, e-size (N x) (u x) (Q x) (small x) (n x) x.requires.0, limit-most x.args.size),
      (omega (arith, f-size (N x) (u x) (Q x) (small x) (n x) x.requires.0, limit-most x.args.size), (omega (arith, x.requires.1.1.p_small (n x) x.requires.0), x.requires.1.1.q_small (n x) x.requires.0)),
    )

module _ (c : tie.After-turn) where
  abbrev x : tie.Start
  x = s c.before

  abbrev total : ℤ
  total = e (N x) (u x) (n x) *ℤ p x +ℤ f (N x) (u x) (n x) *ℤ q x

  total_abs : nat_abs total ≤ 2 ^ 26 * (8 * Q x)
  total_abs = turn-size (N x) (u x) (Q x) (small x) x.args.p.now x.args.q.now x.requires.1.1 (n x) x.requires.0

  total-is : to_z w64 (of_z w64 c.turn.result) ≡ total
  total-is = to_z-of_z {w = w64} {z = c.turn.result} (record { sfits = c.turn.type_inv }) ∙ c.turn.ensures ∙ rw (e-is c.before, f-is c.before, p_is c.before, q_is c.before)

rnd_shift_requires : tie.Need-rnd_shift-requires
rnd_shift_requires c κs =
    let room : nat_abs (to_z w64 (of_z w64 c.turn.result)) + 2 ^ (26 - 1) < 2 ^ 63 = rw (total-is c) (omega (arith, total_abs c, limit-most (x c).args.size)) in
    search rules

module _ (c : tie.After-rnd_shift) where
  abbrev z : tie.Start
  z = x c.before

  is : c.rnd_shift.result ≡ rotated (N z) (u z) z.args.p.now z.args.q.now (n z)
  unfolding rotated
  is = c.rnd_shift.ensures ∙ rw (total-is c.before)

  size : nat_abs c.rnd_shift.result ≤ 2 ^ 29
  size = rw is (omega (arith, rotated-size (N z) (u z) (Q z) (small z) z.args.p.now z.args.q.now z.requires.1.1 (n z) z.requires.0, limit-most z.args.size))

  fits : SFits w32 c.rnd_shift.result
  fits = sfits_abs c.rnd_shift.result (omega (arith, size))

cast_result : tie.Need-overflow_cast-result
cast_result c = rw (to_z-of_z {w = w64} {z = c.rnd_shift.result} (record { sfits = c.rnd_shift.type_inv })) (fits c)

returns : tie.Need-returns
returns c = rw (to_z-of_z {w = w64} {z = c.rnd_shift.result} (record { sfits = c.rnd_shift.type_inv }), to_z-of_z (fits c)) (is c, size c)

pub rotated_at_spec : {M : Type 1} → statement M
rotated_at_spec =
    tie.close
    (tie.spec
    e_at_requires
    f_at_requires
    mul_turn
    shared_slice_copy_out_turn
    mul_turn_2
    shared_slice_copy_out_turn_2
    turn_requires
    rnd_shift_requires
    cast_result
    returns)
