-- `window` meets its contract: a turn more does not change C, and d × N is a quarter.
use mir.Syntax.{w64}
use mathlib.Core.Path.{◌≡◌, ◌∙◌, ap}
use Prim.Native.Nat.{ℕ, ◌+◌, ◌-◌, ◌*◌, ◌≤◌}
use native.Mathlib.Nat.{mul-le-mul_left}
use native.Mathlib.Omega.{arith}
use borrow.Author.Rules.{rules}
use lib.IntN.{pos, ◌+ℤ◌, ◌-ℤ◌, ◌*ℤ◌}
use mir.Facts.{to_z-of_z}
use Rattle.arithmetic.specs.IntegerLaws.{posints}
use Rattle.cosine.specs.Cosine.{turn, quarter, C}
use Rattle.cosine.specs.Kernels.{W, d}
use Rattle.cosine.specs.CosineLaws.{C_period}
use Rattle.cosine.specs.LengthLaws.{Length, tabled_length}
use Rattle.cosine.proofs.window.Statement.{statement}
use Rattle.cosine.proofs.window.Tie as tie

module _ (c : tie.Start) where
  len : Length c.args.n
  len = tabled_length c.args.n c.requires.1.0

  -- d × (2i + 1) is below half a turn
  angle≤ : d c.args.n * (2 * c.args.i + 1) ≤ quarter + quarter
  angle≤ =
      let p : 2 * c.args.i + 1 ≤ 2 * c.args.n = omega arith in
      omega (arith, mul-le-mul_left (d c.args.n) p, double (d c.args.n) c.args.n len.parts)
    where
      double : (d n : ℕ) → d * n ≡ quarter → d * (2 * n) ≡ quarter + quarter
      double d n h = omega arith

parts_requires : tie.Need-parts-d-requires
parts_requires c κs = search rules

add_cosine : tie.Need-overflow_add-cosine
add_cosine c = search rules

mul_cosine : tie.Need-overflow_mul-i
mul_cosine c = omega (arith, (len c.before).most)

add_cosine_2 : tie.Need-overflow_add-i
add_cosine_2 c = omega (arith, (len c.before).most)

mul_cosine_2 : tie.Need-overflow_mul-d
mul_cosine_2 c = rw c.parts-d.ensures (omega (arith, angle≤ c.before))

sub_cosine : tie.Need-overflow_sub-d
sub_cosine c = rw c.parts-d.ensures (omega (arith, angle≤ c.before))

cosine_requires : tie.Need-cosine-requires
cosine_requires c κs = search rules

returns : tie.Need-returns
unfolding W
returns c =
    let s = c.before.before in
    let n = s.args.n in
    let b = 2 * s.args.i + 1 in
    to_z-of_z {w = w64} (record { sfits = c.cosine.type_inv })
    ∙ (rw c.before.parts-d.ensures at c.cosine.ensures)
    ∙ ap C (back (d n) n b (len s).parts (angle≤ s))
    ∙ C_period (pos (d n) *ℤ (pos n -ℤ pos b)) (pos 1)
  where
    back : (d n b : ℕ) → d * n ≡ quarter → d * b ≤ quarter + quarter → pos (turn + quarter - d * b) ≡ pos d *ℤ (pos n -ℤ pos b) +ℤ pos turn *ℤ pos 1
    back d n b h l = simp posints (omega arith)

pub window_spec : {M : Type 1} → statement M
window_spec =
    tie.close
    (tie.spec parts_requires add_cosine mul_cosine add_cosine_2 mul_cosine_2 sub_cosine cosine_requires returns)
