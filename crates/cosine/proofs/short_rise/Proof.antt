-- `short_rise` meets its contract: zeros, the rise, and ones.
use mir.Syntax.{w64}
use mathlib.Core.Path.{sym, ◌∙◌}
use Prim.Native.Nat.{ℕ, ◌+◌, ◌-◌, ◌*◌, ◌/◌, ◌≤◌}
use native.Mathlib.Omega.{arith}
use borrow.Author.Rules.{rules}
use mir.Facts.{to_z-of_z}
use Rattle.cosine.specs.Cosine.{quarter}
use Rattle.cosine.specs.Kernels.{d}
use Rattle.cosine.specs.LengthLaws.{d-most, rise_parts}
use Rattle.cosine.specs.KernelLaws.{short-zero, short-middle, short-one, short-angle}
use Rattle.cosine.proofs.short_rise.Statement.{statement}
use Rattle.cosine.proofs.short_rise.Tie as tie

returns : tie.Need-returns-then-i-third
returns c = sym (short-zero c.before.args.n c.before.args.i c.if-i-third.true)

mul_if2 : tie.Need-overflow_mul-third
mul_if2 c = search rules

parts_requires : tie.Need-parts-d-requires
parts_requires c κs = search rules

-- the angle
module _ (c : tie.After-parts-d) where
  abbrev start : tie.Start
  start = c.before.before.before

  abbrev n : ℕ
  n = start.args.n

  abbrev i : ℕ
  i = start.args.i

  abbrev angle : ℕ
  angle = 3 * d n * (2 * (i - n / 6) + 1)

  small : angle ≤ quarter
  small = short-angle n i (rise_parts n start.requires.1.0) c.before.if-i-third-2.true

  d_small : c.parts-d.result ≤ quarter
  d_small = rw c.parts-d.ensures (d-most n)

mul_cosine : tie.Need-overflow_mul-d
mul_cosine c = omega (arith, d_small c)

mul_cosine_2 : tie.Need-overflow_mul-i
mul_cosine_2 c = search rules

add_cosine : tie.Need-overflow_add-i
add_cosine c = search rules

mul_cosine_3 : tie.Need-overflow_mul-d-then-i-third-2
mul_cosine_3 c = rw c.parts-d.ensures (omega (arith, small c))

sub_cosine : tie.Need-overflow_sub-d
sub_cosine c = rw c.parts-d.ensures (small c)

cosine_requires : tie.Need-cosine-requires
cosine_requires c κs = search rules

returns_2 : tie.Need-returns-then-i-third-2
returns_2 c =
    let p = c.before in
    to_z-of_z {w = w64} (record { sfits = c.cosine.type_inv })
    ∙ (rw p.parts-d.ensures at c.cosine.ensures)
    ∙ sym (short-middle (n p) (i p) (rise_parts (n p) (start p).requires.1.0) p.before.before.if-i-third.false p.before.if-i-third-2.true)

returns_3 : tie.Need-returns
returns_3 c = sym (short-one c.before.before.args.n c.before.before.args.i c.if-i-third-2.false)

pub short_rise_spec : {M : Type 1} → statement M
short_rise_spec =
    tie.close
    (tie.spec
    returns
    mul_if2
    parts_requires
    mul_cosine
    mul_cosine_2
    add_cosine
    mul_cosine_3
    sub_cosine
    cosine_requires
    returns_2
    returns_3)
