-- `kernel` meets its contract: the angle is that of K, and small.
use mir.Syntax.{w64}
use mathlib.Core.Path.{◌∙◌}
use Prim.Native.Nat.{◌≤◌}
use native.Mathlib.Omega.{arith}
use borrow.Author.Rules.{rules}
use mir.Facts.{to_z-of_z}
use Rattle.cosine.specs.Cosine.{quarter}
use Rattle.cosine.specs.Kernels.{K}
use Rattle.cosine.specs.LengthLaws.{Length, tabled_length, part-fits, angle-fits, d-most}
use Rattle.cosine.proofs.kernel.Statement.{statement}
use Rattle.cosine.proofs.kernel.Tie as tie

module _ (c : tie.Start) where
  len : Length c.args.n
  len = tabled_length c.args.n c.requires.1.0

-- d is at most a quarter
most : (c : tie.After-parts-d) → c.parts-d.result ≤ quarter
most c = rw c.parts-d.ensures (d-most c.before.args.n)

parts_requires : tie.Need-parts-d-requires
parts_requires c κs = search rules

mul_cosine : tie.Need-overflow_mul-i
mul_cosine c = omega (arith, (len c.before).most, most c)

add_cosine : tie.Need-overflow_add-i
add_cosine c = omega (arith, (len c.before).most, most c)

add_cosine_2 : tie.Need-overflow_add-i-2
add_cosine_2 c = omega (arith, (len c.before).most, most c)

mul_cosine_2 : tie.Need-overflow_mul-d
mul_cosine_2 c = part-fits _ _ (omega (arith, most c)) (omega (arith, (len c.before).most))

mul_cosine_3 : tie.Need-overflow_mul-k
mul_cosine_3 c = omega (arith, (len c.before).most, most c)

add_cosine_3 : tie.Need-overflow_add-k
add_cosine_3 c = omega (arith, (len c.before).most, most c)

mul_cosine_4 : tie.Need-overflow_mul-d-2
mul_cosine_4 c = angle-fits _ _ _ (omega (arith, most c)) (omega (arith, (len c.before).most)) (omega (arith, (len c.before).most))

cosine_requires : tie.Need-cosine-requires
cosine_requires c κs = search rules

returns : tie.Need-returns
unfolding K
returns c = to_z-of_z {w = w64} (record { sfits = c.cosine.type_inv }) ∙ (rw c.before.parts-d.ensures at c.cosine.ensures)

pub kernel_spec : {M : Type 1} → statement M
kernel_spec =
    tie.close
    (tie.spec
    parts_requires
    mul_cosine
    add_cosine
    add_cosine_2
    mul_cosine_2
    mul_cosine_3
    add_cosine_3
    mul_cosine_4
    cosine_requires
    returns)
