-- `is_bounded` meets its contract: its tests are those of the definition, in its order.
use mathlib.Core.Path.{◌≡◌, sym, ◌∙◌}
use mathlib.Core.Bool.{true, false}
use mathlib.Core.List.{List}
use Prim.Native.Nat.{ℕ}
use native.Mathlib.Omega.{arith}
use borrow.Author.Rules.{rules}
use borrow.Author.Tests.{not-true, not-false}
use lib.IntN.{ℤ}
use lib.Signed.{le_z, lt_z}
use mir.Syntax.{w64}
use mir.Val.{to_z, of_z}
use mir.Facts.{to_z-of_z}
use Rattle.arithmetic.specs.TestLaws.{is_T}
use Rattle.text.specs.Number.{is_number, most_digits, value}
use Rattle.text.specs.NumberLaws.{number_wider}
use Rattle.steps.specs.Table.{digits, bounded}
use Rattle.steps.proofs.row.is_bounded.Statement.{statement}
use Rattle.steps.proofs.row.is_bounded.Tie as tie

module _ (lo hi : ℤ) (f : List ℕ) where
  no_number : is_number digits f ≡ false → bounded lo hi f ≡ false
  unfolding bounded
  no_number e = rw e

  too_low : is_number digits f ≡ true → lt_z (value f) lo ≡ true → bounded lo hi f ≡ false
  unfolding bounded
  too_low e l = rw (e, l)

  by_high : is_number digits f ≡ true → lt_z (value f) lo ≡ false → bounded lo hi f ≡ le_z (value f) hi
  unfolding bounded
  by_high e l = rw (e, l)

is_number_requires : tie.Need-is_number-requires
is_number_requires c κs = search rules

returns : tie.Need-returns-then-not-is_number
returns c =
    let a = c.before.before.before.args in
    sym (no_number a.least a.most a.field.now (sym c.before.is_number.ensures ∙ not-true c.before.is_number.result c.if-not-is_number.true-raw))

-- behind the test of the form
module _ (c : tie.After-value-v) where
  abbrev text : List ℕ
  text = c.before.before.before.before.args.field.now

  form : is_number digits text ≡ true
  form = sym c.before.before.is_number.ensures ∙ not-false c.before.before.is_number.result c.before.if-not-is_number.false-raw

  -- the numbers, as the machine has them
  value-is : to_z w64 (of_z w64 c.value-v.result) ≡ value text
  value-is = to_z-of_z {w = w64} (record { sfits = c.value-v.type_inv }) ∙ c.value-v.ensures

value_requires : tie.Need-value-v-requires
value_requires c κs =
    number_wider digits most_digits c.before.before.before.args.field.now (omega arith)
    (is_T (sym c.before.is_number.ensures ∙ not-false c.before.is_number.result c.if-not-is_number.false-raw))

returns_2 : tie.Need-returns-then-v-least
returns_2 c =
    let v = c.before in
    let a = v.before.before.before.before in
    sym (too_low a.args.least a.args.most (text v) (form v) (rw (value-is v, to_z-of_z a.ranges.least) at c.if-v-least.true))

returns_3 : tie.Need-returns
returns_3 c =
    let v = c.before in
    let a = v.before.before.before.before in
    rw
    (value-is v, to_z-of_z a.ranges.most)
    (sym (by_high a.args.least a.args.most (text v) (form v) (rw (value-is v, to_z-of_z a.ranges.least) at c.if-v-least.false)))

pub is_bounded_spec : {M : Type 1} → statement M
is_bounded_spec = tie.close (tie.spec is_number_requires returns value_requires returns_2 returns_3)
