-- `clamped` meets its contract: the clamp goes before the floor.
use Rattle.std.proofs.Common.{rules, arith, refl, ap, ◌∙◌, ◌≡◌, ℕ, ◌*◌, ◌≤◌, ◌<◌, Bool, true, false, ℤ, pos, neg_ℤ, ◌≤ℤ◌, ◌-ℤ◌, to_z, of_z, to_z-of_z, SFits, w32, T}
use Rattle.std.specs.Int.{int_max, int_min, w16}
use Rattle.std.proofs.lemmas.Int.{to_z_pos}
use Rattle.std.specs.Int.Signed.{lt_z}
use Rattle.arithmetic.specs.Rounding.{floor}
use Rattle.arithmetic.specs.IntegerLaws.{ints}
use Rattle.arithmetic.specs.OrderLaws.{bounds, lt_z-true}
use Rattle.arithmetic.specs.SampleLaws.{limited, floor-limited, limited-low, limited-high}
use Rattle.arithmetic.specs.QuotientLaws.{quarters, quarters-few}
use Rattle.arithmetic.proofs.clamped.Goals as goal

-- std's clamp is `limited`, where the ends are in order
clamp_is : (low high z : ℤ) → low ≤ℤ high → int_max low (int_min z high) ≡ limited low high z
unfolding limited
clamp_is low high z order = go (lt_z z low) (lt_z high z) refl refl (lt_z high low) refl
  where
    go : (a b : Bool) → lt_z z low ≡ a → lt_z high z ≡ b → (k : Bool) → lt_z high low ≡ k → int_max low (int_min z high) ≡ limited low high z
    go a b e f true g = absurd (omega (arith, simp ints at order, simp ints at (lt_z-true high low g)))
    go true true e f false g = absurd (omega (arith, simp ints at order, simp ints at (lt_z-true z low e), simp ints at (lt_z-true high z f)))
    go true false e f false g = rw (f, e)
    go false true e f false g = rw (f, e, g)
    go false false e f false g = rw (f, e)

-- the edge, and the two ends
module _ (m : ℕ) (quarter : T (quarters m)) where
  some : 0 < m
  some = (quarters-few m quarter).0

  few : m ≤ 54
  few = (quarters-few m quarter).1

  abbrev e : ℕ
  e = 32768 * m

  edge-is : to_z w32 e ≡ pos e
  edge-is = to_z_pos w32 _ (omega (arith, few))

  low-is : pos 0 -ℤ pos e ≡ neg_ℤ (pos e)
  low-is = simp ints (omega arith)

  low_fits : SFits w32 (neg_ℤ (pos e))
  low_fits = simp bounds (omega (arith, few))

  high_fits : SFits w32 (pos e -ℤ pos 1)
  high_fits = simp bounds (omega (arith, few))

  in_order : neg_ℤ (pos e) ≤ℤ (pos e -ℤ pos 1)
  in_order = simp ints (omega (arith, some))

  -- what the clamp gives, as the machine has it
  clamped-is :
      (b r : ℤ) → SFits w32 b → SFits w32 r
      → r ≡ int_max (to_z w32 (of_z w32 (pos 0 -ℤ to_z w32 e))) (int_min (to_z w32 (of_z w32 b)) (to_z w32 (of_z w32 (to_z w32 e -ℤ pos 1))))
      → to_z w32 (of_z w32 r) ≡ limited (neg_ℤ (pos e)) (pos e -ℤ pos 1) b
  clamped-is b r f g is = to_z-of_z g ∙ is ∙ rw (to_z-of_z f, edge-is, low-is, to_z-of_z low_fits, to_z-of_z high_fits) (clamp_is _ _ _ in_order)

pub overflow_mul-edge : goal.overflow_mul-edge
overflow_mul-edge c = omega (arith, few c.args.m c.requires)

pub overflow_cast-edge : goal.overflow_cast-edge
overflow_cast-edge c = let h = few c.args.m c.requires in search rules

pub overflow_sub-edge : goal.overflow_sub-edge
overflow_sub-edge c = rw (edge-is c.args.m c.requires, low-is c.args.m c.requires) (low_fits c.args.m c.requires)

pub overflow_sub-edge-2 : goal.overflow_sub-edge-2
overflow_sub-edge-2 c = rw (edge-is c.args.m c.requires) (high_fits c.args.m c.requires)

pub clamp-requires : goal.clamp-requires
clamp-requires c = rw (edge-is c.args.m c.requires, low-is c.args.m c.requires, to_z-of_z (low_fits c.args.m c.requires), to_z-of_z (high_fits c.args.m c.requires)) (in_order c.args.m c.requires)

pub quotient-requires : goal.quotient-requires
quotient-requires c = (c.requires, rw (clamped-is c.args.m c.requires c.args.b c.clamp.result c.ranges.b (record { sfits = c.clamp.type_inv }) c.clamp.ensures.value) (limited-low c.args.b (some c.args.m c.requires) refl), rw (clamped-is c.args.m c.requires c.args.b c.clamp.result c.ranges.b (record { sfits = c.clamp.type_inv }) c.clamp.ensures.value) (limited-high c.args.b (some c.args.m c.requires) refl))

pub returns : goal.returns
returns c =
    to_z-of_z {w = w16} (record { sfits = c.quotient.type_inv })
    ∙ c.quotient.ensures
    ∙ ap (λ (z : ℤ). floor z c.args.m) (clamped-is c.args.m c.requires c.args.b c.clamp.result c.ranges.b (record { sfits = c.clamp.type_inv }) c.clamp.ensures.value)
    ∙ floor-limited c.args.b (some c.args.m c.requires) refl
