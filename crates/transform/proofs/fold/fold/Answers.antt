use Rattle.std.specs.Prelude.{◌<◌, ◌≤◌, ◌^◌, ◌≡◌, pos, length, nat_abs}
use Rattle.std.proofs.Common.{arith, below_more, ◌∙◌, refl, w32}
use Rattle.std.proofs.Math.Facts.{to_z-of_z}
use Rattle.arithmetic.specs.ListLaws.{filled_none, filled_more, filled-all, get_d_table}
use Rattle.transform.specs.HopLaws.{hops}
use Rattle.transform.proofs.fold.fold.Goals as goal

pub loop-j-init : goal.loop-j-init
loop-j-init c = (filled_none (hops (length c.args.z.now) c.args.rise.now c.args.fall.now c.args.x.now) c.args.z.now, λ i p. absurd (omega arith))

pub loop-j-preserved : goal.loop-j-preserved
loop-j-preserved c =
    let f = hops (length c.args.z.now) c.args.rise.now c.args.fall.now c.args.x.now in
    let l = c.loop-j in (
      filled_more f l.j l.z c.args.z.now _ l.invariant.0 (omega (arith, l.invariant.0.room))
          (to_z-of_z {w = w32} {z = c.folded_at.result} (record { sfits = c.folded_at.type_inv }) ∙ c.folded_at.ensures.value),
      below_more (λ i. nat_abs (f i) ≤ 2 ^ 24) l.j l.invariant.1 (rw c.folded_at.ensures.value at c.folded_at.ensures.result_bound),
    )

module _ (c : goal.After-loop-j) where
  ended : c.loop-j.j ≡ length c.args.z.now
  ended = omega (arith, c.loop-j.auto.j-end)

pub returns-clause-z_after : goal.returns-clause-z_after
returns-clause-z_after c =
    filled-all (hops (length c.args.z.now) c.args.rise.now c.args.fall.now c.args.x.now) (length c.args.z.now) c.loop-j.z c.args.z.now (rw (ended c) at c.loop-j.invariant.0) refl

pub returns-clause-small : goal.returns-clause-small
returns-clause-small c =
    let f = hops (length c.args.z.now) c.args.rise.now c.args.fall.now c.args.x.now in
    record {
      small = λ i p.
          let q : i < length c.args.z.now = omega (arith, c.loop-j.invariant.0.room) in
          rw (returns-clause-z_after c, get_d_table f (pos 0) (length c.args.z.now) i q) (c.loop-j.invariant.1 i (omega (arith, ended c)));
    }
