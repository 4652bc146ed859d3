use Rattle.std.specs.Prelude.{ℕ, ◌<◌, ◌≤◌, ◌^◌, ◌≡◌, pos, length, nat_abs, ℤ}
use Rattle.std.proofs.Common.{arith, below_more, ◌∙◌, w32}
use Rattle.std.proofs.Math.Facts.{to_z-of_z}
use Rattle.arithmetic.specs.ListLaws.{filled_none, filled_more, filled-all, get_d_table}
use Rattle.transform.specs.HopLaws.{windowed}
use Rattle.split.proofs.block.window_hop.Goals as goal

pub loop-n-init : goal.loop-n-init
loop-n-init c = (filled_none (λ n. windowed c.args.half.now n c.args.x.now n) c.args.out.now, λ i p. absurd (omega arith))

pub loop-n-preserved : goal.loop-n-preserved
loop-n-preserved c =
    let f : ℕ → ℤ = λ n. windowed c.args.half.now n c.args.x.now n in
    let l = c.loop-n in (
      filled_more f l.n l.out c.args.out.now _ l.invariant.0 (omega (arith, l.invariant.0.room))
          (to_z-of_z {w = w32} {z = c.windowed.result} (record { sfits = c.windowed.type_inv }) ∙ c.windowed.ensures.value),
      below_more (λ i. nat_abs (f i) ≤ 2 ^ 23) l.n l.invariant.1 (rw c.windowed.ensures.value at c.windowed.ensures.result_bound),
    )

pub returns-clause-out_after : goal.returns-clause-out_after
returns-clause-out_after c =
    let e : c.loop-n.n ≡ length c.args.half.now = omega (arith, c.loop-n.auto.n-end, c.requires.out_len) in
    filled-all (λ n. windowed c.args.half.now n c.args.x.now n) (length c.args.half.now) c.loop-n.out c.args.out.now (rw e at c.loop-n.invariant.0) c.requires.out_len

pub returns-clause-small : goal.returns-clause-small
returns-clause-small c =
    record {
      small = λ i p.
          let q : i < length c.args.half.now = omega (arith, c.loop-n.invariant.0.room, c.requires.out_len) in
          rw (returns-clause-out_after c, get_d_table (λ n. windowed c.args.half.now n c.args.x.now n) (pos 0) (length c.args.half.now) i q)
          (c.loop-n.invariant.1 i (omega (arith, c.loop-n.auto.n-end, c.requires.out_len)));
    }
