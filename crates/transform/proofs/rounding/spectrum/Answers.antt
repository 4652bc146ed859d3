use Rattle.std.specs.Prelude.{List, ℕ, ◌+◌, ◌*◌, ◌<◌, ◌≤◌, length}
use Rattle.std.proofs.Common.{arith, ap, ◌∙◌, ℤ, ◌^◌, w32, w64, ◌≡◌, to_z, of_z}
use Rattle.std.proofs.Math.Facts.{to_z-of_z}
use Rattle.arithmetic.specs.Rounding.{rnd}
use Rattle.arithmetic.specs.Lists.{at, Small}
use Rattle.arithmetic.specs.OrderLaws.{sfits_abs}
use Rattle.arithmetic.specs.ListLaws.{filled_none, filled_more, filled-all}
use Rattle.transform.proofs.Shifts.{bounds}
use Rattle.transform.proofs.rounding.spectrum.Goals as goal

-- a sum as the machine has it
read : (t : List ℤ) (k i : ℕ) → 28 ≤ k → k ≤ 30 → Small t (9 * 2 ^ (k + 27)) → i < length t → to_z w64 (of_z w64 (at t i)) ≡ at t i
read t k i least most s less = to_z-of_z {w = w64} (sfits_abs (at t i) (omega (arith, (bounds (at t i) k least most (s.small i less)).0)))

pub coefficient-requires : goal.coefficient-requires
coefficient-requires c =
    let q = c.requires in
    let less : c.loop-i.i < length c.args.t.now = omega (arith, q.out_len) in
    record { least = q.least; most = q.most; small = rw (read c.args.t.now c.args.k c.loop-i.i q.least q.most q.small less) (q.small.small c.loop-i.i less) }

pub loop-i-init : goal.loop-i-init
loop-i-init c = filled_none (λ i. rnd (at c.args.t.now i) (2 ^ c.args.k)) c.args.out.now

pub loop-i-preserved : goal.loop-i-preserved
loop-i-preserved c =
    let q = c.requires in
    filled_more (λ i. rnd (at c.args.t.now i) (2 ^ c.args.k)) c.loop-i.i c.loop-i.out c.args.out.now _ c.loop-i.invariant (omega (arith, c.loop-i.invariant.room))
    (to_z-of_z {w = w32} (record { sfits = c.coefficient.type_inv }) ∙ c.coefficient.ensures
    ∙ ap (λ (z : ℤ). rnd z (2 ^ c.args.k)) (read c.args.t.now c.args.k c.loop-i.i q.least q.most q.small (omega (arith, q.out_len))))

pub returns : goal.returns
returns c =
    let e : c.loop-i.i ≡ length c.args.t.now = omega (arith, c.requires.out_len, c.loop-i.auto.i-end) in
    filled-all (λ i. rnd (at c.args.t.now i) (2 ^ c.args.k)) (length c.args.t.now) c.loop-i.out c.args.out.now (rw e at c.loop-i.invariant) c.requires.out_len
