-- `settle` meets its contract: the hop from V's first half, then the new tail from its second.
use mathlib.Core.Path.{◌≡◌}
use Prim.Native.Nat.{ℕ, ◌/◌, ◌^◌, ◌≤◌, ◌<◌}
use native.Mathlib.Omega.{arith}
use lib.ListN.{length}
use lib.IntN.{nat_abs}
use Rattle.arithmetic.specs.Lists.{at}
use Rattle.stream.specs.StepLaws.{Bounded, values_long, values-bounded, hop-step, tail_step}
use borrow.Author.Rules.{rules}
use Rattle.stream.proofs.settle.Statement.{statement}
use Rattle.stream.proofs.settle.Tie as tie

module _ (s : tie.Start) where
  abbrev n : ℕ
  n = s.args.n

  small : (k : ℕ) → k < n / 2 → nat_abs (at s.args.x.now k) ≤ 2 ^ 29
  small k p = s.requires.0.input.small.small k (omega (arith, s.requires.0.input.long))

  long : length s.args.v.now ≡ n
  long = values_long n s.args.joints.left s.args.joints.right s.requires.0.part s.args.x.now s.args.v.now small s.requires.1

  bounded : Bounded (n / 2) s.args.v.now
  bounded = values-bounded n s.args.joints.left s.args.joints.right s.requires.0.part s.args.x.now s.args.v.now small s.requires.1

fill_hop_requires : tie.Need-fill_hop-requires
fill_hop_requires c κs =
    let s = c.before in
    (s.requires.0.divides, (s.requires.0.most, (record { long = omega (arith, s.requires.0.stored, s.requires.0.most); bounded = s.requires.0.bounded }, (record { long = omega (arith, long s); bounded = bounded s }, s.requires.0.room))))

shift_requires : tie.Need-shift-requires
shift_requires c κs =
    let s = c.before.before.before.before in
    (omega (arith, s.requires.0.most), (omega (arith, long s), omega (arith, s.requires.0.stored, s.requires.0.most)))

same_length : tie.Need-shape_of-tail
same_length c = search rules

same_length_2 : tie.Need-shape_of-out
same_length_2 c = search rules

returns : tie.Need-returns
returns c =
    let s = c.before.before.before.before.before.before in
    let f = c.before.before.before.before in (
      tail_step (n s) s.args.joints.left s.args.joints.right s.requires.0.part s.args.x.now s.args.v.now (small s) s.requires.1 s.args.tail.now _ c.before.shift.ensures,
      hop-step (n s) s.args.joints.left s.args.joints.right s.requires.0.part s.args.x.now s.args.v.now (small s) s.requires.1 s.args.tail.now _ f.fill_hop.ensures,
    )

pub settle_spec : {M : Type 1} → statement M
settle_spec =
    tie.close (tie.spec fill_hop_requires shift_requires same_length same_length_2 returns)
