use Rattle.std.proofs.Common.{arith, refl, lit<, ◌≡◌}
use Rattle.std.specs.Prelude.{List, ℕ, ℤ}
use Rattle.arithmetic.specs.Lists.{every}
use Rattle.cosine.specs.Kernels.{lengths, tabled}
use Rattle.cosine.specs.LengthLaws.{splits_of, tabled_length, part_of, last-length}
use Rattle.stream.specs.StepLaws.{Step, Valid, step-at}
use Rattle.synthesis.proofs.advance_tail.Goals as goal

-- what a tabled length's callers show is a step's input
asked : (n N : ℕ) (x tail out : List ℤ) → n ≡ N → Valid n x tail out → Step N x tail out
asked n N x tail out e q =
    let l = tabled_length n q.0 in
    let s : Step n x tail out = record {
      part = part_of n q.0;
      divides = splits_of n q.0;
      most = omega (arith, l.most);
      input = record { most = omega (arith, l.most); long = q.1; small = q.2 };
      stored = q.3;
      bounded = q.4;
      room = q.5;
    } in
    rw e at s

pub step-requires : goal.step-requires
unfolding tabled every lengths
step-requires c =
    (lit< tt, (tabled_length 12 tt, (refl, asked c.args.n 12 c.args.x.now c.args.tail.now c.args.out.now c.if-n-eq12.true c.requires)))

pub step-requires-then-n-eq24 : goal.step-requires-then-n-eq24
unfolding tabled every lengths
step-requires-then-n-eq24 c =
    (lit< tt, (tabled_length 24 tt, (refl, asked c.args.n 24 c.args.x.now c.args.tail.now c.args.out.now c.if-n-eq24.true c.requires)))

pub step-requires-then-n-eq36 : goal.step-requires-then-n-eq36
unfolding tabled every lengths
step-requires-then-n-eq36 c =
    (lit< tt, (tabled_length 36 tt, (refl, asked c.args.n 36 c.args.x.now c.args.tail.now c.args.out.now c.if-n-eq36.true c.requires)))

pub step-requires-then-n-eq72 : goal.step-requires-then-n-eq72
unfolding tabled every lengths
step-requires-then-n-eq72 c =
    (lit< tt, (tabled_length 72 tt, (refl, asked c.args.n 72 c.args.x.now c.args.tail.now c.args.out.now c.if-n-eq72.true c.requires)))

pub step-requires-then-n-eq108 : goal.step-requires-then-n-eq108
unfolding tabled every lengths
step-requires-then-n-eq108 c =
    (lit< tt, (tabled_length 108 tt, (refl, asked c.args.n 108 c.args.x.now c.args.tail.now c.args.out.now c.if-n-eq108.true c.requires)))

pub step-requires-else-n-eq108 : goal.step-requires-else-n-eq108
unfolding tabled every lengths
step-requires-else-n-eq108 c =
    let e = last-length c.args.n c.requires.0 c.if-n-eq12.false c.if-n-eq24.false c.if-n-eq36.false c.if-n-eq72.false c.if-n-eq108.false in
    (lit< tt, (tabled_length 216 tt, (refl, asked c.args.n 216 c.args.x.now c.args.tail.now c.args.out.now e c.requires)))

pub returns-else-n-eq108-clause-tail_after : goal.returns-else-n-eq108-clause-tail_after
returns-else-n-eq108-clause-tail_after c =
    let e = last-length c.args.n c.requires.0 c.if-n-eq12.false c.if-n-eq24.false c.if-n-eq36.false c.if-n-eq72.false c.if-n-eq108.false in
    (step-at c.args.n 216 c.args.joints.left c.args.joints.right c.args.tail.now c.args.x.now c.args.x.now _ _ e refl (c.step-else-n-eq108.ensures.tail_after, c.step-else-n-eq108.ensures.out_after)).0

pub returns-else-n-eq108-clause-out_after : goal.returns-else-n-eq108-clause-out_after
returns-else-n-eq108-clause-out_after c =
    let e = last-length c.args.n c.requires.0 c.if-n-eq12.false c.if-n-eq24.false c.if-n-eq36.false c.if-n-eq72.false c.if-n-eq108.false in
    (step-at c.args.n 216 c.args.joints.left c.args.joints.right c.args.tail.now c.args.x.now c.args.x.now _ _ e refl (c.step-else-n-eq108.ensures.tail_after, c.step-else-n-eq108.ensures.out_after)).1
