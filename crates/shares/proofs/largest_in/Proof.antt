-- `largest_in` meets its contract. Invariant: the largest of the first k.
use mathlib.Core.Path.{◌≡◌, sym, ◌∙◌, ap}
use Prim.Native.Nat.{ℕ, ◌-◌, ◌/◌, ◌<◌}
use native.Mathlib.Omega.{arith}
use borrow.Author.Rules.{rules}
use Rattle.cosine.specs.LengthLaws.{tabled_length}
use Rattle.shares.specs.Products.{change_times, largest_in}
use Rattle.shares.specs.LargestLaws.{Found, best_none, best-inside, found-more, found-same}
use Rattle.shares.proofs.largest_in.Statement.{statement}
use Rattle.shares.proofs.largest_in.Lts.{then-most-s, else-most-s}
use Rattle.shares.proofs.largest_in.Tie as tie

abbrev invariant-loop : tie.invariant-loop-k
invariant-loop cos n i x y best₀ most₀ k₀ k_end b most k = Found (change_times n i x y) k (n / 2) b most

abbrev decreases-loop : tie.decreases-loop-k
decreases-loop cos n i x y best₀ most₀ k₀ k_end b most k = n / 2 - k

module _ (s : tie.Start invariant-loop decreases-loop) where
  abbrev f : ℕ → ℕ
  f = change_times s.args.n s.args.i s.args.x.now s.args.y.now

  some : 0 < s.args.n / 2
  some = omega (arith, (tabled_length s.args.n s.requires.0.1).twelve, (tabled_length s.args.n s.requires.0.1).some)

change_times_requires : tie.Need-change_times-most-requires invariant-loop decreases-loop
change_times_requires c κs = ((c.requires.0.0, c.requires.0.1, c.requires.0.2, some c), c.requires.1)

loop-holds : tie.Need-loop-k-init invariant-loop decreases-loop
loop-holds c =
    let g = f c.before in
    record { inside = omega arith; best_is = sym (best_none g); most_is = c.change_times-most.ensures.0 ∙ ap g (sym (best_none g)); few = c.change_times-most.ensures.1 }

change_times_requires_2 : tie.Need-change_times-s-requires invariant-loop decreases-loop
change_times_requires_2 c κs = let s = c.before.before.before in ((s.requires.0.0, s.requires.0.1, s.requires.0.2, omega (arith, c.loop-k-test.true)), s.requires.1)

add_k : tie.Need-overflow_step-k invariant-loop decreases-loop
add_k c = search rules

loop-less : tie.Need-loop-k-smaller invariant-loop decreases-loop
loop-less c = search rules

loop-again : tie.Need-loop-k-preserved invariant-loop decreases-loop
loop-again c =
    let t = c.before in
    let s = t.before.before.before.before in
    let l = t.before.before.loop-k in
    let k : l.k < s.args.n / 2 = omega (arith, t.before.loop-k-test.true) in
    elim c.if-most-s.branch [
      | then-most-s w ↦ found-more (f s) l.k (s.args.n / 2) l.best l.most t.change_times-s.result c.if-most-s.best c.if-most-s.most l.invariant k t.change_times-s.ensures.0 t.change_times-s.ensures.1 w.if-most-s.true w.best-is w.most-is
      | else-most-s w ↦ found-same (f s) l.k (s.args.n / 2) l.best l.most t.change_times-s.result c.if-most-s.best c.if-most-s.most l.invariant k t.change_times-s.ensures.0 w.if-most-s.false w.best-is w.most-is
    ]

returns : tie.Need-returns invariant-loop decreases-loop
unfolding largest_in
returns c =
    let s = c.before.before.before in
    let l = c.before.loop-k in
    let e : l.k ≡ s.args.n / 2 = omega (arith, l.invariant.inside, c.loop-k-test.false) in
    (rw (l.invariant.best_is, l.invariant.most_is, e), l.invariant.few, rw (l.invariant.best_is, e) (best-inside (f s) (s.args.n / 2) (some s)))

pub largest_in_spec : {M : Type 1} → statement M
largest_in_spec =
    tie.close
    (tie.spec
    invariant-loop
    decreases-loop
    change_times_requires
    loop-holds
    change_times_requires_2
    add_k
    loop-less
    loop-again
    returns)
