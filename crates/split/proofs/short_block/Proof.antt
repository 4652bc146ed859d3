-- `short_block` meets its contract: the sums of the split, rounded.
use mathlib.Core.Path.{◌≡◌, sym, ◌∙◌}
use mathlib.Core.List.{List}
use Prim.Native.Nat.{ℕ, ◌/◌, ◌^◌, ◌≤◌, ◌<◌}
use native.Mathlib.Omega.{arith}
use lib.ListN.{length}
use lib.IntN.{ℤ, nat_abs}
use Rattle.arithmetic.specs.Lists.{at}
use Rattle.split.specs.ShortStepLaws.{middle-length, plus-length, minus-length, middle_small, plus_small, minus_small, short-step}
use borrow.Author.Rules.{rules}
use Rattle.split.proofs.short_block.Statement.{statement}
use Rattle.split.proofs.short_block.Tie as tie

module _ (c : tie.Start) where
  abbrev n : ℕ
  n = c.args.n

  abbrev block : List ℤ
  block = c.args.block.now

  abbrev a : List ℤ
  a = c.args.a.now

  abbrev plus : List ℤ
  plus = c.args.plus.now

  abbrev minus : List ℤ
  minus = c.args.minus.now

  block_small : (i : ℕ) → i < n → nat_abs (at block i) ≤ 2 ^ 23
  block_small i p = c.requires.0.given.small.small i (rw c.requires.0.given.all p)

  a_long : length a ≡ n / 6
  a_long = middle-length n c.requires.0.given.few (at block) block_small a plus minus c.requires.1.0

coefficients_requires : tie.Need-coefficients-requires
coefficients_requires c κs =
    let s = c.before in
    let N = n s in
    let few = s.requires.0.given.few in
    let u = at (block s) in
    let b = block_small s in
    let r = s.requires.1.0 in (plus-length N few u b (a s) (plus s) (minus s) r ∙ sym (a_long s), (minus-length N few u b (a s) (plus s) (minus s) r ∙ sym (a_long s), (s.requires.1.1 ∙ omega (arith, a_long s, s.requires.0.given.whole.twelve), (middle_small N few u b (a s) (plus s) (minus s) r, (plus_small N few u b (a s) (plus s) (minus s) r, minus_small N few u b (a s) (plus s) (minus s) r)))))

same_length : tie.Need-shape_of-out
same_length c = search rules

returns : tie.Need-returns
returns c =
    let f = c.before in
    let s = f.before.before in
    let q = s.requires in
    short-step (n s) s.args.joints.left s.args.joints.right q.0.given.whole s.args.x.now (length (a s)) (block s) (a s) (plus s) (minus s) _ (a_long s) q.0.is q.1.0 f.coefficients.ensures

pub short_block_spec : {M : Type 1} → statement M
short_block_spec = tie.close (tie.spec coefficients_requires same_length returns)
