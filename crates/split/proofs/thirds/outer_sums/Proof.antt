-- `outer_sums` meets its contract: B and G are small enough to join.
use mathlib.Core.Path.{◌≡◌, sym, ap, ◌∙◌}
use mathlib.Core.List.{List}
use Prim.Native.Nat.{ℕ, ◌/◌, ◌^◌, ◌≤◌, ◌<◌}
use native.Mathlib.Omega.{arith}
use lib.ListN.{length}
use lib.IntN.{ℤ, nat_abs}
use Rattle.arithmetic.specs.Lists.{at, table, Small}
use Rattle.arithmetic.specs.ListLaws.{length-table}
use Rattle.split.specs.ShortRoute.{B, G}
use Rattle.split.specs.ShortSizeLaws.{B-size, G-size}
use Rattle.split.specs.ShortStepLaws.{table_small, plus_step, minus-step}
use Rattle.split.specs.PartLaws.{third, third-middle, third_r_b, third_r_c, A_are, B_are, G_are}
use borrow.Author.Rules.{rules}
use Rattle.split.proofs.thirds.outer_sums.Statement.{statement}
use Rattle.split.proofs.thirds.outer_sums.Tie as tie

module _ (c : tie.Start) where
  abbrev N : ℕ
  N = c.args.n

  abbrev u : ℕ → ℤ
  u = at c.args.y.now

  abbrev b : List ℤ
  b = c.args.b.now

  abbrev g : List ℤ
  g = c.args.g.now

  small : (i : ℕ) → i < N → nat_abs (u i) ≤ 2 ^ 23
  small i p = c.requires.0.given.small.small i (rw c.requires.0.given.all p)

  b_is : b ≡ table (N / 6) (B N u)
  b_is = B_are N c.requires.0.given.whole c.requires.0.given.part u (third 1 N u) b c.requires.0.b_is (third_r_b N u)

  g_is : g ≡ table (N / 6) (G N u)
  g_is = G_are N c.requires.0.given.whole c.requires.0.given.part u (third 2 N u) g c.requires.0.g_is (third_r_c N u)

  b_long : length b ≡ N / 6
  b_long = ap length b_is ∙ length-table (B N u) (N / 6)

  g_long : length g ≡ N / 6
  g_long = ap length g_is ∙ length-table (G N u) (N / 6)

  b_small : Small b (2 ^ 57)
  b_small = rw b_is (table_small (N / 6) (2 ^ 57) (B N u) (λ k p. omega (arith, B-size N u small k, c.requires.0.given.few)))

  g_small : Small g (2 ^ 57)
  g_small = rw g_is (table_small (N / 6) (2 ^ 57) (G N u) (λ k p. omega (arith, G-size N u small k, c.requires.0.given.few)))

join_requires : tie.Need-join-requires
join_requires c κs =
    let s = c.before.before in
    let l = sym (b_long s) in
    (g_long s ∙ l, (s.requires.1.first ∙ l, (s.requires.1.second ∙ l, (b_small s, g_small s))))

same_length : tie.Need-shape_of-plus
same_length c = search rules

same_length_2 : tie.Need-shape_of-minus
same_length_2 c = search rules

returns : tie.Need-returns
returns c =
    let j = c.before.before in
    let s = j.before.before.before in
    let q = s.requires in
    record {
      middle_is = A_are (N s) q.0.given.whole q.0.given.part (u s) (third 0 (N s) (u s)) s.args.a.now q.0.a_is (third-middle (N s) (u s));
      plus_is = plus_step (N s) q.0.given.whole q.0.given.part (u s) (b s) (g s) (length (b s)) (b_long s) (b_is s) (g_is s) _ j.join.ensures.0;
      minus_is = minus-step (N s) q.0.given.whole q.0.given.part (u s) (b s) (g s) (length (b s)) (b_long s) (b_is s) (g_is s) _ j.join.ensures.1;
    }

pub outer_sums_spec : {M : Type 1} → statement M
outer_sums_spec = tie.close (tie.spec join_requires same_length same_length_2 returns)
