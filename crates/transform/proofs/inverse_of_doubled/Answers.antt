use Rattle.std.specs.Prelude.{◌≡◌, ℕ, List, ◌/◌, ◌^◌, length, ℤ}
use Rattle.std.proofs.Common.{arith, refl, ap, ◌∙◌}
use Rattle.arithmetic.specs.Rounding.{rnd}
use Rattle.arithmetic.specs.Lists.{at, table, Small}
use Rattle.arithmetic.specs.ListLaws.{length-table}
use Rattle.cosine.specs.LengthLaws.{Length}
use Rattle.level.specs.Places.{twice}
use Rattle.windows.specs.HalfLaws.{lent_halves}
use Rattle.transform.specs.InverseLaws.{folds, rounds, rounded-step, rounded_small, value-step}
use Rattle.transform.specs.Stages.{Input, sums_of}
use Rattle.transform.proofs.Twice.{twice_small, halved_26}
use Rattle.transform.proofs.inverse_of_doubled.Goals as goal

-- what `round_doubled` leaves
module _ (n : ℕ) (w : Length n) (x t u : List ℤ) (i : Input n x) (e : t ≡ twice (n / 2) x) (h : u ≡ table (length t) (λ j. rnd (at t j) (2 ^ 27))) where
  abbrev sums : List ℤ
  sums = table (n / 2) (folds n x)

  u_of : u ≡ table (length sums) (λ j. rnd (at sums j) (2 ^ 26))
  u_of = h ∙ halved_26 n (omega (arith, w.twelve)) i.most x t e

  u_is : u ≡ table (n / 2) (rounds n x)
  u_is = rounded-step n x sums u refl u_of

  u_long : length u ≡ n / 2
  u_long = ap length u_is ∙ length-table (rounds n x) (n / 2)

  u_small : Small u (2 ^ 36)
  u_small = rounded_small sums u u_of (sums_of n x sums i refl).small

pub round_doubled-requires : goal.round_doubled-requires
round_doubled-requires c =
    let a = c.args in
    let i = c.requires.input in
    record { small = λ k p. omega (arith, twice_small (a.n / 2) (2 ^ 29) a.x.now a.t.now i.long i.small c.requires.sums k p, i.most) }

pub values-requires : goal.values-requires
values-requires c =
    let a = c.args in
    let q = c.requires in
    let w = q.lent.whole in
    let l = u_long a.n w a.x.now a.t.now c.round_doubled.new.t q.input q.sums c.round_doubled.ensures in
    record {
      halves = lent_halves a.n a.joints.left a.joints.right (length c.round_doubled.new.t) a.rise.now a.fall.now q.lent l;
      v_len = omega (arith, q.v_len, l, w.twelve);
      t_even = omega (arith, l, w.twelve);
      small = u_small a.n w a.x.now a.t.now c.round_doubled.new.t q.input q.sums c.round_doubled.ensures;
    }

pub returns : goal.returns
returns c =
    let a = c.args in
    let q = c.requires in
    let w = q.lent.whole in
    value-step a.n a.joints.left a.joints.right w a.x.now a.rise.now a.fall.now c.round_doubled.new.t _ (length a.v.now) q.v_len q.lent.rise q.lent.fall
    (u_is a.n w a.x.now a.t.now c.round_doubled.new.t q.input q.sums c.round_doubled.ensures) c.values.ensures
