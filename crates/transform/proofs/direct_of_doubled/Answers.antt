use Rattle.std.specs.Prelude.{◌≡◌, ℕ, List, ◌+◌, ◌*◌, ◌/◌, ◌^◌, length, ℤ}
use Rattle.std.proofs.Common.{arith, refl, sym, ap, ◌∙◌, lit≤}
use Rattle.arithmetic.specs.Lists.{at, table, Small}
use Rattle.arithmetic.specs.ListLaws.{length-table}
use Rattle.level.specs.Places.{twice}
use Rattle.windows.specs.HalfLaws.{rise_list, fall_list}
use Rattle.transform.specs.Analysis.{y}
use Rattle.transform.specs.FoldLaws.{folded}
use Rattle.transform.specs.InverseLaws.{folds}
use Rattle.transform.specs.DirectLaws.{direct-step}
use Rattle.transform.specs.Stages.{Folded}
use Rattle.transform.proofs.Twice.{twice_length, twice_small, halved_28}
use Rattle.transform.proofs.direct_of_doubled.Goals as goal

module _ (n left right : ℕ) (x z t : List ℤ) (f : Folded n left right x z) (e : t ≡ twice (n / 2) z) where
  sums_long : length t ≡ n / 2
  sums_long = ap length e ∙ twice_length (n / 2) z

  inputs_long : length z ≡ n / 2
  inputs_long = ap length f.is ∙ length-table (folded n (y n (at (rise_list left n)) (at (fall_list right n)) x)) (n / 2)

  sums_small : Small t (9 * 2 ^ (29 + 27))
  sums_small = record { small = λ k p. omega (arith, twice_small (n / 2) (2 ^ 24) z t inputs_long f.small e k p, f.whole.most) }

pub spectrum-requires : goal.spectrum-requires
spectrum-requires c =
    let a = c.args in
    let q = c.requires in
    record {
      out_len = q.out_len ∙ sym (sums_long a.n a.joints.left a.joints.right a.x.now a.z.now a.t.now q.folded q.sums);
      least = lit≤ tt;
      most = lit≤ tt;
      small = sums_small a.n a.joints.left a.joints.right a.x.now a.z.now a.t.now q.folded q.sums;
    }

pub returns : goal.returns
returns c =
    let a = c.args in
    let q = c.requires in
    let w = q.folded.whole in
    direct-step a.n a.joints.left a.joints.right w a.x.now (length a.t.now) a.z.now (table (a.n / 2) (folds a.n a.z.now)) _
    (sums_long a.n a.joints.left a.joints.right a.x.now a.z.now a.t.now q.folded q.sums) q.folded.is refl
    (c.spectrum.ensures ∙ halved_28 a.n (omega (arith, w.twelve)) (omega (arith, w.most)) a.z.now a.t.now q.sums)
