-- `windowed_block` meets its contract: the halves that are lent are those of the block's joints.
use mathlib.Core.Path.{sym, ap, ◌∙◌}
use native.Mathlib.Omega.{arith}
use lib.ListN.{length}
use Rattle.windows.specs.HalfLaws.{rise_length, fall_length, lent-window}
use Rattle.cosine.specs.LengthLaws.{third-part}
use Rattle.split.specs.ShortStepLaws.{windowed-step}
use Rattle.split.specs.PartLaws.{windowed-length}
use borrow.Author.Rules.{rules}
use Rattle.split.proofs.windowed_block.Statement.{statement}
use Rattle.split.proofs.windowed_block.Tie as tie

windowed_block_requires : tie.Need-windowed_block-requires
windowed_block_requires c κs =
    let s = c.before in
    let n = s.args.n in
    let q = s.requires in
    let l = rise_length s.args.joints.left n in
    let w = lent-window n s.args.joints.left s.args.joints.right s.args.rise.now s.args.fall.now q.0 in (
      ap length q.0.rise ∙ l ∙ sym (fall_length s.args.joints.right n) ∙ sym (ap length q.0.fall),
      (q.1.1.0 ∙ omega (arith, q.0.whole.twelve, ap length q.0.rise, l), (q.1.1.1 ∙ sym q.1.1.0, w)),
    )

same_length : tie.Need-shape_of-block
same_length c = search rules

returns : tie.Need-returns
returns c =
    let f = c.before in
    let s = f.before.before in
    let q = s.requires in
    let n = s.args.n in
    let is = windowed-step n s.args.joints.left s.args.joints.right s.args.x.now (length s.args.x.now) s.args.rise.now s.args.fall.now _ q.1.1.0 q.0.rise q.0.fall f.windowed_block.ensures.0 in
    record {
      given = record { whole = q.0.whole; few = q.1.0; part = third-part n q.0.whole; all = windowed-length n s.args.joints.left s.args.joints.right s.args.x.now _ is; small = f.windowed_block.ensures.1 };
      is = is;
    }

pub windowed_block_spec : {M : Type 1} → statement M
windowed_block_spec = tie.close (tie.spec windowed_block_requires same_length returns)
