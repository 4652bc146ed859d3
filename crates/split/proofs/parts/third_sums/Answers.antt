use Rattle.std.proofs.Common.{arith, refl, ap, ◌∙◌, ◌*◌, ◌/◌, ◌<◌}
use Rattle.std.specs.Prelude.{List, ℤ, pos, length, replicate}
use Rattle.std.proofs.lemmas.List.{length-replicate}
use Rattle.arithmetic.specs.Lists.{at, table}
use Rattle.transform.specs.Analysis.{S}
use Rattle.split.specs.PartLaws.{third_long, third-halved, halved-input, halved-sums}
use Rattle.split.proofs.Halves.{halves_are}
use Rattle.split.proofs.parts.third_sums.Goals as goal

pub fold-requires-clause-w_by_four : goal.fold-requires-clause-w_by_four
fold-requires-clause-w_by_four g c =
    let q = c.requires.third in
    rw (third_long c.args.which c.args.n c.args.y.now c.args.w.now q) q.part.four

pub fold-requires-clause-z_len : goal.fold-requires-clause-z_len
fold-requires-clause-z_len g c =
    let q = c.requires.third in
    omega (arith, length-replicate g.row.Q (pos 0), q.part.four, third_long c.args.which c.args.n c.args.y.now c.args.w.now q, c.requires.count)

pub wide_sums-requires : goal.wide_sums-requires
wide_sums-requires g c =
    let q = c.requires.third in
    let n = c.args.n in
    let w = c.args.w.now in
    let few = c.requires.count in
    let e = third-halved c.args.which n c.args.y.now w q (length (replicate g.row.Q (pos 0))) c.fold.new.z (length-replicate g.row.Q (pos 0) ∙ few) c.fold.ensures in
    let i = halved-input c.args.which n c.args.y.now w q c.fold.new.z e in
    let a : g.row.Q * 4 < 9223372036854775808 = omega (arith, i.most) in
    let b : g.row.Q * 8 < 9223372036854775808 = omega (arith, i.most) in
    (a, (b, i.small))

pub returns : goal.returns
returns g c =
    let q = c.requires.third in
    let n = c.args.n in
    let w = c.args.w.now in
    let few = c.requires.count in
    let e = third-halved c.args.which n c.args.y.now w q (length (replicate g.row.Q (pos 0))) c.fold.new.z (length-replicate g.row.Q (pos 0) ∙ few) c.fold.ensures in
    let i = halved-input c.args.which n c.args.y.now w q c.fold.new.z e in
    halved-sums (n / 3) q.part w (third_long c.args.which n c.args.y.now w q) c.halve.new.t
    (c.halve.ensures ∙ halves_are n g.row.Q few q.part (omega (arith, i.most)) c.fold.new.z c.wide_sums.new.t c.wide_sums.ensures ∙ rw e refl)
    ∙ ap (λ (x : List ℤ). table (n / 3 / 2) (S (n / 3) (at x))) q.is
