-- `read_steps`: the steps are filled in at the front of their room.
use Rattle.std.proofs.Common.{◌≡◌, ◌∙◌, sym, ap, arith, length, length-append, drop, ◌≤◌, ◌/◌}
use Rattle.std.proofs.Math.Seq.{length-take-le, take_at}
use Rattle.steps.specs.Table.{Verdict}
use Rattle.level_calls.specs.LevelCallLaws.{hop_most, each_of}
use Rattle.level_calls.proofs.read_steps.Goals as goal

pub slice_bounds-read_into-end : goal.slice_bounds-read_into-end
slice_bounds-read_into-end c = omega (arith, c.requires.room, hop_most c.args.n c.requires.tabled)

pub slice_bounds-read_into-end-2 : goal.slice_bounds-read_into-end-2
slice_bounds-read_into-end-2 c = sym (length-take-le (c.args.n / 2) c.args.each.now (omega (arith, c.requires.room, hop_most c.args.n c.requires.tabled)))

pub read_into-requires-clause-steps_len : goal.read_into-requires-clause-steps_len
read_into-requires-clause-steps_len c = length-take-le (c.args.n / 2) c.args.each.now (omega (arith, c.requires.room, hop_most c.args.n c.requires.tabled))

pub returns-clause-ok : goal.returns-clause-ok
returns-clause-ok c =
    let n = c.args.n in
    let most = hop_most n c.requires.tabled in
    let room : n / 2 ≤ length c.args.each.now = omega (arith, c.requires.room, most) in
    let filled = c.read_into.new.steps in
    let beyond = drop (n / 2) c.args.each.now in
    let long : length filled ≡ n / 2 = c.read_into.auto.steps ∙ length-take-le (n / 2) c.args.each.now room in
    let v = c.in_ok-read_into.ensures.verdict in
    each_of n c.requires.tabled c.args.table.now _ v (omega (arith, length-append filled beyond, long)) (take_at filled beyond (n / 2) long ∙ c.in_ok-read_into.ensures.steps_after (ap (λ (x : Verdict). x.code) (sym v)))
