-- `edge_block` meets its contract: the hop is put into a room of zeros, and N entries of it are lent.
use Rattle.std.proofs.Common.{arith, refl, ◌≡◌, ◌∙◌, sym, ap, T, ℕ, ◌+◌, ◌-◌, ◌*◌, ◌/◌, ◌≤◌, List, ◌++◌, ℤ, pos, length, take, drop, replicate}
use Rattle.std.proofs.lemmas.List.{length-replicate}
use Rattle.cosine.specs.LengthLaws.{tabled_length}
use Rattle.analysis.specs.declared.Route.{Route}
use Rattle.analysis.specs.Analysis.{offered, coefficients}
use Rattle.analysis.specs.AnalysisLaws.{offered-tabled}
use Rattle.stream.specs.Synthesis.{storage}
use Rattle.recording.specs.BlockLaws.{edge, edge_long, edge-room, edge-made}
use Rattle.recording.proofs.edge_block.Goals as goal

module _ (route : Route) (n p : ℕ) (hop : List ℤ) (t : T (offered route n)) (inside : p ≤ n / 2) (long : length hop ≡ n / 2) where
  two : n / 2 + n / 2 ≡ n
  two = omega (arith, (tabled_length n (offered-tabled route n t)).twelve)

  most : n ≤ 2 * storage
  most = (tabled_length n (offered-tabled route n t)).most

  -- the room with the hop in it
  module _ (room ys : List ℤ) (is : room ≡ replicate (2 * storage) (pos 0)) (copied : ys ≡ hop) where
    room-long : p + n / 2 ≤ length room
    room-long = omega (arith, ap length is, length-replicate (2 * storage) (pos 0), two, most, inside)

    abbrev filled : List ℤ
    filled = take p room ++ (ys ++ drop (p + n / 2 - p) (drop p room))

    filled_long : length filled ≡ 2 * storage
    filled_long = rw (is, copied) (edge-room n p (2 * storage) hop two most inside long (p + n / 2 - p) (omega arith))

    lent : take n filled ≡ edge n p hop
    lent = rw (is, copied) (edge-made n p (2 * storage) hop two most inside long (p + n / 2 - p) (omega arith))

    lent_long : length (take n filled) ≡ n
    lent_long = ap length lent ∙ edge_long n p (2 * storage) hop two most inside long

pub slice_bounds-block-end : goal.slice_bounds-block-end
slice_bounds-block-end c =
    omega (arith, room-long c.args.route c.args.n c.args.at c.args.hop.now c.requires.0 c.requires.1 c.requires.2 c.silent_block-block.result c.args.hop.now c.silent_block-block.ensures refl)

pub slice_bounds-block-end-2 : goal.slice_bounds-block-end-2
slice_bounds-block-end-2 c =
    omega (arith, filled_long c.args.route c.args.n c.args.at c.args.hop.now c.requires.0 c.requires.1 c.requires.2 c.silent_block-block.result c.copy_from_slice.new.self c.silent_block-block.ensures c.copy_from_slice.ensures.after, most c.args.route c.args.n c.args.at c.args.hop.now c.requires.0 c.requires.1 c.requires.2)

pub slice_bounds-analyse_block-end : goal.slice_bounds-analyse_block-end
slice_bounds-analyse_block-end c = sym (lent_long c.args.route c.args.n c.args.at c.args.hop.now c.requires.0 c.requires.1 c.requires.2 c.silent_block-block.result c.copy_from_slice.new.self c.silent_block-block.ensures c.copy_from_slice.ensures.after)

pub analyse_block-requires : goal.analyse_block-requires
analyse_block-requires c = (c.requires.0, lent_long c.args.route c.args.n c.args.at c.args.hop.now c.requires.0 c.requires.1 c.requires.2 c.silent_block-block.result c.copy_from_slice.new.self c.silent_block-block.ensures c.copy_from_slice.ensures.after, c.requires.3)

pub returns : goal.returns
returns c =
    c.analyse_block.ensures
    ∙ ap (coefficients c.args.route c.args.n 0 0) (lent c.args.route c.args.n c.args.at c.args.hop.now c.requires.0 c.requires.1 c.requires.2 c.silent_block-block.result c.copy_from_slice.new.self c.silent_block-block.ensures c.copy_from_slice.ensures.after)
