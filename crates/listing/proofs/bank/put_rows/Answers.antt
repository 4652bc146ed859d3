use Rattle.std.specs.Prelude.{◌≡◌, refl, List, ◌++◌, ℕ, suc, ◌/◌, ◌≤◌, length, take, drop, ℤ}
use Rattle.std.proofs.Common.{add-one, arith, sym, ap, ◌∙◌, length-append, length-drop, length-take-le, take_at}
use Rattle.cosine.specs.LengthLaws.{tabled_length}
use Rattle.stream.specs.Synthesis.{storage, fresh}
use Rattle.stream.specs.Steps.{returned}
use Rattle.stream.specs.NextLaws.{returned_long}
use Rattle.text.proofs.OutputLaws.{puts_none, puts_then}
use Rattle.listing.specs.Verdicts.{hops_of}
use Rattle.listing.specs.VerdictLaws.{Taken}
use Rattle.listing.specs.Listing.{recording, analysed, rows}
use Rattle.listing.specs.SizeLaws.{hops-most}
use Rattle.listing.specs.StepLaws.{reached_first, lent_fits, lent_long, lent_two, reached_hop, reached_n, reached_expected, reached_tabled, reached_bounded, shared_fits, shared_long, step_block, step-returned, reached_next}
use Rattle.listing.proofs.RowLaws.{row_room}
use Rattle.listing.proofs.bank.put_rows.Goals as goal

half : {text : List ℕ} {N H : ℕ} → Taken text N H → N / 2 ≤ storage
half {text} {N} K = omega (arith, (tabled_length N K.length-tabled).most)

-- the room of a hop, as it is lent
lent : {text : List ℕ} {N H : ℕ} (K : Taken text N H) (room : List ℤ) → length room ≡ storage → length (take (N / 2) room) ≡ N / 2
lent {text} {N} K room long = length-take-le (N / 2) room (omega (arith, long, half K))

-- a hop that a step returned, in front of the room for one
module _ {text : List ℕ} {N H : ℕ} (K : Taken text N H) (b : ℕ) (ys room : List ℤ) (is : ys ≡ returned N (analysed N (recording (hops_of text))) b) (room_long : length room ≡ storage) where
  ys_long : length ys ≡ N / 2
  ys_long = ap length is ∙ returned_long N (analysed N (recording (hops_of text))) b

  hop_long : length (ys ++ drop (N / 2) room) ≡ storage
  hop_long = length-append ys (drop (N / 2) room) ∙ omega (arith, length-drop (N / 2) room, ys_long, half K)

  shown : take (N / 2) (ys ++ drop (N / 2) room) ≡ returned N (analysed N (recording (hops_of text))) b
  shown = take_at ys (drop (N / 2) room) (N / 2) ys_long ∙ is

  shown_long : length (take (N / 2) (ys ++ drop (N / 2) room)) ≡ N / 2
  shown_long = ap length shown ∙ returned_long N (analysed N (recording (hops_of text))) b

-- ---- the step of block 0
pub slice_bounds-block-end : goal.slice_bounds-block-end
slice_bounds-block-end c =
    let K = c.requires.0 in
    let R = reached_first K c.silent_block-block.result c.next_line.result (fresh c.args.listing.n) c.silent_block-block.ensures c.next_line.ensures refl in
    lent_fits K R (omega arith)

pub slice_bounds-next_block-end : goal.slice_bounds-next_block-end
slice_bounds-next_block-end c =
    let K = c.requires.0 in
    let R = reached_first K c.silent_block-block.result c.next_line.result (fresh c.args.listing.n) c.silent_block-block.ensures c.next_line.ensures refl in
    sym (lent_long K R (omega arith))

pub next_block-place-requires : goal.next_block-place-requires
next_block-place-requires c =
    let K = c.requires.0 in
    let R = reached_first K c.silent_block-block.result c.next_line.result (fresh c.args.listing.n) c.silent_block-block.ensures c.next_line.ensures refl in
    (reached_hop K R (omega arith), lent_two K R (omega arith))

pub slice_bounds-block-end-2 : goal.slice_bounds-block-end-2
slice_bounds-block-end-2 c =
    let K = c.requires.0 in
    let S = reached_first K c.silent_block-block.result c.next_line.result c.fresh.result c.silent_block-block.ensures c.next_line.ensures c.fresh.ensures in
    shared_fits K S (omega arith) c.next_block-place.new.block c.next_block-place.ensures.block_after

pub slice_bounds-step-end : goal.slice_bounds-step-end
slice_bounds-step-end c =
    let K = c.requires.0 in
    let S = reached_first K c.silent_block-block.result c.next_line.result c.fresh.result c.silent_block-block.ensures c.next_line.ensures c.fresh.ensures in
    sym (shared_long K S (omega arith) c.next_block-place.new.block c.next_block-place.ensures.block_after)

pub slice_bounds-hop-end : goal.slice_bounds-hop-end
slice_bounds-hop-end c = omega (arith, c.hop_room-hop.ensures, half c.requires.0)

pub slice_bounds-step-end-2 : goal.slice_bounds-step-end-2
slice_bounds-step-end-2 c = sym (lent c.requires.0 c.hop_room-hop.result c.hop_room-hop.ensures)

pub step-s-requires-clause-tabled : goal.step-s-requires-clause-tabled
step-s-requires-clause-tabled c =
    let K = c.requires.0 in
    let S = reached_first K c.silent_block-block.result c.next_line.result c.fresh.result c.silent_block-block.ensures c.next_line.ensures c.fresh.ensures in (
      reached_tabled K S (omega arith),
      reached_bounded K S (omega arith),
      step_block K S (omega arith) c.next_block-place.new.block c.next_block-place.ensures.block_after,
      lent K c.hop_room-hop.result c.hop_room-hop.ensures ∙ ap (λ (n : ℕ). n / 2) (sym (reached_n K S (omega arith))),
    )

pub step-s-requires-clause-expected_bound : goal.step-s-requires-clause-expected_bound
step-s-requires-clause-expected_bound c =
    let K = c.requires.0 in
    let S = reached_first K c.silent_block-block.result c.next_line.result c.fresh.result c.silent_block-block.ensures c.next_line.ensures c.fresh.ensures in
    omega (arith, reached_expected K S (omega arith))

pub loop-h-init : goal.loop-h-init
unfolding rows
loop-h-init c =
    let K = c.requires.0 in
    let S = reached_first K c.silent_block-block.result c.next_line.result c.fresh.result c.silent_block-block.ensures c.next_line.ensures c.fresh.ensures in
    let is = c.step-s.ensures.out_after ∙ step-returned K S (omega arith) c.next_block-place.new.block c.next_block-place.ensures.block_after in
    record {
      long = hop_long K 0 c.step-s.new.out c.hop_room-hop.result is c.hop_room-hop.ensures;
      reached = reached_next K S (omega arith) c.next_block-place.new.block c.next_block-place.ensures.block_after c.next_block-place.result c.step-s.result c.next_block-place.ensures.value c.step-s.ensures.value;
      put = puts_none;
    }

-- ---- the step of block h + 1
pub slice_bounds-block-end-in-loop-h : goal.slice_bounds-block-end-in-loop-h
slice_bounds-block-end-in-loop-h c = lent_fits c.requires.0 c.loop-h.invariant.reached c.loop-h-test.true

pub slice_bounds-next_block-end-in-loop-h : goal.slice_bounds-next_block-end-in-loop-h
slice_bounds-next_block-end-in-loop-h c = sym (lent_long c.requires.0 c.loop-h.invariant.reached c.loop-h-test.true)

pub next_block-place-requires-in-loop-h : goal.next_block-place-requires-in-loop-h
next_block-place-requires-in-loop-h c = (reached_hop c.requires.0 c.loop-h.invariant.reached c.loop-h-test.true, lent_two c.requires.0 c.loop-h.invariant.reached c.loop-h-test.true)

pub slice_bounds-block-end-in-loop-h-2 : goal.slice_bounds-block-end-in-loop-h-2
slice_bounds-block-end-in-loop-h-2 c = shared_fits c.requires.0 c.loop-h.invariant.reached c.loop-h-test.true c.next_block-place-in-loop-h.new.block c.next_block-place-in-loop-h.ensures.block_after

pub slice_bounds-step-end-in-loop-h : goal.slice_bounds-step-end-in-loop-h
slice_bounds-step-end-in-loop-h c = sym (shared_long c.requires.0 c.loop-h.invariant.reached c.loop-h-test.true c.next_block-place-in-loop-h.new.block c.next_block-place-in-loop-h.ensures.block_after)

pub slice_bounds-hop-end-in-loop-h : goal.slice_bounds-hop-end-in-loop-h
slice_bounds-hop-end-in-loop-h c = omega (arith, c.loop-h.invariant.long, half c.requires.0)

pub slice_bounds-step-end-in-loop-h-2 : goal.slice_bounds-step-end-in-loop-h-2
slice_bounds-step-end-in-loop-h-2 c = sym (lent c.requires.0 c.loop-h.hop c.loop-h.invariant.long)

pub step-s-requires-in-loop-h-clause-tabled : goal.step-s-requires-in-loop-h-clause-tabled
step-s-requires-in-loop-h-clause-tabled c =
    let K = c.requires.0 in
    let R = c.loop-h.invariant.reached in (
      reached_tabled K R c.loop-h-test.true,
      reached_bounded K R c.loop-h-test.true,
      step_block K R c.loop-h-test.true c.next_block-place-in-loop-h.new.block c.next_block-place-in-loop-h.ensures.block_after,
      lent K c.loop-h.hop c.loop-h.invariant.long ∙ ap (λ (n : ℕ). n / 2) (sym (reached_n K R c.loop-h-test.true)),
    )

pub step-s-requires-in-loop-h-clause-expected_bound :
    goal.step-s-requires-in-loop-h-clause-expected_bound
step-s-requires-in-loop-h-clause-expected_bound c = omega (arith, reached_expected c.requires.0 c.loop-h.invariant.reached c.loop-h-test.true, hops-most c.requires.0)

pub slice_bounds-hop-end-in-loop-h-2 : goal.slice_bounds-hop-end-in-loop-h-2
slice_bounds-hop-end-in-loop-h-2 c =
    let K = c.requires.0 in
    let is = c.step-s-in-loop-h.ensures.out_after ∙ step-returned K c.loop-h.invariant.reached c.loop-h-test.true c.next_block-place-in-loop-h.new.block c.next_block-place-in-loop-h.ensures.block_after in
    omega (arith, hop_long K (suc c.loop-h.h) c.step-s-in-loop-h.new.out c.loop-h.hop is c.loop-h.invariant.long, half K)

pub slice_bounds-put_row-end : goal.slice_bounds-put_row-end
slice_bounds-put_row-end c =
    let K = c.requires.0 in
    let is = c.step-s-in-loop-h.ensures.out_after ∙ step-returned K c.loop-h.invariant.reached c.loop-h-test.true c.next_block-place-in-loop-h.new.block c.next_block-place-in-loop-h.ensures.block_after in
    sym (shown_long K (suc c.loop-h.h) c.step-s-in-loop-h.new.out c.loop-h.hop is c.loop-h.invariant.long)

pub put_row-requires : goal.put_row-requires
put_row-requires c =
    let K = c.requires.0 in
    let is = c.step-s-in-loop-h.ensures.out_after ∙ step-returned K c.loop-h.invariant.reached c.loop-h-test.true c.next_block-place-in-loop-h.new.block c.next_block-place-in-loop-h.ensures.block_after in
    let room = row_room K c.loop-h.h c.args.output.now.at c.loop-h.output.at (length c.args.output.now.bytes.now) c.loop-h-test.true c.loop-h.invariant.put.put.behind c.requires.1 in
    (omega (arith, hops-most K), omega (arith, room, c.loop-h.invariant.put.long, shown_long K (suc c.loop-h.h) c.step-s-in-loop-h.new.out c.loop-h.hop is c.loop-h.invariant.long))

pub loop-h-preserved : goal.loop-h-preserved
unfolding rows
loop-h-preserved c =
    let K = c.requires.0 in
    let R = c.loop-h.invariant.reached in
    let is = c.step-s-in-loop-h.ensures.out_after ∙ step-returned K R c.loop-h-test.true c.next_block-place-in-loop-h.new.block c.next_block-place-in-loop-h.ensures.block_after in
    let row = rw (shown K (suc c.loop-h.h) c.step-s-in-loop-h.new.out c.loop-h.hop is c.loop-h.invariant.long) at c.put_row.ensures in
    rw (add-one c.loop-h.h) (record {
      long = hop_long K (suc c.loop-h.h) c.step-s-in-loop-h.new.out c.loop-h.hop is c.loop-h.invariant.long;
      reached = reached_next K R c.loop-h-test.true c.next_block-place-in-loop-h.new.block c.next_block-place-in-loop-h.ensures.block_after c.next_block-place-in-loop-h.result c.step-s-in-loop-h.result c.next_block-place-in-loop-h.ensures.value c.step-s-in-loop-h.ensures.value;
      put = puts_then c.loop-h.invariant.put row;
    })

pub returns : goal.returns
returns c =
    let e : c.loop-h.h ≡ c.args.listing.hops = omega arith in
    rw e at c.loop-h.invariant.put
