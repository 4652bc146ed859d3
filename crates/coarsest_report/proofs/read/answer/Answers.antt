-- There is room for the samples of any listing that is taken.
use Rattle.std.specs.Prelude.{◌≡◌, List, ◌++◌, ℕ, ◌*◌, ◌/◌, ◌≤◌, length, take, drop, ℤ}
use Rattle.std.proofs.Common.{arith, sym, ap, ◌∙◌, length-append, length-take-le, take_at}
use Rattle.listing.specs.Verdicts.{hops_of}
use Rattle.listing.specs.VerdictLaws.{Taken}
use Rattle.listing.specs.Listing.{recording}
use Rattle.listing.specs.BankLaws.{recording_long}
use Rattle.listing.specs.HopLaws.{hops-counted}
use Rattle.listing.specs.SizeLaws.{hops_bytes, taken-hops}
use Rattle.coarsest_report.proofs.read.answer.Goals as goal

module _ (text : List ℕ) (N H : ℕ) (K : Taken text N H) where
  few : H * (N / 2) ≤ 32768
  few = omega (arith, hops_bytes K)

  read_long : length (recording (hops_of text)) ≡ H * (N / 2)
  read_long = recording_long (N / 2) (hops_of text) (taken-hops K) ∙ ap (λ (h : ℕ). h * (N / 2)) (hops-counted K)

  lent_long : (room : List ℤ) → length room ≡ 32768 → length (take (H * (N / 2)) room) ≡ H * (N / 2)
  lent_long room l = length-take-le (H * (N / 2)) room (omega (arith, l, few))

  lent-read : (ys rest : List ℤ) → ys ≡ recording (hops_of text) → take (H * (N / 2)) (ys ++ rest) ≡ recording (hops_of text)
  lent-read ys rest e = take_at ys rest (H * (N / 2)) (ap length e ∙ read_long) ∙ e

pub overflow_mul-count : goal.overflow_mul-count
overflow_mul-count c = record { fits = omega (arith, few c.args.input.now c.args.listing.n c.args.listing.hops c.requires) }

pub slice_bounds-room-end : goal.slice_bounds-room-end
slice_bounds-room-end c = omega (arith, c.samples_room-room.ensures, few c.args.input.now c.args.listing.n c.args.listing.hops c.requires)

pub slice_bounds-read_recording-end : goal.slice_bounds-read_recording-end
slice_bounds-read_recording-end c = sym (lent_long c.args.input.now c.args.listing.n c.args.listing.hops c.requires c.samples_room-room.result c.samples_room-room.ensures)

pub read_recording-requires : goal.read_recording-requires
read_recording-requires c = (c.requires, lent_long c.args.input.now c.args.listing.n c.args.listing.hops c.requires c.samples_room-room.result c.samples_room-room.ensures)

pub slice_bounds-room-end-2 : goal.slice_bounds-room-end-2
slice_bounds-room-end-2 c =
    let ys = c.read_recording.new.out in
    let rest = drop (c.args.listing.hops * (c.args.listing.n / 2)) c.samples_room-room.result in
    omega (arith, length-append ys rest, ap length c.read_recording.ensures ∙ read_long c.args.input.now c.args.listing.n c.args.listing.hops c.requires)

pub slice_bounds-coarsest_step-end : goal.slice_bounds-coarsest_step-end
slice_bounds-coarsest_step-end c =
    let ys = c.read_recording.new.out in
    let rest = drop (c.args.listing.hops * (c.args.listing.n / 2)) c.samples_room-room.result in
    sym (ap length (lent-read c.args.input.now c.args.listing.n c.args.listing.hops c.requires ys rest c.read_recording.ensures) ∙ read_long c.args.input.now c.args.listing.n c.args.listing.hops c.requires)
