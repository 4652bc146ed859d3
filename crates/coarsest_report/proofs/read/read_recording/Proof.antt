-- `read_recording` meets its contract. The invariant: the hops before h are read, the rest is as it was, and the next line is that of hop h.
use mathlib.Core.Path.{◌≡◌, sym, ap, ◌∙◌}
use Prim.Native.Nat.{ℕ, suc, ◌+◌, ◌-◌, ◌*◌, ◌/◌, ◌≤◌}
use native.Mathlib.Omega.{arith}
use lib.ListN.{length}
use Rattle.arithmetic.specs.Lists.{joined}
use Rattle.arithmetic.specs.ListLaws.{part_length}
use Rattle.arithmetic.specs.JoinLaws.{within, Joined, joined-none, joined-more, joined-all}
use Rattle.text.specs.Lines.{line_at, next_line, line_start}
use Rattle.listing.specs.Hops.{samples}
use Rattle.listing.specs.Verdicts.{limit, hops_of, hop_of}
use Rattle.listing.specs.VerdictLaws.{Taken}
use Rattle.listing.specs.HopLaws.{hops-counted, hops-length, hops-start, hops-line, hops-read}
use Rattle.listing.specs.SizeLaws.{hops_bytes, hops-most}
use Rattle.coarsest_report.specs.ReportLaws.{recording-joined}
use Rattle.coarsest_report.proofs.read.read_recording.Statement.{statement}
use Rattle.coarsest_report.proofs.read.read_recording.Tie as tie

abbrev invariant-loop : tie.invariant-loop-h
invariant-loop input n hops out₀ m place₀ h₀ out place h = (h ≤ hops) × (place ≡ line_start input (suc h)) × Joined (hop_of input) (n / 2) h out out₀

abbrev decreases-loop : tie.decreases-loop-h
decreases-loop input n hops out₀ m place₀ h₀ out place h = hops - h

next_line_requires : tie.Need-next_line-place-requires invariant-loop decreases-loop
next_line_requires c κs = omega arith

loop-holds : tie.Need-loop-h-init invariant-loop decreases-loop
unfolding line_start
loop-holds c = let a = c.before.before.args in (omega arith, c.next_line-place.ensures, joined-none (hop_of a.input.now) (a.n / 2) a.out.now)

module _ (c : tie.In-loop-h invariant-loop decreases-loop) where
  abbrev start : tie.Start invariant-loop decreases-loop
  start = c.before.before.before.before

  abbrev K : Taken start.args.input.now start.args.n start.args.hops
  K = start.requires.0

  abbrev M : ℕ
  M = start.args.n / 2

  abbrev h : ℕ
  h = c.before.loop-h.h

  -- where hop h goes
  ends : h * M + M ≤ length c.before.loop-h.out
  ends = omega (arith, within h start.args.hops M c.loop-h-test.true, start.requires.1, c.before.loop-h.invariant.2.room)

  few : length c.before.loop-h.out ≤ limit
  few = omega (arith, c.before.loop-h.invariant.2.room, start.requires.1, hops_bytes K)

mul_at : tie.Need-overflow_mul-at invariant-loop decreases-loop
mul_at c = omega (arith, ends c, few c)

add_read_hop : tie.Need-overflow_add-at invariant-loop decreases-loop
add_read_hop c = omega (arith, ends c, few c)

mul_read_hop : tie.Need-offset_bounds-out-at invariant-loop decreases-loop
mul_read_hop c = omega (arith, ends c, few c)

sub_read_hop : tie.Need-slice_bounds-read_hop-count invariant-loop decreases-loop
sub_read_hop c = omega (arith, ends c, few c)

part_read_hop_start : tie.Need-slice_bounds-read_hop-start invariant-loop decreases-loop
part_read_hop_start c = omega (arith, ends c, few c)

part_read_hop_end : tie.Need-slice_bounds-read_hop-end invariant-loop decreases-loop
part_read_hop_end c = omega (arith, ends c, few c)

read_hop_requires : tie.Need-read_hop-place-requires invariant-loop decreases-loop
read_hop_requires c κs =
    let i = c.before in
    let l = i.before.loop-h in
    let text = (start i).args.input.now in
    let at = h i * M i in
    let long = part_length l.out at (at + M i - at) (M i) (omega arith) (ends i) in
    rw (l.invariant.1, long) (hops-start (K i) (h i) (omega (arith, i.loop-h-test.true)), hops-line (K i) (h i) i.loop-h-test.true)

add_h : tie.Need-overflow_step-h invariant-loop decreases-loop
add_h c = let i = c.before.before.before in record { fits = omega (arith, i.loop-h-test.true, hops-most (K i)) }

loop-less : tie.Need-loop-h-smaller invariant-loop decreases-loop
loop-less c = omega (arith, c.before.before.before.loop-h-test.true)

loop-again : tie.Need-loop-h-preserved invariant-loop decreases-loop
unfolding line_start
loop-again c =
    let i = c.before.before.before in
    let l = i.before.loop-h in
    let a = (start i).args in
    let text = a.input.now in
    let at = h i * M i in
    let y = c.before.read_hop-place in
    let e : suc (h i + 1) ≡ suc (suc (h i)) = omega arith in (
      omega (arith, i.loop-h-test.true),
      y.ensures.1 ∙ ap (next_line text) l.invariant.1 ∙ ap (line_start text) (sym e),
      joined-more (hop_of text) (M i) a.hops (λ j p. hops-length (K i) j p) (h i) (at + M i - at) i.loop-h-test.true l.out a.out.now
          y.new.out l.invariant.2 (omega (arith, ends i, l.invariant.2.room)) (omega arith)
          (y.ensures.0 ∙ ap (λ (p : ℕ). samples (line_at text p)) l.invariant.1 ∙ hops-read (K i) (h i) i.loop-h-test.true),
    )

same_length : tie.Need-shape_of-out invariant-loop decreases-loop
same_length c = c.before.loop-h.invariant.2.room

returns : tie.Need-returns invariant-loop decreases-loop
returns c =
    let s = c.before.before.before.before in
    let a = s.args in
    let g = hop_of a.input.now in
    let e : c.before.loop-h.h ≡ a.hops = omega (arith, c.before.loop-h.invariant.0, c.loop-h-test.false) in
    joined-all g (a.n / 2) c.before.loop-h.h c.before.loop-h.out a.out.now c.before.loop-h.invariant.2 (s.requires.1 ∙ ap (λ (k : ℕ). k * (a.n / 2)) (sym e))
    ∙ ap (λ (k : ℕ). joined k g) (e ∙ sym (hops-counted s.requires.0))
    ∙ sym (recording-joined (hops_of a.input.now))

pub read_recording_spec : {M : Type 1} → statement M
read_recording_spec =
    tie.close
    (tie.spec
    invariant-loop
    decreases-loop
    next_line_requires
    loop-holds
    mul_at
    add_read_hop
    mul_read_hop
    sub_read_hop
    part_read_hop_start
    part_read_hop_end
    read_hop_requires
    add_h
    loop-less
    loop-again
    same_length
    returns)
