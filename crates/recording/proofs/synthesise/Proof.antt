-- `synthesise` meets its contract. The invariant: the hops before h are written, the rest is as the step of block 0 left it, and the tail is that
-- of the stream after h + 1 steps.
use mathlib.Core.Path.{◌≡◌, refl, sym, ap, ap₂, ◌∙◌}
use mathlib.Core.List.{List, ◌++◌}
use Prim.Native.Nat.{ℕ, suc, ◌+◌, ◌-◌, ◌*◌, ◌/◌, ◌≤◌, ◌<◌}
use native.Mathlib.Nat.{mul-le-mul_right, one-mul}
use native.Mathlib.Numerals.{add-one}
use native.Mathlib.Omega.{arith}
use lib.ListN.{length, take, drop, length-append, length-drop, length-replicate}
use lib.Seq.{length-take-le}
use lib.IntN.{ℤ, pos}
use borrow.Author.Rules.{rules}
use Rattle.cosine.specs.LengthLaws.{tabled_length}
use Rattle.arithmetic.specs.Lists.{joined}
use Rattle.arithmetic.specs.ListLaws.{part_length}
use Rattle.arithmetic.specs.JoinLaws.{Joined, joined-none, joined-more, joined-all}
use Rattle.cosine.specs.Kernels.{rising, falling}
use Rattle.orders.specs.declared.Order.{Order}
use Rattle.orders.specs.Orders.{part}
use Rattle.stream.specs.Synthesis.{fresh, new_tail, storage}
use Rattle.stream.specs.Synthesis as S
use Rattle.stream.specs.StepLaws.{Bounded}
use Rattle.stream.specs.Steps.{next, hop, stream_after, returned}
use Rattle.stream.specs.NextLaws.{Fine, returned_long}
use Rattle.recording.specs.Recordings.{synthesis}
use Rattle.recording.specs.RecordingLaws.{Lies, lies, stream_fine}
use Rattle.recording.proofs.synthesise.Statement.{statement}
use Rattle.recording.proofs.synthesise.Tie as tie

-- the blocks, and hop h
abbrev blocks : Order → (n hops : ℕ) → List ℤ → ℕ → List ℤ
blocks order n hops x = part order (n / 2) (hops + 1) x

abbrev given : Order → (n hops : ℕ) → List ℤ → ℕ → List ℤ
given order n hops x h = returned n (blocks order n hops x) (suc h)

-- out₀ is what `out` holds as the loop begins
abbrev invariant-loop : tie.invariant-loop-h
invariant-loop order n hops x out₀ m B tail₀ room₀ h₀ out tail room h =
    (h ≤ hops) × (tail ≡ (stream_after n (blocks order n hops x) (suc h)).tail) × Joined (given order n hops x) (n / 2) h out out₀ × (length out₀ ≡ hops * (n / 2)) × (length room ≡ 108)

abbrev decreases-loop : tie.decreases-loop-h
decreases-loop order n hops x out₀ m B tail₀ room₀ h₀ out tail room h = hops - h

module _ (s : tie.Start invariant-loop decreases-loop) where
  abbrev n : ℕ
  n = s.args.n

  abbrev M : ℕ
  M = n / 2

  abbrev H : ℕ
  H = s.args.hops

  abbrev X : ℕ → List ℤ
  X = blocks s.args.order n H s.args.x.now

  -- the stream after b steps
  fine : (b : ℕ) → b ≤ H + 1 → Fine n (stream_after n X b)
  fine = stream_fine n s.requires.0.0 (H + 1) s.args.order s.args.x.now s.requires.1.0 s.requires.0.3

  first≤ : M ≤ H * M
  first≤ = omega (arith, mul-le-mul_right M s.requires.0.1, one-mul M)

  room_long : length (take M s.args.out.now) ≡ M
  room_long = length-take-le M s.args.out.now (omega (arith, s.requires.1.1, first≤))

  small : M ≤ 108
  small = omega (arith, (tabled_length n s.requires.0.0).most)

  -- where hop h lies
  placed : (h : ℕ) → h < H → Lies n H (length s.args.out.now) h
  placed h = lies n s.requires.0.0 H (length s.args.out.now) h s.requires.0.2 s.requires.1.1

add_blocks : tie.Need-overflow_add-blocks invariant-loop decreases-loop
add_blocks c = record { fits = omega (arith, c.requires.0.2) }

-- ---- the step of block 0
room_requires : tie.Need-room-room-requires invariant-loop decreases-loop
room_requires c κs = search rules

-- the part of the room that is lent
lent_long : (s : tie.Start invariant-loop decreases-loop) (room : List ℤ) → length room ≡ 108 → length (take (M s) room) ≡ M s
lent_long s room l = length-take-le (M s) room (omega (arith, l, small s))

-- and the room behind it, whatever the step left there
put_back : (s : tie.Start invariant-loop decreases-loop) (room lent : List ℤ) → length room ≡ 108 → length lent ≡ length (take (M s) room) → length (lent ++ drop (M s) room) ≡ 108
put_back s room lent l k = length-append lent (drop (M s) room) ∙ omega (arith, k, lent_long s room l, length-drop (M s) room, l, small s)

wide : (c : tie.After-room-room invariant-loop decreases-loop) → length c.room-room.result ≡ 108
wide c = ap length c.room-room.ensures ∙ length-replicate 108 (pos 0)

array_borrow_prefix_room : tie.Need-slice_bounds-room-end invariant-loop decreases-loop
array_borrow_prefix_room c = omega (arith, wide c, small c.before)

slice_aggregate_advance : tie.Need-slice_bounds-advance-end invariant-loop decreases-loop
slice_aggregate_advance c = sym (lent_long c.before.before c.before.room-room.result (wide c.before))

slice_aggregate_advance_2 : tie.Need-slice_bounds-advance-end-2 invariant-loop decreases-loop
slice_aggregate_advance_2 c = refl

slice_relend_prefix_advance : tie.Need-slice_bounds-advance-end-3 invariant-loop decreases-loop
slice_relend_prefix_advance c = let s = c.before.before.before in omega (arith, s.requires.1.1, first≤ s)

slice_aggregate_advance_3 : tie.Need-slice_bounds-advance-end-4 invariant-loop decreases-loop
slice_aggregate_advance_3 c = sym (room_long c.before.before.before.before)

fresh-bounded : (s : tie.Start invariant-loop decreases-loop) → Bounded (M s) (fresh (n s)).tail
unfolding stream_after
fresh-bounded s = record { within = (fine s 0 (omega arith)).limited }

advance_requires : tie.Need-advance-requires invariant-loop decreases-loop
unfolding fresh
advance_requires c κs =
    let s = c.before.before.before.before in
    let r = c.before.before.before in
    ((s.requires.0.0, omega (arith, s.requires.0.2), omega arith, s.requires.0.3, s.requires.1.0), (lent_long s r.room-room.result (wide r), refl, fresh-bounded s, room_long s))

loop-holds : tie.Need-loop-h-init invariant-loop decreases-loop
unfolding stream_after fresh next returned hop
loop-holds c =
    let s = c.before.before.before.before.before.before.before.before in
    let r = c.before.before.before.before.before.before.before in
    let y = c.before.before.before.advance in
    let ys = y.new.out in
    let l : length ys ≡ M s = ap length y.ensures.1 ∙ returned_long (n s) (X s) 0 in
    let out = s.args.out.now in (
      omega arith,
      y.ensures.0,
      joined-none (given s.args.order (n s) (H s) s.args.x.now) (M s) (ys ++ drop (M s) out),
      length-append ys (drop (M s) out) ∙ omega (arith, l, length-drop (M s) out, s.requires.1.1, first≤ s),
      put_back s r.room-room.result y.new.room (wide r) y.auto.room,
    )

-- ---- the step of block h + 1
module _ (c : tie.In-loop-h invariant-loop decreases-loop) where
  abbrev begin : tie.Start invariant-loop decreases-loop
  begin = c.before.before.before.before.before.before.before.before.before.before

  abbrev turn : ℕ
  turn = c.before.loop-h.h

  abbrev lies_here : Lies (n begin) (H begin) (length begin.args.out.now) turn
  lies_here = placed begin turn c.loop-h-test.true

  out_long : length c.before.loop-h.out ≡ length begin.args.out.now
  out_long = c.before.loop-h.invariant.2.room ∙ c.before.loop-h.invariant.3 ∙ sym begin.requires.1.1

  after : Fine (n begin) (stream_after (n begin) (X begin) (suc turn))
  after = fine begin (suc turn) (omega (arith, c.loop-h-test.true))

  tail_long : length c.before.loop-h.tail ≡ storage
  tail_long = ap length c.before.loop-h.invariant.1 ∙ after.long

mul_at : tie.Need-overflow_mul-at invariant-loop decreases-loop
mul_at c = let s : tie.Start invariant-loop decreases-loop = c.before.before.before.before.before.before.before.before.before.before in omega (arith, placed s c.before.loop-h.h c.loop-h-test.true)

add_advance : tie.Need-overflow_add-h invariant-loop decreases-loop
add_advance c = record { fits = omega (arith, c.loop-h-test.true, (c.before.before.before.before.before.before.before.before.before.before).requires.0.2) }

array_borrow_prefix_room_2 : tie.Need-slice_bounds-room-end-in-loop-h invariant-loop decreases-loop
array_borrow_prefix_room_2 c = omega (arith, c.before.loop-h.invariant.4, small (begin c))

slice_aggregate_advance_4 : tie.Need-slice_bounds-advance-end-in-loop-h invariant-loop decreases-loop
slice_aggregate_advance_4 c = let i = c.before in sym (lent_long (begin i) i.before.loop-h.room i.before.loop-h.invariant.4)

slice_aggregate_advance_5 : tie.Need-slice_bounds-advance-end-in-loop-h-2 invariant-loop decreases-loop
slice_aggregate_advance_5 c = sym (tail_long c.before.before)

add_advance_2 : tie.Need-overflow_add-at invariant-loop decreases-loop
add_advance_2 c = let i = c.before.before in omega (arith, lies_here i, out_long i)

mul_advance : tie.Need-offset_bounds-out-at invariant-loop decreases-loop
mul_advance c = let i = c.before.before in omega (arith, lies_here i, out_long i)

sub_advance : tie.Need-slice_bounds-advance-count invariant-loop decreases-loop
sub_advance c = let i = c.before.before in omega (arith, lies_here i, out_long i)

part_advance_start : tie.Need-slice_bounds-advance-start invariant-loop decreases-loop
part_advance_start c = let i = c.before.before in omega (arith, lies_here i, out_long i)

part_advance_end : tie.Need-slice_bounds-advance-end-in-loop-h-3 invariant-loop decreases-loop
part_advance_end c = let i = c.before.before in omega (arith, lies_here i, out_long i)

advance_requires_2 : tie.Need-advance-requires-in-loop-h invariant-loop decreases-loop
advance_requires_2 c κs =
    let i = c.before.before.before in
    let s = begin i in
    let at = turn i * M s in (
      (s.requires.0.0, omega (arith, s.requires.0.2), omega (arith, i.loop-h-test.true), s.requires.0.3, s.requires.1.0),
      (
        lent_long s i.before.loop-h.room i.before.loop-h.invariant.4,
        tail_long i,
        rw i.before.loop-h.invariant.1 (record { within = (after i).limited }),
        part_length i.before.loop-h.out at (at + M s - at) (M s) (omega arith) (omega (arith, (lies_here i).ends, out_long i)),
      ),
    )

add_h : tie.Need-overflow_step-h invariant-loop decreases-loop
add_h c = omega arith

loop-less : tie.Need-loop-h-smaller invariant-loop decreases-loop
loop-less c = omega arith

loop-again : tie.Need-loop-h-preserved invariant-loop decreases-loop
unfolding next hop returned stream_after
loop-again c =
    let i = c.before.before.before.before.before.before.before in
    let s = begin i in
    let h = turn i in
    let at = h * M s in
    let b = stream_after (n s) (X s) (suc h) in
    let y = c.before.before.before.advance-in-loop-h in
    let t = i.before.loop-h.invariant.1 in
    let k = ap (X s) (add-one h) in
    let e = sym (after i).n_is in
    let f : at + M s - at ≡ M s = omega arith in (
      omega (arith, i.loop-h-test.true),
      rw (add-one h)
          (y.ensures.0
          ∙ ap₂ (new_tail (n s) (rising 0 (n s)) (falling 0 (n s))) t k
          ∙ ap (λ (N : ℕ). new_tail N (rising 0 N) (falling 0 N) b.tail (X s (suc h))) e),
      joined-more (given s.args.order (n s) (H s) s.args.x.now) (M s) (H s) (λ j p. returned_long (n s) (X s) (suc j)) h (at + M s - at) i.loop-h-test.true i.before.loop-h.out _
          y.new.out i.before.loop-h.invariant.2 (omega (arith, (lies_here i).ends, s.requires.1.1, i.before.loop-h.invariant.3)) f
          (y.ensures.1
          ∙ ap₂ (S.hop (n s) (rising 0 (n s)) (falling 0 (n s))) t k
          ∙ ap (λ (N : ℕ). S.hop N (rising 0 N) (falling 0 N) b.tail (X s (suc h))) e),
      i.before.loop-h.invariant.3,
      put_back s i.before.loop-h.room y.new.room i.before.loop-h.invariant.4 y.auto.room,
    )

same_length : tie.Need-shape_of-out invariant-loop decreases-loop
same_length c = c.before.loop-h.invariant.2.room ∙ c.before.loop-h.invariant.3 ∙ sym c.before.before.before.before.before.before.before.before.before.before.requires.1.1

returns : tie.Need-returns invariant-loop decreases-loop
unfolding synthesis
returns c =
    let s = c.before.before.before.before.before.before.before.before.before.before in
    let g = given s.args.order (n s) (H s) s.args.x.now in
    let e : c.before.loop-h.h ≡ H s = omega (arith, c.before.loop-h.invariant.0, c.loop-h-test.false) in
    joined-all g (M s) c.before.loop-h.h c.before.loop-h.out _ c.before.loop-h.invariant.2
    (c.before.loop-h.invariant.3 ∙ ap (λ (j : ℕ). j * M s) (sym e))
    ∙ ap (λ (j : ℕ). joined j g) e

pub synthesise_spec : {M : Type 1} → statement M
synthesise_spec =
    tie.close
    (tie.spec
    invariant-loop
    decreases-loop
    add_blocks
    room_requires
    array_borrow_prefix_room
    slice_aggregate_advance
    slice_aggregate_advance_2
    slice_relend_prefix_advance
    slice_aggregate_advance_3
    advance_requires
    loop-holds
    mul_at
    add_advance
    array_borrow_prefix_room_2
    slice_aggregate_advance_4
    slice_aggregate_advance_5
    add_advance_2
    mul_advance
    sub_advance
    part_advance_start
    part_advance_end
    advance_requires_2
    add_h
    loop-less
    loop-again
    same_length
    returns)
