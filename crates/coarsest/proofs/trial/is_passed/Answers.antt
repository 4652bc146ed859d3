-- `is_passed` meets its contract: before hop h is made, the hops before it are near, and the tail is that of the stream after h + 1 steps.
use Rattle.std.proofs.Common.{rules, arith, refl, ◌≡◌, ◌∙◌, sym, ap, Bool, true, false, T, ℕ, suc, ◌+◌, ◌/◌, ◌≤◌, ◌<◌, List, ℤ, pos, length, take, replicate, add-one, length-take-le}
use Rattle.std.proofs.Math.Path.{ap₂}
use Rattle.std.proofs.lemmas.List.{length-replicate}
use Rattle.arithmetic.specs.Lists.{all}
use Rattle.arithmetic.specs.TestLaws.{all_none, all-next}
use Rattle.cosine.specs.Kernels.{tabled, rising, falling}
use Rattle.cosine.specs.LengthLaws.{tabled_length}
use Rattle.stream.specs.Synthesis.{fresh, storage, new_tail}
use Rattle.stream.specs.Synthesis as S
use Rattle.stream.specs.StepLaws.{Bounded}
use Rattle.stream.specs.Steps.{next, hop, stream_after, returned}
use Rattle.stream.specs.NextLaws.{Fine}
use Rattle.coarsest.specs.TrialLaws.{stepped_block, stepped_stream_fine, hop_beside, hop_near, all_near, one_far}
use Rattle.coarsest.proofs.trial.is_passed.Goals as goal

module _ (N H D step : ℕ) (x : List ℤ) (t : T (tabled N)) where
  abbrev mine : ℕ → List ℤ
  mine = stepped_block step N x

  fine : (b : ℕ) → Fine N (stream_after N mine b)
  fine = stepped_stream_fine step N x t

  small : N / 2 ≤ 108
  small = omega (arith, (tabled_length N t).most)

  some : 0 < N / 2
  some = omega (arith, (tabled_length N t).twelve, (tabled_length N t).some)

  -- what is lent of a room
  lent : (l : List ℤ) → length l ≡ 108 → length (take (N / 2) l) ≡ N / 2
  lent l e = length-take-le (N / 2) l (omega (arith, small))

  -- the zeros are a fresh stream's tail
  begins : replicate 108 (pos 0) ≡ (stream_after N mine 0).tail
  unfolding stream_after fresh
  begins = refl

  -- and the tail after one step more
  goes_on : (b : ℕ) (t u : List ℤ) → t ≡ (stream_after N mine b).tail → u ≡ new_tail N (rising 0 N) (falling 0 N) t (mine b) → u ≡ (stream_after N mine (suc b)).tail
  unfolding stream_after next
  goes_on b t u e f =
      f
      ∙ ap (λ (l : List ℤ). new_tail N (rising 0 N) (falling 0 N) l (mine b)) e
      ∙ ap (λ (n : ℕ). new_tail n (rising 0 n) (falling 0 n) (stream_after N mine b).tail (mine b)) (sym (fine b).n_is)

  -- a tail that a step takes
  bounded : (b : ℕ) (t : List ℤ) → t ≡ (stream_after N mine b).tail → (length t ≡ storage) × Bounded (N / 2) t
  bounded b t e = (ap length e ∙ (fine b).long, rw e (record { within = (fine b).limited }))

  -- the hop that step h + 1 returns
  made-is : (h : ℕ) (t : List ℤ) → t ≡ (stream_after N mine (suc h)).tail → S.hop N (rising 0 N) (falling 0 N) t (mine (h + 1)) ≡ returned N mine (suc h)
  unfolding returned hop
  made-is h t e =
      ap₂ (S.hop N (rising 0 N) (falling 0 N)) e (ap mine (add-one h))
      ∙ ap (λ (n : ℕ). S.hop n (rising 0 n) (falling 0 n) (stream_after N mine (suc h)).tail (mine (suc h))) (sym (fine (suc h)).n_is)

  -- is near, as the test said
  tested : (h : ℕ) (t : List ℤ) (r : Bool) → t ≡ (stream_after N mine (suc h)).tail → r ≡ hop_beside N x h D (S.hop N (rising 0 N) (falling 0 N) t (mine (h + 1))) → r ≡ hop_near step N H x D h
  tested h t r e f = f ∙ ap (hop_beside N x h D) (made-is h t e)

  -- what holds before the next hop
  after : (h : ℕ) (t u : List ℤ) (r : Bool) → t ≡ (stream_after N mine (suc h)).tail → all h (hop_near step N H x D) ≡ true →
      r ≡ hop_beside N x h D (S.hop N (rising 0 N) (falling 0 N) t (mine (h + 1))) → r ≡ true → u ≡ new_tail N (rising 0 N) (falling 0 N) t (mine (h + 1)) →
      (u ≡ (stream_after N mine (suc (h + 1))).tail) × (all (h + 1) (hop_near step N H x D) ≡ true)
  after h t u r e f v near w = (
    goes_on (suc h) t u e (w ∙ ap (λ (b : ℕ). new_tail N (rising 0 N) (falling 0 N) t (mine b)) (add-one h)) ∙ ap (λ (b : ℕ). (stream_after N mine (suc b)).tail) (sym (add-one h)),
    all-next h (hop_near step N H x D) f (sym (tested h t r e v) ∙ near),
  )

pub slice_bounds-room-end : goal.slice_bounds-room-end
slice_bounds-room-end c = omega (arith, small c.args.n c.args.hops c.args.allowed c.args.step c.args.x.now c.requires.0, ap length c.room-room.ensures ∙ length-replicate 108 (pos 0))

pub slice_bounds-room-end-2 : goal.slice_bounds-room-end-2
slice_bounds-room-end-2 c = sym (lent c.args.n c.args.hops c.args.allowed c.args.step c.args.x.now c.requires.0 c.room-room.result (ap length c.room-room.ensures ∙ length-replicate 108 (pos 0)))

pub slice_bounds-out-end : goal.slice_bounds-out-end
slice_bounds-out-end c = small c.args.n c.args.hops c.args.allowed c.args.step c.args.x.now c.requires.0

pub slice_bounds-out-end-2 : goal.slice_bounds-out-end-2
slice_bounds-out-end-2 c = sym (lent c.args.n c.args.hops c.args.allowed c.args.step c.args.x.now c.requires.0 (replicate 108 (pos 0)) refl)

pub advance-requires-clause-room_len : goal.advance-requires-clause-room_len
advance-requires-clause-room_len c =
    let a = c.args in (
      lent a.n a.hops a.allowed a.step a.x.now c.requires.0 c.room-room.result (ap length c.room-room.ensures ∙ length-replicate 108 (pos 0)),
      refl,
      (bounded a.n a.hops a.allowed a.step a.x.now c.requires.0 0 (replicate 108 (pos 0)) (begins a.n a.hops a.allowed a.step a.x.now c.requires.0)).1,
      lent a.n a.hops a.allowed a.step a.x.now c.requires.0 (replicate 108 (pos 0)) refl,
    )

pub loop-h-init : goal.loop-h-init
loop-h-init c =
    let a = c.args in (
      goes_on a.n a.hops a.allowed a.step a.x.now c.requires.0 0 (replicate 108 (pos 0)) _ (begins a.n a.hops a.allowed a.step a.x.now c.requires.0) c.advance.ensures.tail_after,
      all_none (hop_near a.step a.n a.hops a.x.now a.allowed),
    )

pub is_hop_near-requires-clause-room_len : goal.is_hop_near-requires-clause-room_len
is_hop_near-requires-clause-room_len c =
    let a = c.args in
    let b = bounded a.n a.hops a.allowed a.step a.x.now c.requires.0 (suc c.loop-h.h) c.loop-h.tail c.loop-h.invariant.0 in
    let room = lent a.n a.hops a.allowed a.step a.x.now c.requires.0 c.room-room.result (ap length c.room-room.ensures ∙ length-replicate 108 (pos 0)) in
    let out = lent a.n a.hops a.allowed a.step a.x.now c.requires.0 (replicate 108 (pos 0)) refl in
    (c.loop-h.auto.room ∙ c.advance.auto.room ∙ room, b.0, b.1, c.loop-h.auto.out ∙ c.advance.auto.out ∙ out)

pub returns-then-not-is_hop_near : goal.returns-then-not-is_hop_near
returns-then-not-is_hop_near c =
    let a = c.args in
    let no : c.is_hop_near.result ≡ false = search rules in
    sym (one_far a.step a.n a.hops a.x.now a.allowed c.loop-h.h c.loop-h-test.true (sym (tested a.n a.hops a.allowed a.step a.x.now c.requires.0 c.loop-h.h c.loop-h.tail c.is_hop_near.result c.loop-h.invariant.0 c.is_hop_near.ensures.value) ∙ no))

pub loop-h-preserved : goal.loop-h-preserved
loop-h-preserved c =
    let a = c.args in
    let yes : c.is_hop_near.result ≡ true = search rules in
    after a.n a.hops a.allowed a.step a.x.now c.requires.0 c.loop-h.h c.loop-h.tail _ c.is_hop_near.result c.loop-h.invariant.0 c.loop-h.invariant.1 c.is_hop_near.ensures.value yes c.is_hop_near.ensures.tail_after

pub returns : goal.returns
returns c =
    let a = c.args in
    let end : c.loop-h.h ≡ a.hops = omega arith in
    sym (all_near a.step a.n a.hops a.x.now a.allowed (some a.n a.hops a.allowed a.step a.x.now c.requires.0) (ap (λ (h : ℕ). all h (hop_near a.step a.n a.hops a.x.now a.allowed)) (sym end) ∙ c.loop-h.invariant.1))
