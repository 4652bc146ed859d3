-- The proof of the cycle of calls {split}. The measure is the part's length, which falls to a third.
use mathlib.Core.Path.{◌≡◌}
use mathlib.Core.List.{List}
use Prim.Native.Nat.{ℕ, ◌/◌, ◌%◌, ◌≤◌, ◌<◌}
use native.Mathlib.Omega.{arith}
use lib.ListN.{length}
use lib.Seq.{length-take-le}
use lib.IntN.{ℤ}
use Rattle.split.specs.PartLaws.{third_long}
use Rattle.double_route.specs.PieceLaws.{Piece, short-most, third-more, third_last}
use Rattle.double_route.specs.StepLaws.{Thirds, part_sums, Sums, sums_long}
use Rattle.double_route.specs.FrontLaws.{front_long, front_room, call_asks, call_gives, join_asks, join_gives}
use borrow.Author.Rules.{rules}
use borrow.Fn.Kinds.{In}
use borrow.Fn.PlainCycle.{Measures, is, falls, and}
use Rattle.double_route.proofs.split.Reads as split
use Rattle.double_route.proofs.split.Kinds as split-kinds
use Rattle.double_route.proofs.+split.Lts-split as split-lts
use Rattle.double_route.proofs.sums.join.Reads as join-reads
use Rattle.double_route.proofs.sums.last.Reads as last-reads
use Rattle.double_route.proofs.thirds.thirds.Reads as thirds-reads
use Rattle.double_route.proofs.+split.{statement}
use Rattle.double_route.proofs.+split.Tie.{close}

abbrev μ_split : Measures 2 split-kinds.ps ℕ
μ_split κs a = length a.0.now

abbrev split_at : ℕ → In 2 split-kinds.ps
split_at t = and 2 split-kinds.ps (is 2 split-kinds.ps μ_split t) split.Pre

abbrev split_below : ℕ → In 2 split-kinds.ps
split_below t = and 2 split-kinds.ps (falls 2 split-kinds.ps ◌<◌ μ_split t) split.Pre

-- the contracts of the callees, split's own below t
abbrev callees : ℕ → split-lts.Claims
callees t = (thirds-reads.Asked, thirds-reads.Learnt, split_below t, split.Post, join-reads.Asked, join-reads.Learnt, last-reads.Asked, last-reads.Learnt)

module _ (t : ℕ) (c : split-lts.Start (callees t) (split_at t) split.Post) where
  abbrev y : List ℤ
  y = c.args.y.now

  abbrev N : ℕ
  N = length y

  given : Piece N y
  given = c.requires.1.0

  room_24 : N / 3 ≤ 24
  room_24 = omega (arith, short-most N given.short)

  room_12 : N / 6 ≤ 12
  room_12 = omega (arith, short-most N given.short)

-- the inputs of the three parts, in the fronts of their arrays
module _ (t : ℕ) (c : split-lts.After-thirds (callees t) (split_at t) split.Post) where
  abbrev s : split-lts.Start (callees t) (split_at t) split.Post
  s = c.before.before.before.before.before

  abbrev wa : List ℤ
  wa = c.thirds.new.wa

  abbrev wb : List ℤ
  wb = c.thirds.new.wb

  abbrev wg : List ℤ
  wg = c.thirds.new.wg

  again : N t s / 3 % 12 ≡ 0
  again = c.before.before.before.before.if-t-eq0.true

  thirds : Thirds (N t s) (y t s) wa wb wg
  thirds = c.thirds.ensures

  wa_long : length wa ≡ N t s / 3
  wa_long = third_long 0 (N t s) (y t s) wa thirds.first

  wb_long : length wb ≡ N t s / 3
  wb_long = third_long 1 (N t s) (y t s) wb thirds.second

  wg_long : length wg ≡ N t s / 3
  wg_long = third_long 2 (N t s) (y t s) wg thirds.last

-- and the sums of each
module _ (t : ℕ) (c : split-lts.After-split (callees t) (split_at t) split.Post) where
  abbrev u_a : split-lts.After-thirds (callees t) (split_at t) split.Post
  u_a = c.before.before.before.before.before.before

  abbrev a : List ℤ
  a = c.split.new.out

  a_is : a ≡ part_sums 0 (N t (s t u_a)) (y t (s t u_a))
  a_is = call_gives (N t (s t u_a)) (y t (s t u_a)) (given t (s t u_a)) 0 _ _ (thirds t u_a).first.is _ c.split.ensures

  a_long : length a ≡ N t (s t u_a) / 6
  a_long = sums_long (N t (s t u_a)) (y t (s t u_a)) (given t (s t u_a)) 0 a a_is

module _ (t : ℕ) (c : split-lts.After-split-then-t-eq0 (callees t) (split_at t) split.Post) where
  abbrev u_b : split-lts.After-thirds (callees t) (split_at t) split.Post
  u_b = c.before.before.before.before.before.before.before.before.before.before

  abbrev b : List ℤ
  b = c.split-then-t-eq0.new.out

  b_is : b ≡ part_sums 1 (N t (s t u_b)) (y t (s t u_b))
  b_is = call_gives (N t (s t u_b)) (y t (s t u_b)) (given t (s t u_b)) 1 _ _ (thirds t u_b).second.is _ c.split-then-t-eq0.ensures

  b_long : length b ≡ N t (s t u_b) / 6
  b_long = sums_long (N t (s t u_b)) (y t (s t u_b)) (given t (s t u_b)) 1 b b_is

module _ (t : ℕ) (c : split-lts.After-split-then-t-eq0-2 (callees t) (split_at t) split.Post) where
  abbrev u_g : split-lts.After-thirds (callees t) (split_at t) split.Post
  u_g = c.before.before.before.before.before.before.before.before.before.before.before.before.before.before

  abbrev g : List ℤ
  g = c.split-then-t-eq0-2.new.out

  g_is : g ≡ part_sums 2 (N t (s t u_g)) (y t (s t u_g))
  g_is = call_gives (N t (s t u_g)) (y t (s t u_g)) (given t (s t u_g)) 2 _ _ (thirds t u_g).last.is _ c.split-then-t-eq0-2.ensures

  g_long : length g ≡ N t (s t u_g) / 6
  g_long = sums_long (N t (s t u_g)) (y t (s t u_g)) (given t (s t u_g)) 2 g g_is

-- ---- the three parts
split_array_borrow_prefix_wa : (t : ℕ) → split-lts.Need-slice_bounds-wa-end (callees t) (split_at t) split.Post
split_array_borrow_prefix_wa t c = room_24 t c.before

split_slice_aggregate_thirds : (t : ℕ) → split-lts.Need-slice_bounds-thirds-end (callees t) (split_at t) split.Post
split_slice_aggregate_thirds t c = front_long (N t c.before.before / 3) _ (room_24 t c.before.before)

split_array_borrow_prefix_wb : (t : ℕ) → split-lts.Need-slice_bounds-wb-end (callees t) (split_at t) split.Post
split_array_borrow_prefix_wb t c = room_24 t c.before.before

split_slice_aggregate_thirds_2 : (t : ℕ) → split-lts.Need-slice_bounds-thirds-end-then-t-eq0 (callees t) (split_at t) split.Post
split_slice_aggregate_thirds_2 t c = front_long (N t c.before.before.before / 3) _ (room_24 t c.before.before.before)

split_array_borrow_prefix_wg : (t : ℕ) → split-lts.Need-slice_bounds-wg-end (callees t) (split_at t) split.Post
split_array_borrow_prefix_wg t c = room_24 t c.before.before.before

split_slice_aggregate_thirds_3 : (t : ℕ) → split-lts.Need-slice_bounds-thirds-end-then-t-eq0-2 (callees t) (split_at t) split.Post
split_slice_aggregate_thirds_3 t c = front_long (N t c.before.before.before.before / 3) _ (room_24 t c.before.before.before.before)

split_thirds_requires : (t : ℕ) → split-lts.Need-thirds-requires (callees t) (split_at t) split.Post
split_thirds_requires t c κs =
    let s = c.before.before.before.before in
    let r = room_24 t s in (
      given t s,
      (third-more (N t s) (given t s).short c.before.before.before.if-t-eq0.true, record { first = length-take-le (N t s / 3) _ r; second = length-take-le (N t s / 3) _ r; last = length-take-le (N t s / 3) _ r }),
    )

-- ---- the sums of each
split_array_share_prefix_wa : (t : ℕ) → split-lts.Need-slice_bounds-wa-end-then-t-eq0 (callees t) (split_at t) split.Post
split_array_share_prefix_wa t c =
    let u = c.before.before.before in
    front_room (N t (s t u) / 3) (wa t u) _ (wa_long t u)

split_slice_aggregate_split : (t : ℕ) → split-lts.Need-slice_bounds-split-end (callees t) (split_at t) split.Post
split_slice_aggregate_split t c =
    let u = c.before.before.before.before in
    front_long (N t (s t u) / 3) _ (front_room (N t (s t u) / 3) (wa t u) _ (wa_long t u))

split_array_borrow_prefix_a : (t : ℕ) → split-lts.Need-slice_bounds-a-end (callees t) (split_at t) split.Post
split_array_borrow_prefix_a t c = room_12 t c.before.before.before.before.before.before.before.before.before

split_slice_aggregate_split_2 : (t : ℕ) → split-lts.Need-slice_bounds-split-end-then-t-eq0 (callees t) (split_at t) split.Post
split_slice_aggregate_split_2 t c = front_long (N t c.before.before.before.before.before.before.before.before.before.before / 6) _ (room_12 t c.before.before.before.before.before.before.before.before.before.before)

split_split_requires : (t : ℕ) → split-lts.Need-split-requires (callees t) (split_at t) split.Post
split_split_requires t c κs =
    let u = c.before.before.before.before.before in
    call_asks (N t (s t u)) (y t (s t u)) (given t (s t u)) 0 _ _ (thirds t u).first.is (again t u) t (s t u).requires.0 _ (room_12 t (s t u))

split_array_share_prefix_wb : (t : ℕ) → split-lts.Need-slice_bounds-wb-end-then-t-eq0 (callees t) (split_at t) split.Post
split_array_share_prefix_wb t c =
    let u = c.before.before.before.before.before.before.before in
    front_room (N t (s t u) / 3) (wb t u) _ (wb_long t u)

split_slice_aggregate_split_3 : (t : ℕ) → split-lts.Need-slice_bounds-split-end-then-t-eq0-2 (callees t) (split_at t) split.Post
split_slice_aggregate_split_3 t c =
    let u = c.before.before.before.before.before.before.before.before in
    front_long (N t (s t u) / 3) _ (front_room (N t (s t u) / 3) (wb t u) _ (wb_long t u))

split_array_borrow_prefix_b : (t : ℕ) → split-lts.Need-slice_bounds-b-end (callees t) (split_at t) split.Post
split_array_borrow_prefix_b t c = room_12 t c.before.before.before.before.before.before.before.before.before.before.before.before.before

split_slice_aggregate_split_4 : (t : ℕ) → split-lts.Need-slice_bounds-split-end-then-t-eq0-3 (callees t) (split_at t) split.Post
split_slice_aggregate_split_4 t c = front_long (N t c.before.before.before.before.before.before.before.before.before.before.before.before.before.before / 6) _ (room_12 t c.before.before.before.before.before.before.before.before.before.before.before.before.before.before)

split_split_requires_2 : (t : ℕ) → split-lts.Need-split-requires-then-t-eq0 (callees t) (split_at t) split.Post
split_split_requires_2 t c κs =
    let u = c.before.before.before.before.before.before.before.before.before in
    call_asks (N t (s t u)) (y t (s t u)) (given t (s t u)) 1 _ _ (thirds t u).second.is (again t u) t (s t u).requires.0 _ (room_12 t (s t u))

split_array_share_prefix_wg : (t : ℕ) → split-lts.Need-slice_bounds-wg-end-then-t-eq0 (callees t) (split_at t) split.Post
split_array_share_prefix_wg t c =
    let u = c.before.before.before.before.before.before.before.before.before.before.before in
    front_room (N t (s t u) / 3) (wg t u) _ (wg_long t u)

split_slice_aggregate_split_5 : (t : ℕ) → split-lts.Need-slice_bounds-split-end-then-t-eq0-4 (callees t) (split_at t) split.Post
split_slice_aggregate_split_5 t c =
    let u = c.before.before.before.before.before.before.before.before.before.before.before.before in
    front_long (N t (s t u) / 3) _ (front_room (N t (s t u) / 3) (wg t u) _ (wg_long t u))

split_array_borrow_prefix_g : (t : ℕ) → split-lts.Need-slice_bounds-g-end (callees t) (split_at t) split.Post
split_array_borrow_prefix_g t c = room_12 t c.before.before.before.before.before.before.before.before.before.before.before.before.before.before.before.before.before

split_slice_aggregate_split_6 : (t : ℕ) → split-lts.Need-slice_bounds-split-end-then-t-eq0-5 (callees t) (split_at t) split.Post
split_slice_aggregate_split_6 t c = front_long (N t c.before.before.before.before.before.before.before.before.before.before.before.before.before.before.before.before.before.before / 6) _ (room_12 t c.before.before.before.before.before.before.before.before.before.before.before.before.before.before.before.before.before.before)

split_split_requires_3 : (t : ℕ) → split-lts.Need-split-requires-then-t-eq0-2 (callees t) (split_at t) split.Post
split_split_requires_3 t c κs =
    let u = c.before.before.before.before.before.before.before.before.before.before.before.before.before in
    call_asks (N t (s t u)) (y t (s t u)) (given t (s t u)) 2 _ _ (thirds t u).last.is (again t u) t (s t u).requires.0 _ (room_12 t (s t u))

split_array_share_prefix_a : (t : ℕ) → split-lts.Need-slice_bounds-a-end-then-t-eq0 (callees t) (split_at t) split.Post
split_array_share_prefix_a t c =
    let x = c.before.before.before.before.before.before.before.before.before in
    front_room (N t (s t (u_a t x)) / 6) (a t x) _ (a_long t x)

split_slice_aggregate_join : (t : ℕ) → split-lts.Need-slice_bounds-join-end (callees t) (split_at t) split.Post
split_slice_aggregate_join t c =
    let x = c.before.before.before.before.before.before.before.before.before.before in
    front_long (N t (s t (u_a t x)) / 6) _ (front_room (N t (s t (u_a t x)) / 6) (a t x) _ (a_long t x))

split_array_share_prefix_b : (t : ℕ) → split-lts.Need-slice_bounds-b-end-then-t-eq0 (callees t) (split_at t) split.Post
split_array_share_prefix_b t c =
    let x = c.before.before.before.before.before.before in
    front_room (N t (s t (u_b t x)) / 6) (b t x) _ (b_long t x)

split_slice_aggregate_join_2 : (t : ℕ) → split-lts.Need-slice_bounds-join-end-then-t-eq0 (callees t) (split_at t) split.Post
split_slice_aggregate_join_2 t c =
    let x = c.before.before.before.before.before.before.before in
    front_long (N t (s t (u_b t x)) / 6) _ (front_room (N t (s t (u_b t x)) / 6) (b t x) _ (b_long t x))

split_array_share_prefix_g : (t : ℕ) → split-lts.Need-slice_bounds-g-end-then-t-eq0 (callees t) (split_at t) split.Post
split_array_share_prefix_g t c =
    let x = c.before.before.before in
    front_room (N t (s t (u_g t x)) / 6) (g t x) _ (g_long t x)

split_slice_aggregate_join_3 : (t : ℕ) → split-lts.Need-slice_bounds-join-end-then-t-eq0-2 (callees t) (split_at t) split.Post
split_slice_aggregate_join_3 t c =
    let x = c.before.before.before.before in
    front_long (N t (s t (u_g t x)) / 6) _ (front_room (N t (s t (u_g t x)) / 6) (g t x) _ (g_long t x))

split_join_requires : (t : ℕ) → split-lts.Need-join-requires (callees t) (split_at t) split.Post
split_join_requires t c κs =
    let u = c.before.before.before.before.before.before.before.before.before.before.before.before.before.before.before.before.before.before.before in
    let h : Sums (N t (s t u)) (y t (s t u)) (a t c.before.before.before.before.before.before.before.before.before.before.before.before.before) (b t c.before.before.before.before.before.before.before.before.before) (g t c.before.before.before.before.before) =
    record { piece = given t (s t u); a_is = a_is t c.before.before.before.before.before.before.before.before.before.before.before.before.before; b_is = b_is t c.before.before.before.before.before.before.before.before.before; g_is = g_is t c.before.before.before.before.before } in
    join_asks (N t (s t u)) (y t (s t u)) _ _ _ _ _ _ h (s t u).args.out.now (s t u).requires.1.1

-- ---- the last parts
split_last_requires : (t : ℕ) → split-lts.Need-last-requires (callees t) (split_at t) split.Post
split_last_requires t c κs =
    let s = c.before.before in
    (given t s, (third_last (N t s) (given t s).short c.before.if-t-eq0.false, s.requires.1.1))

-- ---- the sums of the part
split_same_length : (t : ℕ) → split-lts.Need-shape_of-out-then-t-eq0 (callees t) (split_at t) split.Post
split_same_length t c = c.before.join.auto.out

split_returns : (t : ℕ) → split-lts.Need-returns-then-t-eq0 (callees t) (split_at t) split.Post
split_returns t c =
    let u = c.before.before.before.before.before.before.before.before.before.before.before.before.before.before.before.before.before.before.before.before.before in
    let h : Sums (N t (s t u)) (y t (s t u)) (a t c.before.before.before.before.before.before.before.before.before.before.before.before.before.before.before) (b t c.before.before.before.before.before.before.before.before.before.before.before) (g t c.before.before.before.before.before.before.before) =
    record { piece = given t (s t u); a_is = a_is t c.before.before.before.before.before.before.before.before.before.before.before.before.before.before.before; b_is = b_is t c.before.before.before.before.before.before.before.before.before.before.before; g_is = g_is t c.before.before.before.before.before.before.before } in
    join_gives (N t (s t u)) (y t (s t u)) _ _ _ _ _ _ h _ c.before.join.ensures

split_same_length_2 : (t : ℕ) → split-lts.Need-shape_of-out-else-t-eq0 (callees t) (split_at t) split.Post
split_same_length_2 t c = search rules

split_returns_2 : (t : ℕ) → split-lts.Need-returns-else-t-eq0 (callees t) (split_at t) split.Post
split_returns_2 t c = c.before.last.ensures

pub +split_spec : {M : Type 1} → statement M
+split_spec = close μ_split λ t. split-lts.spec (callees t)
    (split_at t)
    split.Post
    (split_array_borrow_prefix_wa t)
    (split_slice_aggregate_thirds t)
    (split_array_borrow_prefix_wb t)
    (split_slice_aggregate_thirds_2 t)
    (split_array_borrow_prefix_wg t)
    (split_slice_aggregate_thirds_3 t)
    (split_thirds_requires t)
    (split_array_share_prefix_wa t)
    (split_slice_aggregate_split t)
    (split_array_borrow_prefix_a t)
    (split_slice_aggregate_split_2 t)
    (split_split_requires t)
    (split_array_share_prefix_wb t)
    (split_slice_aggregate_split_3 t)
    (split_array_borrow_prefix_b t)
    (split_slice_aggregate_split_4 t)
    (split_split_requires_2 t)
    (split_array_share_prefix_wg t)
    (split_slice_aggregate_split_5 t)
    (split_array_borrow_prefix_g t)
    (split_slice_aggregate_split_6 t)
    (split_split_requires_3 t)
    (split_array_share_prefix_a t)
    (split_slice_aggregate_join t)
    (split_array_share_prefix_b t)
    (split_slice_aggregate_join_2 t)
    (split_array_share_prefix_g t)
    (split_slice_aggregate_join_3 t)
    (split_join_requires t)
    (split_last_requires t)
    (split_same_length t)
    (split_returns t)
    (split_same_length_2 t)
    (split_returns_2 t)
