-- Laws of the orders of a recording's coefficients: what is alike in either has the same blocks, and so every call gives the same: `either_order`.
use Rattle.std.specs.Prelude.{◌≡◌, refl, ◌≢◌, Bool, true, false, ℕ, zero, suc, ◌+◌, ◌*◌, ◌/◌, ◌≤◌, ◌<◌, length, ℤ, pos, nat_abs}
use Rattle.std.proofs.Math.Path.{sym, ap}
use Rattle.std.proofs.Common.{ap₂, ◌∙◌, arith, ext_get_or}
use mathlib.Core.List.{List, [], ◌∷◌, ◌++◌}
use Rattle.std.proofs.Math.Decide.{dec_lt}
use Rattle.arithmetic.specs.Lists.{at, joined}
use Rattle.arithmetic.specs.JoinLaws.{joined_same}
use Rattle.orders.specs.declared.Order.{Order}
use Rattle.orders.specs.Orders.{place, block_at, coefficient_at, part, other, reordered}
use Rattle.orders.specs.OrderLaws.{place-less, block-less, coefficient_less, place_is, part_at, part_long, laid_long, laid-at, laid_ext, laid-part, reordered-part, there_and_back as there-and-back'}
use Rattle.stream.specs.declared.Stream.{Stream}
use Rattle.stream.specs.Steps.{next, hop, stream_after, returned}
use Rattle.analysis.specs.declared.Route.{Route}
use Rattle.analysis.specs.Analysis.{coefficients}
use Rattle.recording.specs.Recordings.{block, analysis, synthesis}
use Rattle.checks.specs.Limits.{coefficient_limit, in_range}
use Rattle.checks.specs.LimitLaws.{counted-some, counted-most}
use Rattle.recording_calls.specs.Recordings.{recorded_code, recorded_out, played_causes, played_code, played_out, reorder_code, reorder_out}
use Rattle.recording_calls.specs.RecordingLaws.{recorded_taken, reorder_facts, reorder_taken}
use Rattle.text.specs.Bytes.{line_feed}
use Rattle.page.specs.Page.{columns, page_of, page_causes, page_code, page_out}
use Rattle.share_calls.specs.ShareCalls.{refused_with}
use Rattle.share_calls.specs.RecordingShares.{share_at, place_causes, place_code, both_ranged, recording_share_code, recording_share, recording_name_code, recording_name_out}
use Rattle.share_calls.specs.RecordingShareLaws.{places, placed_away, name_placed_away}
use Rattle.demands.specs.CauseTestLaws.{ranges, of_ranges}
use Rattle.demands.specs.OrderAnswerLaws.{reorder_answers}
use Rattle.demands.specs.Answers.{InRange}
use Rattle.demands.specs.Demands.{Alike, EitherOrder}

module _ (N H : ℕ) (order order' : Order) (X Y : List ℤ) where
  abbrev M : ℕ
  M = N / 2

  abbrev B : ℕ
  B = H + 1

  pub alike_of : length X ≡ B * M → length Y ≡ B * M → ((b : ℕ) → b ≤ H → part order M B X b ≡ part order' M B Y b) → Alike N H order order' X Y
  alike_of l l' same = record {
    long = l;
    long' = l';
    each = λ b k p q. sym (part_at M B order X b k q) ∙ ap (λ (c : List ℤ). at c k) (same b p) ∙ part_at M B order' Y b k q;
  }

  pub same-part : Alike N H order order' X Y → (b : ℕ) → b ≤ H → part order M B X b ≡ part order' M B Y b
  same-part a b p =
      ext_get_or (pos 0) (part order M B X b) (part order' M B Y b) (part_long M B order X b ∙ sym (part_long M B order' Y b)) (λ k q. each k (omega (arith, q, part_long M B order X b)))
    where
      each : (k : ℕ) → k < M → at (part order M B X b) k ≡ at (part order' M B Y b) k
      each k q = part_at M B order X b k q ∙ a.each b k p q ∙ sym (part_at M B order' Y b k q)

-- ---- the steps up to b depend on the blocks up to b
stream_same : (N : ℕ) (f g : ℕ → List ℤ) (b : ℕ) → ((c : ℕ) → c < b → f c ≡ g c) → stream_after N f b ≡ stream_after N g b
unfolding stream_after
stream_same N f g zero h = refl
stream_same N f g (suc b) h = ap₂ (λ (s : Stream) (x : List ℤ). next s 0 0 x) (stream_same N f g b (λ c p. h c (omega arith))) (h b (omega arith))

returned-same : (N : ℕ) (f g : ℕ → List ℤ) (b : ℕ) → ((c : ℕ) → c ≤ b → f c ≡ g c) → returned N f b ≡ returned N g b
unfolding returned
returned-same N f g b h = ap₂ (λ (s : Stream) (x : List ℤ). hop s 0 0 x) (stream_same N f g b (λ c p. h c (omega arith))) (h b (omega arith))

-- in one order what is alike is one list
alone : {N H : ℕ} {order : Order} {X Y : List ℤ} → Alike N H order order X Y → X ≡ Y
alone {N} {H} {order} {X} {Y} a =
    let M = N / 2 in
    let B = H + 1 in
    sym (laid-part M B order X a.long) ∙ laid_ext M B order (part order M B X) (part order M B Y) (λ b p. same-part N H order order X Y a b (omega arith)) ∙ laid-part M B order Y a.long'

-- ---- the same number from either
module _ {N H : ℕ} {order order' : Order} {X Y : List ℤ} (a : Alike N H order order' X Y) where
  turned : Alike N H order' order Y X
  turned = record { long = a.long'; long' = a.long; each = λ b k p q. sym (a.each b k p q) }

-- a coefficient at place i of Y is one of X
lies_in_range : {N H : ℕ} {order order' : Order} {X Y : List ℤ} → Alike N H order order' X Y → InRange X → InRange Y
lies_in_range {N} {H} {order} {order'} {X} {Y} a r = record { each = λ i p. go i (omega (arith, p, a.long')) }
  where
    go : (i : ℕ) → i < (H + 1) * (N / 2) → nat_abs (at Y i) ≤ coefficient_limit
    go i p =
        let M = N / 2 in
        let b = block_at order' M (H + 1) i in
        let k = coefficient_at order' M (H + 1) i in
        let q = block-less M (H + 1) i p order' in
        let h = coefficient_less M (H + 1) i p order' in
        rw (ap (at Y) (sym (place_is M (H + 1) i p order')) ∙ sym (a.each b k (omega (arith, q)) h)) (r.each (place order M (H + 1) b k) (omega (arith, place-less M (H + 1) b k q h order, a.long)))

module _ {N H : ℕ} {order order' : Order} {X Y : List ℤ} (a : Alike N H order order' X Y) where
  pub same_range : in_range ((H + 1) * (N / 2)) X ≡ in_range ((H + 1) * (N / 2)) Y
  same_range = go (in_range ((H + 1) * (N / 2)) X) (in_range ((H + 1) * (N / 2)) Y) refl refl
    where
      go : (p q : Bool) → in_range ((H + 1) * (N / 2)) X ≡ p → in_range ((H + 1) * (N / 2)) Y ≡ q → p ≡ q
      go true true e f = refl
      go false false e f = refl
      go true false e f = sym (ranges Y ((H + 1) * (N / 2)) a.long' (lies_in_range a (of_ranges X ((H + 1) * (N / 2)) a.long e))) ∙ f
      go false true e f = sym e ∙ ranges X ((H + 1) * (N / 2)) a.long (lies_in_range (turned a) (of_ranges Y ((H + 1) * (N / 2)) a.long' f))

  -- ---- samples
  played_code_same : (out : List ℤ) → played_code N H X out ≡ played_code N H Y out
  unfolding played_code played_causes
  played_code_same out = rw (a.long, a.long', same_range)

  hops-same : synthesis order N H X ≡ synthesis order' N H Y
  unfolding synthesis
  hops-same =
      joined_same H (λ h. returned N (part order (N / 2) (H + 1) X) (suc h)) (λ h. returned N (part order' (N / 2) (H + 1) Y) (suc h))
      (λ h p. returned-same N (part order (N / 2) (H + 1) X) (part order' (N / 2) (H + 1) Y) (suc h) (λ b q. same-part N H order order' X Y a b (omega arith)))

  pub samples-same : (out : List ℤ) → (played_code N H X out ≡ played_code N H Y out) × (played_out order N H X out ≡ played_out order' N H Y out)
  unfolding played_out
  samples-same out = (played_code_same out, rw (played_code_same out, hops-same))

  -- ---- pages
  page_code_same : (out : List ℕ) → page_code N H X out ≡ page_code N H Y out
  unfolding page_code page_causes
  page_code_same out = rw (a.long, a.long', same_range)

  page_same : page_of order N H X ≡ page_of order' N H Y
  unfolding page_of
  page_same =
      joined_same (H + 1) (λ b. joined (N / 2 / 6) (λ j. columns b (part order (N / 2) (H + 1) X b) j ++ (line_feed ∷ []))) (λ b. joined (N / 2 / 6) (λ j. columns b (part order' (N / 2) (H + 1) Y b) j ++ (line_feed ∷ [])))
      (λ b p. ap (λ (c : List ℤ). joined (N / 2 / 6) (λ j. columns b c j ++ (line_feed ∷ []))) (same-part N H order order' X Y a b (omega arith)))

  pub pages_same : (out : List ℕ) → (page_code N H X out ≡ page_code N H Y out) × (page_out order N H X out ≡ page_out order' N H Y out)
  unfolding page_out
  pages_same out = (page_code_same out, rw (page_code_same out, page_same))

-- ---- explanations
module _ {N H : ℕ} {order order' : Order} {X X' Y Y' : List ℤ} (a : Alike N H order order' X Y) (a' : Alike N H order order' X' Y') (hop place : ℕ) where
  same_place : place_code N H X X' hop place ≡ place_code N H Y Y' hop place
  unfolding place_code place_causes
  same_place = rw (a.long, a.long', a'.long, a'.long')

  same_both : both_ranged N H X X' ≡ both_ranged N H Y Y'
  unfolding both_ranged
  same_both = rw (same_range a, same_range a')

  share_code_same : recording_share_code N H X X' hop place ≡ recording_share_code N H Y Y' hop place
  unfolding recording_share_code place_causes
  share_code_same = rw (a.long, a.long', a'.long, a'.long', same_both)

  name_code_same : (room : List ℕ) → recording_name_code N H X X' hop place room ≡ recording_name_code N H Y Y' hop place room
  unfolding recording_name_code place_causes
  name_code_same room = rw (a.long, a.long', a'.long, a'.long', same_both)

  -- within the recording the same blocks are asked
  share_same : hop < H → share_at order N H X X' hop place ≡ share_at order' N H Y Y' hop place
  unfolding share_at
  share_same p =
      rw (
        same-part N H order order' X Y a hop (omega arith),
        same-part N H order order' X' Y' a' hop (omega arith),
        same-part N H order order' X Y a (suc hop) p,
        same-part N H order order' X' Y' a' (suc hop) p,
      )

  -- and outside it the hop is turned away
  outside : ¬ (hop < H) → place_code N H X X' hop place ≢ 0
  outside n z = n (places N H X X' hop place z).hop_is

  pub explanations_same : recording_share order N H X X' hop place ≡ recording_share order' N H Y Y' hop place
  unfolding recording_share
  explanations_same = go (dec_lt hop H)
    where
      go : Dec (hop < H) → recording_share order N H X X' hop place ≡ recording_share order' N H Y Y' hop place
      go (yes p) = rw (share_code_same, share_same p)
      go (no n) =
          sym (placed_away N H X X' hop place order (outside n))
          ∙ ap refused_with same_place
          ∙ placed_away N H Y Y' hop place order' (λ z. outside n (same_place ∙ z))

  pub names_same : (room : List ℕ) →
      (recording_name_code N H X X' hop place room ≡ recording_name_code N H Y Y' hop place room) × (recording_name_out order N H X X' hop place room ≡ recording_name_out order' N H Y Y' hop place room)
  unfolding recording_name_out
  names_same room = (name_code_same room, go (dec_lt hop H))
    where
      go : Dec (hop < H) → recording_name_out order N H X X' hop place room ≡ recording_name_out order' N H Y Y' hop place room
      go (yes p) = rw (name_code_same room, share_same p)
      go (no n) =
          sym (name_placed_away N H X X' hop place order room (outside n)).1
          ∙ (name_placed_away N H Y Y' hop place order' room (λ z. outside n (same_place ∙ z))).1

-- ---- either order from an analysis, and from the other one
analyses_alike : (route : Route) (order order' : Order) (N H : ℕ) (x out out' : List ℤ) → recorded_code route N H x out ≡ 0 → recorded_code route N H x out' ≡ 0 →
    Alike N H order order' (recorded_out route order N H x out) (recorded_out route order' N H x out')
unfolding analysis
analyses_alike route order order' N H x out out' e e' =
    let M = N / 2 in
    let B = H + 1 in
    let g : ℕ → List ℤ = λ b. coefficients route N 0 0 (block N x b) in
    rw (← (recorded_taken route order N H x out e).1, ← (recorded_taken route order' N H x out' e').1)
    (record { long = laid_long M B order g; long' = laid_long M B order' g; each = λ b k p q. laid-at M B order g b k (omega arith) q ∙ sym (laid-at M B order' g b k (omega arith) q) })

reordered_alike : (to : Order) (N H : ℕ) (X out : List ℤ) → reorder_code N H X out ≡ 0 → Alike N H to (other to) (reorder_out to N H X out) X
unfolding reordered
reordered_alike to N H X out e =
    let M = N / 2 in
    let B = H + 1 in
    let f = reorder_facts N H X out e in
    rw (reorder_taken to N H X out e)
    (alike_of N H to (other to) (reordered to M B X) X (laid_long M B to (part (other to) M B X)) f.long (λ b p. reordered-part M B to X b (omega arith)))

taken_back : (to : Order) (N H : ℕ) (X out back : List ℤ) → reorder_code N H X out ≡ 0 → length back ≡ (H + 1) * (N / 2) → reorder_code N H (reorder_out to N H X out) back ≡ 0
taken_back to N H X out back e l =
    let f = reorder_facts N H X out e in
    let a = reordered_alike to N H X out e in
    (reorder_answers (other to) N H (reorder_out to N H X out) back).taken f.length_is (record { some = counted-some H f.hops; most = counted-most H f.hops }) a.long l
    (lies_in_range (turned a) (record { each = f.range.small }))

back_again : (to : Order) (N H : ℕ) (X out back : List ℤ) → reorder_code N H X out ≡ 0 → reorder_code N H (reorder_out to N H X out) back ≡ 0 →
    reorder_out (other to) N H (reorder_out to N H X out) back ≡ X
back_again to N H X out back e e' =
    reorder_taken (other to) N H (reorder_out to N H X out) back e'
    ∙ ap (reordered (other to) (N / 2) (H + 1)) (reorder_taken to N H X out e)
    ∙ there-and-back' (N / 2) (H + 1) to X (reorder_facts N H X out e).long

pub either_order : EitherOrder
either_order = record {
  samples = samples-same;
  pages = pages_same;
  explanations = explanations_same;
  names = names_same;
  alone = alone;
  analyses = analyses_alike;
  reordered = reordered_alike;
  taken_back = taken_back;
  there_and_back = back_again;
}
