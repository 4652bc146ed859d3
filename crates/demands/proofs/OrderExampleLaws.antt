-- The orders at N = 12: four blocks by block and by frequency, what a synthesis and a page make of either, there and back, and a share named by its block's number in the recording. All is computed
-- from the definitions, or follows from `either_order`, `explained_in` and `demand_1`.
use Rattle.std.specs.Prelude.{◌≡◌, refl, true, List, [], ◌∷◌, ◌++◌, ℕ, length, take, ℤ}
use Rattle.std.proofs.Common.{◌∙◌, arith, lit≤}
use Rattle.arithmetic.specs.Lists.{at}
use Rattle.analysis.specs.declared.Route.TheVariants.{Direct}
use Rattle.orders.specs.declared.Order.TheVariants.{ByBlock, ByFrequency}
use Rattle.orders.specs.Orders.{order_of, hops_in, other, reordered}
use Rattle.recording_calls.specs.Recordings.{recorded_out, played_code, played_out, reorder_causes, reorder_code, reorder_out}
use Rattle.page.specs.Page.{page_out}
use Rattle.shares.specs.Shares.{share_of, earlier, later, share_in, best, none, named, largest_share}
use Rattle.share_calls.specs.ShareCalls.{answered_with, refused_with}
use Rattle.share_calls.specs.RecordingShares.{share_at, numbered_from, place_causes, place_code, both_ranged, recording_share_code, recording_share, recording_name_out}
use Rattle.demands.proofs.AnswerLaws.{demand_1}
use Rattle.demands.proofs.DefinitionLaws.{demand_2}
use Rattle.demands.proofs.OrderLaws.{either_order}
use Rattle.demands.specs.Demands.{Alike}
use Rattle.demands.specs.Example.{block_0, block_1, block_2, block_3, knock, room, whole, hops_room}
use Rattle.demands.proofs.ExampleLaws.{answers, twelve}
use Rattle.demands.proofs.RecordingExampleLaws.{knock-analysed}
use Rattle.demands.specs.OrderExamples.{wide, bands, muted, muted_bands}

pub taken : reorder_code 12 3 whole wide ≡ 0
unfolding answers reorder_causes reorder_code
taken = refl

-- coefficient 0 of all blocks stands first, and coefficient 5 last
pub first_band : take 4 bands ≡ at block_0 0 ∷ at block_1 0 ∷ at block_2 0 ∷ at block_3 0 ∷ []
unfolding answers reorder_causes reorder_code reorder_out reordered other
first_band = refl

pub last_of_all : at bands 23 ≡ at block_3 5
unfolding answers reorder_causes reorder_code reorder_out reordered other
last_of_all = refl

-- ---- the same from either
pub alike : Alike 12 3 ByFrequency ByBlock bands whole
unfolding other
alike = either_order.reordered ByFrequency 12 3 whole wide taken

pub same-samples : played_out ByFrequency 12 3 bands hops_room ≡ played_out ByBlock 12 3 whole hops_room
same-samples = (either_order.samples alike hops_room).1

pub same_page : (paper : List ℕ) → page_out ByFrequency 12 3 bands paper ≡ page_out ByBlock 12 3 whole paper
same_page paper = (either_order.pages alike paper).1

pub and-back : (back : List ℤ) → length back ≡ 24 → reorder_out ByBlock 12 3 bands back ≡ whole
unfolding other
and-back back l = either_order.there_and_back ByFrequency 12 3 whole wide back taken (either_order.taken_back ByFrequency 12 3 whole wide back taken l)

-- an analysis fills either
pub analysed_alike : Alike 12 1 ByFrequency ByBlock (recorded_out Direct ByFrequency 12 1 knock (room ++ room)) (recorded_out Direct ByBlock 12 1 knock (room ++ room))
analysed_alike = either_order.analyses Direct ByFrequency ByBlock 12 1 knock (room ++ room) (room ++ room) knock-analysed knock-analysed

-- ---- block 3 was changed to silence: it moved the samples of hop 2, and none of hop 0
shares : Unit {0}
unfolding answers share_of earlier later share_in best named largest_share share_at numbered_from place_causes place_code both_ranged recording_share_code recording_share
shares = tt

pub block_3-named : recording_share ByBlock 12 3 whole muted 2 1 ≡ record { code = 0; any = true; block = 3; coefficient = 5 }
unfolding shares muted
block_3-named = refl

pub none_named : recording_share ByBlock 12 3 whole muted 0 1 ≡ answered_with none
unfolding shares muted
none_named = refl

-- and by frequency, in the call's answer and in its room
pub muted-taken : reorder_code 12 3 muted wide ≡ 0
unfolding answers muted reorder_causes reorder_code
muted-taken = refl

pub muted_alike : Alike 12 3 ByFrequency ByBlock muted_bands muted
unfolding other
muted_alike = either_order.reordered ByFrequency 12 3 muted wide muted-taken

pub same_share : recording_share ByFrequency 12 3 bands muted_bands 2 1 ≡ record { code = 0; any = true; block = 3; coefficient = 5 }
same_share = either_order.explanations alike muted_alike 2 1 ∙ block_3-named

pub same_name : (named : List ℕ) → recording_name_out ByFrequency 12 3 bands muted_bands 2 1 named ≡ recording_name_out ByBlock 12 3 whole muted 2 1 named
same_name named = (either_order.names alike muted_alike 2 1 named).1

-- so that sample 1 of hop 0 is the same, whatever the buffers held
pub same_there : (out out' : List ℤ) → played_code 12 3 whole out ≡ 0 → played_code 12 3 muted out' ≡ 0 → at (played_out ByBlock 12 3 whole out) 1 ≡ at (played_out ByBlock 12 3 muted out') 1
same_there = (demand_2.explained_in ByBlock 12 3 whole muted 0 1 (rw none_named refl)).same (rw none_named refl)

-- ---- a hop behind the last is 2, and so is, for C, an order that is none
pub no_hop : recording_share ByBlock 12 3 whole muted 3 1 ≡ refused_with 2
no_hop = (demand_1.shared_recording ByBlock 12 3 whole muted 3 1).two twelve (λ p. omega (arith, p.hop_is))

pub no_order : (x out : List ℤ) → played_code 12 (hops_in 2 3) x out ≡ 2
no_order x out = (demand_1.played (order_of 2) 12 (hops_in 2 3) x out).two_hops twelve ((demand_1.numbered 2 3).other (lit≤ tt))
