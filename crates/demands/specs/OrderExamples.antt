-- The orders at N = 12: four blocks by block and by frequency, what a synthesis and a page make of either, there and back, and a share named by its block's number in the recording. `OrderExamples` is the contract of the
-- function `order_examples`, by OrderExampleLaws.
use Rattle.std.specs.Prelude.{◌≡◌, true, List, [], ◌∷◌, ◌++◌, ℕ, length, take, replicate, ℤ, pos}
use Rattle.arithmetic.specs.Lists.{at}
use Rattle.analysis.specs.declared.Route.TheVariants.{Direct}
use Rattle.orders.specs.declared.Order.TheVariants.{ByBlock, ByFrequency}
use Rattle.orders.specs.Orders.{hops_in}
use Rattle.recording_calls.specs.Recordings.{recorded_out, played_code, played_out, reorder_code, reorder_out}
use Rattle.page.specs.Page.{page_out}
use Rattle.shares.specs.Shares.{none}
use Rattle.share_calls.specs.ShareCalls.{answered_with, refused_with}
use Rattle.share_calls.specs.RecordingShares.{recording_share, recording_name_out}
use Rattle.demands.specs.Demands.{Alike}
use Rattle.demands.specs.Example.{block_0, block_1, block_2, block_3, knock, room, whole, hops_room}

-- what a buffer held
abbrev pub wide : List ℤ
wide = room ++ room ++ room ++ room

-- the four blocks by frequency
abbrev pub bands : List ℤ
bands = reorder_out ByFrequency 12 3 whole wide

-- the four blocks, of which block 3 was changed to silence, by block and by frequency
unfoldable pub muted : List ℤ
muted = block_0 ++ block_1 ++ block_2 ++ replicate 6 (pos 0)

abbrev pub muted_bands : List ℤ
muted_bands = reorder_out ByFrequency 12 3 muted wide

pub record OrderExamples : Type 0 where
  pub taken : reorder_code 12 3 whole wide ≡ 0
  -- coefficient 0 of all blocks stands first, and coefficient 5 last
  pub first_band : take 4 bands ≡ at block_0 0 ∷ at block_1 0 ∷ at block_2 0 ∷ at block_3 0 ∷ []
  pub last_of_all : at bands 23 ≡ at block_3 5
  -- ---- the same from either
  pub alike : Alike 12 3 ByFrequency ByBlock bands whole
  pub same_samples : played_out ByFrequency 12 3 bands hops_room ≡ played_out ByBlock 12 3 whole hops_room
  pub same_page : (paper : List ℕ) → page_out ByFrequency 12 3 bands paper ≡ page_out ByBlock 12 3 whole paper
  pub and_back : (back : List ℤ) → length back ≡ 24 → reorder_out ByBlock 12 3 bands back ≡ whole
  -- an analysis fills either
  pub analysed_alike : Alike 12 1 ByFrequency ByBlock (recorded_out Direct ByFrequency 12 1 knock (room ++ room)) (recorded_out Direct ByBlock 12 1 knock (room ++ room))
  -- ---- block 3 was changed to silence: it moved the samples of hop 2, and none of hop 0
  pub block_3_named : recording_share ByBlock 12 3 whole muted 2 1 ≡ record { code = 0; any = true; block = 3; coefficient = 5 }
  pub none_named : recording_share ByBlock 12 3 whole muted 0 1 ≡ answered_with none
  -- and by frequency, in the call's answer and in its room
  pub muted_taken : reorder_code 12 3 muted wide ≡ 0
  pub muted_alike : Alike 12 3 ByFrequency ByBlock muted_bands muted
  pub same_share : recording_share ByFrequency 12 3 bands muted_bands 2 1 ≡ record { code = 0; any = true; block = 3; coefficient = 5 }
  pub same_name : (named : List ℕ) → recording_name_out ByFrequency 12 3 bands muted_bands 2 1 named ≡ recording_name_out ByBlock 12 3 whole muted 2 1 named
  -- so that sample 1 of hop 0 is the same, whatever the buffers held
  pub same_there : (out out' : List ℤ) → played_code 12 3 whole out ≡ 0 → played_code 12 3 muted out' ≡ 0 → at (played_out ByBlock 12 3 whole out) 1 ≡ at (played_out ByBlock 12 3 muted out') 1
  -- ---- a hop behind the last is 2, and so is, for C, an order that is none
  pub no_hop : recording_share ByBlock 12 3 whole muted 3 1 ≡ refused_with 2
  pub no_order : (x out : List ℤ) → played_code 12 (hops_in 2 3) x out ≡ 2
