use Rattle.demands.proofs.OrderExampleLaws as Laws
use Rattle.demands.proofs.order_examples.Goals as goal

pub returns : goal.returns
returns c = record {
  taken = Laws.taken;
  first_band = Laws.first_band;
  last_of_all = Laws.last_of_all;
  alike = Laws.alike;
  same_samples = Laws.same-samples;
  same_page = Laws.same_page;
  and_back = Laws.and-back;
  analysed_alike = Laws.analysed_alike;
  block_3_named = Laws.block_3-named;
  none_named = Laws.none_named;
  muted_taken = Laws.muted-taken;
  muted_alike = Laws.muted_alike;
  same_share = Laws.same_share;
  same_name = Laws.same_name;
  same_there = Laws.same_there;
  no_hop = Laws.no_hop;
  no_order = Laws.no_order;
}
