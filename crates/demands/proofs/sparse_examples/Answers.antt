use Rattle.demands.proofs.SparseExampleLaws as Laws
use Rattle.demands.proofs.sparse_examples.Goals as goal

pub returns : goal.returns
returns c = record {
  sparse_numbered = Laws.sparse_numbered;
  sparsely = Laws.sparsely;
  by_largest = Laws.by-largest;
  by_the_sum = Laws.by_the_sum;
  by_the_largest = Laws.by_the_largest;
  sparse_all = Laws.sparse_all;
  within_10 = Laws.within_10;
  within_63 = Laws.within_63;
  sparsely_on_a_state = Laws.sparsely_on_a_state;
  slight_numbered = Laws.slight_numbered;
  slight_all = Laws.slight_all;
  as_it_was = Laws.as_it_was;
  sparse_played = Laws.sparse_played;
  by_one_call = Laws.by_one_call;
  once = Laws.once;
  once_within_10 = Laws.once_within_10;
  by_blocks = Laws.by_blocks;
  blocks = Laws.blocks;
}
