use Rattle.demands.proofs.LevelExampleLaws as Laws
use Rattle.demands.proofs.level_examples.Goals as goal

pub returns : goal.returns
returns c = record {
  codes = Laws.codes;
  stored_backs = Laws.stored_backs;
  stored_loads = Laws.stored_loads;
  backs_kept = Laws.backs_kept;
  backs_on_a_state = Laws.backs_on_a_state;
  kept = Laws.kept;
  kept_on_a_state = Laws.kept_on_a_state;
  told_4 = Laws.told_4;
  hop_within_4 = Laws.hop_within_4;
  both_taken = Laws.both_taken;
  every_sample = Laws.every-sample;
  played = Laws.played;
  long_by_blocks = Laws.long_by_blocks;
  blocks_kept = Laws.blocks-kept;
  long_by_one_call = Laws.long_by_one_call;
  once_kept = Laws.once_kept;
  told_3 = Laws.told_3;
  told_5 = Laws.told_5;
  double_tells_more = Laws.double_tells_more;
  route_2 = Laws.route_2;
  route_3 = Laws.route_3;
  not_told_at_12 = Laws.not_told_at_12;
}
