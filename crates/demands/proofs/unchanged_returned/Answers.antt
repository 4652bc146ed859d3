use Rattle.demands.proofs.UnchangedLaws as Laws
use Rattle.demands.proofs.unchanged_returned.Goals as goal

pub returns : goal.returns
returns c = record {
  taken = Laws.unchanged_taken;
  near = Laws.unchanged_near;
  sharper = Laws.unchanged_sharper;
  back = Laws.unchanged_back;
  each_taken = Laws.each-taken;
  each_back = Laws.each_back;
}
