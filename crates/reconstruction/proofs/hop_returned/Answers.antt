use Rattle.reconstruction.specs.DistanceLaws as Laws
use Rattle.reconstruction.proofs.hop_returned.Goals as goal

pub returns : goal.returns
returns c = record {
  neighbours = Laws.joint_neighbours;
  distance = Laws.distance;
  returned = Laws.returned;
  each = Laws.returned-each;
  same = Laws.returned-same;
}
