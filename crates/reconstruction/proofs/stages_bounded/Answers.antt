use Rattle.reconstruction.specs.ShareLaws as Laws
use Rattle.reconstruction.proofs.stages_bounded.Goals as goal

pub returns : goal.returns
returns c = record { rounding_of_U = Laws.share_U; rounding_of_X = Laws.share_X; gram = Laws.share_gram }
