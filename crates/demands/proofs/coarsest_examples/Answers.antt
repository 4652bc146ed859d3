use Rattle.demands.proofs.CoarseExampleLaws as Laws
use Rattle.demands.proofs.coarsest_examples.Goals as goal

pub returns : goal.returns
returns c = record {
  knock_taken = Laws.knock-taken;
  two_trials = Laws.two_trials;
  one_trial = Laws.one_trial;
  by_two = Laws.by_two;
  by_one = Laws.by_one;
  keeps_1023 = Laws.keeps_1023;
  largest_1023 = Laws.largest_1023;
  failed_1024 = Laws.failed_1024;
  keeps_143 = Laws.keeps_143;
  used_up = Laws.used_up;
  keeps_144 = Laws.keeps_144;
  added_up = Laws.added_up;
  sure_ruled = Laws.sure-ruled;
  sure_told = Laws.sure-told;
  sure_stored = Laws.sure-stored;
  beyond_32 = Laws.beyond_32;
  two_before_12 = Laws.two_before_12;
  into_room = Laws.into_room;
  room_of_two = Laws.room_of_two;
}
