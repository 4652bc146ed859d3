use Rattle.demands.proofs.RecordingExampleLaws as Laws
use Rattle.demands.proofs.recording_examples.Goals as goal

pub returns : goal.returns
returns c = record {
  played = Laws.played;
  played_on = Laws.played_on;
  by_blocks = Laws.by_blocks;
  back = Laws.back;
  short_half = Laws.short-half;
  short_mirror = Laws.short_mirror;
  shape_of_2 = Laws.shape_of_2;
  short_at_108 = Laws.short_at_108;
  short_at_216 = Laws.short_at_216;
  direct_at_216 = Laws.direct_at_216;
  ramp_analysed = Laws.ramp-analysed;
  ramp_played = Laws.ramp_played;
  ramp_back = Laws.ramp-back;
  slope_analysed = Laws.slope-analysed;
  slope_played = Laws.slope_played;
  slope_back = Laws.slope-back;
  slope_sharper = Laws.slope_sharper;
  slope_recorded = Laws.slope_recorded;
  last_taken = Laws.last_taken;
  slope_near = Laws.slope-near;
  double_and_short_played = Laws.double_and_short_played;
  double_and_short_back = Laws.double_and_short-back;
  double_and_short_sharper = Laws.double_and_short_sharper;
  short_beside_double = Laws.short_beside_double;
  double_at_24 = Laws.double_at_24;
  double_at_12 = Laws.double_at_12;
  turned_taken = Laws.turned_taken;
  ramp_turned = Laws.ramp-turned;
  slope_turned_taken = Laws.slope_turned_taken;
  slope_turned = Laws.slope-turned;
  short_taken = Laws.short-taken;
  short_turned_taken = Laws.short_turned_taken;
  short_turned = Laws.short-turned;
  knock_played = Laws.knock_played;
  knock_analysed = Laws.knock-analysed;
  by_one_call = Laws.by_one_call;
  knock_once = Laws.knock_once;
  knock_once_one = Laws.knock_once_one;
  knock_printed = Laws.knock-printed;
  knock_page = Laws.knock_page;
  counted_printed = Laws.counted-printed;
  counted_read = Laws.counted-read;
  counted_blanks = Laws.counted_blanks;
  counted_only = Laws.counted_only;
  counted_alone = Laws.counted_alone;
}
