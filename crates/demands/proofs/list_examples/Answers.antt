use Rattle.demands.proofs.ExampleLaws as Laws
use Rattle.demands.proofs.list_examples.Goals as goal

pub returns : goal.returns
returns c = record {
  codes = Laws.codes;
  recorded = Laws.recorded;
  knock_recorded = Laws.knock_recorded;
  numbered = Laws.numbered;
  uneven_numbered = Laws.uneven_numbered;
  knock_numbered = Laws.knock-numbered;
  returned = Laws.returned;
  knock_returned = Laws.knock-returned;
  one_Q = Laws.one_Q;
  uneven = Laws.uneven;
  foreign = Laws.foreign;
  sharper = Laws.sharper;
  all_taken = Laws.all-taken;
  every_sample = Laws.every-sample;
  knock_all_taken = Laws.knock_all_taken;
  knock_back = Laws.knock-back;
  made = Laws.made;
  on_a_state = Laws.on_a_state;
  whole_on_a_state = Laws.whole_on_a_state;
  hop_0 = Laws.hop_0;
  hop_1 = Laws.hop_1;
  uneven_hop_0 = Laws.uneven_hop_0;
  uneven_hop_2 = Laws.uneven_hop_2;
  ends_long = Laws.ends_long;
  none_taken = Laws.none-taken;
  last_taken = Laws.last_taken;
  none_behind = Laws.none-behind;
  last_shape = Laws.last-shape;
  last_counted = Laws.last-counted;
  forged_shape = Laws.forged_shape;
  no_shape_below = Laws.no_shape_below;
  no_shape_above = Laws.no_shape_above;
  none_expected = Laws.none_expected;
}
