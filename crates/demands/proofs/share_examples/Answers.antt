use Rattle.demands.proofs.ShareExampleLaws as Laws
use Rattle.demands.proofs.share_examples.Goals as goal

pub returns : goal.returns
returns c = record {
  in_the_earlier = Laws.in_the_earlier;
  in_the_later = Laws.in_the_later;
  smaller_earlier = Laws.smaller-earlier;
  equal = Laws.equal;
  first_of_equal = Laws.first_of_equal;
  smaller_before = Laws.smaller_before;
  none_there = Laws.none_there;
  first_then_second = Laws.first_then_second;
  first_then_another = Laws.first_then_another;
  same_there = Laws.same_there;
  none_at_the_end = Laws.none_at_the_end;
  another_then_second = Laws.another_then_second;
  same_at_the_end = Laws.same_at_the_end;
  some_there = Laws.some_there;
  no_shape = Laws.no_shape;
}
