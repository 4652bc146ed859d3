use Rattle.demands.specs.FloatExamples.{rubbish}
use Rattle.demands.proofs.FloatExampleLaws as Laws
use Rattle.demands.proofs.float_examples.Goals as goal

pub returns : goal.returns
returns c = record {
  steep_taken = Laws.steep-taken;
  steep_floats = Laws.steep-floats;
  as_2_to_the_23 = Laws.as_2_to_the_23;
  minus_a_64th = Laws.minus_a_64th;
  last_float = Laws.last_float;
  zero_float = Laws.zero_float;
  steep_ends = Laws.steep_ends;
  steep_named = Laws.steep-named;
  highest_there = λ e. e.highest.same rubbish Laws.steep-taken;
  pair_taken = Laws.pair_taken;
  into_two = Laws.into_two;
  beyond_ends = Laws.beyond_ends;
  room_first = Laws.room-first;
}
