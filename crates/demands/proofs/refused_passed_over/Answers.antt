use Rattle.demands.proofs.RefusalLaws as Laws
use Rattle.demands.proofs.refused_passed_over.Goals as goal

pub returns : goal.returns
returns c = record {
  next_answer = Laws.next-answer;
  next_buffer = Laws.next_buffer;
  never_came = Laws.never_came;
  never_came_after = Laws.never_came_after;
  only_taken = Laws.only_taken;
  only_taken_after = Laws.only_taken_after;
}
