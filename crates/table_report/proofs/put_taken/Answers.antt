use Rattle.text.proofs.OutputLaws.{puts_then}
use Rattle.level_calls.specs.LevelCallLaws.{hop_some, hop_most}
use Rattle.table_report.specs.Report.{taken_lines}
use Rattle.table_report.proofs.put_taken.Goals as goal

pub coarsest-requires-clause-m_nonzero : goal.coarsest-requires-clause-m_nonzero
coarsest-requires-clause-m_nonzero c = (hop_some c.args.n c.requires.tabled.0, hop_most c.args.n c.requires.tabled.0)

pub returns-clause-puts : goal.returns-clause-puts
unfolding taken_lines
returns-clause-puts c =
    puts_then (puts_then (puts_then (rw c.coarsest.ensures at c.put_saying.ensures.puts) c.put_distance.ensures.puts) c.put_offered.ensures.puts) c.put_offered-2.ensures.puts
