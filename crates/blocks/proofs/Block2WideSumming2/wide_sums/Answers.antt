use Rattle.std.proofs.Common.{arith, lit<}
use Rattle.arithmetic.specs.Lists.{table}
use Rattle.cosine.specs.Cosine.{reduced, to_half, to_turn, continued}
use Rattle.cosine.specs.CosineLaws.{table_c}
use Rattle.cosine.specs.TableLaws.{numbers}
use Rattle.level.proofs.Tested.{doubled_is, tabled_doubled, read_kernel}
use Rattle.blocks.proofs.Block2WideSumming2.wide_sums.Goals as goal

pub all_by_itself-requires : goal.all_by_itself-requires
unfolding tabled_doubled table read_kernel table_c continued to_turn to_half reduced numbers
all_by_itself-requires c =
    (lit< tt, (lit< tt, (lit< tt, ((lit< tt, omega arith), (record { small = λ i p. omega (arith, c.requires.small.small i p) }, doubled_is 2)))))
