use Rattle.arithmetic.specs.Lists.{table, every}
use Rattle.cosine.specs.Cosine.{reduced, to_half, to_turn, continued}
use Rattle.cosine.specs.CosineLaws.{table_c}
use Rattle.cosine.specs.Kernels.{lengths, tabled}
use Rattle.cosine.specs.PowerLaws.{table_rise}
use Rattle.cosine.specs.TableLaws.{numbers}
use Rattle.windows.specs.HalfLaws.{rise_numbers, fall_numbers}
use Rattle.windows.proofs.Tested.{window_of}
use Rattle.windows.proofs.window_216.Goals as goal

pub invariant_of-result : goal.invariant_of-result
unfolding rise_numbers fall_numbers table_rise table table_c continued to_turn to_half reduced numbers tabled every lengths
invariant_of-result c = record { is_window = window_of 108 tt }
