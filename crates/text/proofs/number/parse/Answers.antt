use Rattle.arithmetic.specs.TestLaws.{is_T}
use Rattle.text.specs.NumberLaws.{number_wider}
use Rattle.text.specs.Number.{most_digits}
use Rattle.std.proofs.Common.{sym, ◌∙◌}
use Rattle.text.proofs.number.parse.Goals as goal

pub value-requires : goal.value-requires
value-requires c = number_wider c.args.most most_digits c.args.s.now c.requires (is_T (sym c.is_number.ensures ∙ c.if-is_number.true))
