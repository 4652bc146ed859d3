use Rattle.std.specs.Prelude.{eqb, length}
use Rattle.std.proofs.Common.{rules, tests, ap, ◌∙◌}
use Rattle.std.proofs.lemmas.Iterator.Consumers.{count_from_yields_List}
use Rattle.std.proofs.lemmas.Iterator.Splits.{YieldsList-from_slice_split}
use Rattle.text.specs.Bytes.{comma}
use Rattle.text.specs.Lines.{fields}
use Rattle.text.proofs.SearchLaws.{split_parts}
use Rattle.listing.proofs.hop.count_fields.Goals as goal

pub returns : goal.returns
unfolding fields
returns c =
    let line = c.args.line.now in
    count_from_yields_List _ _ c.count.ensures.ran (YieldsList-from_slice_split _ (λ b. eqb b comma) line c.split.ensures.rest c.split.ensures.done c.split.ensures.closure (λ x b q k. search (rules, tests)))
    ∙ ap length (split_parts comma line)
