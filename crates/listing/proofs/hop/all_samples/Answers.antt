use Rattle.std.specs.Prelude.{eqb}
use Rattle.std.proofs.Common.{rules, tests, ap, ◌∙◌}
use Rattle.std.proofs.lemmas.Iterator.Search.{all_from_yields_List}
use Rattle.std.proofs.lemmas.Iterator.Splits.{YieldsList-from_slice_split}
use Rattle.std.specs.List.{list_all}
use Rattle.text.specs.Bytes.{comma}
use Rattle.text.specs.Lines.{split, fields}
use Rattle.text.proofs.SearchLaws.{all_every, split_parts}
use Rattle.listing.specs.Hops.{is_sample}
use Rattle.listing.proofs.hop.all_samples.Goals as goal

pub returns : goal.returns
unfolding fields
returns c =
    let line = c.args.line.now in
    all_from_yields_List is_sample _ _ c.all.result c.all.ensures.ran (YieldsList-from_slice_split _ (λ b. eqb b comma) line c.split.ensures.rest c.split.ensures.done c.split.ensures.closure (λ x b q k. search (rules, tests))) (λ x b q k. search (rules, tests))
    ∙ ap (λ xs. list_all is_sample xs) (split_parts comma line)
    ∙ all_every is_sample (split comma line)
