use Rattle.std.proofs.Common.{sym, ap, ◌∙◌}
use Rattle.text.specs.Bytes.{line_feed}
use Rattle.text.specs.LineLaws.{end-most, next-is, at-is}
use Rattle.listing.specs.Hops.{samples}
use Rattle.listing.proofs.hop.read_hop.Goals as goal

pub slice_bounds-read_samples-end : goal.slice_bounds-read_samples-end
slice_bounds-read_samples-end c = end-most line_feed c.args.input.now c.args.at c.find-end.result c.requires.0 c.find-end.ensures

pub read_samples-requires : goal.read_samples-requires
read_samples-requires c = rw (at-is c.args.input.now c.args.at c.find-end.result c.find-end.ensures) at c.requires.1

pub returns-clause-out_after : goal.returns-clause-out_after
returns-clause-out_after c = c.read_samples.ensures ∙ ap samples (sym (at-is c.args.input.now c.args.at c.find-end.result c.find-end.ensures))

pub returns-clause-value : goal.returns-clause-value
returns-clause-value c = sym (next-is c.args.input.now c.args.at c.find-end.result c.find-end.ensures)
