-- `advance` meets its contract: the step in place, on a tail of its own.
use mathlib.Core.Path.{ap}
use mathlib.Core.List.{List}
use Prim.Native.Nat.{◌+◌}
use native.Mathlib.Omega.{arith}
use lib.IntN.{ℤ}
use borrow.Author.Rules.{rules}
use Rattle.stream.specs.Steps.{next}
use Rattle.synthesis.proofs.advance.Statement.{statement}
use Rattle.synthesis.proofs.advance.Tie as tie

add_expected : tie.Need-overflow_add-expected
add_expected c = record { fits = omega (arith, c.before.requires.1) }

slice_aggregate_advance_tail : tie.Need-slice_bounds-advance_tail-end
slice_aggregate_advance_tail c = search rules

advance_tail_requires : tie.Need-advance_tail-requires
advance_tail_requires c κs = search rules

same_length : tie.Need-shape_of-out
same_length c = search rules

returns : tie.Need-returns
unfolding next
returns c =
    let s = c.before.before.before.before.before.before.before in
    (ap (λ (r : List ℤ). record { n = s.args.s.n; expected = s.args.s.expected + 1; shape = 0; tail = r }) c.before.before.advance_tail.ensures.0, c.before.before.advance_tail.ensures.1)

pub advance_spec : {M : Type 1} → statement M
advance_spec =
    tie.close (tie.spec add_expected slice_aggregate_advance_tail advance_tail_requires same_length returns)
