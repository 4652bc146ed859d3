-- Behind a minus stand the digits of the number.
use Rattle.std.specs.Prelude.{◌-◌, List, ℕ, length, take, drop}
use Rattle.std.proofs.Common.{arith, sym, ◌∙◌}
use Rattle.arithmetic.specs.TestLaws.{is_T}
use Rattle.text.specs.NumberLaws.{Natural, natural-parts, signed_long}
use Rattle.text.proofs.number.is_number.Goals as goal

pub slice_bounds-digits-count : goal.slice_bounds-digits-count
slice_bounds-digits-count c = signed_long c.args.s.now (sym c.is_signed.ensures ∙ c.if-is_signed.true)

pub slice_bounds-digits-start : goal.slice_bounds-digits-start
slice_bounds-digits-start c = signed_long c.args.s.now (sym c.is_signed.ensures ∙ c.if-is_signed.true)

abbrev behind : goal.Then-is_natural → List ℕ
behind c = take (length c.args.s.now - 1) (drop 1 c.args.s.now)

digits : (c : goal.Then-is_natural) → Natural c.args.most (behind c)
digits c = natural-parts c.args.most (behind c) (is_T (sym c.is_natural.ensures ∙ c.if-is_natural.true))

pub natural-requires-clause-digits : goal.natural-requires-clause-digits
natural-requires-clause-digits c = (digits c).digits

pub natural-requires-clause-s_len_bound : goal.natural-requires-clause-s_len_bound
natural-requires-clause-s_len_bound c = omega (arith, (digits c).most)
