-- The two forms of a number, of which none is from 10 ^ 18 on.
use Rattle.std.specs.Prelude.{◌≡◌, Bool, true, false, T, List, ℕ, ◌^◌, ◌<◌, ◌≤◌, length, drop, pos, neg_ℤ}
use Rattle.std.proofs.Common.{arith, sym, ap, ◌∙◌}
use lib.IntN.{◌-ℤ◌, +ℤ_idl}
use mir.Syntax.{w64}
use mir.Val.{SFits, to_z, of_z}
use mir.Facts.{to_z-of_z, to_z_pos}
use Rattle.arithmetic.specs.OrderLaws.{sfits_abs, abs_neg}
use Rattle.text.specs.Number.{most_digits, is_number, is_signed, natural}
use Rattle.text.specs.NumberLaws.{Natural, natural-parts, number-plain, number_digits, value-signed, value-plain, signed_long, natural-most}
use Rattle.text.specs.ScanLaws.{rest-is}
use Rattle.text.proofs.number.value.Goals as goal

-- a natural number, its negative, and both as the machine has them
module _ (n : ℕ) (h : n < 10 ^ 18) where
  fits : SFits w64 (pos n)
  fits = sfits_abs (pos n) (omega arith)

  is : to_z w64 n ≡ pos n
  is = to_z_pos w64 (omega arith)

  below_fits : SFits w64 (pos 0 -ℤ to_z w64 n)
  below_fits = rw (is, +ℤ_idl) (sfits_abs (neg_ℤ (pos n)) (omega (arith, abs_neg (pos n))))

  below_is : to_z w64 (of_z w64 (pos 0 -ℤ to_z w64 n)) ≡ neg_ℤ (pos n)
  below_is = to_z-of_z below_fits ∙ rw (is, +ℤ_idl)

small : (n : ℕ) (ds : List ℕ) → n ≡ natural ds → Natural most_digits ds → n < 10 ^ 18
small n ds e N = omega (arith, natural-most 18 ds N.most N.digits)

-- behind a minus
module _ (s : List ℕ) (is : T (is_number most_digits s)) (test : Bool) (known : test ≡ is_signed s) where
  digits : test ≡ true → Natural most_digits (drop 1 s)
  digits e = number_digits most_digits s (sym known ∙ e) is

  long : test ≡ true → 1 ≤ length s
  long e = signed_long s (sym known ∙ e)

  all_digits : test ≡ false → Natural most_digits s
  all_digits e = natural-parts most_digits s (rw (number-plain most_digits s (sym known ∙ e)) at is)

pub slice_bounds-natural-count : goal.slice_bounds-natural-count
slice_bounds-natural-count c = long c.args.s.now c.requires c.is_signed.result c.is_signed.ensures c.if-is_signed.true

pub slice_bounds-natural-start : goal.slice_bounds-natural-start
slice_bounds-natural-start c = long c.args.s.now c.requires c.is_signed.result c.is_signed.ensures c.if-is_signed.true

pub natural-requires-clause-digits : goal.natural-requires-clause-digits
natural-requires-clause-digits c = rw (rest-is c.args.s.now 1) (digits c.args.s.now c.requires c.is_signed.result c.is_signed.ensures c.if-is_signed.true).digits

pub natural-requires-clause-s_len_bound : goal.natural-requires-clause-s_len_bound
natural-requires-clause-s_len_bound c = rw (rest-is c.args.s.now 1) (digits c.args.s.now c.requires c.is_signed.result c.is_signed.ensures c.if-is_signed.true).most

behind : (c : goal.After-natural) → c.natural.result ≡ natural (drop 1 c.args.s.now)
behind c = c.natural.ensures ∙ ap natural (rest-is c.args.s.now 1)

behind_small : (c : goal.After-natural) → c.natural.result < 10 ^ 18
behind_small c = small c.natural.result (drop 1 c.args.s.now) (behind c) (digits c.args.s.now c.requires c.is_signed.result c.is_signed.ensures c.if-is_signed.true)

pub overflow_cast-result : goal.overflow_cast-result
overflow_cast-result c = fits c.natural.result (behind_small c)

pub overflow_sub-result : goal.overflow_sub-result
overflow_sub-result c = below_fits c.natural.result (behind_small c)

pub returns-then-is_signed : goal.returns-then-is_signed
returns-then-is_signed c = below_is c.natural.result (behind_small c) ∙ ap (λ (n : ℕ). neg_ℤ (pos n)) (behind c) ∙ sym (value-signed c.args.s.now (sym c.is_signed.ensures ∙ c.if-is_signed.true))

-- with none
pub natural-requires-else-is_signed-clause-digits :
    goal.natural-requires-else-is_signed-clause-digits
natural-requires-else-is_signed-clause-digits c = (all_digits c.args.s.now c.requires c.is_signed.result c.is_signed.ensures c.if-is_signed.false).digits

pub natural-requires-else-is_signed-clause-s_len_bound :
    goal.natural-requires-else-is_signed-clause-s_len_bound
natural-requires-else-is_signed-clause-s_len_bound c = (all_digits c.args.s.now c.requires c.is_signed.result c.is_signed.ensures c.if-is_signed.false).most

plain_small : (c : goal.After-natural-else-is_signed) → c.natural-else-is_signed.result < 10 ^ 18
plain_small c = small c.natural-else-is_signed.result c.args.s.now c.natural-else-is_signed.ensures (all_digits c.args.s.now c.requires c.is_signed.result c.is_signed.ensures c.if-is_signed.false)

pub overflow_cast-result-else-is_signed : goal.overflow_cast-result-else-is_signed
overflow_cast-result-else-is_signed c = fits c.natural-else-is_signed.result (plain_small c)

pub returns-else-is_signed : goal.returns-else-is_signed
returns-else-is_signed c = is c.natural-else-is_signed.result (plain_small c) ∙ ap pos c.natural-else-is_signed.ensures ∙ sym (value-plain c.args.s.now (sym c.is_signed.ensures ∙ c.if-is_signed.false))
