-- No number on the way is above the last.
use Rattle.std.specs.Prelude.{◌≡◌, refl, ℕ, ◌+◌, ◌-◌, ◌*◌, ◌^◌, ◌<◌, ◌≤◌, T, get_or, length, drop}
use Rattle.std.proofs.Common.{arith, sym, ◌∙◌}
use Rattle.std.specs.Prelude.{List}
use Rattle.arithmetic.specs.Lists.{every}
use Rattle.arithmetic.specs.TestLaws.{every-at}
use Rattle.text.specs.Bytes.{digit}
use Rattle.text.specs.Number.{is_digit, natural, natural_from}
use Rattle.text.specs.NumberLaws.{natural-most, natural_from_grows, digit_low}
use Rattle.text.specs.ScanLaws.{natural-next, natural-end}
use Rattle.text.proofs.number.natural.Goals as goal

-- with n in front of what is left from place i on
module _ (s : List ℕ) (digits : T (every is_digit s)) (short : length s ≤ 18) (n i : ℕ) (h : i < length s) (front : natural s ≡ natural_from n (drop i s)) where
  low : digit 0 ≤ get_or s i 0
  low = digit_low (get_or s i 0) (every-at is_digit 0 s digits i h)

  more : natural s ≡ natural_from (10 * n + (get_or s i 0 - digit 0)) (drop (i + 1) s)
  more = front ∙ natural-next n s i h

  small : 10 * n + (get_or s i 0 - digit 0) < 10 ^ 18
  small = omega (arith, natural-most 18 s short digits, more, natural_from_grows (10 * n + (get_or s i 0 - digit 0)) (drop (i + 1) s))

pub loop-b-init : goal.loop-b-init
unfolding natural
loop-b-init c = refl

pub overflow_mul-n : goal.overflow_mul-n
overflow_mul-n c = omega (arith, small c.args.s.now c.requires.digits c.requires.s_len_bound c.loop-b.n c.loop-b.b-index (omega arith) c.loop-b.invariant)

pub overflow_sub-n : goal.overflow_sub-n
overflow_sub-n c = low c.args.s.now c.requires.digits c.requires.s_len_bound c.loop-b.n c.loop-b.b-index (omega arith) c.loop-b.invariant

pub overflow_add-n : goal.overflow_add-n
overflow_add-n c = omega (arith, small c.args.s.now c.requires.digits c.requires.s_len_bound c.loop-b.n c.loop-b.b-index (omega arith) c.loop-b.invariant)

pub loop-b-preserved : goal.loop-b-preserved
loop-b-preserved c = more c.args.s.now c.requires.digits c.requires.s_len_bound c.loop-b.n c.loop-b.b-index (omega arith) c.loop-b.invariant

pub returns : goal.returns
returns c = sym (c.loop-b.invariant ∙ natural-end c.loop-b.n c.args.s.now c.loop-b.b-index (omega arith))
