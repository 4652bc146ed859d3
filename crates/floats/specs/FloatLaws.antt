-- Laws: the float of a coefficient is X / 64 exactly, for every X of at most 53 binary digits; and it is what the machine's division gives.
use Rattle.std.specs.Prelude.{◌≡◌, refl, Bool, true, false, ℕ, suc, ◌+◌, ◌*◌, ◌^◌, ◌≤◌, ◌<◌, ℤ, pos, negsuc, nat_abs, Float}
use Rattle.std.proofs.Common.{sym, ◌∙◌, ap, mul-pos, mul_comm, mul_assoc, lt_of_lt_of_le, arith, lit≤, pow-add, pow_mono, shl_lt}
use Rattle.std.specs.Float.{nan, inf, fin, binary64}
use Rattle.std.specs.Float.Ieee.{up, down, size, span, climb, odd, units, round, div, of_int, of_bits, of_fields}
use Rattle.std.specs.Float.Ieee.Exact.{HasValue, round_exact}
use Rattle.std.specs.Float.Ieee.Back.{round_whole}
use Rattle.std.specs.Float.Ieee.Fits.{down_pos}
use Rattle.std.specs.Float.Ieee.Scale.{round_same}
use Rattle.std.specs.Int.Count.{count_trailing_zeros}
use Rattle.floats.specs.Floats.{negative, sixty_fourth}

-- ---- the value
split : (n a b : ℕ) → n * 2 ^ (a + b) ≡ n * 2 ^ a * 2 ^ b
split n a b = ap (λ (z : ℕ). n * z) (pow-add 2 a b) ∙ sym (mul_assoc n (2 ^ a) (2 ^ b))

below : (n a b : ℕ) → n < 2 ^ 53 → 53 + a ≤ b → n * 2 ^ a < 2 ^ b
below n a b h k = lt_of_lt_of_le (shl_lt 53 a h) (pow_mono k)

-- the float's value is X / 64: it is finite, has X's sign, and its size m × 2^e times 64 is |X|
pub exact : (x : ℤ) → nat_abs x < 2 ^ 53 → HasValue (sixty_fourth x) (negative x) (nat_abs x) 64
unfolding sixty_fourth
exact x h =
    round_exact
    binary64
    (negative x)
    (nat_abs x)
    64
    (nat_abs x)
    1068
    (lit≤ tt)
    h
    (below (nat_abs x) 1068 2098 h (lit≤ tt))
    (split (nat_abs x) 1068 6)

-- zero has no sign
pub zero_is : sixty_fourth (pos 0) ≡ fin false 0 (pos 0)
unfolding sixty_fourth negative round units odd size span climb
zero_is = refl

-- ---- the machine's division by 64.0
swap : (a n d : ℕ) → a ≡ n * d → a * 64 ≡ n * (64 * d)
swap a n d h = rw (h, mul_assoc n d 64, mul_comm d 64)

rescaled : (m : ℕ) (e : ℤ) (t s : Bool) (n : ℕ) → HasValue (fin t m e) s n 1 → round binary64 t (m * up e * 1) (64 * down e) ≡ round binary64 s n 64
rescaled m e t s n v =
    rw v.0 (round_same binary64 s (m * up e * 1) (64 * down e) n 64 (mul-pos (lit≤ tt) (down_pos e)) (lit≤ tt) (swap (m * up e * 1) n (down e) v.1))

quotient : (y : Float) (s : Bool) (n : ℕ) → HasValue y s n 1 → div binary64 y (fin false 1 (pos 6)) ≡ round binary64 s n 64
unfolding div
quotient nan s n v = absurd v
quotient (inf t) s n v = absurd v
quotient (fin true m e) s n v = rescaled m e true s n v
quotient (fin false m e) s n v = rescaled m e false s n v

pub divided : (x : ℤ) → nat_abs x < 2 ^ 53 → div binary64 (of_int binary64 x) (of_bits binary64 4634204016564240384) ≡ sixty_fourth x
unfolding sixty_fourth of_int of_bits of_fields odd count_trailing_zeros negative
divided (pos n) h = quotient (round binary64 false n 1) false n (round_whole binary64 false n (omega arith))
divided (negsuc n) h = quotient (round binary64 true (suc n) 1) true (suc n) (round_whole binary64 true (suc n) (omega arith))
