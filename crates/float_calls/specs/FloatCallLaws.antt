-- Laws of the calls on floats: what they answer by their causes, and what a taken call tells of what it was handed.
use Rattle.std.specs.Prelude.{◌≡◌, Bool, List, [], ◌∷◌, ◌≢◌, ℕ, ◌/◌, ◌<◌, T, length, get_or, set, ℤ, Float}
use Rattle.std.proofs.Math.Path.{refl, ap}
use Rattle.std.proofs.Common.{sym, ◌∙◌, arith, ne_eqb, eqb→eq}
use Rattle.std.proofs.Math.Bool.{true, false, cond}
use Rattle.std.proofs.Math.Dec.{eqb}
use Rattle.std.specs.Float.{nan, binary64}
use Rattle.std.specs.Float.Ieee.{of_bits, of_fields, odd}
use Rattle.arithmetic.specs.ListLaws.{stored-all}
use Rattle.arithmetic.specs.TestLaws.{is_true}
use Rattle.cosine.specs.Kernels.{tabled}
use Rattle.cosine.specs.LengthLaws.{tabled_length}
use Rattle.checks.specs.Limits.{in_range}
use Rattle.checks.specs.Causes.{First, first_cause}
use Rattle.checks.specs.Causes.First.{none, pass}
use Rattle.checks.specs.CauseLaws.{first_is, same, spared, Passed, passed}
use Rattle.floats.specs.Floats.{sixty_fourth, floats_of, plus_zero, highest_of, lowest_of}
use Rattle.float_calls.specs.Answers.{Ends}
use Rattle.float_calls.specs.FloatCalls.{block_causes, block_code, floats_code, floats_out, ends_causes, ends_code, pair_of, no_pair, ends_of, pair_code, pair_out}

pub block-answer : (N : ℕ) (x : List ℤ) (room stated : ℕ) {k : ℕ} → First (block_causes N x room stated) k → k ≡ block_code N x room stated
unfolding block_code
block-answer N x room stated f = sym (first_is (block_causes N x room stated) f)

-- a block has coefficients
pub hop_some : (N : ℕ) → T (tabled N) → 0 < N / 2
hop_some N t = omega (arith, (tabled_length N t).twelve, (tabled_length N t).some)

-- ---- what a taken call tells: M coefficients, some of them, and room as stated
pub record Sized (N : ℕ) (x : List ℤ) (room stated : ℕ) : Type 0 where
  pub length_is : T (tabled N)
  pub long : length x ≡ N / 2
  pub some : 0 < length x
  pub room_is : room ≡ stated
  pub ranged : T (in_range (N / 2) x)

pub block_facts : (N : ℕ) (x : List ℤ) (room stated : ℕ) → block_code N x room stated ≡ 0 → Sized N x room stated
unfolding block_code block_causes spared Passed
block_facts N x room stated z =
    let p = passed (block_causes N x room stated) tt z in
    let l : length x ≡ N / 2 = eqb→eq (length x) (N / 2) p.1.0 in
    record { length_is = p.0; long = l; some = omega (arith, l, (tabled_length N p.0).twelve, (tabled_length N p.0).some); room_is = eqb→eq room stated p.1.1.0; ranged = p.1.1.1.0 }

-- ---- `floats`
module _ (N : ℕ) (x : List ℤ) (out : List Float) where
  pub floats-refused : floats_code N x out ≢ 0 → out ≡ floats_out N x out
  unfolding floats_out
  floats-refused n = rw (ne_eqb (floats_code N x out) 0 n)

  pub floats-taken : floats_code N x out ≡ 0 → floats_of x ≡ floats_out N x out
  unfolding floats_out
  floats-taken e = rw e

-- ---- `put_ends`
module _ (N : ℕ) (x : List ℤ) (pair : List Float) where
  pub pair_refused : pair_code N x pair ≢ 0 → pair ≡ pair_out N x pair
  unfolding pair_out
  pair_refused n = rw (ne_eqb (pair_code N x pair) 0 n)

  pub pair_taken : (h l : Float) → h ≡ sixty_fourth (highest_of x) → l ≡ sixty_fourth (lowest_of x) → pair_code N x pair ≡ 0 → set (set pair 0 h) 1 l ≡ pair_out N x pair
  unfolding pair_out
  pair_taken h l p q e = rw (e, p, q) (stored-all pair (sixty_fourth (highest_of x) ∷ sixty_fourth (lowest_of x) ∷ []) (block_facts N x (length pair) 2 e).room_is)

-- ---- by value: a pair of zeros
-- the literal 0.0, as the machine has it
pub zero_bits : of_bits binary64 0 ≡ plus_zero
unfolding of_bits of_fields odd
zero_bits = refl

-- the answer read from room for two
abbrev pub read_from : ℕ → List Float → Ends
read_from k pair = record { code = k; pair = record { highest = get_or pair 0 nan; lowest = get_or pair 1 nan } }

module _ (N : ℕ) (x : List ℤ) where
  abbrev zeros : List Float
  zeros = of_bits binary64 0 ∷ of_bits binary64 0 ∷ []

  same_code : pair_code N x zeros ≡ ends_code N x
  unfolding block_code block_causes ends_code ends_causes first_cause
  same_code = refl

  pub by_value : read_from (pair_code N x zeros) (pair_out N x zeros) ≡ ends_of N x
  unfolding pair_out ends_of
  by_value = rw same_code (go (ends_code N x) (eqb (ends_code N x) 0) refl)
    where
      go : (k : ℕ) (b : Bool) → eqb k 0 ≡ b → read_from k (cond b (sixty_fourth (highest_of x) ∷ sixty_fourth (lowest_of x) ∷ []) zeros) ≡ record { code = k; pair = cond b (pair_of x) no_pair }
      go k true e = refl
      go k false e = ap (λ (z : Float). record { code = k; pair = record { highest = z; lowest = z } }) zero_bits

  -- a taken call by value
  pub ends_taken : (ends_of N x).code ≡ 0 → ends_of N x ≡ record { code = 0; pair = pair_of x }
  unfolding ends_of
  ends_taken e = rw e

  -- and what a taken call into room for two says of it
  pub pair_ends : {room stated : ℕ} → Sized N x room stated → (ends_of N x).code ≡ 0
  unfolding ends_of ends_code ends_causes
  pair_ends f = first_is (ends_causes N x) (pass (is_true f.length_is) (same f.long (pass (is_true f.ranged) none)))

  -- what it tells
  pub ends_facts : (ends_of N x).code ≡ 0 → Sized N x 2 2
  unfolding ends_of
  ends_facts e = block_facts N x 2 2 (same_code ∙ e)
