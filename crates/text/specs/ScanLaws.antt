-- Laws of a loop that goes through a list: what is left of it from place i on.
use Rattle.std.specs.Prelude.{◌≡◌, Bool, true, false, List, ◌∷◌, ℕ, suc, ◌+◌, ◌-◌, ◌*◌, ◌≤◌, ◌<◌, length, get_or, take, drop}
use Rattle.std.proofs.Common.{add-one, arith, length-drop, drop_of_length-le, drop-cons, take_all}
use borrow.Author.Tests.{eq-eqb, ne_eqb}
use Rattle.arithmetic.specs.Lists.{every}
use Rattle.text.specs.Bytes.{digit}
use Rattle.text.specs.Lines.{index_of}
use Rattle.text.specs.Number.{natural_from}

pub drop-next : (s : List ℕ) (i : ℕ) → i < length s → drop i s ≡ get_or s i 0 ∷ drop (i + 1) s
drop-next s i h = rw (add-one, drop-cons s i 0 h)

-- the part from i on, as the code lends it
pub rest-is : (s : List ℕ) (i : ℕ) → take (length s - i) (drop i s) ≡ drop i s
rest-is s i = take_all (length s - i) (drop i s) (omega (arith, length-drop i s))

-- a test of every entry
module _ (p : ℕ → Bool) (s : List ℕ) (i : ℕ) where
  pub every_fails : i < length s → p (get_or s i 0) ≡ false → every p (drop i s) ≡ false
  unfolding every
  every_fails h e = rw (drop-next s i h, e)

  pub every-next : i < length s → p (get_or s i 0) ≡ true → every p (drop i s) ≡ every p (drop (i + 1) s)
  unfolding every
  every-next h e = rw (drop-next s i h, e)

  pub every-end : length s ≤ i → every p (drop i s) ≡ true
  unfolding every
  every-end h = rw (drop_of_length-le s h)

-- the digits read so far
pub natural-next : (n : ℕ) (s : List ℕ) (i : ℕ) → i < length s → natural_from n (drop i s) ≡ natural_from (10 * n + (get_or s i 0 - digit 0)) (drop (i + 1) s)
unfolding natural_from
natural-next n s i h = rw (drop-next s i h)

pub natural-end : (n : ℕ) (s : List ℕ) (i : ℕ) → length s ≤ i → natural_from n (drop i s) ≡ n
unfolding natural_from
natural-end n s i h = rw (drop_of_length-le s h)

-- the place of a byte
module _ (p : ℕ) (s : List ℕ) (i : ℕ) where
  pub index_here : i < length s → get_or s i 0 ≡ p → index_of p (drop i s) ≡ 0
  unfolding index_of
  index_here h e = rw (drop-next s i h, eq-eqb (get_or s i 0) p e)

  pub index_next : i < length s → (get_or s i 0 ≡ p → ⊥) → index_of p (drop i s) ≡ suc (index_of p (drop (i + 1) s))
  unfolding index_of
  index_next h e = rw (drop-next s i h, ne_eqb (get_or s i 0) p e)

  pub index_end : length s ≤ i → index_of p (drop i s) ≡ 0
  unfolding index_of
  index_end h = rw (drop_of_length-le s h)
