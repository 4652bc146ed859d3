-- Laws of a line of the table: its two commas, its numbers, and their ranges, `row_is`.
use Rattle.std.specs.Prelude.{◌≡◌, refl, Bool, true, false, not, cond, ◌&&◌, ℕ, Some, None, ◌+◌, ◌-◌, ◌≤◌, ◌<◌, T, eqb, get_or, ℤ, pos, negsuc, nat_abs, ◌≤ℤ◌}
use Rattle.std.proofs.Common.{sym, ◌∙◌, arith, ne_eqb}
use Rattle.std.proofs.Math.Path.{ap}
use mathlib.Core.List.{List, [], ◌∷◌}
use Rattle.std.proofs.Math.ListN.{length, take, drop, length-drop}
use Rattle.std.proofs.Math.Seq.{take_all}
use Rattle.std.specs.Int.Signed.{lt_z, le_z, le_z_yes}
use Rattle.arithmetic.specs.IntegerLaws.{le_ℕ}
use Rattle.arithmetic.specs.OrderLaws.{lt_z-false}
use Rattle.arithmetic.specs.TestLaws.{is_T}
use Rattle.arithmetic.specs.ListLaws.{part_length}
use Rattle.text.specs.Number.{most_digits, is_number, value}
use Rattle.text.specs.NumberLaws.{number_wider}
use Rattle.text.specs.Bytes.{comma}
use Rattle.text.specs.Lines.{index_of, split, fields}
use Rattle.text.specs.LineLaws.{part, part-found, part-last, end-most, split-some}
use Rattle.steps.specs.declared.row.Commas.{Commas}
use Rattle.steps.specs.Table.{digits, bounded, Line, no_line, numbers_of, row_of}
use Rattle.steps.specs.Answers.{number_within}
use Rattle.steps.specs.Pass.{IsCut}

no_cut : (line : List ℕ) → (length (fields line) ≡ 3 → ⊥) → IsCut line None
no_cut line h = record { some = tt; less = tt; none = h }

module _ (line : List ℕ) (a : ℕ) (ia : a ≡ 0 + index_of comma (drop 0 line)) where
  pub a-most : a ≤ length line
  a-most = end-most comma line 0 a (omega arith) ia

  pub cut_one : a ≡ length line → IsCut line None
  unfolding fields
  cut_one h = no_cut line (λ (z : length (split comma line) ≡ 3). omega (arith, z, ap length (part-last comma line 0 a (omega arith) ia h)))

  module _ (ha : a < length line) (b : ℕ) (ib : b ≡ (a + 1) + index_of comma (drop (a + 1) line)) where
    after-a : split comma line ≡ part line 0 a ∷ split comma (drop (a + 1) line)
    after-a = part-found comma line 0 a (omega arith) ia ha

    in_b : a + 1 ≤ length line
    in_b = omega arith

    pub b-most : b ≤ length line
    b-most = end-most comma line (a + 1) b in_b ib

    pub cut_two : b ≡ length line → IsCut line None
    unfolding fields
    cut_two h = no_cut line (λ (z : length (split comma line) ≡ 3). omega (arith, z, ap length after-a, ap length (part-last comma line (a + 1) b in_b ib h)))

    module _ (hb : b < length line) (c : ℕ) (ic : c ≡ (b + 1) + index_of comma (drop (b + 1) line)) where
      after-b : split comma (drop (a + 1) line) ≡ part line (a + 1) b ∷ split comma (drop (b + 1) line)
      after-b = part-found comma line (a + 1) b in_b ib hb

      in_c : b + 1 ≤ length line
      in_c = omega arith

      pub cut_three : c ≡ length line → IsCut line (Some (record { a = a; b = b }))
      unfolding fields
      cut_three h =
          record {
            some = after-a ∙ rw (after-b, part-last comma line (b + 1) c in_c ic h) (ap (λ (l : List ℕ). part line 0 a ∷ part line (a + 1) b ∷ l ∷ []) (whole h));
            less = (omega (arith, ib), hb);
            none = tt;
          }
        where
          whole : c ≡ length line → part line (b + 1) c ≡ drop (b + 1) line
          whole h = take_all (c - (b + 1)) (drop (b + 1) line) (omega (arith, length-drop (b + 1) line))

      pub cut_more : (c ≡ length line → ⊥) → IsCut line None
      unfolding fields
      cut_more h =
          let hc : c < length line = omega (arith, h, end-most comma line (b + 1) c in_c ic) in
          no_cut line
          (λ (z : length (split comma line) ≡ 3).
          omega (arith, z, ap length after-a, ap length after-b, ap length (part-found comma line (b + 1) c in_c ic hc), split-some comma (drop (c + 1) line)))

-- ---- the numbers
both : (s t : Bool) → (s && t) ≡ true → (s ≡ true) × (t ≡ true)
both true t e = (refl, e)
both false t e = let z : ◌≡◌ {A = ℕ} 0 1 = cc in absurd (omega arith)

-- a field that is a bounded number can be read
pub bounded-number : (lo hi : ℤ) (f : List ℕ) → bounded lo hi f ≡ true → T (is_number most_digits f)
unfolding bounded
bounded-number lo hi f e = number_wider digits most_digits f (omega arith) (is_T (both (is_number digits f) (not (lt_z (value f) lo) && le_z (value f) hi) e).0)

bounded_range : (lo hi : ℤ) (f : List ℕ) → bounded lo hi f ≡ true → (lo ≤ℤ value f) × (value f ≤ℤ hi)
unfolding bounded
bounded_range lo hi f e =
    let p = (both (is_number digits f) (not (lt_z (value f) lo) && le_z (value f) hi) e).1 in
    let q = both (not (lt_z (value f) lo)) (le_z (value f) hi) p in
    (lt_z-false (value f) lo (not_t (lt_z (value f) lo) q.0), le_z_yes (rw q.1 tt))
  where
    not_t : (t : Bool) → not t ≡ true → t ≡ false
    not_t true e = sym e
    not_t false e = refl

-- .. and its size is within its upper bound, where it is not below 0
pub bounded-size : (lo hi : ℕ) (f : List ℕ) → bounded (pos lo) (pos hi) f ≡ true → nat_abs (value f) ≤ hi
bounded-size lo hi f e = let r = bounded_range (pos lo) (pos hi) f e in by (value f) r.0 r.1
  where
    by : (z : ℤ) → pos lo ≤ℤ z → z ≤ℤ pos hi → nat_abs z ≤ hi
    by (pos n) a b = omega (arith, le_ℕ b)
    by (negsuc n) a b = absurd (omega (arith, le_ℕ a))

-- the number that is read so
pub within_size : (lo hi : ℕ) (f : List ℕ) (v : ℤ) → Some v ≡ number_within (pos lo) (pos hi) f → nat_abs v ≤ hi
within_size lo hi f v e = by (bounded (pos lo) (pos hi) f) refl e
  where
    by : (t : Bool) → bounded (pos lo) (pos hi) f ≡ t → Some v ≡ cond t (Some (value f)) None → nat_abs v ≤ hi
    by true p e = let q : v ≡ value f = cc in rw q (bounded-size lo hi f p)
    by false p e = let z : ◌≡◌ {A = ℕ} 0 1 = cc in absurd (omega arith)

module _ (M : ℕ) (f l s : List ℕ) where
  pub numbers-first : bounded (pos 0) (pos (M - 1)) f ≡ false → no_line ≡ numbers_of M f l s
  unfolding numbers_of
  numbers-first e = rw e

  module _ (p : bounded (pos 0) (pos (M - 1)) f ≡ true) where
    pub numbers-last : bounded (value f) (pos (M - 1)) l ≡ false → no_line ≡ numbers_of M f l s
    unfolding numbers_of
    numbers-last e = rw (p, e)

    module _ (q : bounded (value f) (pos (M - 1)) l ≡ true) where
      pub numbers-step : bounded (pos 1) (pos 65536) s ≡ false → no_line ≡ numbers_of M f l s
      unfolding numbers_of
      numbers-step e = rw (p, q, e)

      pub numbers-all : (x y z : ℕ) → x ≡ nat_abs (value f) → y ≡ nat_abs (value l) → z ≡ nat_abs (value s) → bounded (pos 1) (pos 65536) s ≡ true → record { ok = true; first = x; last = y; step = z } ≡ numbers_of M f l s
      unfolding numbers_of
      numbers-all x y z i j k e = rw (p, q, e, i, j, k)

-- ---- the line
pub row-none : (M : ℕ) (line : List ℕ) → IsCut line None → no_line ≡ row_of M line
unfolding row_of
row-none M line o = rw (ne_eqb (length (fields line)) 3 o.none)

pub row-some : (M : ℕ) (line : List ℕ) (c : Commas) → IsCut line (Some c) → numbers_of M (part line 0 c.a) (part line (c.a + 1) c.b) (drop (c.b + 1) line) ≡ row_of M line
unfolding row_of
row-some M line c o = rw o.some

-- the first field, as the code takes it
pub first_part : (x : List ℕ) (a : ℕ) → take a x ≡ part x 0 a
first_part x a = let e : a - 0 ≡ a = omega arith in rw e

-- ---- the ranges of a line's numbers
pub record IsRow (M : ℕ) (r : Line) : Type 0 where
  pub ordered : r.first ≤ r.last
  pub inside : r.last < M
  pub least : 1 ≤ r.step
  pub most : r.step ≤ 65536

-- three whole numbers in their order, as numbers without a sign
ranges : (x y z : ℤ) (n : ℕ) → pos 0 ≤ℤ x → x ≤ℤ y → y ≤ℤ pos n → pos 1 ≤ℤ z → z ≤ℤ pos 65536 → (nat_abs x ≤ nat_abs y) × (nat_abs y ≤ n) × (1 ≤ nat_abs z) × (nat_abs z ≤ 65536)
ranges (pos x) (pos y) (pos z) n a b c d e = (omega (arith, le_ℕ b), omega (arith, le_ℕ c), omega (arith, le_ℕ d), omega (arith, le_ℕ e))
ranges (negsuc x) y z n a b c d e = absurd (omega (arith, le_ℕ a))
ranges (pos x) (negsuc y) z n a b c d e = absurd (omega (arith, le_ℕ b))
ranges (pos x) (pos y) (negsuc z) n a b c d e = absurd (omega (arith, le_ℕ d))

-- the tests of the three numbers, and the line that they make
abbrev in_range : ℕ → List ℕ → List ℕ → List ℕ → Bool
in_range M f l s = bounded (pos 0) (pos (M - 1)) f && (bounded (value f) (pos (M - 1)) l && bounded (pos 1) (pos 65536) s)

abbrev made : List ℕ → List ℕ → List ℕ → Line
made f l s = record { ok = true; first = nat_abs (value f); last = nat_abs (value l); step = nat_abs (value s) }

numbers-is : (M : ℕ) (f l s : List ℕ) → 0 < M → (numbers_of M f l s).ok ≡ true → IsRow M (numbers_of M f l s)
unfolding numbers_of
numbers-is M f l s h e = by (in_range M f l s) refl e
  where
    by : (t : Bool) → in_range M f l s ≡ t → (cond t (made f l s) no_line).ok ≡ true → IsRow M (cond t (made f l s) no_line)
    by false q e = let z : ◌≡◌ {A = ℕ} 0 1 = cc in absurd (omega arith)
    by true q e =
        let p = both (bounded (pos 0) (pos (M - 1)) f) (bounded (value f) (pos (M - 1)) l && bounded (pos 1) (pos 65536) s) q in
        let r = both (bounded (value f) (pos (M - 1)) l) (bounded (pos 1) (pos 65536) s) p.1 in
        let a = bounded_range (pos 0) (pos (M - 1)) f p.0 in
        let b = bounded_range (value f) (pos (M - 1)) l r.0 in
        let c = bounded_range (pos 1) (pos 65536) s r.1 in
        let g = ranges (value f) (value l) (value s) (M - 1) a.0 b.0 b.1 c.0 c.1 in
        record { ordered = g.0; inside = omega (arith, g.1); least = g.2; most = g.3 }

abbrev three : ℕ → List (List ℕ) → Line
three M fs = numbers_of M (get_or fs 0 []) (get_or fs 1 []) (get_or fs 2 [])

pub row_is : (M : ℕ) (line : List ℕ) → 0 < M → (row_of M line).ok ≡ true → IsRow M (row_of M line)
unfolding row_of
row_is M line h e = by (eqb (length (fields line)) 3) e
  where
    by : (t : Bool) → (cond t (three M (fields line)) no_line).ok ≡ true → IsRow M (cond t (three M (fields line)) no_line)
    by true e = numbers-is M (get_or (fields line) 0 []) (get_or (fields line) 1 []) (get_or (fields line) 2 []) h e
    by false e = let z : ◌≡◌ {A = ℕ} 0 1 = cc in absurd (omega arith)

-- a line that is one has a byte at least
row_long : (M : ℕ) (line : List ℕ) → (row_of M line).ok ≡ true → 1 ≤ length line
unfolding row_of fields split
row_long M [] e = let z : ◌≡◌ {A = ℕ} 0 1 = cc in absurd (omega arith)
row_long M (b ∷ bs) e = omega arith

pub row_apart : (M : ℕ) (s : List ℕ) (i e : ℕ) → i ≤ e → e ≤ length s → (row_of M (part s i e)).ok ≡ true → i < e
row_apart M s i e h g o = omega (arith, part_length s i (e - i) (e - i) refl (omega arith), row_long M (part s i e) o)
