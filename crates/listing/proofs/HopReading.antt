-- Laws of reading a line that is a hop, field by field.
use Rattle.std.specs.Prelude.{◌≡◌, refl, List, [], ◌∷◌, ℕ, suc, ◌+◌, ◌≤◌, ◌<◌, T, length, get_or, set, drop, ℤ}
use Rattle.std.proofs.Common.{sym, ap, ◌∙◌, add-one, arith, length-drop, drop-cons}
use Rattle.std.proofs.Math.Logic.{dite}
use Rattle.std.proofs.Math.Decide.{dec_lt}
use mir.Syntax.{w16}
use mir.Val.{SFits}
use Rattle.arithmetic.specs.ListLaws.{Filled, filled_none, filled_more, filled-all}
use Rattle.arithmetic.specs.IntegerLaws.{ints}
use Rattle.arithmetic.specs.OrderLaws.{bounds}
use Rattle.text.specs.Bytes.{comma}
use Rattle.text.specs.Number.{most_digits, is_number, value}
use Rattle.text.specs.Lines.{index_of, split, fields}
use Rattle.text.specs.LineLaws.{part, end-most, part-first, part-found, part-last}
use Rattle.listing.specs.Hops.{is_hop, samples}
use Rattle.listing.specs.HopLaws.{number_fits, sample-number, sample-is, hop-fields, hop_field, hop-samples}

abbrev pub value_at : List ℕ → ℕ → ℤ
value_at line i = value (get_or (fields line) i [])

-- i samples are read, and p is where the next field starts
pub record Reading (line : List ℕ) (out₀ out : List ℤ) (p i : ℕ) : Type 0 where
  pub few : i ≤ length out₀
  pub filled : Filled (value_at line) i out out₀
  pub within : i < length out₀ → p ≤ length line
  pub left : i < length out₀ → split comma (drop p line) ≡ drop i (fields line)

pub reading_none : (line : List ℕ) (out : List ℤ) → Reading line out out 0 0
unfolding fields
reading_none line out = record { few = omega arith; filled = filled_none (value_at line) out; within = λ h. omega arith; left = λ h. refl }

pub reading_all : (line : List ℕ) (out₀ out : List ℤ) (p i : ℕ) → T (is_hop (length out₀) line) → Reading line out₀ out p i → length out₀ ≤ i → out ≡ samples line
reading_all line out₀ out p i t R h =
    let e : i ≡ length out₀ = omega (arith, R.few) in
    filled-all (value_at line) (length out₀) out out₀ (rw e at R.filled) refl ∙ sym (hop-samples (length out₀) line t)

-- the next field is field i, and ends at e
module _ (line : List ℕ) (out₀ out : List ℤ) (p i e : ℕ) (t : T (is_hop (length out₀) line)) (R : Reading line out₀ out p i) (h : i < length out₀) (is : e ≡ p + index_of comma (drop p line)) where
  rest : drop i (fields line) ≡ get_or (fields line) i [] ∷ drop (suc i) (fields line)
  rest = drop-cons (fields line) i [] (omega (arith, hop-fields (length out₀) line t))

  same : {a b : List ℕ} {c d : List (List ℕ)} → a ∷ c ≡ b ∷ d → (a ≡ b) × (c ≡ d)
  same q = (cc, cc)

  field_is : part line p e ≡ get_or (fields line) i []
  field_is =
      let f = part-first comma line p e (R.within h) is in
      (same (sym f.1 ∙ R.left h ∙ rest)).0

  pub field_end : e ≤ length line
  field_end = end-most comma line p e (R.within h) is

  pub field_number : T (is_number most_digits (part line p e))
  field_number = rw field_is (number_fits (get_or (fields line) i []) (sample-number (get_or (fields line) i []) (hop_field (length out₀) line t i h)))

  pub field_fits : SFits w16 (value (part line p e))
  field_fits =
      let S = sample-is (get_or (fields line) i []) (hop_field (length out₀) line t i h) in
      rw field_is (simp bounds (omega (arith, simp ints at S.low, simp ints at S.high)))

  -- behind another field there is a comma
  more : i + 1 < length out₀ → e < length line
  more k =
      dite
      (dec_lt e (length line))
      (λ l. l)
      (λ l. let q = part-last comma line p e (R.within h) is (omega (arith, end-most comma line p e (R.within h) is)) in
      absurd (omega (arith, ap length (sym q ∙ R.left h), length-drop i (fields line), hop-fields (length out₀) line t)))

  pub reading_more : (v : ℤ) → v ≡ value (part line p e) → Reading line out₀ (set out i v) (e + 1) (i + 1)
  reading_more v q = record {
    few = omega arith;
    filled = filled_more (value_at line) i out out₀ v R.filled (omega (arith, R.filled.room)) (q ∙ ap value field_is);
    within = λ k. omega (arith, more k);
    left = λ k. rw (add-one i) (same (sym (part-found comma line p e (R.within h) is (more k)) ∙ R.left h ∙ rest)).1;
  }
