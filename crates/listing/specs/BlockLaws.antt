-- Laws of a block in its buffer: its second hop moves to the front, and the hop of the next line, or zeros, comes behind it.
use Rattle.std.specs.Prelude.{◌≡◌, refl, cond, List, ◌++◌, ℕ, ◌+◌, ◌-◌, ◌≤◌, ◌<◌, T, eqb, length, take, drop, replicate, ℤ, pos}
use Rattle.std.proofs.Common.{sym, ap, ◌∙◌, append-nil, arith, length-append, length-drop, length-take-le, take_at, drop_at, get_or-append-add, get_or-drop, ext_get_or, eq-eqb, ne_eqb}
use Rattle.std.proofs.lemmas.List.{length-replicate, get_or-replicate}
use Rattle.std.proofs.Math.Seq.{drop-length}
use Rattle.arithmetic.specs.Lists.{at, table}
use Rattle.arithmetic.specs.ListLaws.{Filled, length-table, get_d_table}
use Rattle.text.specs.Lines.{line_at, next_line}
use Rattle.listing.specs.Hops.{is_hop, samples}

-- ---- the hop that is read next
-- at a place of the text starts a line that is a hop of M samples, or no line is left
pub record NextHop (M : ℕ) (text : List ℕ) (place : ℕ) : Type 0 where
  pub within : place ≤ length text
  pub hop : ¬ (place ≡ length text) → T (is_hop M (line_at text place))

-- its samples, or zeros
unfoldable pub hop_at : ℕ → List ℕ → ℕ → List ℤ
hop_at M text place = cond (eqb place (length text)) (replicate M (pos 0)) (samples (line_at text place))

-- and the place behind its line
unfoldable pub place_behind : List ℕ → ℕ → ℕ
place_behind text place = cond (eqb place (length text)) place (next_line text place)

module _ (M : ℕ) (text : List ℕ) (place : ℕ) where
  pub none_left : place ≡ length text → (hop_at M text place ≡ replicate M (pos 0)) × (place_behind text place ≡ place)
  unfolding hop_at place_behind
  none_left e = rw (eq-eqb place (length text) e) (refl, refl)

  pub one_left : ¬ (place ≡ length text) → (hop_at M text place ≡ samples (line_at text place)) × (place_behind text place ≡ next_line text place)
  unfolding hop_at place_behind
  one_left e = rw (ne_eqb place (length text) e) (refl, refl)

-- ---- zeros, entry by entry
pub zeros-all : (m : ℕ) → table m (λ i. pos 0) ≡ replicate m (pos 0)
zeros-all m =
    let f : ℕ → ℤ = λ i. pos 0 in
    ext_get_or (pos 0) (table m f) (replicate m (pos 0)) (length-table f m ∙ sym (length-replicate m (pos 0)))
    (λ i h. let p : i < m = omega (arith, length-table f m) in get_d_table f (pos 0) m i p ∙ sym (get_or-replicate m i (pos 0) (pos 0) p))

-- ---- a list's second half, moved to its front entry by entry
abbrev pub second : ℕ → List ℤ → ℕ → ℤ
second m xs i = at xs (m + i)

module _ (m : ℕ) (xs : List ℤ) (two : length xs ≡ m + m) where
  abbrev moved : ℕ → ℤ
  moved = second m xs

  pub moved-from : (i : ℕ) (ys : List ℤ) → Filled moved i ys xs → at ys (m + i) ≡ moved i
  moved-from i ys F =
      let e : m + i ≡ length (table i moved) + m = omega (arith, length-table moved i) in
      let f : i + m ≡ m + i = omega arith in
      rw F.is (ap (at (table i moved ++ drop i xs)) e ∙ get_or-append-add (table i moved) (drop i xs) m (pos 0) ∙ get_or-drop i xs m (pos 0) ∙ ap (at xs) f)

  pub moved_all : (ys : List ℤ) → Filled moved m ys xs → ys ≡ drop m xs ++ drop m xs
  moved_all ys F =
      F.is
      ∙ ap
      (λ (l : List ℤ). l ++ drop m xs)
      (ext_get_or (pos 0) (table m moved) (drop m xs) (length-table moved m ∙ omega (arith, length-drop m xs))
      (λ i h. get_d_table moved (pos 0) m i (omega (arith, length-table moved m)) ∙ sym (get_or-drop m xs i (pos 0))))

-- ---- a block with one hop twice: the second, as the code lends it, and another in its place
module _ (xs h : List ℤ) (m : ℕ) (long : length h ≡ m) (twice : xs ≡ h ++ h) where
  behind-is : drop m xs ≡ h
  behind-is = rw twice (drop_at h h m long)

  size : length xs - m ≡ length h
  size = omega (arith, ap length twice, length-append h h)

  pub behind_long : length (take (length xs - m) (drop m xs)) ≡ m
  behind_long = rw (behind-is, size) (length-take-le (length h) h (omega arith) ∙ long)

  pub behind-read : (g : List ℤ) → take m xs ++ (g ++ drop (length xs - m) (drop m xs)) ≡ h ++ g
  behind-read g =
      let front : take m xs ≡ h = rw twice (take_at h h m long) in
      rw (front, behind-is, size, drop-length h, append-nil g)
