-- Laws of text in columns: a number reads back from its columns, and no line feed stands in them. Behind these, the lines of a text made line by line.
use Rattle.std.specs.Prelude.{◌≡◌, refl, Bool, true, false, cond, ℕ, zero, suc, ◌+◌, ◌-◌, ◌^◌, ◌≤◌, ◌<◌, T, eqb, length, get_or, take, drop, replicate, ℤ, pos, negsuc, nat_abs}
use Rattle.std.proofs.Common.{sym, ◌∙◌, arith, length-append, length-drop, drop_of_length-le, ext_get_or, take_at, ne_eqb}
use Rattle.std.proofs.Math.Path.{ap}
use mathlib.Core.List.{List, [], ◌∷◌, ◌++◌, append_assoc, append-nil}
use Rattle.std.proofs.lemmas.List.{replicate-append-replicate, length-replicate, get_or-replicate}
use Rattle.arithmetic.specs.Lists.{table, joined, every}
use Rattle.arithmetic.specs.ListLaws.{length-table, get_d_table}
use Rattle.arithmetic.specs.TestLaws.{both_left, both_right}
use Rattle.text.specs.Bytes.{line_feed, blank, minus}
use Rattle.text.specs.Number.{is_digit, is_number, decimal, printed, value}
use Rattle.text.specs.Lines.{index_of, in_front, split, ended, unended, lines, remainder}
use Rattle.text.specs.Columns.{aligned, trimmed}
use Rattle.text.specs.Buffers.{Put}
use Rattle.text.specs.NumberLaws.{digit_low, decimal-digits, reads_back}
use Rattle.text.specs.LineLaws.{split-some, ended-more}
use Rattle.text.specs.BufferLaws.{stored_is}

-- ---- columns
pub aligned_long : (w : ℕ) (t : List ℕ) → length t ≤ w → length (aligned w t) ≡ w
unfolding aligned
aligned_long w t h = length-append (replicate (w - length t) blank) t ∙ omega (arith, length-replicate (w - length t) blank)

-- with g columns to spare it has g blanks in front
pub aligned_front : (w g : ℕ) (t : List ℕ) → length t + g ≤ w → take g (aligned w t) ≡ replicate g blank
unfolding aligned
aligned_front w g t h =
    let r = w - length t - g in
    let e : w - length t ≡ g + r = omega arith in
    rw (e, sym (replicate-append-replicate g r blank), append_assoc (replicate g blank) (replicate r blank) t) (take_at (replicate g blank) (replicate r blank ++ t) g (length-replicate g blank))

trimmed_blanks : (n : ℕ) (t : List ℕ) → trimmed (replicate n blank ++ t) ≡ trimmed t
unfolding trimmed
trimmed_blanks zero t = refl
trimmed_blanks (suc n) t = trimmed_blanks n t

-- text that begins with no blank reads back
trimmed-text : (w : ℕ) (t : List ℕ) → (get_or t 0 0 ≡ blank → ⊥) → trimmed (aligned w t) ≡ t
unfolding aligned trimmed
trimmed-text w t h = trimmed_blanks (w - length t) t ∙ whole t h
  where
    whole : (t : List ℕ) → (get_or t 0 0 ≡ blank → ⊥) → trimmed t ≡ t
    whole [] h = refl
    whole (b ∷ bs) h = rw (ne_eqb b blank h)

-- a number begins with a digit or a minus
digits-first : (ds : List ℕ) → T (every is_digit ds) → get_or ds 0 0 ≡ blank → ⊥
unfolding every
digits-first [] t e = omega arith
digits-first (d ∷ ds) t e = omega (arith, digit_low d (both_left (is_digit d) (every is_digit ds) t))

printed-first : (z : ℤ) → get_or (printed z) 0 0 ≡ blank → ⊥
unfolding printed
printed-first (pos n) e = digits-first (decimal n) (decimal-digits n).digits e
printed-first (negsuc n) e = omega arith

trimmed-number : (w : ℕ) (z : ℤ) → trimmed (aligned w (printed z)) ≡ printed z
trimmed-number w z = trimmed-text w (printed z) (printed-first z)

-- so they hold a well-formed number, and it is the one that was put
pub reads_columns : (w k : ℕ) (z : ℤ) → nat_abs z < 10 ^ suc k → T (is_number (suc k) (trimmed (aligned w (printed z)))) × (value (trimmed (aligned w (printed z))) ≡ z)
reads_columns w k z h = rw (trimmed-number w z) (reads_back k z h)

-- ---- columns, as they are put: blanks, and the text behind them
pub blanks_all : (m : ℕ) → table m (λ i. blank) ≡ replicate m blank
blanks_all m =
    let f : ℕ → ℕ = λ i. blank in
    ext_get_or 0 (table m f) (replicate m blank) (length-table f m ∙ sym (length-replicate m blank))
    (λ i h. let p : i < m = omega (arith, length-table f m) in get_d_table f 0 m i p ∙ sym (get_or-replicate m i blank 0 p))

pub put_columns : (text out : List ℕ) (place : ℕ) {after : List ℕ} {next : ℕ} → place + length text ≡ length out → Put text (replicate place blank ++ drop place out) place after next → after ≡ aligned (length out) text
unfolding aligned
put_columns text out place e p =
    let front = replicate place blank in
    let f : length front ≡ place = length-replicate place blank in
    let long : length (front ++ drop place out) ≡ place + length text = length-append front (drop place out) ∙ omega (arith, length-drop place out) in
    let w : length out - length text ≡ place = omega arith in
    p.holds
    ∙ stored_is (front ++ drop place out) place text (omega arith)
    ∙ rw (take_at front (drop place out) place f, drop_of_length-le (front ++ drop place out) {i = place + length text} (omega arith), w) (append-nil (front ++ text))

-- ---- no line feed stands in a text
pub record NoFeed (bs : List ℕ) : Type 0 where
  pub none : index_of line_feed bs ≡ length bs

no_feed_empty : NoFeed []
unfolding index_of
no_feed_empty = record { none = refl }

no_feed_byte : (b : ℕ) {bs : List ℕ} → (b ≡ line_feed → ⊥) → NoFeed bs → NoFeed (b ∷ bs)
unfolding index_of
no_feed_byte b h f = record { none = rw (ne_eqb b line_feed h) (ap suc f.none) }

-- the parts of a text that has none have none
no_feed_first : {b : ℕ} {bs : List ℕ} → NoFeed (b ∷ bs) → (eqb b line_feed ≡ false) × NoFeed bs
unfolding index_of
no_feed_first {b} {bs} f = go (eqb b line_feed) f.none
  where
    go : (t : Bool) → cond t 0 (suc (index_of line_feed bs)) ≡ suc (length bs) → (t ≡ false) × NoFeed bs
    go true e = absurd (omega arith)
    go false e = (refl, record { none = omega arith })

pub no_feed_append : {xs ys : List ℕ} → NoFeed xs → NoFeed ys → NoFeed (xs ++ ys)
unfolding index_of
no_feed_append {xs = []} f g = g
no_feed_append {xs = x ∷ xs} f g = let p = no_feed_first f in record { none = rw p.0 (ap suc (no_feed_append p.1 g).none) }

pub no_feed_joined : (k : ℕ) (g : ℕ → List ℕ) → ((i : ℕ) → i < k → NoFeed (g i)) → NoFeed (joined k g)
unfolding joined
no_feed_joined zero g h = no_feed_empty
no_feed_joined (suc k) g h = no_feed_append (no_feed_joined k g (λ i p. h i (omega arith))) (h k (omega arith))

no_feed_aligned : (w : ℕ) {t : List ℕ} → NoFeed t → NoFeed (aligned w t)
unfolding aligned
no_feed_aligned w {t} f = no_feed_append (blanks (w - length t)) f
  where
    blanks : (n : ℕ) → NoFeed (replicate n blank)
    blanks zero = no_feed_empty
    blanks (suc n) = no_feed_byte blank (λ e. omega arith) (blanks n)

pub no_feed_blank : (w : ℕ) → NoFeed (aligned w [])
no_feed_blank w = no_feed_aligned w no_feed_empty

no_feed_digits : (ds : List ℕ) → T (every is_digit ds) → NoFeed ds
unfolding every
no_feed_digits [] t = no_feed_empty
no_feed_digits (d ∷ ds) t =
    let l = digit_low d (both_left (is_digit d) (every is_digit ds) t) in
    no_feed_byte d (λ e. omega arith) (no_feed_digits ds (both_right (is_digit d) (every is_digit ds) t))

no_feed_decimal : (n : ℕ) → NoFeed (decimal n)
no_feed_decimal n = no_feed_digits (decimal n) (decimal-digits n).digits

pub no_feed_number : (w : ℕ) (z : ℤ) → NoFeed (aligned w (printed z))
unfolding printed
no_feed_number w (pos n) = no_feed_aligned w (no_feed_decimal n)
no_feed_number w (negsuc n) = no_feed_aligned w (no_feed_byte minus (λ e. omega arith) (no_feed_decimal (suc n)))

-- ---- whole lines
split_front : (bs rest : List ℕ) → NoFeed bs → split line_feed ((bs ++ (line_feed ∷ [])) ++ rest) ≡ bs ∷ split line_feed rest
unfolding split in_front
split_front [] rest f = refl
split_front (b ∷ bs) rest f = let p = no_feed_first f in rw (p.0, split_front bs rest p.1)

lines_front : (bs rest : List ℕ) → NoFeed bs → lines ((bs ++ (line_feed ∷ [])) ++ rest) ≡ bs ∷ lines rest
unfolding lines
lines_front bs rest f = rw (split_front bs rest f) (ended-more bs (split line_feed rest) (split-some line_feed rest)).0

remainder_front : (bs rest : List ℕ) → NoFeed bs → remainder ((bs ++ (line_feed ∷ [])) ++ rest) ≡ remainder rest
unfolding remainder
remainder_front bs rest f = rw (split_front bs rest f) (ended-more bs (split line_feed rest) (split-some line_feed rest)).1

-- text of whole lines: it adds these to those of what follows, and nothing else
record Whole (text : List ℕ) (ls : List (List ℕ)) : Type 0 where
  adds : (rest : List ℕ) → lines (text ++ rest) ≡ ls ++ lines rest
  leaves : (rest : List ℕ) → remainder (text ++ rest) ≡ remainder rest

whole_empty : Whole [] []
whole_empty = record { adds = λ rest. refl; leaves = λ rest. refl }

whole-line : {bs : List ℕ} → NoFeed bs → Whole (bs ++ (line_feed ∷ [])) (bs ∷ [])
whole-line {bs} f = record { adds = λ rest. lines_front bs rest f; leaves = λ rest. remainder_front bs rest f }

whole_append : {xs ys : List ℕ} {ls ms : List (List ℕ)} → Whole xs ls → Whole ys ms → Whole (xs ++ ys) (ls ++ ms)
whole_append {xs} {ys} {ls} {ms} p q = record {
  adds = λ rest. rw (append_assoc xs ys rest, append_assoc ls ms (lines rest), p.adds (ys ++ rest), q.adds rest);
  leaves = λ rest. rw (append_assoc xs ys rest) (p.leaves (ys ++ rest) ∙ q.leaves rest);
}

whole-joined : (k : ℕ) (g : ℕ → List ℕ) (l : ℕ → List (List ℕ)) → ((i : ℕ) → i < k → Whole (g i) (l i)) → Whole (joined k g) (joined k l)
unfolding joined
whole-joined zero g l h = whole_empty
whole-joined (suc k) g l h = whole_append (whole-joined k g l (λ i p. h i (omega arith))) (h k (omega arith))

whole-table : (k : ℕ) (f : ℕ → List ℕ) → ((i : ℕ) → i < k → NoFeed (f i)) → Whole (joined k (λ i. f i ++ (line_feed ∷ []))) (table k f)
unfolding joined table
whole-table zero f h = whole_empty
whole-table (suc k) f h = whole_append (whole-table k f (λ i p. h i (omega arith))) (whole-line (h k (omega arith)))

module _ {text : List ℕ} {ls : List (List ℕ)} (p : Whole text ls) where
  whole-lines : lines text ≡ ls
  unfolding lines split ended
  whole-lines = ap lines (sym (append-nil text)) ∙ p.adds [] ∙ append-nil ls

  whole-rest : remainder text ≡ []
  unfolding remainder split unended
  whole-rest = ap remainder (sym (append-nil text)) ∙ p.leaves []

-- blocks of k lines
module _ (B k : ℕ) (f : ℕ → ℕ → List ℕ) (free : (b j : ℕ) → b < B → j < k → NoFeed (f b j)) where
  whole-blocks : Whole (joined B (λ b. joined k (λ j. f b j ++ (line_feed ∷ [])))) (joined B (λ b. table k (f b)))
  whole-blocks = whole-joined B (λ b. joined k (λ j. f b j ++ (line_feed ∷ []))) (λ b. table k (f b)) (λ b p. whole-table k (f b) (λ j q. free b j p q))

  pub lines-blocks : lines (joined B (λ b. joined k (λ j. f b j ++ (line_feed ∷ [])))) ≡ joined B (λ b. table k (f b))
  lines-blocks = whole-lines whole-blocks

  pub remainder-blocks : remainder (joined B (λ b. joined k (λ j. f b j ++ (line_feed ∷ [])))) ≡ []
  remainder-blocks = whole-rest whole-blocks
