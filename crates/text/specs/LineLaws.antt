-- Laws of lines and fields: where each stands in the text, fields to be printed, and how many bytes they take.
-- The first part of a text ends at the first byte p, or is the whole of it.
use Rattle.std.specs.Prelude.{◌≡◌, Bool, eqb, get_or, drop}
use Rattle.std.proofs.Math.Path.{refl}
use Rattle.std.proofs.Common.{sym, ap, ◌∙◌, eqb-true, take_all, drop-cons, drop-drop}
use Rattle.std.proofs.Math.Bool.{true, false, cond}
use mathlib.Core.List.{List, [], ◌∷◌, ◌++◌, append_assoc, append-nil}
use Prim.Native.Nat.{ℕ, zero, suc, ◌+◌, ◌-◌, ◌*◌, ◌≤◌, ◌<◌}
use Rattle.std.proofs.Math.Logic.{dite}
use Rattle.std.proofs.Math.Decide.{dec_lt}
use native.Mathlib.Omega.{arith}
use Rattle.std.proofs.Math.ListN.{length, take, length-drop}
use Rattle.text.specs.Bytes.{line_feed, comma}
use Rattle.text.specs.Lines.{index_of, in_front, split, ended, unended, lines, remainder, line_at, next_line, line_start, fields, more}

-- ---- parts
module _ (p : ℕ) where
  pub index_of-most : (s : List ℕ) → index_of p s ≤ length s
  unfolding index_of
  index_of-most [] = omega arith
  index_of-most (b ∷ s) = go (eqb b p) (index_of-most s)
    where
      go : (t : Bool) → index_of p s ≤ length s → cond t 0 (suc (index_of p s)) ≤ suc (length s)
      go true h = omega arith
      go false h = omega arith

  pub split-some : (s : List ℕ) → 1 ≤ length (split p s)
  unfolding split in_front
  split-some [] = omega arith
  split-some (b ∷ s) = go (eqb b p) (split p s)
    where
      go : (t : Bool) (fs : List (List ℕ)) → 1 ≤ length (cond t ([] ∷ fs) (in_front b fs))
      go true fs = omega arith
      go false [] = omega arith
      go false (f ∷ fs) = omega arith

  -- with a byte p, its first part stands in front of the first of them
  pub split-found : (s : List ℕ) → index_of p s < length s → split p s ≡ take (index_of p s) s ∷ split p (drop (suc (index_of p s)) s)
  unfolding split in_front index_of
  split-found [] h = absurd (omega arith)
  split-found (b ∷ s) h = go (eqb b p) (λ k. split-found s k) h
    where
      go : (t : Bool) → (index_of p s < length s → split p s ≡ take (index_of p s) s ∷ split p (drop (suc (index_of p s)) s)) → cond t 0 (suc (index_of p s)) < suc (length s) → cond t ([] ∷ split p s) (in_front b (split p s)) ≡ take (cond t 0 (suc (index_of p s))) (b ∷ s) ∷ split p (drop (suc (cond t 0 (suc (index_of p s)))) (b ∷ s))
      go true ih k = refl
      go false ih k = rw (ih (omega arith))

  -- with none it is its own only part
  pub split-none : (s : List ℕ) → index_of p s ≡ length s → split p s ≡ s ∷ []
  unfolding split in_front index_of
  split-none [] h = refl
  split-none (b ∷ s) h = go (eqb b p) (λ k. split-none s k) h
    where
      go : (t : Bool) → (index_of p s ≡ length s → split p s ≡ s ∷ []) → cond t 0 (suc (index_of p s)) ≡ suc (length s) → cond t ([] ∷ split p s) (in_front b (split p s)) ≡ (b ∷ s) ∷ []
      go true ih k = absurd (omega arith)
      go false ih k = rw (ih (omega arith))

-- ---- the parts are those of the text, and there are no others
-- parts with a byte p between them
unfoldable pub joined : ℕ → List (List ℕ) → List ℕ
joined p [] = []
joined p (f ∷ []) = f
joined p (f ∷ g ∷ fs) = f ++ (p ∷ joined p (g ∷ fs))

-- joined, they are the text ..
pub split-joined : (p : ℕ) (s : List ℕ) → joined p (split p s) ≡ s
unfolding split in_front joined
split-joined p [] = refl
split-joined p (b ∷ s) = go (eqb b p) refl (split p s) (split-some p s) (split-joined p s)
  where
    cons : {x y : ℕ} {xs ys : List ℕ} → x ≡ y → xs ≡ ys → x ∷ xs ≡ y ∷ ys
    cons q r = cc

    go : (t : Bool) → eqb b p ≡ t → (fs : List (List ℕ)) → 1 ≤ length fs → joined p fs ≡ s → joined p (cond t ([] ∷ fs) (in_front b fs)) ≡ b ∷ s
    go true e [] h k = absurd (omega arith)
    go true e (f ∷ fs) h k = cons (sym (eqb-true b p e)) k
    go false e [] h k = absurd (omega arith)
    go false e (f ∷ []) h k = cons refl k
    go false e (f ∷ g ∷ fs) h k = cons refl k

-- the bytes from i up to e
abbrev pub part : List ℕ → ℕ → ℕ → List ℕ
part s i e = take (e - i) (drop i s)

-- ---- the part that starts at i, with e where `find` comes to
module _ (p : ℕ) (s : List ℕ) (i e : ℕ) (within : i ≤ length s) (is : e ≡ i + index_of p (drop i s)) where
  pub end-most : e ≤ length s
  end-most = omega (arith, index_of-most p (drop i s), length-drop i s)

  size_is : index_of p (drop i s) ≡ e - i
  size_is = omega arith

  pub part-found : e < length s → split p (drop i s) ≡ part s i e ∷ split p (drop (e + 1) s)
  part-found h =
      let k : i + suc (e - i) ≡ e + 1 = omega arith in
      split-found p (drop i s) (omega (arith, length-drop i s)) ∙ rw (size_is, drop-drop (suc (e - i)) i s, k)

  pub part-last : e ≡ length s → split p (drop i s) ≡ part s i e ∷ []
  part-last h = split-none p (drop i s) (omega (arith, length-drop i s)) ∙ ap (λ (l : List ℕ). l ∷ []) (sym (take_all (e - i) (drop i s) (omega (arith, length-drop i s))))

  -- either way it is the first part
  pub part-first : (rest : List (List ℕ)) × (split p (drop i s) ≡ part s i e ∷ rest)
  part-first = dite (dec_lt e (length s)) (λ h. (split p (drop (e + 1) s), part-found h)) (λ h. ([], part-last (omega (arith, end-most))))

-- ---- lines
pub ended-more : (f : List ℕ) (fs : List (List ℕ)) → 1 ≤ length fs → (ended (f ∷ fs) ≡ f ∷ ended fs) × (unended (f ∷ fs) ≡ unended fs)
unfolding ended unended
ended-more f [] h = absurd (omega arith)
ended-more f (g ∷ fs) h = (refl, refl)

-- every line takes a line feed
pub lines-few : (s : List ℕ) → length (lines s) ≤ length s
unfolding lines split in_front ended
lines-few [] = omega arith
lines-few (b ∷ s) = go (eqb b line_feed) (split line_feed s) (split-some line_feed s) (lines-few s)
  where
    go : (t : Bool) (fs : List (List ℕ)) → 1 ≤ length fs → length (ended fs) ≤ length s → length (ended (cond t ([] ∷ fs) (in_front b fs))) ≤ suc (length s)
    go true [] h k = absurd (omega arith)
    go true (g ∷ fs) h k = omega arith
    go false [] h k = absurd (omega arith)
    go false (f ∷ []) h k = omega arith
    go false (f ∷ g ∷ fs) h k = omega arith

module _ (s : List ℕ) (i e : ℕ) (within : i ≤ length s) (is : e ≡ i + index_of line_feed (drop i s)) where
  pub line-found : e < length s → lines (drop i s) ≡ part s i e ∷ lines (drop (e + 1) s)
  unfolding lines
  line-found h = rw (part-found line_feed s i e within is h) (ended-more (part s i e) (split line_feed (drop (e + 1) s)) (split-some line_feed (drop (e + 1) s))).0

  pub remainder-found : e < length s → remainder (drop i s) ≡ remainder (drop (e + 1) s)
  unfolding remainder
  remainder-found h = rw (part-found line_feed s i e within is h) (ended-more (part s i e) (split line_feed (drop (e + 1) s)) (split-some line_feed (drop (e + 1) s))).1

  pub line-none : e ≡ length s → lines (drop i s) ≡ []
  unfolding lines ended
  line-none h = rw (part-last line_feed s i e within is h)

  pub remainder-none : e ≡ length s → remainder (drop i s) ≡ drop i s
  unfolding remainder unended
  remainder-none h = rw (part-last line_feed s i e within is h) (take_all (e - i) (drop i s) (omega (arith, length-drop i s)))

-- ---- places
module _ (s : List ℕ) where
  pub next-is : (i e : ℕ) → e ≡ i + index_of line_feed (drop i s) → next_line s i ≡ e + 1
  unfolding next_line
  next-is i e is = omega arith

  pub at-is : (i e : ℕ) → e ≡ i + index_of line_feed (drop i s) → line_at s i ≡ part s i e
  unfolding line_at
  at-is i e is = let k : index_of line_feed (drop i s) ≡ e - i = omega arith in rw k

  -- with a line from i on, its line feed is there
  here : (i : ℕ) → i ≤ length s → 1 ≤ length (lines (drop i s)) → i + index_of line_feed (drop i s) < length s
  here i within h =
      let e = i + index_of line_feed (drop i s) in
      dite (dec_lt e (length s)) (λ k. k) (λ k. absurd (omega (arith, ap length (line-none s i e within refl (omega (arith, end-most line_feed s i e within refl))))))

  -- the line that starts at i is line k, where those from i on are those from k on
  step : (k i : ℕ) → k < length (lines s) → i ≤ length s → lines (drop i s) ≡ drop k (lines s) → (line_at s i ≡ get_or (lines s) k []) × (next_line s i ≤ length s) × (lines (drop (next_line s i) s) ≡ drop (suc k) (lines s))
  step k i h within q =
      let e = i + index_of line_feed (drop i s) in
      let f = here i within (omega (arith, ap length q, length-drop k (lines s))) in
      let found = line-found s i e within refl f in
      let cut = drop-cons (lines s) k [] h in
      rw (at-is i e refl, next-is i e refl) ((same (sym found ∙ q ∙ cut)).0, omega arith, (same (sym found ∙ q ∙ cut)).1)
    where
      same : {a b : List ℕ} {c d : List (List ℕ)} → a ∷ c ≡ b ∷ d → (a ≡ b) × (c ≡ d)
      same p = (cc, cc)

  -- behind k lines, those from line k on are left
  pub lines_from : (k : ℕ) → k ≤ length (lines s) → (line_start s k ≤ length s) × (lines (drop (line_start s k) s) ≡ drop k (lines s))
  unfolding line_start
  lines_from zero h = (omega arith, refl)
  lines_from (suc k) h =
      let q = lines_from k (omega arith) in
      let r = step k (line_start s k) h q.0 q.1 in
      (r.1, r.2)

  pub line_is : (k : ℕ) → k < length (lines s) → line_at s (line_start s k) ≡ get_or (lines s) k []
  line_is k h =
      let q = lines_from k (omega arith) in
      (step k (line_start s k) h q.0 q.1).0

-- ---- fields to be printed
-- one more
pub more-last : (fs : List (List ℕ)) (f : List ℕ) → more (fs ++ (f ∷ [])) ≡ more fs ++ (comma ∷ f)
unfolding more
more-last [] f = ap (λ (l : List ℕ). comma ∷ l) (append-nil f)
more-last (g ∷ fs) f = ap (λ (l : List ℕ). comma ∷ l) (ap (λ (l : List ℕ). g ++ l) (more-last fs f) ∙ sym (append_assoc g (more fs) (comma ∷ f)))

more-joined : (f : List ℕ) (fs : List (List ℕ)) → more (f ∷ fs) ≡ comma ∷ joined comma (f ∷ fs)
unfolding more joined
more-joined f [] = rw (append-nil f)
more-joined f (g ∷ fs) = ap (λ (l : List ℕ). comma ∷ (f ++ l)) (more-joined g fs)

-- those of a line are the line, with a comma in front
pub more-fields : (l : List ℕ) → more (fields l) ≡ comma ∷ l
unfolding fields
more-fields l = go (split comma l) (split-some comma l) (split-joined comma l)
  where
    go : (fs : List (List ℕ)) → 1 ≤ length fs → joined comma fs ≡ l → more fs ≡ comma ∷ l
    go [] h e = absurd (omega arith)
    go (f ∷ fs) h e = more-joined f fs ∙ ap (λ (k : List ℕ). comma ∷ k) e

-- ---- the bytes of parts, with one more for each
unfoldable pub weight : List (List ℕ) → ℕ
weight [] = 0
weight (f ∷ fs) = suc (length f + weight fs)

pub split-weight : (p : ℕ) (s : List ℕ) → weight (split p s) ≡ suc (length s)
unfolding split in_front weight
split-weight p [] = refl
split-weight p (b ∷ s) = go (eqb b p) (split p s) (split-some p s) (split-weight p s)
  where
    go : (t : Bool) (fs : List (List ℕ)) → 1 ≤ length fs → weight fs ≡ suc (length s) → weight (cond t ([] ∷ fs) (in_front b fs)) ≡ suc (suc (length s))
    go true fs h k = omega arith
    go false [] h k = absurd (omega arith)
    go false (f ∷ fs) h k = omega arith

ended-weight : (fs : List (List ℕ)) → weight (ended fs) ≤ weight fs
unfolding ended weight
ended-weight [] = omega arith
ended-weight (f ∷ []) = omega arith
ended-weight (f ∷ g ∷ fs) = omega (arith, ended-weight (g ∷ fs))

pub lines-weight : (s : List ℕ) → weight (lines s) ≤ suc (length s)
unfolding lines
lines-weight s = omega (arith, ended-weight (split line_feed s), split-weight line_feed s)

-- where each has m bytes at least, the one more counted in
pub parts-weight : (m : ℕ) (fs : List (List ℕ)) → ((i : ℕ) → i < length fs → m ≤ suc (length (get_or fs i []))) → length fs * m ≤ weight fs
unfolding weight
parts-weight m [] h = omega arith
parts-weight m (f ∷ fs) h = omega (arith, h 0 (omega arith), parts-weight m fs (λ i p. h (suc i) (omega arith)))

-- where each but the first has
pub behind-weight : (m H : ℕ) (fs : List (List ℕ)) → length fs ≡ suc H → ((i : ℕ) → i < H → m ≤ suc (length (get_or fs (suc i) []))) → H * m < weight fs
unfolding weight
behind-weight m H [] e h = absurd (omega arith)
behind-weight m H (f ∷ fs) e h =
    let k : H ≡ length fs = omega arith in
    rw k (omega (arith, parts-weight m fs (λ i p. h i (omega arith))))
