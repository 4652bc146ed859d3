-- Laws of a table that is taken: each of its lines is one, and starts where the one before ended.
use Rattle.std.specs.Prelude.{◌≡◌, refl, Bool, true, false, cond, List, [], ◌∷◌, ℕ, ◌+◌, ◌≤◌, ◌<◌, T, eqb, ltb, length, drop}
use Rattle.std.proofs.Common.{sym, ap, ◌∙◌, arith, ltb-false, eqb-true, length-drop, drop_of_length-le}
use Rattle.std.proofs.Math.Logic.{dite}
use Rattle.std.proofs.Math.Decide.{dec_lt}
use Rattle.arithmetic.specs.Lists.{every}
use Rattle.arithmetic.specs.TestLaws.{both_left, both_right, both_make, is_T, is_true}
use Rattle.text.specs.Bytes.{line_feed}
use Rattle.text.specs.Lines.{index_of, split, ended, lines, remainder}
use Rattle.text.specs.LineLaws.{part, end-most, line-found, remainder-found, remainder-none}
use Rattle.steps.specs.Table.{row_of, refused, taken, malformed, joints, by_lines, verdict, table_code}

-- a test of every line
abbrev pub is_row : ℕ → List ℕ → Bool
is_row M line = (row_of M line).ok

-- lines that cover `next` to M - 1, each place once
pub record Chain (M next : ℕ) (ls : List (List ℕ)) : Type 0 where
  pub rows : T (every (is_row M) ls)
  pub number : ℕ
  pub joint : (joints M number next ls).code ≡ 0

-- a joint that is not at fault
pub record Joint (M next : ℕ) (l : List ℕ) (ls : List (List ℕ)) : Type 0 where
  pub ok : (row_of M l).ok ≡ true
  pub starts : (row_of M l).first ≡ next
  pub rest : Chain M ((row_of M l).last + 1) ls

pub chain_more : {M next : ℕ} {l : List ℕ} {ls : List (List ℕ)} → Chain M next (l ∷ ls) → Joint M next l ls
unfolding joints every
chain_more {M} {next} {l} {ls} c = by (ltb next (row_of M l).first) (ltb (row_of M l).first next) refl refl c.joint
  where
    by : (t u : Bool) → ltb next (row_of M l).first ≡ t → ltb (row_of M l).first next ≡ u → (cond t (refused 10 c.number) (cond u (refused 11 c.number) (joints M (c.number + 1) ((row_of M l).last + 1) ls))).code ≡ 0 → Joint M next l ls
    by true u p q e = absurd (omega (arith, e))
    by false true p q e = absurd (omega (arith, e))
    by false false p q e = record {
      ok = is_true (both_left (is_row M l) (every (is_row M) ls) c.rows);
      starts = omega (arith, ltb-false next (row_of M l).first p, ltb-false (row_of M l).first next q);
      rest = record { rows = both_right (is_row M l) (every (is_row M) ls) c.rows; number = c.number + 1; joint = e };
    }

pub chain_end : {M next : ℕ} → Chain M next [] → next ≡ M
unfolding joints
chain_end {M} {next} c = by (eqb next M) refl c.joint
  where
    by : (t : Bool) → eqb next M ≡ t → (cond t taken (refused 10 0)).code ≡ 0 → next ≡ M
    by true p e = eqb-true next M p
    by false p e = absurd (omega (arith, e))

malformed-none : (M n : ℕ) → 1 ≤ n → (ls : List (List ℕ)) (rest : List ℕ) → malformed M n ls rest ≡ 0 → T (every (is_row M) ls) × (length rest ≡ 0)
unfolding malformed every
malformed-none M n h [] rest e = by (eqb (length rest) 0) refl e
  where
    by : (t : Bool) → eqb (length rest) 0 ≡ t → ◌≡◌ {A = ℕ} (cond t 0 n) 0 → T true × (length rest ≡ 0)
    by true p e = (tt, eqb-true (length rest) 0 p)
    by false p e = absurd (omega (arith, e))
malformed-none M n h (l ∷ ls) rest e = by (row_of M l).ok refl e (malformed-none M (n + 1) (omega arith) ls rest)
  where
    by : (t : Bool) → (row_of M l).ok ≡ t → cond t (malformed M (n + 1) ls rest) n ≡ 0 → (malformed M (n + 1) ls rest ≡ 0 → T (every (is_row M) ls) × (length rest ≡ 0)) → T (cond (row_of M l).ok (every (is_row M) ls) false) × (length rest ≡ 0)
    by true p e ih = let r = ih e in (both_make (row_of M l).ok (every (is_row M) ls) (is_T p) r.0, r.1)
    by false p e ih = absurd (omega (arith, e))

-- the whole of it
pub taken_chain : (M : ℕ) (text : List ℕ) → table_code M text ≡ 0 → Chain M 0 (lines text) × (length (remainder text) ≡ 0)
unfolding verdict by_lines
taken_chain M text e = by (eqb (malformed M 1 (lines text) (remainder text)) 0) refl e
  where
    by : (t : Bool) → eqb (malformed M 1 (lines text) (remainder text)) 0 ≡ t → (cond t (joints M 1 0 (lines text)) (refused 9 (malformed M 1 (lines text) (remainder text)))).code ≡ 0 → Chain M 0 (lines text) × (length (remainder text) ≡ 0)
    by true p e =
        let m = malformed-none M 1 (omega arith) (lines text) (remainder text) (eqb-true (malformed M 1 (lines text) (remainder text)) 0 p) in
        (record { rows = m.0; number = 1; joint = e }, m.1)
    by false p e = absurd (omega (arith, e))

-- ---- a pass over a table that is taken: what is left of it at place i
pub record Left (M next : ℕ) (s : List ℕ) (i : ℕ) : Type 0 where
  pub within : i ≤ length s
  pub chain : Chain M next (lines (drop i s))
  pub whole : length (remainder (drop i s)) ≡ 0

pub left-whole : (M : ℕ) (s : List ℕ) → table_code M s ≡ 0 → Left M 0 s 0
left-whole M s e = let t = taken_chain M s e in record { within = omega arith; chain = t.0; whole = t.1 }

pub left_end : {M next : ℕ} {s : List ℕ} {i : ℕ} → Left M next s i → length s ≤ i → next ≡ M
unfolding lines split ended
left_end {M} {next} {s} {i} left h = chain_end (rw (drop_of_length-le s h) at left.chain)

-- the line that starts at i, with its line feed at e
pub record Next (M next : ℕ) (s : List ℕ) (i e : ℕ) : Type 0 where
  pub ended : e < length s
  pub line : lines (drop i s) ≡ part s i e ∷ lines (drop (e + 1) s)
  pub ok : (row_of M (part s i e)).ok ≡ true
  pub starts : (row_of M (part s i e)).first ≡ next
  pub left : Left M ((row_of M (part s i e)).last + 1) s (e + 1)

pub left-next : {M next : ℕ} {s : List ℕ} {i : ℕ} → Left M next s i → (e : ℕ) → i < length s → e ≡ i + index_of line_feed (drop i s) → Next M next s i e
left-next {M} {next} {s} {i} left e inside is =
    dite
    (dec_lt e (length s))
    (λ h.
    let found = line-found s i e left.within is h in
    let j = chain_more (rw found at left.chain) in
    record {
      ended = h;
      line = found;
      ok = j.ok;
      starts = j.starts;
      left = record { within = omega arith; chain = j.rest; whole = sym (ap length (remainder-found s i e left.within is h)) ∙ left.whole };
    })
    (λ h.
    let f : e ≡ length s = omega (arith, h, end-most line_feed s i e left.within is) in
    absurd (omega (arith, left.whole, ap length (remainder-none s i e left.within is f), length-drop i s)))
