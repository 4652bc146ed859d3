-- Laws of the verdict in one pass: what each line decides.
use Rattle.std.specs.Prelude.{◌≡◌, Bool, List, ℕ, ◌+◌, ◌≤◌, ◌<◌, ltb, drop}
use Rattle.std.proofs.Math.Path.{refl}
use Rattle.std.proofs.Common.{ap, arith, drop_of_length-le}
use Rattle.std.proofs.Math.Bool.{true, false, cond}
use borrow.Author.Tests.{ne_eqb, eqb-true, eqb-false}
use Rattle.std.proofs.Math.Dec.{eqb}
use Rattle.std.proofs.Math.ListN.{length, length-drop}
use Rattle.text.specs.Bytes.{line_feed}
use Rattle.text.specs.Lines.{index_of, split, ended, unended, lines, remainder}
use Rattle.text.specs.LineLaws.{part, end-most, line-found, line-none, remainder-found, remainder-none}
use Rattle.steps.specs.Table.{no_line, row_of, Verdict, refused, taken, malformed, joints, by_lines, verdict}
use Rattle.steps.specs.Pass.{row_at, joint_fault, closing_fault}

-- ---- the line from i to e
-- a line that is one has its line feed
pub record Ended (M : ℕ) (s : List ℕ) (i e : ℕ) : Type 0 where
  pub less : e < length s
  pub is : row_at M s i e ≡ row_of M (part s i e)

pub ended-row : (M : ℕ) (s : List ℕ) (i e : ℕ) → e ≤ length s → (row_at M s i e).ok ≡ true → Ended M s i e
unfolding row_at
ended-row M s i e h o = by (eqb e (length s)) refl o
  where
    by : (t : Bool) → eqb e (length s) ≡ t → (cond t no_line (row_of M (part s i e))).ok ≡ true → Ended M s i e
    by true p o = let z : ◌≡◌ {A = ℕ} 0 1 = cc in absurd (omega arith)
    by false p o = record { less = omega (arith, h, eqb-false e (length s) p); is = rw p }

-- ---- the verdict with a fault found so far, where the lines `ls` are left and the first of them is line n
unfoldable pub left_of : ℕ → ℕ → Verdict → ℕ → List (List ℕ) → ℕ → Verdict
left_of M n fault next ls bad = cond (eqb bad 0) (cond (eqb fault.code 0) (joints M n next ls) fault) (refused 9 bad)

-- .. and the text from a place on
abbrev pub left : ℕ → ℕ → Verdict → ℕ → List ℕ → Verdict
left M n fault next rest = left_of M n fault next (lines rest) (malformed M n (lines rest) (remainder rest))

pub left-whole : (M : ℕ) (text : List ℕ) → verdict M text ≡ left M 1 taken 0 (drop 0 text)
unfolding verdict by_lines left_of
left-whole M text = refl

joint-left : (fault rest : Verdict) (n next first : ℕ) → cond (eqb fault.code 0) (cond (ltb next first) (refused 10 n) (cond (ltb first next) (refused 11 n) rest)) fault ≡ cond (eqb (joint_fault fault n next first).code 0) rest (joint_fault fault n next first)
unfolding joint_fault
joint-left fault rest n next first = by (eqb fault.code 0) (ltb next first) (ltb first next) refl
  where
    by : (t u v : Bool) → eqb fault.code 0 ≡ t → cond t (cond u (refused 10 n) (cond v (refused 11 n) rest)) fault ≡ cond (eqb (cond t (cond u (refused 10 n) (cond v (refused 11 n) fault)) fault).code 0) rest (cond t (cond u (refused 10 n) (cond v (refused 11 n) fault)) fault)
    by true true v e = refl
    by true false true e = refl
    by true false false e = rw e
    by false u v e = rw e

module _ (M n : ℕ) (fault : Verdict) (next : ℕ) (s : List ℕ) (i : ℕ) where
  pub left_end : length s ≤ i → left M n fault next (drop i s) ≡ closing_fault fault next M
  unfolding left_of malformed closing_fault joints lines remainder split ended unended
  left_end h = rw (drop_of_length-le s h)

  module _ (e : ℕ) (counted : 1 ≤ n) (inside : i < length s) (is : e ≡ i + index_of line_feed (drop i s)) where
    within : i ≤ length s
    within = omega arith

    some : eqb n 0 ≡ false
    some = ne_eqb n 0 (λ (z : n ≡ 0). omega arith)

    -- a last line without its line feed
    left-unended : e ≡ length s → left M n fault next (drop i s) ≡ refused 9 n
    unfolding left_of malformed
    left-unended h =
        let z : eqb (length (drop i s)) 0 ≡ false = ne_eqb (length (drop i s)) 0 (λ (z : length (drop i s) ≡ 0). omega (arith, z, length-drop i s)) in
        rw (line-none s i e within is h, remainder-none s i e within is h, z, some)

    module _ (h : e < length s) where
      -- a line that is none
      left-bad : (row_of M (part s i e)).ok ≡ false → left M n fault next (drop i s) ≡ refused 9 n
      unfolding left_of malformed
      left-bad b = rw (line-found s i e within is h, b, some)

      pub left-more : (row_of M (part s i e)).ok ≡ true → left M n fault next (drop i s) ≡ left M (n + 1) (joint_fault fault n next (row_of M (part s i e)).first) ((row_of M (part s i e)).last + 1) (drop (e + 1) s)
      unfolding left_of malformed joints
      left-more b =
          let bad = malformed M (n + 1) (lines (drop (e + 1) s)) (remainder (drop (e + 1) s)) in
          rw
          (line-found s i e within is h, remainder-found s i e within is h, b)
          (ap
          (λ (v : Verdict). cond (eqb bad 0) v (refused 9 bad))
          (joint-left fault (joints M (n + 1) ((row_of M (part s i e)).last + 1) (lines (drop (e + 1) s))) n next (row_of M (part s i e)).first))

    pub left-none : (row_at M s i e).ok ≡ false → left M n fault next (drop i s) ≡ refused 9 n
    unfolding row_at
    left-none o = by (eqb e (length s)) refl o
      where
        by : (t : Bool) → eqb e (length s) ≡ t → (cond t no_line (row_of M (part s i e))).ok ≡ false → left M n fault next (drop i s) ≡ refused 9 n
        by true p o = left-unended (eqb-true e (length s) p)
        by false p o = left-bad (omega (arith, end-most line_feed s i e within is, eqb-false e (length s) p)) o
