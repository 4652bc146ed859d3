-- Laws of the verdict: what a place of the text decides.
use Rattle.std.specs.Prelude.{◌≡◌, Bool, true, false, cond, ℕ, suc, ◌+◌, ◌/◌, ◌≤◌, ◌<◌, T, ltb, eqb, get_or, take, drop, ℤ, pos, negsuc, nat_abs}
use Rattle.std.proofs.Math.Path.{refl, ap}
use Rattle.std.proofs.Common.{◌∙◌, arith, eqb→eq, drop_of_length-le}
use mathlib.Core.List.{List, [], ◌∷◌}
use Rattle.std.proofs.Math.Nat.{sub-zero}
use Rattle.std.proofs.Math.Numerals.{add-one}
use borrow.Author.Tests.{ne_eqb, lt-ltb, le-ltb, ltb-false}
use Rattle.std.proofs.Math.ListN.{length, length-drop}
use Rattle.std.specs.Int.Signed.{lt_z}
use Rattle.arithmetic.specs.Lists.{every}
use Rattle.arithmetic.specs.TestLaws.{both_make, every-at}
use Rattle.arithmetic.specs.IntegerLaws.{ints}
use Rattle.arithmetic.specs.OrderLaws.{lt_z-true, lt_z-false}
use Rattle.cosine.specs.Kernels.{tabled}
use Rattle.text.specs.Bytes.{line_feed}
use Rattle.text.specs.Number.{is_number, value}
use Rattle.text.specs.Lines.{index_of, split, ended, unended, lines, remainder}
use Rattle.text.specs.LineLaws.{part, lines-few, line-found, line-none, remainder-found, remainder-none}
use Rattle.listing.specs.Verdicts.{Verdict}
use Rattle.listing.specs.Hops.{digits, is_hop}
use Rattle.listing.specs.Verdicts.{limit, refused, taken, by_hops, by_length, by_lines, verdict}

-- ---- the lines behind the first: what is left from place i on, H hops being read
abbrev pub left : ℕ → ℕ → ℕ → List ℕ → Verdict
left N H i s = by_hops N H (lines (drop i s)) (remainder (drop i s))

pub left_end : (N H i : ℕ) (s : List ℕ) → length s ≤ i → left N H i s ≡ taken N H
unfolding by_hops lines remainder split ended unended
left_end N H i s h = rw (drop_of_length-le s h)

module _ (N H i e : ℕ) (s : List ℕ) (within : i ≤ length s) (is : e ≡ i + index_of line_feed (drop i s)) where
  pub left-unended : i < length s → e ≡ length s → left N H i s ≡ refused 5 (H + 2)
  unfolding by_hops
  left-unended h k = rw (line-none s i e within is k, remainder-none s i e within is k, ne_eqb (length (drop i s)) 0 (λ z. omega (arith, length-drop i s)))

  pub left-bad : e < length s → is_hop (N / 2) (part s i e) ≡ false → left N H i s ≡ refused 5 (H + 2)
  unfolding by_hops
  left-bad h b = rw (line-found s i e within is h, b)

  pub left-next : e < length s → is_hop (N / 2) (part s i e) ≡ true → left N H i s ≡ left N (H + 1) (e + 1) s
  unfolding by_hops
  left-next h b = rw (line-found s i e within is h, remainder-found s i e within is h, b, add-one H)

-- ---- line 1
module _ (s : List ℕ) where
  pub size-first : limit < length s → verdict s ≡ refused 6 0
  unfolding verdict
  size-first h = rw (lt-ltb limit (length s) h)

module _ (s : List ℕ) (e : ℕ) (small : length s ≤ limit) (is : e ≡ 0 + index_of line_feed s) where
  first : e < length s → lines s ≡ take e s ∷ lines (drop (e + 1) s)
  first h = line-found s 0 e (omega arith) is h ∙ rw sub-zero

  pub first-unended : e ≡ length s → verdict s ≡ refused 5 1
  unfolding verdict by_lines
  first-unended k = rw (le-ltb limit (length s) small, line-none s 0 e (omega arith) is k)

  pub first-bad : e < length s → is_number digits (take e s) ≡ false → verdict s ≡ refused 5 1
  unfolding verdict by_lines
  first-bad h b = rw (le-ltb limit (length s) small, first h, b)

  pub first-value : e < length s → is_number digits (take e s) ≡ true → verdict s ≡ by_length (value (take e s)) (lines (drop (e + 1) s)) (remainder (drop (e + 1) s))
  unfolding verdict by_lines
  first-value h b = rw (le-ltb limit (length s) small, first h, remainder-found s 0 e (omega arith) is h, b)

module _ (ls : List (List ℕ)) (rest : List ℕ) where
  pub length_below : (z : ℤ) → lt_z z (pos 0) ≡ true → by_length z ls rest ≡ refused 1 1
  unfolding by_length
  length_below (pos n) e = absurd (omega (arith, simp ints at (lt_z-true (pos n) (pos 0) e)))
  length_below (negsuc n) e = refl

  pub length-other : (z : ℤ) → lt_z z (pos 0) ≡ false → tabled (nat_abs z) ≡ false → by_length z ls rest ≡ refused 1 1
  unfolding by_length
  length-other (pos n) e t = rw t
  length-other (negsuc n) e t = refl

  pub length-tabled : (z : ℤ) → lt_z z (pos 0) ≡ false → tabled (nat_abs z) ≡ true → by_length z ls rest ≡ by_hops (nat_abs z) 0 ls rest
  unfolding by_length
  length-tabled (pos n) e t = rw t
  length-tabled (negsuc n) e t = absurd (omega (arith, simp ints at (lt_z-false (negsuc n) (pos 0) e)))

-- ---- a listing that is taken
-- a choice between a verdict x and a refusal, where the number is 0
module _ (x : Verdict) (c l : ℕ) where
  not-refused : (b : Bool) → (cond b x (refused (suc c) l)).code ≡ 0 → T b × (cond b x (refused (suc c) l) ≡ x)
  not-refused true e = (tt, refl)
  not-refused false e = absurd (omega arith)

  passed : (b : Bool) → (cond b (refused (suc c) l) x).code ≡ 0 → (b ≡ false) × (cond b (refused (suc c) l) x ≡ x)
  passed true e = absurd (omega arith)
  passed false e = (refl, refl)

record Hops (N H : ℕ) (ls : List (List ℕ)) (rest : List ℕ) : Type 0 where
  is : by_hops N H ls rest ≡ taken N (H + length ls)
  all : T (every (is_hop (N / 2)) ls)
  ended : length rest ≡ 0

code : {v w : Verdict} → v ≡ w → v.code ≡ 0 → w.code ≡ 0
code p e = rw p at e

hops-taken : (N H : ℕ) (ls : List (List ℕ)) (rest : List ℕ) → (by_hops N H ls rest).code ≡ 0 → Hops N H ls rest
unfolding by_hops every
hops-taken N H [] rest e =
    let q = not-refused (taken N H) 4 (H + 2) (eqb (length rest) 0) e in
    record { is = q.1 ∙ ap (taken N) (omega arith); all = tt; ended = eqb→eq (length rest) 0 q.0 }
hops-taken N H (l ∷ ls) rest e =
    let q = not-refused (by_hops N (suc H) ls rest) 4 (H + 2) (is_hop (N / 2) l) e in
    let h = hops-taken N (suc H) ls rest (code q.1 e) in
    record {
      is = q.1 ∙ h.is ∙ ap (taken N) (omega arith);
      all = both_make (is_hop (N / 2) l) (every (is_hop (N / 2)) ls) q.0 h.all;
      ended = h.ended;
    }

-- what a verdict of the number 0 says of the text: N stands in line 1, and each of the H lines behind it is a hop
pub record Taken (text : List ℕ) (N H : ℕ) : Type 0 where
  pub small : length text ≤ limit
  pub length-tabled : T (tabled N)
  pub first : value (get_or (lines text) 0 []) ≡ pos N
  pub counted : length (lines text) ≡ suc H
  pub hop : (j : ℕ) → j < H → T (is_hop (N / 2) (get_or (lines text) (suc j) []))
  pub ended : length (remainder text) ≡ 0

-- a taken verdict, with what it says
record Found (text : List ℕ) (v : Verdict) : Type 0 where
  N : ℕ
  H : ℕ
  is : v ≡ taken N H
  says : Taken text N H

module _ (text l : List ℕ) (ls : List (List ℕ)) (rest : List ℕ) (L : lines text ≡ l ∷ ls) (R : remainder text ≡ rest) (small : length text ≤ limit) where
  found-length : (z : ℤ) → value l ≡ z → (by_length z ls rest).code ≡ 0 → Found text (by_length z ls rest)
  unfolding by_length
  found-length (negsuc n) p e = absurd (omega arith)
  found-length (pos N) p e =
      let q = not-refused (by_hops N 0 ls rest) 0 1 (tabled N) e in
      let h = hops-taken N 0 ls rest (code q.1 e) in
      record {
        N = N;
        H = length ls;
        is = q.1 ∙ h.is ∙ ap (taken N) (omega arith);
        says = record {
          small = small;
          length-tabled = q.0;
          first = rw L p;
          counted = rw L;
          hop = λ j k. rw L (every-at (is_hop (N / 2)) [] ls h.all j k);
          ended = rw R h.ended;
        };
      }

  found_first : (by_lines (l ∷ ls) rest).code ≡ 0 → Found text (by_lines (l ∷ ls) rest)
  unfolding by_lines
  found_first e =
      let q = not-refused (by_length (value l) ls rest) 4 1 (is_number digits l) e in
      let f = found-length (value l) refl (code q.1 e) in
      record { N = f.N; H = f.H; is = q.1 ∙ f.is; says = f.says }

found-lines : (text : List ℕ) (ls : List (List ℕ)) (rest : List ℕ) → lines text ≡ ls → remainder text ≡ rest → length text ≤ limit → (by_lines ls rest).code ≡ 0 → Found text (by_lines ls rest)
unfolding by_lines
found-lines text [] rest L R small e = absurd (omega arith)
found-lines text (l ∷ ls) rest L R small e = found_first text l ls rest L R small e

pub verdict-taken : (text : List ℕ) → (verdict text).code ≡ 0 → Taken text (verdict text).n (verdict text).hops
unfolding verdict
verdict-taken text e =
    let q = passed (by_lines (lines text) (remainder text)) 5 0 (ltb limit (length text)) e in
    let f = found-lines text (lines text) (remainder text) refl refl (ltb-false limit (length text) q.0) (code q.1 e) in
    rw (q.1 ∙ f.is) f.says

-- ---- the numbers of a verdict
record Small (v : Verdict) (most : ℕ) : Type 0 where
  code : v.code ≤ 6
  line : v.line ≤ most

small_cond : {v w : Verdict} {m : ℕ} (b : Bool) → Small v m → Small w m → Small (cond b v w) m
small_cond true p q = p
small_cond false p q = q

small_hops : (N H m : ℕ) (ls : List (List ℕ)) (rest : List ℕ) → H + 2 + length ls ≤ m → Small (by_hops N H ls rest) m
unfolding by_hops
small_hops N H m [] rest h = small_cond (eqb (length rest) 0) (record { code = omega arith; line = omega arith }) (record { code = omega arith; line = omega arith })
small_hops N H m (l ∷ ls) rest h = small_cond (is_hop (N / 2) l) (small_hops N (suc H) m ls rest (omega arith)) (record { code = omega arith; line = omega arith })

small_length : (z : ℤ) (m : ℕ) (ls : List (List ℕ)) (rest : List ℕ) → 2 + length ls ≤ m → Small (by_length z ls rest) m
unfolding by_length
small_length (pos N) m ls rest h = small_cond (tabled N) (small_hops N 0 m ls rest (omega arith)) (record { code = omega arith; line = omega arith })
small_length (negsuc n) m ls rest h = record { code = omega arith; line = omega arith }

small_lines : (ls : List (List ℕ)) (rest : List ℕ) → Small (by_lines ls rest) (length ls + 1)
unfolding by_lines
small_lines [] rest = record { code = omega arith; line = omega arith }
small_lines (l ∷ ls) rest = small_cond (is_number digits l) (small_length (value l) (length (l ∷ ls) + 1) ls rest (omega arith)) (record { code = omega arith; line = omega arith })

small_verdict : (text : List ℕ) → Small (verdict text) (limit + 1)
unfolding verdict
small_verdict text = go (ltb limit (length text)) refl (small_lines (lines text) (remainder text))
  where
    go : (b : Bool) → ltb limit (length text) ≡ b → Small (by_lines (lines text) (remainder text)) (length (lines text) + 1) → Small (cond b (refused 6 0) (by_lines (lines text) (remainder text))) (limit + 1)
    go true e p = record { code = omega arith; line = omega arith }
    go false e p = record { code = p.code; line = omega (arith, p.line, lines-few text, ltb-false limit (length text) e) }

-- they have few digits
pub verdict-code : (text : List ℕ) → (verdict text).code ≤ 6
verdict-code text = (small_verdict text).code

pub verdict-line : (text : List ℕ) → (verdict text).line ≤ limit + 1
verdict-line text = (small_verdict text).line
