-- Laws of a table's own number: 9 for what is no line, before 10 and 11, which the first joint at fault decides. They are a field of `demand_1`.
use Rattle.std.specs.Prelude.{◌≡◌, ◌≢◌, Bool, ltb, get_or, drop}
use Rattle.std.proofs.Math.Path.{refl, sym, ap}
use Rattle.std.proofs.Common.{◌∙◌, not-suc-le-zero, le_of_suc-le-suc}
use Rattle.std.proofs.Math.Bool.{true, false, cond}
use mathlib.Core.List.{List, [], ◌∷◌}
use Prim.Native.Nat.{ℕ, zero, suc, ◌+◌, ◌≤◌, ◌<◌}
use native.Mathlib.Omega.{arith}
use borrow.Author.Tests.{eq-eqb, ne_eqb, lt-ltb, le-ltb}
use Rattle.std.proofs.Math.Dec.{T, eqb, eqb→eq}
use Rattle.std.proofs.Math.ListN.{length}
use Rattle.arithmetic.specs.TestLaws.{is_true, is_false, is_T}
use Rattle.text.specs.Lines.{lines, remainder}
use Rattle.steps.specs.Table.{Verdict, row_of, refused, taken, malformed, joints, by_lines, verdict, table_code}
use Rattle.demands.specs.Answers.{start_of, Rows, Joined, TableAnswers}

-- ---- 9
module _ (M : ℕ) (rest : List ℕ) where
  abbrev is_line : List (List ℕ) → ℕ → Type 0
  is_line ls j = T (row_of M (get_or ls j [])).ok

  no_nine : (n : ℕ) (ls : List (List ℕ)) → ((j : ℕ) → j < length ls → is_line ls j) → length rest ≡ 0 → malformed M n ls rest ≡ 0
  unfolding malformed
  no_nine n [] each e = rw (eq-eqb (length rest) 0 e)
  no_nine n (l ∷ ls) each e =
      let g : (row_of M l).ok ≡ true = is_true (each 0 (omega arith)) in
      rw g (no_nine (n + 1) ls (λ j p. each (suc j) (omega (arith, p))) e)

  nine_not : (n : ℕ) (ls : List (List ℕ)) → 1 ≤ n → malformed M n ls rest ≡ 0 → ((j : ℕ) → j < length ls → is_line ls j) × (length rest ≡ 0)
  unfolding malformed
  nine_not n [] p e = (λ j q. absurd (not-suc-le-zero q), go (eqb (length rest) 0) refl e)
    where
      go : (b : Bool) → eqb (length rest) 0 ≡ b → cond b 0 n ≡ 0 → length rest ≡ 0
      go true f e = eqb→eq (length rest) 0 (rw f tt)
      go false f e = absurd (omega (arith, p, e))
  nine_not n (l ∷ ls) p e = go (row_of M l).ok refl e (nine_not (n + 1) ls (omega arith))
    where
      cons : T (row_of M l).ok → ((j : ℕ) → j < length ls → is_line ls j) → (j : ℕ) → j < suc (length ls) → is_line (l ∷ ls) j
      cons t f zero q = t
      cons t f (suc j) q = f j (le_of_suc-le-suc q)

      go : (b : Bool) → (row_of M l).ok ≡ b → cond b (malformed M (n + 1) ls rest) n ≡ 0 →
          (malformed M (n + 1) ls rest ≡ 0 → ((j : ℕ) → j < length ls → is_line ls j) × (length rest ≡ 0)) → ((j : ℕ) → j < suc (length ls) → is_line (l ∷ ls) j) × (length rest ≡ 0)
      go true f e ih = let r = ih e in (cons (is_T f) r.0, r.1)
      go false f e ih = absurd (omega (arith, p, e))

  -- the first line that is none, and the last without its line feed
  nine_at : (ls : List (List ℕ)) (n j : ℕ) → j < length ls → ((i : ℕ) → i < j → is_line ls i) → ¬ is_line ls j → malformed M n ls rest ≡ n + j
  unfolding malformed
  nine_at [] n j p before h = absurd (not-suc-le-zero p)
  nine_at (l ∷ ls) n zero p before h = let g : (row_of M l).ok ≡ false = is_false h in rw g (omega arith)
  nine_at (l ∷ ls) n (suc j) p before h =
      let g : (row_of M l).ok ≡ true = is_true (before 0 (omega arith)) in
      rw g (nine_at ls (n + 1) j (le_of_suc-le-suc p) (λ i q. before (suc i) (omega (arith, q))) h ∙ omega arith)

  nine_end : (ls : List (List ℕ)) (n : ℕ) → ((i : ℕ) → i < length ls → is_line ls i) → length rest ≢ 0 → malformed M n ls rest ≡ n + length ls
  unfolding malformed
  nine_end [] n each h = rw (ne_eqb (length rest) 0 h) (omega arith)
  nine_end (l ∷ ls) n each h =
      let g : (row_of M l).ok ≡ true = is_true (each 0 (omega arith)) in
      rw g (nine_end ls (n + 1) (λ i q. each (suc i) (omega (arith, q))) h ∙ omega arith)

-- ---- the joints
-- the place where line j is to start, where the first is to start at `next`
from : ℕ → ℕ → List (List ℕ) → ℕ → ℕ
from M next ls zero = next
from M next ls (suc j) = (row_of M (get_or ls j [])).last + 1

module _ (M n next : ℕ) (l : List ℕ) (ls : List (List ℕ)) where
  joint-passed : (row_of M l).first ≡ next → joints M n next (l ∷ ls) ≡ joints M (n + 1) ((row_of M l).last + 1) ls
  unfolding joints
  joint-passed h =
      let p : (row_of M l).first ≤ next = omega (arith, h) in
      let q : next ≤ (row_of M l).first = omega (arith, h) in
      rw (le-ltb next (row_of M l).first p, le-ltb (row_of M l).first next q)

  gap : next < (row_of M l).first → joints M n next (l ∷ ls) ≡ refused 10 n
  unfolding joints
  gap h = rw (lt-ltb next (row_of M l).first h)

  overlap : (row_of M l).first < next → joints M n next (l ∷ ls) ≡ refused 11 n
  unfolding joints
  overlap h = let p : (row_of M l).first ≤ next = omega arith in rw (le-ltb next (row_of M l).first p, lt-ltb (row_of M l).first next h)

module _ (M n next : ℕ) where
  end_short : next ≢ M → joints M n next [] ≡ refused 10 0
  unfolding joints
  end_short h = rw (ne_eqb next M h)

  end_whole : next ≡ M → joints M n next [] ≡ taken
  unfolding joints
  end_whole h = rw (eq-eqb next M h)

module _ (M : ℕ) where
  -- lines that start where they are to are passed
  passed : (ls : List (List ℕ)) (n next j : ℕ) → j ≤ length ls → ((i : ℕ) → i < j → (row_of M (get_or ls i [])).first ≡ from M next ls i) →
      joints M n next ls ≡ joints M (n + j) (from M next ls j) (drop j ls)
  unfolding from
  passed ls n next zero p each = let e : n + 0 ≡ n = omega arith in rw e
  passed [] n next (suc j) p each = absurd (not-suc-le-zero p)
  passed (l ∷ ls) n next (suc j) p each =
      let h : (row_of M l).first ≡ next = each 0 (omega arith) in
      let ih = passed ls (n + 1) ((row_of M l).last + 1) j (le_of_suc-le-suc p) (λ i q. each (suc i) (omega (arith, q)) ∙ sym (later i)) in
      let e : n + 1 + j ≡ n + suc j = omega arith in
      here h ∙ ih ∙ ap (λ (q : ℕ). joints M (n + 1 + j) q (drop j ls)) (later j) ∙ ap (λ (m : ℕ). joints M m (from M next (l ∷ ls) (suc j)) (drop j ls)) e
    where
      later : (i : ℕ) → from M ((row_of M l).last + 1) ls i ≡ from M next (l ∷ ls) (suc i)
      later zero = refl
      later (suc i) = refl

      here : (row_of M l).first ≡ next → joints M n next (l ∷ ls) ≡ joints M (n + 1) ((row_of M l).last + 1) ls
      here h = joint-passed M n next l ls h

  line_at : (ls : List (List ℕ)) (j : ℕ) → j < length ls → drop j ls ≡ get_or ls j [] ∷ drop (suc j) ls
  line_at [] j p = absurd (not-suc-le-zero p)
  line_at (l ∷ ls) zero p = refl
  line_at (l ∷ ls) (suc j) p = line_at ls j (le_of_suc-le-suc p)

  none_left : (ls : List (List ℕ)) → drop (length ls) ls ≡ []
  none_left [] = refl
  none_left (l ∷ ls) = none_left ls

-- 9 before the joints
module _ (M bad : ℕ) (ls : List (List ℕ)) where
  lines_fine : bad ≡ 0 → by_lines M bad ls ≡ joints M 1 0 ls
  unfolding by_lines
  lines_fine z = rw (eq-eqb bad 0 z)

  lines-bad : bad ≢ 0 → by_lines M bad ls ≡ refused 9 bad
  unfolding by_lines
  lines-bad n = rw (ne_eqb bad 0 n)

-- ---- a table's number is 0, 9, 10 or 11
table_number : ℕ → Bool
table_number k = cond (eqb k 0) true (cond (eqb k 9) true (cond (eqb k 10) true (eqb k 11)))

joints-number : (M : ℕ) (ls : List (List ℕ)) (n next : ℕ) → T (table_number (joints M n next ls).code)
unfolding joints table_number
joints-number M [] n next = go (eqb next M)
  where
    go : (b : Bool) → T (table_number (cond b taken (refused 10 0)).code)
    go true = tt
    go false = tt
joints-number M (l ∷ ls) n next = go (ltb next (row_of M l).first) (ltb (row_of M l).first next) (joints M (n + 1) ((row_of M l).last + 1) ls) (joints-number M ls (n + 1) ((row_of M l).last + 1))
  where
    go : (b c : Bool) (v : Verdict) → T (table_number v.code) → T (table_number (cond b (refused 10 n) (cond c (refused 11 n) v)).code)
    go true c v t = tt
    go false true v t = tt
    go false false v t = t

is_table_number : (M : ℕ) (text : List ℕ) → T (table_number (table_code M text))
unfolding verdict by_lines table_number
is_table_number M text = go (eqb (malformed M 1 (lines text) (remainder text)) 0) (joints M 1 0 (lines text)) (joints-number M (lines text) 1 0)
  where
    go : (b : Bool) (v : Verdict) → T (table_number v.code) → T (table_number (cond b v (refused 9 (malformed M 1 (lines text) (remainder text)))).code)
    go true v t = t
    go false v t = tt

pub table_no_four : (M : ℕ) (text : List ℕ) → table_code M text ≢ 4
unfolding table_number
table_no_four M text e = absurd (rw e at (is_table_number M text))

pub table_no_seven : (M : ℕ) (text : List ℕ) → table_code M text ≢ 7
unfolding table_number
table_no_seven M text e = absurd (rw e at (is_table_number M text))

-- ---- the answers
module _ (M : ℕ) (text : List ℕ) where
  abbrev bad : ℕ
  bad = malformed M 1 (lines text) (remainder text)

  nine : ¬ Rows M text → table_code M text ≡ 9
  unfolding verdict
  nine n = ap (λ (v : Verdict). v.code)
      (lines-bad M bad (lines text) (λ z. let r = nine_not M (remainder text) 1 (lines text) (omega arith) z in n (record { each = r.0; ended = r.1 })))

  bad-at : (j : ℕ) → bad ≡ 1 + j → verdict M text ≡ refused 9 (j + 1)
  unfolding verdict
  bad-at j e = lines-bad M bad (lines text) (λ z. omega (arith, e, z)) ∙ ap (refused 9) (e ∙ omega arith)

  module _ (rows : Rows M text) where
    by-joints : verdict M text ≡ joints M 1 0 (lines text)
    unfolding verdict
    by-joints = lines_fine M bad (lines text) (no_nine M (remainder text) 1 (lines text) rows.each rows.ended)

    starts : (j : ℕ) → start_of M text j ≡ from M 0 (lines text) j
    unfolding start_of from
    starts zero = refl
    starts (suc j) = refl

    at-joint : (j : ℕ) → j ≤ length (lines text) → Joined M text j → verdict M text ≡ joints M (j + 1) (start_of M text j) (drop j (lines text))
    at-joint j p joined =
        let e : 1 + j ≡ j + 1 = omega arith in
        by-joints ∙ passed M (lines text) 1 0 j p (λ i q. joined.each i q ∙ starts i)
        ∙ ap (λ (q : ℕ). joints M (1 + j) q (drop j (lines text))) (sym (starts j)) ∙ ap (λ (m : ℕ). joints M m (start_of M text j) (drop j (lines text))) e

    at-line : (j : ℕ) → j < length (lines text) → Joined M text j → verdict M text ≡ joints M (j + 1) (start_of M text j) (get_or (lines text) j [] ∷ drop (suc j) (lines text))
    at-line j p joined = at-joint j (omega arith) joined ∙ ap (joints M (j + 1) (start_of M text j)) (line_at M (lines text) j p)

    at_end : Joined M text (length (lines text)) → verdict M text ≡ joints M (length (lines text) + 1) (start_of M text (length (lines text))) []
    at_end joined =
        let j = length (lines text) in
        at-joint j (omega arith) joined ∙ ap (joints M (j + 1) (start_of M text j)) (none_left M (lines text))

  pub table-answers : TableAnswers M text
  table-answers = record {
    nine = nine;
    nine_line = λ j p before h. bad-at j (nine_at M (remainder text) (lines text) 1 j p before h);
    nine_last = λ each h. bad-at (length (lines text)) (nine_end M (remainder text) (lines text) 1 each h);
    ten = λ rows j p joined h. at-line rows j p joined ∙ gap M (j + 1) (start_of M text j) (get_or (lines text) j []) (drop (suc j) (lines text)) h;
    eleven = λ rows j p joined h. at-line rows j p joined ∙ overlap M (j + 1) (start_of M text j) (get_or (lines text) j []) (drop (suc j) (lines text)) h;
    ten_end = λ rows joined h. at_end rows joined ∙ end_short M (length (lines text) + 1) (start_of M text (length (lines text))) h;
    taken = λ rows joined h. at_end rows joined ∙ end_whole M (length (lines text) + 1) (start_of M text (length (lines text))) h;
  }
