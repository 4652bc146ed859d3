-- Laws of a pass over a table that is taken: the coarsest step so far, and the steps written so far.
use Rattle.std.specs.Prelude.{◌≡◌, refl, true, Some, List, [], ◌∷◌, ◌++◌, ℕ, zero, suc, ◌+◌, ◌-◌, ◌≤◌, ◌<◌, length, take, drop, set, replicate}
use Rattle.std.proofs.Common.{sym, ap, ◌∙◌, arith, length-set, length-drop, drop_of_length-le, take-append-drop}
use borrow.Rule.Slice.PartMut.{put_mid}
use Rattle.arithmetic.specs.Lists.{table}
use Rattle.arithmetic.specs.ListLaws.{Filled, filled_none, filled_more, filled-all}
use Rattle.text.specs.Bytes.{line_feed}
use Rattle.text.specs.Lines.{index_of, lines, split, ended}
use Rattle.text.specs.LineLaws.{part, end-most}
use Rattle.steps.specs.declared.row.Row.{Row}
use Rattle.steps.specs.Answers.{line_of}
use Rattle.steps.specs.Table.{Line, row_of, table_code, step_in, step_at, larger, coarsest_in, coarsest}
use Rattle.steps.specs.Pass.{row_at, spread}
use Rattle.steps.specs.RowLaws.{IsRow, row_is, row_apart}
use Rattle.steps.specs.VerdictLaws.{ended-row}
use Rattle.steps.specs.TakenLaws.{Left, Next, left-whole, left_end}
use Rattle.steps.specs.StepLaws.{step-here, step-later, larger-three, larger-none, larger-first, coarsest-none, coarsest-more}

-- ---- the coarsest: `most` so far, with the lines from place i on left
pub record Coarse (M : ℕ) (s : List ℕ) (i most : ℕ) : Type 0 where
  pub next : ℕ
  pub left : Left M next s i
  pub is : coarsest M s ≡ larger most (coarsest_in M (lines (drop i s)))

pub coarse_whole : (M : ℕ) (s : List ℕ) → table_code M s ≡ 0 → Coarse M s 0 0
unfolding coarsest
coarse_whole M s e = record { next = 0; left = left-whole M s e; is = sym (larger-first (coarsest_in M (lines s))) }

pub coarse_next : {M : ℕ} {s : List ℕ} {i most e : ℕ} → (c : Coarse M s i most) → Next M c.next s i e → Coarse M s (e + 1) (larger most (row_of M (part s i e)).step)
coarse_next {M} {s} {i} {most} {e} c n = record {
  next = (row_of M (part s i e)).last + 1;
  left = n.left;
  is =
      let l = part s i e in
      let ls = lines (drop (e + 1) s) in
      c.is
      ∙ ap (λ (x : List (List ℕ)). larger most (coarsest_in M x)) n.line
      ∙ ap (larger most) (coarsest-more M l ls)
      ∙ larger-three most (row_of M l).step (coarsest_in M ls);
}

pub coarse_end : {M : ℕ} {s : List ℕ} {i most : ℕ} → Coarse M s i most → length s ≤ i → most ≡ coarsest M s
unfolding lines split ended
coarse_end {M} {s} {i} {most} c h = sym (c.is ∙ rw (drop_of_length-le s h) (ap (larger most) (coarsest-none M) ∙ larger-none most))

-- ---- entries of one value
pub spread-length : (n p v : ℕ) (xs : List ℕ) → length (spread n p v xs) ≡ length xs
unfolding spread
spread-length zero p v xs = refl
spread-length (suc n) p v xs = length-set (spread n p v xs) (p + n) v ∙ spread-length n p v xs

pub spread_none : (p v : ℕ) (xs : List ℕ) → xs ≡ spread (p - p) p v xs
unfolding spread
spread_none p v xs = let z : p - p ≡ 0 = omega arith in rw z

pub spread-more : (k p v : ℕ) (xs : List ℕ) → p ≤ k → set (spread (k - p) p v xs) k v ≡ spread (k + 1 - p) p v xs
unfolding spread
spread-more k p v xs h =
    let z : k + 1 - p ≡ suc (k - p) = omega arith in
    let y : p + (k - p) ≡ k = omega arith in
    rw (z, y)

-- what the code writes: n entries from place p on
filled_next : (n v : ℕ) (d : List ℕ) → n < length d → set (replicate n v ++ drop n d) n v ≡ replicate (suc n) v ++ drop (suc n) d
filled_next n v [] h = absurd (omega arith)
filled_next zero v (x ∷ d) h = refl
filled_next (suc n) v (x ∷ d) h = ap (λ (l : List ℕ). v ∷ l) (filled_next n v d (omega arith))

set_behind : (p n v : ℕ) (xs ys : List ℕ) → p ≤ length xs → set (take p xs ++ ys) (p + n) v ≡ take p xs ++ set ys n v
set_behind zero n v xs ys h = let e : 0 + n ≡ n = omega arith in rw e
set_behind (suc p) n v [] ys h = absurd (omega arith)
set_behind (suc p) n v (x ∷ xs) ys h = let e : suc p + n ≡ suc (p + n) = omega arith in rw e (ap (λ (l : List ℕ). x ∷ l) (set_behind p n v xs ys (omega arith)))

pub spread_put : (n p v : ℕ) (xs : List ℕ) → p + n ≤ length xs → put_mid p n xs (replicate n v) ≡ spread n p v xs
unfolding spread
spread_put zero p v xs h = take-append-drop p xs
spread_put (suc n) p v xs h =
    sym
    (ap (λ (l : List ℕ). set l (p + n) v) (sym (spread_put n p v xs (omega arith)))
    ∙ set_behind p n v xs (replicate n v ++ drop n (drop p xs)) (omega arith)
    ∙ ap (λ (l : List ℕ). take p xs ++ l) (filled_next n v (drop p xs) (omega (arith, length-drop p xs))))

spread-filled : (f : ℕ → ℕ) (n p v : ℕ) (xs xs₀ : List ℕ) → Filled f p xs xs₀ → p + n ≤ length xs → ((k : ℕ) → p ≤ k → k < p + n → f k ≡ v) → Filled f (p + n) (spread n p v xs) xs₀
unfolding spread
spread-filled f zero p v xs xs₀ so h g = let z : p + 0 ≡ p = omega arith in rw z so
spread-filled f (suc n) p v xs xs₀ so h g =
    let z : p + suc n ≡ p + n + 1 = omega arith in
    rw z
    (filled_more f (p + n) (spread n p v xs) xs₀ v (spread-filled f n p v xs xs₀ so (omega arith) (λ k a b. g k a (omega arith))) (omega (arith, spread-length n p v xs)) (sym (g (p + n) (omega arith) (omega arith))))

-- ---- the steps: the places below `next` hold theirs, and the lines from place i on give the others
pub record Filling (M : ℕ) (s : List ℕ) (i next : ℕ) (out out₀ : List ℕ) : Type 0 where
  pub left : Left M next s i
  pub filled : Filled (step_at M s) next out out₀
  pub later : (k : ℕ) → next ≤ k → step_at M s k ≡ step_in M (lines (drop i s)) k

pub filling_whole : (M : ℕ) (s out : List ℕ) → table_code M s ≡ 0 → Filling M s 0 0 out out
unfolding step_at
filling_whole M s out e = record { left = left-whole M s e; filled = filled_none (step_at M s) out; later = λ k h. refl }

module _ {M : ℕ} {s : List ℕ} {i next : ℕ} {out out₀ : List ℕ} (c : Filling M s i next out out₀) where
  pub filling_end : length s ≤ i → length out₀ ≡ M → out ≡ table M (step_at M s)
  filling_end h e = let z = left_end c.left h in filled-all (step_at M s) M out out₀ (rw z at c.filled) e

  module _ (e : ℕ) (n : Next M next s i e) (some : 0 < M) (room : length out₀ ≡ M) where
    pub row_here : IsRow M (row_of M (part s i e))
    row_here = row_is M (part s i e) some n.ok

    here : (k : ℕ) → next ≤ k → k ≤ (row_of M (part s i e)).last → step_at M s k ≡ (row_of M (part s i e)).step
    here k a b =
        c.later k a
        ∙ ap (λ (x : List (List ℕ)). step_in M x k) n.line
        ∙ step-here M (part s i e) (lines (drop (e + 1) s)) k (omega (arith, n.starts)) b

    filling_next : Filling M s (e + 1) ((row_of M (part s i e)).last + 1) (spread ((row_of M (part s i e)).last + 1 - next) next (row_of M (part s i e)).step out) out₀
    filling_next =
        let r = row_of M (part s i e) in
        let z : next + (r.last + 1 - next) ≡ r.last + 1 = omega (arith, n.starts, row_here.ordered) in
        record {
          left = n.left;
          filled =
              rw z at
              (spread-filled (step_at M s) (r.last + 1 - next) next r.step out out₀ c.filled (omega (arith, room, c.filled.room, row_here.inside)) (λ k a b. here k a (omega arith)));
          later = λ k a. c.later k (omega (arith, n.starts, row_here.ordered)) ∙ ap (λ (x : List (List ℕ)). step_in M x k) n.line ∙ step-later M (part s i e) (lines (drop (e + 1) s)) k (omega arith);
        }

    -- a line is spread from where it starts, which is `next` in a table that is taken
    pub filling_line : (next' : ℕ) (out' : List ℕ) → next' ≡ (row_of M (part s i e)).last + 1 →
        out' ≡ spread ((row_of M (part s i e)).last + 1 - (row_of M (part s i e)).first) (row_of M (part s i e)).first (row_of M (part s i e)).step out → Filling M s (e + 1) next' out' out₀
    filling_line next' out' a b = rw (a, b, n.starts) filling_next

-- ---- a line that is read, with its line feed at e
pub record Read (M : ℕ) (s : List ℕ) (i e : ℕ) (r : Row) : Type 0 where
  pub less : e < length s
  pub apart : i < e
  pub is : line_of (Some r) ≡ row_of M (part s i e)
  pub ok : (row_of M (part s i e)).ok ≡ true
  pub ordered : r.first ≤ r.last
  pub inside : r.last < M

pub read_is : (M : ℕ) (s : List ℕ) (i e : ℕ) (r : Row) → 0 < M → i ≤ length s → e ≡ i + index_of line_feed (drop i s) → line_of (Some r) ≡ row_at M s i e → Read M s i e r
read_is M s i e r some within is said =
    let most = end-most line_feed s i e within is in
    let ended = ended-row M s i e most (ap (λ (x : Line). x.ok) (sym said)) in
    let row = said ∙ ended.is in
    let ok : (row_of M (part s i e)).ok ≡ true = ap (λ (x : Line). x.ok) (sym row) in
    let ranges = row_is M (part s i e) some ok in
    record {
      less = ended.less;
      apart = row_apart M s i e (omega (arith, is)) most ok;
      is = row;
      ok = ok;
      ordered = omega (arith, ranges.ordered, ap (λ (x : Line). x.first) row, ap (λ (x : Line). x.last) row);
      inside = omega (arith, ranges.inside, ap (λ (x : Line). x.last) row);
    }
