-- Laws of the steps: where a line gives a place its step, and how large a step and the coarsest are.
use Rattle.std.specs.Prelude.{◌≡◌, Bool, ◌&&◌, ℕ, ◌+◌, ◌≤◌, ◌<◌, max, ltb}
use Rattle.std.proofs.Math.Path.{refl}
use Rattle.std.proofs.Math.Bool.{true, false, cond}
use mathlib.Core.List.{List, [], ◌∷◌}
use Rattle.std.proofs.Math.Logic.{dite}
use native.Mathlib.Omega.{arith}
use Rattle.std.proofs.Math.Decide.{dec_lt}
use borrow.Author.Tests.{le-leb, lt-ltb, le-ltb}
use Rattle.std.proofs.Math.Dec.{leb, leb→le}
use Rattle.arithmetic.specs.TestLaws.{cond_gt, is_false}
use Rattle.text.specs.Lines.{lines}
use Rattle.steps.specs.Table.{row_of, table_code, step_in, step_at, larger, coarsest_in, coarsest}
use Rattle.steps.specs.RowLaws.{IsRow, row_is}
use Rattle.steps.specs.TakenLaws.{Chain, chain_more, chain_end, taken_chain}

-- ---- a place and the lines in order
module _ (M : ℕ) (l : List ℕ) (ls : List (List ℕ)) (k : ℕ) where
  pub step-here : (row_of M l).first ≤ k → k ≤ (row_of M l).last → step_in M (l ∷ ls) k ≡ (row_of M l).step
  unfolding step_in
  step-here h g = rw (le-leb (row_of M l).first k h, le-leb k (row_of M l).last g)

  pub step-later : (row_of M l).last < k → step_in M (l ∷ ls) k ≡ step_in M ls k
  unfolding step_in
  step-later h = by (leb (row_of M l).first k)
    where
      by : (t : Bool) → cond (t && leb k (row_of M l).last) (row_of M l).step (step_in M ls k) ≡ step_in M ls k
      by true = cond_gt k (row_of M l).last (row_of M l).step (step_in M ls k) h
      by false = refl

  pub step_before : k < (row_of M l).first → step_in M (l ∷ ls) k ≡ step_in M ls k
  unfolding step_in
  step_before h = let e : leb (row_of M l).first k ≡ false = is_false (λ t. omega (arith, leb→le (row_of M l).first k t)) in rw e

-- ---- the larger of two
pub larger-left : (a b : ℕ) → a ≤ larger a b
unfolding larger
larger-left a b = dite (dec_lt a b) (λ h. rw (lt-ltb a b h) (omega arith)) (λ h. let g : b ≤ a = omega arith in rw (le-ltb a b g) (omega arith))

pub larger-right : (a b : ℕ) → b ≤ larger a b
unfolding larger
larger-right a b = dite (dec_lt a b) (λ h. rw (lt-ltb a b h) (omega arith)) (λ h. let g : b ≤ a = omega arith in rw (le-ltb a b g) g)

pub larger-most : (a b c : ℕ) → a ≤ c → b ≤ c → larger a b ≤ c
unfolding larger
larger-most a b c p q = by (ltb a b)
  where
    by : (t : Bool) → cond t b a ≤ c
    by true = q
    by false = p

pub larger_max : (a b : ℕ) → max a b ≡ larger a b
larger_max a b =
    let p = larger-most a b (max a b) (omega arith) (omega arith) in
    omega (arith, larger-left a b, larger-right a b)

-- the larger of three, whichever are taken first
pub larger-three : (a b c : ℕ) → larger a (larger b c) ≡ larger (larger a b) c
larger-three a b c =
    same
    (larger-most a (larger b c) (larger (larger a b) c) (omega (arith, larger-left a b, larger-left (larger a b) c)) (larger-most b c (larger (larger a b) c) (omega (arith, larger-right a b, larger-left (larger a b) c)) (larger-right (larger a b) c)))
    (larger-most (larger a b) c (larger a (larger b c)) (larger-most a b (larger a (larger b c)) (larger-left a (larger b c)) (omega (arith, larger-left b c, larger-right a (larger b c)))) (omega (arith, larger-right b c, larger-right a (larger b c))))
  where
    same : {x y : ℕ} → x ≤ y → y ≤ x → x ≡ y
    same p q = omega arith

pub larger-none : (a : ℕ) → larger a 0 ≡ a
larger-none a =
    let p = larger-most a 0 a (omega arith) (omega arith) in
    omega (arith, larger-left a 0)

pub larger-first : (a : ℕ) → larger 0 a ≡ a
larger-first a =
    let p = larger-most 0 a a (omega arith) (omega arith) in
    omega (arith, larger-right 0 a)

-- ---- the coarsest of the lines in order
pub coarsest-none : (M : ℕ) → coarsest_in M [] ≡ 0
unfolding coarsest_in
coarsest-none M = refl

pub coarsest-more : (M : ℕ) (l : List ℕ) (ls : List (List ℕ)) → coarsest_in M (l ∷ ls) ≡ larger (row_of M l).step (coarsest_in M ls)
unfolding coarsest_in
coarsest-more M l ls = refl

-- ---- a table that is taken: its steps are 1 to 65,536, and none is above the coarsest
record Sized (M : ℕ) (ls : List (List ℕ)) (k : ℕ) : Type 0 where
  least : 1 ≤ step_in M ls k
  most : step_in M ls k ≤ 65536
  coarse : step_in M ls k ≤ coarsest_in M ls

module _ (M : ℕ) (some : 0 < M) where
  sized : (next k : ℕ) (ls : List (List ℕ)) → Chain M next ls → next ≤ k → k < M → Sized M ls k
  sized next k [] c h g = absurd (omega (arith, chain_end c))
  sized next k (l ∷ ls) c h g =
      let o = chain_more c in
      dite
      (dec_lt (row_of M l).last k)
      (λ (b : (row_of M l).last < k). behind b (sized ((row_of M l).last + 1) k ls o.rest (omega arith) g))
      (λ n. here (row_is M l some o.ok) (step-here M l ls k (omega (arith, o.starts)) (omega (arith, n))))
    where
      behind : (row_of M l).last < k → Sized M ls k → Sized M (l ∷ ls) k
      behind b s =
          let e = step-later M l ls k b in
          record { least = rw e s.least; most = rw e s.most; coarse = rw (e, coarsest-more M l ls) (omega (arith, s.coarse, larger-right (row_of M l).step (coarsest_in M ls))) }

      here : IsRow M (row_of M l) → step_in M (l ∷ ls) k ≡ (row_of M l).step → Sized M (l ∷ ls) k
      here r e = record { least = rw e r.least; most = rw e r.most; coarse = rw (e, coarsest-more M l ls) (larger-left (row_of M l).step (coarsest_in M ls)) }

  coarsest-few : (next : ℕ) (ls : List (List ℕ)) → Chain M next ls → coarsest_in M ls ≤ 65536
  unfolding coarsest_in
  coarsest-few next [] c = omega arith
  coarsest-few next (l ∷ ls) c =
      let o = chain_more c in
      larger-most (row_of M l).step (coarsest_in M ls) 65536 (row_is M l some o.ok).most (coarsest-few ((row_of M l).last + 1) ls o.rest)

  module _ (text : List ℕ) (is : table_code M text ≡ 0) where
    pub coarsest-most : coarsest M text ≤ 65536
    unfolding coarsest
    coarsest-most = coarsest-few 0 (lines text) (taken_chain M text is).0

    module _ (k : ℕ) (h : k < M) where
      all_sized : Sized M (lines text) k
      all_sized = sized 0 k (lines text) (taken_chain M text is).0 (omega arith) h

      pub step-least : 1 ≤ step_at M text k
      unfolding step_at
      step-least = all_sized.least

      pub step-most : step_at M text k ≤ 65536
      unfolding step_at
      step-most = all_sized.most

      pub step-coarsest : step_at M text k ≤ coarsest M text
      unfolding step_at coarsest
      step-coarsest = all_sized.coarse
