-- Laws: in a table that is taken every place lies in one line, and in one only, `taken_covers`; that line's step is the place's, `step_covered`.
use Rattle.std.specs.Prelude.{◌≡◌, refl, List, [], ◌∷◌, ℕ, zero, suc, ◌+◌, ◌≤◌, ◌<◌, length, get_or}
use Rattle.std.proofs.Common.{ap, ◌∙◌, not-suc-le-zero, le_of_suc-le-suc, arith}
use Rattle.std.proofs.Math.Logic.{dite}
use Rattle.std.proofs.Math.Decide.{dec_lt}
use Rattle.text.specs.Lines.{lines}
use Rattle.steps.specs.Table.{row_of, table_code, step_in, step_at, Covered}
use Rattle.steps.specs.RowLaws.{row_is}
use Rattle.steps.specs.TakenLaws.{Chain, chain_more, chain_end, taken_chain}
use Rattle.steps.specs.StepLaws.{step-here, step_before, step-later}

module _ (M : ℕ) (some : 0 < M) where
  -- every line starts at `next` or behind it
  from_next : (next : ℕ) (ls : List (List ℕ)) → Chain M next ls → (j : ℕ) → j < length ls → next ≤ (row_of M (get_or ls j [])).first
  from_next next [] c j h = absurd (not-suc-le-zero h)
  from_next next (l ∷ ls) c zero h = omega (arith, (chain_more c).starts)
  from_next next (l ∷ ls) c (suc j) h =
      let o = chain_more c in
      let r = row_is M l some o.ok in
      omega (arith, o.starts, r.ordered, from_next ((row_of M l).last + 1) ls o.rest j (le_of_suc-le-suc h))

  covered_from : (next k : ℕ) (ls : List (List ℕ)) → Chain M next ls → next ≤ k → k < M → Covered M k ls
  covered_from next k [] c h g = absurd (omega (arith, chain_end c))
  covered_from next k (l ∷ ls) c h g =
      let o = chain_more c in
      let later = from_next ((row_of M l).last + 1) ls o.rest in
      dite
      (dec_lt (row_of M l).last k)
      (λ (b : (row_of M l).last < k). behind b (covered_from ((row_of M l).last + 1) k ls o.rest (omega arith) g))
      (λ n. record { line = 0; inside = omega arith; from = omega (arith, o.starts); upto = omega (arith, n); only = here n later })
    where
      other : (row_of M l).last < k → (c : Covered M k ls) → (j : ℕ) → j < suc (length ls) → (row_of M (get_or (l ∷ ls) j [])).first ≤ k → k ≤ (row_of M (get_or (l ∷ ls) j [])).last → j ≡ suc c.line
      other b c zero i p q = absurd (omega (arith, b, q))
      other b c (suc j) i p q = ap suc (c.only j (le_of_suc-le-suc i) p q)

      behind : (row_of M l).last < k → Covered M k ls → Covered M k (l ∷ ls)
      behind b c = record {
        line = suc c.line;
        inside = omega (arith, c.inside);
        from = c.from;
        upto = c.upto;
        only = λ j i p q. other b c j i p q;
      }

      here : ((row_of M l).last < k → ⊥) → ((j : ℕ) → j < length ls → (row_of M l).last + 1 ≤ (row_of M (get_or ls j [])).first) → (j : ℕ) → j < suc (length ls) → (row_of M (get_or (l ∷ ls) j [])).first ≤ k → k ≤ (row_of M (get_or (l ∷ ls) j [])).last → j ≡ 0
      here n later zero i p q = refl
      here n later (suc j) i p q = absurd (n (omega (arith, p, later j (le_of_suc-le-suc i))))

  pub taken_covers : (text : List ℕ) → table_code M text ≡ 0 → (k : ℕ) → k < M → Covered M k (lines text)
  taken_covers text e k h = covered_from 0 k (lines text) (taken_chain M text e).0 (omega arith) h

-- ---- the step of the only line that covers a place
step_only : (M k : ℕ) (ls : List (List ℕ)) (j : ℕ) → j < length ls → (row_of M (get_or ls j [])).first ≤ k → k ≤ (row_of M (get_or ls j [])).last →
    ((i : ℕ) → i < length ls → (row_of M (get_or ls i [])).first ≤ k → k ≤ (row_of M (get_or ls i [])).last → i ≡ j) → step_in M ls k ≡ (row_of M (get_or ls j [])).step
step_only M k [] j h a b only = absurd (not-suc-le-zero h)
step_only M k (l ∷ ls) zero h a b only = step-here M l ls k a b
step_only M k (l ∷ ls) (suc j) h a b only =
    let behind = step_only M k ls j (le_of_suc-le-suc h) a b (λ i p q r. down (only (suc i) (omega (arith, p)) q r)) in
    dite
    (dec_lt (row_of M l).last k)
    (λ (x : (row_of M l).last < k). step-later M l ls k x ∙ behind)
    (λ x.
    dite
    (dec_lt k (row_of M l).first)
    (λ (y : k < (row_of M l).first). step_before M l ls k y ∙ behind)
    (λ y. absurd (omega (arith, only 0 (omega arith) (omega (arith, y)) (omega (arith, x))))))
  where
    down : {i j : ℕ} → suc i ≡ suc j → i ≡ j
    down e = omega arith

pub step_covered : (M k : ℕ) (text : List ℕ) (c : Covered M k (lines text)) → step_at M text k ≡ (row_of M (get_or (lines text) c.line [])).step
unfolding step_at
step_covered M k text c = step_only M k (lines text) c.line c.inside c.from c.upto c.only
