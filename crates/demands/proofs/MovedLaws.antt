-- Laws of `quantise` and `dequantise`. `moved`: no coefficient moves by more than half its step; `always_taken`: what comes back is always in range; and what each level is.
use Rattle.std.specs.Prelude.{◌≡◌, Bool, true, false, cond, List, ℕ, ◌/◌, ◌^◌, ◌≤◌, ◌<◌, T, eqb, length, ℤ, pos, nat_abs, ◌-ℤ◌, ◌*ℤ◌}
use Rattle.std.proofs.Common.{ap, ◌∙◌, arith, eqb→eq}
use Rattle.arithmetic.specs.Lists.{at, Small}
use Rattle.arithmetic.specs.TestLaws.{is_true}
use Rattle.cosine.specs.Kernels.{tabled}
use Rattle.checks.specs.LimitLaws.{range_small}
use Rattle.checks.specs.Causes.First.{none, pass}
use Rattle.checks.specs.CauseLaws.{spared, Passed, passed, first_is, same}
use Rattle.steps.specs.Table.{table_code, step_at}
use Rattle.steps.specs.StepLaws.{step-least, step-most, step-coarsest}
use Rattle.steps.specs.CoverLaws.{taken_covers, step_covered}
use Rattle.levels.specs.Levels.{level, clipped, back, levelled, restored}
use Rattle.arithmetic.specs.Rounding.{rnd}
use Rattle.arithmetic.specs.ListLaws.{get_d_table}
use Rattle.levels.specs.LevelLaws.{levelled_long, levelled-near}
use Rattle.level_calls.specs.LevelCalls.{levels_by, back_by, quantise_causes, quantise_code, quantise_out, dequantise_causes, dequantise_code, dequantise_out, half}
use Rattle.level_calls.specs.LevelCallLaws.{hop_some, back_long, back_small}
use Rattle.demands.specs.Answers.{InRange}
use Rattle.demands.specs.Demands.{RuledOn, LevelledOn, RestoredOn}

-- ---- what a 0 tells
-- the table's own number is 0 where its line holds, and so no line bears a 0
own_line : (b : Bool) → T (cond (cond b b true) true false)
own_line true = tt
own_line false = tt

pub record Quantised (N : ℕ) (text : List ℕ) (x levels : List ℤ) : Type 0 where
  pub length_is : T (tabled N)
  pub table_is : table_code (N / 2) text ≡ 0
  pub long : length x ≡ N / 2
  pub levels_long : length levels ≡ N / 2
  pub small : Small x (2 ^ 29)

pub quantised_facts : (N : ℕ) (text : List ℕ) (x levels : List ℤ) → quantise_code N text x levels ≡ 0 → Quantised N text x levels
unfolding quantise_code quantise_causes spared Passed
quantised_facts N text x levels z =
    let p = passed (quantise_causes N text x levels) (own_line (eqb (table_code (N / 2) text) 0)) z in
    let l : length x ≡ N / 2 = eqb→eq (length x) (N / 2) p.1.1.0 in
    record {
      length_is = p.0;
      table_is = eqb→eq (table_code (N / 2) text) 0 p.1.0;
      long = l;
      levels_long = eqb→eq (length levels) (N / 2) p.1.1.1.0;
      small = range_small x (N / 2) l (is_true p.1.1.1.1.0);
    }

pub record Dequantised (N : ℕ) (text : List ℕ) (levels out : List ℤ) : Type 0 where
  pub length_is : T (tabled N)
  pub table_is : table_code (N / 2) text ≡ 0
  pub long : length levels ≡ N / 2
  pub out_long : length out ≡ N / 2

pub dequantised_facts : (N : ℕ) (text : List ℕ) (levels out : List ℤ) → dequantise_code N text levels out ≡ 0 → Dequantised N text levels out
unfolding dequantise_code dequantise_causes spared Passed
dequantised_facts N text levels out z =
    let p = passed (dequantise_causes N text levels out) (own_line (eqb (table_code (N / 2) text) 0)) z in
    record {
      length_is = p.0;
      table_is = eqb→eq (table_code (N / 2) text) 0 p.1.0;
      long = eqb→eq (length levels) (N / 2) p.1.1.0;
      out_long = eqb→eq (length out) (N / 2) p.1.1.1.0;
    }

pub quantised_is : (N : ℕ) (text : List ℕ) (x levels : List ℤ) → quantise_code N text x levels ≡ 0 → quantise_out N text x levels ≡ levels_by N text x
unfolding quantise_out
quantised_is N text x levels z = rw z

pub dequantised_is : (N : ℕ) (text : List ℕ) (levels out : List ℤ) → dequantise_code N text levels out ≡ 0 → dequantise_out N text levels out ≡ back_by N text levels
unfolding dequantise_out
dequantised_is N text levels out z = rw z

-- what `quantise` gave, `dequantise` takes with the same table, into a buffer of M
pub dequantise_takes : (N : ℕ) (text : List ℕ) (x levels out : List ℤ) → quantise_code N text x levels ≡ 0 → length out ≡ N / 2 → dequantise_code N text (quantise_out N text x levels) out ≡ 0
unfolding dequantise_code dequantise_causes levels_by
dequantise_takes N text x levels out z e =
    let f = quantised_facts N text x levels z in
    let l : length (quantise_out N text x levels) ≡ N / 2 = ap length (quantised_is N text x levels z) ∙ levelled_long (step_at (N / 2) text) (N / 2) x in
    first_is (dequantise_causes N text (quantise_out N text x levels) out) (pass (is_true f.length_is) (same f.table_is (same l (same e none))))

-- ---- 'what comes back is always one that synthesis takes', whatever the levels are
module _ (N : ℕ) (text : List ℕ) (levels out : List ℤ) (z : dequantise_code N text levels out ≡ 0) where
  pub back-length : length (dequantise_out N text levels out) ≡ N / 2
  back-length = rw (dequantised_is N text levels out z) (back_long N text levels)

  pub always_taken : InRange (dequantise_out N text levels out)
  always_taken = rw (dequantised_is N text levels out z) (record { each = λ k p. (back_small N text levels).small k p })

-- ---- 'no coefficient moves by more than half its step, rounded down'
module _ (N : ℕ) (text : List ℕ) (x levels out : List ℤ) (z : quantise_code N text x levels ≡ 0) (q : dequantise_code N text (quantise_out N text x levels) out ≡ 0) where
  there : dequantise_out N text (quantise_out N text x levels) out ≡ back_by N text (levels_by N text x)
  there = dequantised_is N text (quantise_out N text x levels) out q ∙ ap (back_by N text) (quantised_is N text x levels z)

  pub moved : (k : ℕ) → k < N / 2 → nat_abs (at (dequantise_out N text (quantise_out N text x levels) out) k -ℤ at x k) ≤ step_at (N / 2) text k / 2
  unfolding back_by levels_by
  moved k p =
      let f = quantised_facts N text x levels z in
      rw there (levelled-near (step_at (N / 2) text) (N / 2) x f.long f.small k p (step-least (N / 2) (hop_some N f.length_is) text f.table_is k p))

  -- so by no more than half the table's coarsest step
  pub moved-half : (k : ℕ) → k < N / 2 → nat_abs (at (dequantise_out N text (quantise_out N text x levels) out) k -ℤ at x k) ≤ half N text
  unfolding half
  moved-half k p =
      let f = quantised_facts N text x levels z in
      omega (arith, moved k p, step-coarsest (N / 2) (hop_some N f.length_is) text f.table_is k p)

-- ---- the levels and what comes back, place by place
pub levelled_on : (N : ℕ) (text : List ℕ) (x levels : List ℤ) → quantise_code N text x levels ≡ 0 → LevelledOn N text x levels
unfolding levels_by levelled level
levelled_on N text x levels z = record {
  long = ap length (quantised_is N text x levels z) ∙ levelled_long (step_at (N / 2) text) (N / 2) x;
  level = λ k p. rw (quantised_is N text x levels z) (get_d_table (λ i. rnd (at x i) (step_at (N / 2) text i)) (pos 0) (N / 2) k p);
}

pub restored_on : (N : ℕ) (text : List ℕ) (levels out : List ℤ) → dequantise_code N text levels out ≡ 0 → RestoredOn N text levels out
unfolding back_by restored back
restored_on N text levels out z = record {
  long = back-length N text levels out z;
  back = λ k p. rw (dequantised_is N text levels out z) (get_d_table (λ i. clipped (at levels i *ℤ pos (step_at (N / 2) text i))) (pos 0) (N / 2) k p);
}

pub ruled_on : (N : ℕ) (text : List ℕ) → T (tabled N) → table_code (N / 2) text ≡ 0 → (k : ℕ) → k < N / 2 → RuledOn (N / 2) text k
ruled_on N text t z k p =
    let some = hop_some N t in
    let c = taken_covers (N / 2) some text z k p in
    record {
      covered = c;
      step_is = step_covered (N / 2) k text c;
      least = step-least (N / 2) some text z k p;
      most = step-most (N / 2) some text z k p;
      coarse = step-coarsest (N / 2) some text z k p;
    }
