-- Laws of the calls on the coarsest step: what they answer by their causes, and what a taken call tells of what it was handed.
use Rattle.std.specs.Prelude.{◌≡◌, Bool, List, [], ◌∷◌, ℕ, ◌*◌, ◌/◌, ◌≤◌, T, length, get_or, ℤ}
use Rattle.std.proofs.Math.Path.{refl, ap}
use Rattle.std.proofs.Common.{sym, eqb→eq, leb→le}
use Rattle.std.proofs.Math.Bool.{true, false, cond}
use Rattle.std.proofs.Math.Dec.{eqb}
use Rattle.arithmetic.specs.TestLaws.{is_true}
use Rattle.cosine.specs.Kernels.{tabled}
use Rattle.checks.specs.Limits.{counted}
use Rattle.checks.specs.Causes.{First, first_cause}
use Rattle.checks.specs.CauseLaws.{first_is, leaves, spared, Passed, passed}
use Rattle.coarsest.specs.Coarsest.{coarsest}
use Rattle.coarsest_calls.specs.Answers.{Coarsest}
use Rattle.coarsest_calls.specs.CoarsestCalls.{most_allowed, coarsest_causes, coarsest_code, answered_with, refused_with, coarsest_answer, find_causes, find_code, numbers_of, find_out}

-- the answer read from room for three numbers
abbrev pub read_from : ℕ → List ℕ → Coarsest
read_from k room = record { code = k; step = get_or room 0 0; trials = get_or room 1 0; untried = get_or room 2 0 }

module _ (N H : ℕ) (x : List ℤ) (D budget : ℕ) where
  pub find-answer : (room : List ℕ) {k : ℕ} → First (find_causes N H x D room) k →
      (k ≡ find_code N H x D room) × (cond (eqb k 0) (numbers_of (coarsest N H x D budget)) room ≡ find_out N H x D budget room)
  unfolding find_code find_out
  find-answer room f = let cs = find_causes N H x D room in (sym (first_is cs f), leaves cs (numbers_of (coarsest N H x D budget)) room f)

  -- ---- by value: a room of zeros
  abbrev zeros : List ℕ
  zeros = 0 ∷ 0 ∷ 0 ∷ []

  same_code : find_code N H x D zeros ≡ coarsest_code N H x D
  unfolding find_code find_causes coarsest_code coarsest_causes first_cause
  same_code = refl

  pub by_value : read_from (find_code N H x D zeros) (find_out N H x D budget zeros) ≡ coarsest_answer N H x D budget
  unfolding find_out coarsest_answer numbers_of
  by_value = rw same_code (go (coarsest_code N H x D) (eqb (coarsest_code N H x D) 0) refl)
    where
      go : (k : ℕ) (b : Bool) → eqb k 0 ≡ b → read_from k (cond b (numbers_of (coarsest N H x D budget)) zeros) ≡ cond b (answered_with (coarsest N H x D budget)) (refused_with k)
      go k true e = ap (λ (j : ℕ). read_from j (numbers_of (coarsest N H x D budget))) (eqb→eq k 0 (rw e tt))
      go k false e = refl

-- ---- what a taken call tells
pub record Allowed (N H : ℕ) (x : List ℤ) (D : ℕ) : Type 0 where
  pub length_is : T (tabled N)
  pub hops : counted H ≡ true
  pub long : length x ≡ H * (N / 2)
  pub few : D ≤ most_allowed

pub coarsest_facts : (N H : ℕ) (x : List ℤ) (D : ℕ) → coarsest_code N H x D ≡ 0 → Allowed N H x D
unfolding coarsest_code coarsest_causes spared Passed
coarsest_facts N H x D h =
    let p = passed (coarsest_causes N H x D) tt h in
    record { length_is = p.0; hops = is_true p.1.0; long = eqb→eq (length x) (H * (N / 2)) p.1.1.0; few = leb→le D most_allowed p.1.1.1.0 }

pub coarsest-taken : (N H : ℕ) (x : List ℤ) (D budget : ℕ) → coarsest_code N H x D ≡ 0 → coarsest_answer N H x D budget ≡ answered_with (coarsest N H x D budget)
unfolding coarsest_answer
coarsest-taken N H x D budget e = rw e

-- the number that is answered
pub coarsest-number : (N H : ℕ) (x : List ℤ) (D budget : ℕ) → (coarsest_answer N H x D budget).code ≡ coarsest_code N H x D
unfolding coarsest_answer
coarsest-number N H x D budget = go (coarsest_code N H x D) (eqb (coarsest_code N H x D) 0) refl
  where
    go : (k : ℕ) (b : Bool) → eqb k 0 ≡ b → (cond b (answered_with (coarsest N H x D budget)) (refused_with k)).code ≡ k
    go k true e = sym (eqb→eq k 0 (rw e tt))
    go k false e = refl
