-- Laws of the number by its causes: a line returns its number if and only if its test fails and those before it hold.
use Rattle.std.specs.Prelude.{◌≡◌, refl, ◌≢◌, Bool, cond, List, [], ◌∷◌, ℕ, eqb}
use Rattle.std.proofs.Common.{sym}
use Rattle.std.proofs.Math.Bool.{true, false}
use Rattle.std.proofs.Math.Dec.{T}
use borrow.Author.Tests.{eq-eqb, ne_eqb}
use Rattle.checks.specs.Causes.{Cause, ◌unless◌, first_cause, First}
use Rattle.checks.specs.Causes.First.{none, stop, pass}

-- ---- the law, both ways
pub first_is : (cs : List Cause) {k : ℕ} → First cs k → first_cause cs ≡ k
unfolding first_cause
first_is [] none = refl
first_is (c ∷ cs) (stop n) = rw n
first_is (c ∷ cs) (pass y f) = rw y (first_is cs f)

pub is-first : (cs : List Cause) → First cs (first_cause cs)
unfolding first_cause
is-first [] = none
is-first (c ∷ cs) = go c.passes refl (is-first cs)
  where
    go : (b : Bool) → c.passes ≡ b → First cs (first_cause cs) → First (c ∷ cs) (cond b (first_cause cs) c.number)
    go true y ih = pass y ih
    go false n ih = stop n

-- ---- lines that compare, and a line of the same number, whether it holds or not
module _ {k : ℕ} {cs : List Cause} where
  pub differs : {p q : ℕ} → p ≢ q → First (k unless eqb p q ∷ cs) k
  differs {p = p} {q = q} n = stop (ne_eqb p q n)

  pub same : {j p q : ℕ} → p ≡ q → First cs k → First (j unless eqb p q ∷ cs) k
  same {p = p} {q = q} y f = pass (eq-eqb p q y) f

  pub beside : {b : Bool} → First cs k → First (k unless b ∷ cs) k
  beside {b = true} f = pass refl f
  beside {b = false} f = stop refl

-- ---- what the number tells. Each line that bears the number k holds: computed, since the numbers of a call are numerals
unfoldable pub spared : ℕ → List Cause → Bool
spared k [] = true
spared k (c ∷ cs) = cond (cond (eqb c.number k) c.passes true) (spared k cs) false

module _ {k : ℕ} (c : Cause) (cs : List Cause) (t : T (spared k (c ∷ cs))) where
  line : (b : Bool) → c.passes ≡ b → cond b (first_cause cs) c.number ≡ k → T b × T (spared k cs) × (first_cause cs ≡ k)
  unfolding spared
  line true y e = go (eqb c.number k) (rw y at t)
    where
      go : (q : Bool) → T (cond (cond q true true) (spared k cs) false) → Unit {0} × T (spared k cs) × (first_cause cs ≡ k)
      go true s = (tt, s, e)
      go false s = (tt, s, e)
  line false n e = absurd (rw (n, eq-eqb c.number k e) at t)

-- then it is returned for no line's sake: only as the 0 of all lines ..
pub never : (k : ℕ) (cs : List Cause) → k ≢ 0 → T (spared k cs) → first_cause cs ≢ k
unfolding first_cause
never k [] n t e = n (sym e)
never k (c ∷ cs) n t e = let (b, s, f) = line c cs t c.passes refl e in never k cs n s f

-- .. and then every test holds
unfoldable pub Passed : List Cause → Type 0
Passed [] = Unit {0}
Passed (c ∷ cs) = T c.passes × Passed cs

pub passed : (cs : List Cause) → T (spared 0 cs) → first_cause cs ≡ 0 → Passed cs
unfolding Passed first_cause
passed [] t e = tt
passed (c ∷ cs) t e = let (b, s, f) = line c cs t c.passes refl e in (b, passed cs s f)

-- ---- what a call leaves: its work where the number is 0, and what it was handed
pub leaves : {A : Type 0} (cs : List Cause) (work old : A) {k : ℕ} → First cs k → cond (eqb k 0) work old ≡ cond (eqb (first_cause cs) 0) work old
leaves cs work old f = rw (first_is cs f)
