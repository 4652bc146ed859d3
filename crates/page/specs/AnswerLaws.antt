-- Laws of the call `page`: its answer by its causes, and what a taken one tells of what it was handed.
use Rattle.std.specs.Prelude.{◌≡◌, true, cond, List, ℕ, ◌+◌, ◌*◌, ◌/◌, ◌^◌, T, eqb, length, ℤ}
use Rattle.std.proofs.Common.{sym, eqb→eq}
use Rattle.arithmetic.specs.Lists.{Small}
use Rattle.arithmetic.specs.TestLaws.{is_true}
use Rattle.cosine.specs.Kernels.{tabled}
use Rattle.orders.specs.declared.Order.{Order}
use Rattle.checks.specs.Causes.{First}
use Rattle.checks.specs.CauseLaws.{first_is, leaves, spared, Passed, passed}
use Rattle.checks.specs.LimitLaws.{places_few, block_sixes, range_small}
use Rattle.checks.specs.Limits.{counted}
use Rattle.page.specs.Page.{page_of, page_causes, page_code, page_out}

-- for k = 0 its work, for every other k what `out` held
pub page_answer : (order : Order) (N H : ℕ) (x : List ℤ) (out : List ℕ) {k : ℕ} → First (page_causes N H x out) k →
    (k ≡ page_code N H x out) × (cond (eqb k 0) (page_of order N H x) out ≡ page_out order N H x out)
unfolding page_code page_out
page_answer order N H x out f = let cs = page_causes N H x out in (sym (first_is cs f), leaves cs (page_of order N H x) out f)

pub page_taken : (order : Order) (N H : ℕ) (x : List ℤ) (out : List ℕ) → page_code N H x out ≡ 0 → page_out order N H x out ≡ page_of order N H x
unfolding page_out
page_taken order N H x out e = rw e

pub record Paged (N H : ℕ) (x : List ℤ) : Type 0 where
  pub length_is : T (tabled N)
  pub hops : counted H ≡ true
  pub long : length x ≡ (H + 1) * (N / 2)
  pub range : Small x (2 ^ 29)

pub page_facts : (N H : ℕ) (x : List ℤ) (out : List ℕ) → page_code N H x out ≡ 0 → Paged N H x
unfolding page_code page_causes spared Passed
page_facts N H x out h =
    let m = (H + 1) * (N / 2) in
    let p = passed (page_causes N H x out) tt h in
    let long : length x ≡ m = eqb→eq (length x) m p.1.1.0 in
    record { length_is = p.0; hops = is_true p.1.0; long = long; range = range_small x m long (is_true p.1.1.1.1.0) }

-- for a search: what the checks leave of the sizes
pub ruleset page_sizes = (places_few, block_sixes)
