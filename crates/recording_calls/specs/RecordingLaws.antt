-- Laws of the calls over whole recordings: their answers by their causes, what their numbers tell, and the sizes that the checks leave.
use Rattle.std.specs.Prelude.{◌≡◌, true, cond, List, ℕ, ◌+◌, ◌*◌, ◌/◌, ◌^◌, T, eqb, length, ℤ}
use Rattle.std.proofs.Common.{sym, eqb→eq, eq-eqb}
use Rattle.arithmetic.specs.Lists.{Small}
use Rattle.arithmetic.specs.TestLaws.{is_true}
use Rattle.cosine.specs.Kernels.{tabled}
use Rattle.analysis.specs.declared.Route.{Route}
use Rattle.orders.specs.declared.Order.{Order}
use Rattle.orders.specs.Orders.{reordered}
use Rattle.recording.specs.Recordings.{analysis, synthesis}
use Rattle.analysis.specs.Analysis.{offered}
use Rattle.analysis.specs.AnalysisLaws.{offered-tabled}
use Rattle.checks.specs.Causes.{First}
use Rattle.checks.specs.CauseLaws.{first_is, leaves, spared, Passed, passed}
use Rattle.checks.specs.LimitLaws.{places_few, block_sixes, range_small}
use Rattle.checks.specs.Limits.{counted}
use Rattle.recording_calls.specs.Recordings.{recorded_causes, recorded_code, recorded_out, played_causes, played_code, played_out, reorder_causes, reorder_code, reorder_out, shaped}

-- ---- the calls: for k = 0 their work, for every other k what `out` held
pub recorded_answer : (route : Route) (order : Order) (N H : ℕ) (x out : List ℤ) {k : ℕ} → First (recorded_causes route N H x out) k →
    (k ≡ recorded_code route N H x out) × (cond (eqb k 0) (analysis route order N H x) out ≡ recorded_out route order N H x out)
unfolding recorded_code recorded_out
recorded_answer route order N H x out f = let cs = recorded_causes route N H x out in (sym (first_is cs f), leaves cs (analysis route order N H x) out f)

pub recorded_taken : (route : Route) (order : Order) (N H : ℕ) (x out : List ℤ) → recorded_code route N H x out ≡ 0 →
    (0 ≡ recorded_code route N H x out) × (analysis route order N H x ≡ recorded_out route order N H x out)
unfolding recorded_out
recorded_taken route order N H x out e = (sym e, rw e)

pub played_answer : (order : Order) (N H : ℕ) (x out : List ℤ) {k : ℕ} → First (played_causes N H x out) k →
    (k ≡ played_code N H x out) × (cond (eqb k 0) (synthesis order N H x) out ≡ played_out order N H x out)
unfolding played_code played_out
played_answer order N H x out f = let cs = played_causes N H x out in (sym (first_is cs f), leaves cs (synthesis order N H x) out f)

pub played_taken : (order : Order) (N H : ℕ) (x out : List ℤ) → played_code N H x out ≡ 0 → (0 ≡ played_code N H x out) × (synthesis order N H x ≡ played_out order N H x out)
unfolding played_out
played_taken order N H x out e = (sym e, rw e)

pub reorder_answer : (to : Order) (N H : ℕ) (x out : List ℤ) {k : ℕ} → First (reorder_causes N H x out) k →
    (k ≡ reorder_code N H x out) × (cond (eqb k 0) (reordered to (N / 2) (H + 1) x) out ≡ reorder_out to N H x out)
unfolding reorder_code reorder_out
reorder_answer to N H x out f = let cs = reorder_causes N H x out in (sym (first_is cs f), leaves cs (reordered to (N / 2) (H + 1) x) out f)

pub reorder_taken : (to : Order) (N H : ℕ) (x out : List ℤ) → reorder_code N H x out ≡ 0 → reorder_out to N H x out ≡ reordered to (N / 2) (H + 1) x
unfolding reorder_out
reorder_taken to N H x out e = rw e

-- ---- what a taken call tells of what it was handed
pub record Recorded (route : Route) (N H : ℕ) (x out : List ℤ) : Type 0 where
  pub offers : offered route N ≡ true
  pub hops : counted H ≡ true
  pub long : length x ≡ H * (N / 2)
  pub room : length out ≡ (H + 1) * (N / 2)

pub recorded_facts : (route : Route) (N H : ℕ) (x out : List ℤ) → recorded_code route N H x out ≡ 0 → Recorded route N H x out
unfolding recorded_code recorded_causes spared Passed
recorded_facts route N H x out h =
    let p = passed (recorded_causes route N H x out) tt h in
    record {
      offers = is_true p.0;
      hops = is_true p.1.0;
      long = eqb→eq (length x) (H * (N / 2)) p.1.1.0;
      room = eqb→eq (length out) ((H + 1) * (N / 2)) p.1.1.1.0;
    }

pub record Played (N H : ℕ) (x out : List ℤ) : Type 0 where
  pub length_is : T (tabled N)
  pub hops : counted H ≡ true
  pub long : length x ≡ (H + 1) * (N / 2)
  pub room : length out ≡ H * (N / 2)
  pub range : Small x (2 ^ 29)

pub played_facts : (N H : ℕ) (x out : List ℤ) → played_code N H x out ≡ 0 → Played N H x out
unfolding played_code played_causes spared Passed
played_facts N H x out h =
    let m = (H + 1) * (N / 2) in
    let p = passed (played_causes N H x out) tt h in
    let long : length x ≡ m = eqb→eq (length x) m p.1.1.0 in
    record {
      length_is = p.0;
      hops = is_true p.1.0;
      long = long;
      room = eqb→eq (length out) (H * (N / 2)) p.1.1.1.0;
      range = range_small x m long (is_true p.1.1.1.1.0);
    }

pub record Reordered (N H : ℕ) (x out : List ℤ) : Type 0 where
  pub length_is : T (tabled N)
  pub hops : counted H ≡ true
  pub long : length x ≡ (H + 1) * (N / 2)
  pub room : length out ≡ (H + 1) * (N / 2)
  pub range : Small x (2 ^ 29)

pub reorder_facts : (N H : ℕ) (x out : List ℤ) → reorder_code N H x out ≡ 0 → Reordered N H x out
unfolding reorder_code reorder_causes spared Passed
reorder_facts N H x out h =
    let m = (H + 1) * (N / 2) in
    let p = passed (reorder_causes N H x out) tt h in
    let long : length x ≡ m = eqb→eq (length x) m p.1.1.0 in
    record {
      length_is = p.0;
      hops = is_true p.1.0;
      long = long;
      room = eqb→eq (length out) m p.1.1.1.0;
      range = range_small x m long (is_true p.1.1.1.1.0);
    }

-- ---- `inner`
pub shaped_of : (N : ℕ) → T (tabled N) → (H : ℕ) → counted H ≡ true → (long : ℕ) → long ≡ H * (N / 2) → shaped N H long ≡ true
unfolding shaped
shaped_of N t H b long e = let a : tabled N ≡ true = is_true t in rw (a, b, eq-eqb long (H * (N / 2)) e)

-- ---- for a search: what the checks leave of the sizes
pub ruleset recorded_sizes = (offered-tabled, places_few)

pub ruleset played_sizes = (places_few, block_sixes)
