-- A recording's own coefficients, by any route that is offered at its length, or by several, are taken by the synthesis, and the recording comes back; by the direct route it comes back as it was.
-- So the hypotheses of `back_by_one_call` and `back_block_by_block` can be met at each of the six lengths.
use Rattle.std.specs.Prelude.{◌≡◌, refl, true, List, ℕ, ◌+◌, ◌*◌, ◌/◌, ◌^◌, ◌≤◌, ◌<◌, T, length, ℤ, pos, nat_abs, ◌+ℤ◌, ◌-ℤ◌}
use Rattle.std.proofs.Common.{sym, ap, ◌∙◌, arith, lit≤, ext_get_or}
use Rattle.arithmetic.specs.Rounding.{Sample}
use Rattle.arithmetic.specs.Lists.{at}
use Rattle.arithmetic.specs.TestLaws.{is_T}
use Rattle.arithmetic.specs.IntegerLaws.{ints}
use Rattle.arithmetic.specs.OrderLaws.{abs_add}
use Rattle.cosine.specs.Kernels.{tabled}
use Rattle.cosine.specs.LengthLaws.{tabled_length}
use Rattle.transform.specs.Analysis as A
use Rattle.transform.specs.SizeLaws.{X-size}
use Rattle.analysis.specs.declared.Route.{Route}
use Rattle.analysis.specs.declared.Route.TheVariants.{Direct, Short, Double}
use Rattle.analysis.specs.Analysis.{offered, coefficients}
use Rattle.analysis.specs.AnalysisLaws.{offered-tabled}
use Rattle.recording.specs.Recordings.{block, analysis}
use Rattle.block_calls.specs.Analysis.{analyse_code, analyse_out}
use Rattle.block_calls.specs.AnalysisLaws.{analysed-offered, analyse_taken}
use Rattle.checks.specs.Limits.{counted}
use Rattle.checks.specs.LimitLaws.{counted-some, counted-most}
use Rattle.orders.specs.declared.Order.{Order}
use Rattle.orders.specs.Orders.{place, block_at, coefficient_at, laid}
use Rattle.orders.specs.OrderLaws.{block-less, coefficient_less, place_is, laid_long, laid-at, laid_ext}
use Rattle.recording_calls.specs.Recordings.{recorded_code, recorded_out, played_code, played_out}
use Rattle.recording_calls.specs.RecordingLaws.{Recorded, recorded_facts, recorded_taken}
use Rattle.demands.specs.Steps.{Recording, proved_units}
use Rattle.demands.specs.Answers.{InRange}
use Rattle.demands.specs.Recordings.{Back, SharperBack}
use Rattle.demands.proofs.RecordingLaws.{near-direct, windowed, windowed-size}
use Rattle.demands.proofs.AnswerLaws.{demand_1}
use Rattle.demands.proofs.BackLaws.{back_by_one_call, back_block_by_block}

-- a coefficient that is handed on as it was
pub unchanged : (z : ℤ) → nat_abs (z -ℤ z) ≤ 0
unchanged z = let e : z -ℤ z ≡ pos 0 = simp ints (omega arith) in rw e (omega arith)

-- what lies near a number is little larger
abs_near : (c z : ℤ) (n m : ℕ) → nat_abs (c -ℤ z) ≤ n → nat_abs z ≤ m → nat_abs c ≤ n + m
abs_near c z n m h k = let e : c -ℤ z +ℤ z ≡ c = simp ints (omega arith) in omega (arith, rw e at (abs_add (c -ℤ z) z), h, k)

few-units : (route : Route) → proved_units route ≤ 14
unfolding proved_units
few-units Direct = omega arith
few-units Short = omega arith
few-units Double = omega arith

-- ---- each block by its own route: X are the recording's own coefficients, laid in an order
module _ (routes : ℕ → Route) (order : Order) (N H : ℕ) (x X : List ℤ) (rec : Recording N H x) (few : counted H ≡ true) (offers : (b : ℕ) → b ≤ H → T (offered (routes b) N))
    (are : laid order (N / 2) (H + 1) (λ b. coefficients (routes b) N 0 0 (block N x b)) ≡ X) where
  tab : T (tabled N)
  tab = offered-tabled (routes 0) N (offers 0 (omega arith))

  abbrev g : ℕ → List ℤ
  g b = coefficients (routes b) N 0 0 (block N x b)

  long : length X ≡ (H + 1) * (N / 2)
  long = ap length (sym are) ∙ laid_long (N / 2) (H + 1) order g

  -- a coefficient by the route lies near the definition's, which synthesis takes with room
  coefficient_size : (b k : ℕ) → b ≤ H → k < N / 2 → nat_abs (at (g b) k) ≤ 2 ^ 29
  coefficient_size b k q p =
      let y≤ = windowed-size N tab H x rec b 0 0 in
      let z = A.X N (windowed N 0 0 (block N x b)) k in
      let near = near-direct N 0 0 (block N x b) y≤ 0 (routes b) (offers b q) (at (g b) k) k p (unchanged (at (g b) k)) in
      omega (arith, abs_near (at (g b) k) z (0 + proved_units (routes b)) (N * 2 ^ 21) near (X-size N (windowed N 0 0 (block N x b)) y≤ k), few-units (routes b), (tabled_length N tab).most)

  -- every place has a block and a coefficient
  range : InRange X
  range = record { each = λ i p. go i (rw long at p) }
    where
      go : (i : ℕ) → i < (H + 1) * (N / 2) → nat_abs (at X i) ≤ 2 ^ 29
      go i p =
          let M = N / 2 in
          let b = block_at order M (H + 1) i in
          let k = coefficient_at order M (H + 1) i in
          let q = block-less M (H + 1) i p order in
          let r = coefficient_less M (H + 1) i p order in
          rw (ap (at X) (sym (place_is M (H + 1) i p order)) ∙ ap (λ (c : List ℤ). at c (place order M (H + 1) b k)) (sym are) ∙ laid-at M (H + 1) order g b k q r)
          (coefficient_size b k (omega (arith, q)) r)

  own-taken : (out : List ℤ) → length out ≡ H * (N / 2) → played_code N H X out ≡ 0
  own-taken out room = (demand_1.played order N H X out).taken tab (record { some = rec.hops; most = counted-most H few }) long room range

-- ---- analysed by one call, by any route
module _ (route : Route) (order : Order) (N H : ℕ) (x buffer : List ℤ) (samples : (i : ℕ) → i < length x → Sample (at x i)) (taken : recorded_code route N H x buffer ≡ 0) where
  -- the coefficients that the analysis left
  abbrev X : List ℤ
  X = recorded_out route order N H x buffer

  facts : Recorded route N H x buffer
  facts = recorded_facts route N H x buffer taken

  pub unchanged_taken : (out : List ℤ) → length out ≡ H * (N / 2) → played_code N H X out ≡ 0
  unfolding analysis
  unchanged_taken =
      own-taken (λ b. route) order N H x X (record { hops = counted-some H facts.hops; long = facts.long; sample = samples }) facts.hops (λ b p. is_T facts.offers)
      (recorded_taken route order N H x buffer taken).1

  both : (out : List ℤ) → length out ≡ H * (N / 2) → Back N H (λ b. 0) (λ b. route) x (played_out order N H X out) × SharperBack N H (λ b. 0) (λ b. route) x (played_out order N H X out)
  both out room =
      back_by_one_call N H (λ b. 0) route order x X out samples
      (record { filled = order; buffer = buffer; taken = taken; near = λ b p k q. unchanged (at X (place order (N / 2) (H + 1) b k)) }) (unchanged_taken out room)

  pub unchanged_near : (out : List ℤ) → length out ≡ H * (N / 2) → Back N H (λ b. 0) (λ b. route) x (played_out order N H X out)
  unchanged_near out room = (both out room).0

  pub unchanged_sharper : (out : List ℤ) → length out ≡ H * (N / 2) → SharperBack N H (λ b. 0) (λ b. route) x (played_out order N H X out)
  unchanged_sharper out room = (both out room).1

-- ---- analysed block by block, each by its own route, into its own buffer
module _ (routes : ℕ → Route) (order : Order) (N H : ℕ) (x : List ℤ) (buffer : ℕ → List ℤ) (rec : Recording N H x) (few : counted H ≡ true)
    (taken : (b : ℕ) → b ≤ H → analyse_code (routes b) N 0 0 (block N x b) (buffer b) ≡ 0) where
  -- what the analyses left, laid in the order
  abbrev lefts : List ℤ
  lefts = laid order (N / 2) (H + 1) (λ b. analyse_out (routes b) N 0 0 (block N x b) (buffer b))

  pub each-taken : (out : List ℤ) → length out ≡ H * (N / 2) → played_code N H lefts out ≡ 0
  each-taken =
      own-taken routes order N H x lefts rec few (λ b p. analysed-offered (routes b) N 0 0 (block N x b) (buffer b) (taken b p))
      (laid_ext (N / 2) (H + 1) order (λ b. coefficients (routes b) N 0 0 (block N x b)) (λ b. analyse_out (routes b) N 0 0 (block N x b) (buffer b))
      (λ b p. (analyse_taken (routes b) N 0 0 (block N x b) (buffer b) (taken b (omega (arith, p)))).1))

  pub each_back : (out : List ℤ) → length out ≡ H * (N / 2) → Back N H (λ b. 0) routes x (played_out order N H lefts out) × SharperBack N H (λ b. 0) routes x (played_out order N H lefts out)
  each_back out room =
      back_block_by_block N H (λ b. 0) routes order x lefts out rec (record { buffer = buffer; taken = taken; near = near }) (each-taken out room)
    where
      near : (b : ℕ) → b ≤ H → (k : ℕ) → k < N / 2 → nat_abs (at lefts (place order (N / 2) (H + 1) b k) -ℤ at (analyse_out (routes b) N 0 0 (block N x b) (buffer b)) k) ≤ 0
      near b p k q =
          rw (laid-at (N / 2) (H + 1) order (λ b. analyse_out (routes b) N 0 0 (block N x b) (buffer b)) b k (omega (arith, p)) q)
          (unchanged (at (analyse_out (routes b) N 0 0 (block N x b) (buffer b)) k))

-- by the direct route it is the recording itself
pub unchanged_back : (order : Order) (N H : ℕ) (x buffer : List ℤ) → ((i : ℕ) → i < length x → Sample (at x i)) → recorded_code Direct N H x buffer ≡ 0 →
    (out : List ℤ) → length out ≡ H * (N / 2) → played_out order N H (recorded_out Direct order N H x buffer) out ≡ x
unchanged_back order N H x buffer samples taken out room =
    let back = unchanged_near Direct order N H x buffer samples taken out room in
    ext_get_or (pos 0) (played_out order N H (recorded_out Direct order N H x buffer) out) x (back.long ∙ sym (recorded_facts Direct N H x buffer taken).long)
    (λ i p. back.same i (omega (arith, back.long)) (lit≤ tt) (lit≤ tt) refl refl)
