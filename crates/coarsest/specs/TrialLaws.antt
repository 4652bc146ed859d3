-- Laws of a trial: the blocks of a recording by one step and back, the hop that each returns, and a trial hop by hop.
use Rattle.std.specs.Prelude.{◌≡◌, Bool, true, false, ℕ, suc, ◌+◌, ◌*◌, ◌/◌, ◌%◌, ◌^◌, ◌≤◌, ◌<◌, length, pos, nat_abs, ◌+ℤ◌, ◌-ℤ◌}
use Rattle.std.proofs.Math.Path.{sym, ap, ap₂}
use Rattle.std.proofs.Common.{◌∙◌, le_refl}
use mathlib.Core.List.{List}
use native.Mathlib.Omega.{arith}
use Rattle.std.proofs.Math.Dec.{T, leb}
use Rattle.std.proofs.Math.IntN.{ℤ}
use Rattle.arithmetic.specs.Rounding.{Sample, rnd, clamp}
use Rattle.arithmetic.specs.RoundingLaws.{sample_abs}
use Rattle.arithmetic.specs.Lists.{at, table, all, Small}
use Rattle.arithmetic.specs.ListLaws.{get_d_table, table_ext}
use Rattle.arithmetic.specs.JoinLaws.{Place, place_of, within, joined_at}
use Rattle.arithmetic.specs.TestLaws.{is_T, is_true, is_false, all-at, all_make, all_same}
use Rattle.cosine.specs.Kernels.{tabled, rising, falling}
use Rattle.cosine.specs.LengthLaws.{tabled_length, part_of}
use Rattle.cosine.specs.KernelLaws.{rising-size, falling-size}
use Rattle.transform.specs.Analysis.{y, X, direct}
use Rattle.transform.specs.Synthesis.{V'}
use Rattle.transform.specs.SizeLaws.{y-size, X-size}
use Rattle.orders.specs.declared.Order.TheVariants.{ByBlock}
use Rattle.orders.specs.Orders.{place, part}
use Rattle.orders.specs.OrderLaws.{place-less, laid_long, laid-at}
use Rattle.analysis.specs.declared.Route.TheVariants.{Direct}
use Rattle.analysis.specs.Analysis.{spectrum, coefficients}
use Rattle.analysis.specs.AnalysisLaws.{coefficients-length}
use Rattle.stream.specs.Steps.{stream_after, returned}
use Rattle.stream.specs.NextLaws as S
use Rattle.stream.specs.NextLaws.{Fine, returned-at, returned_long}
use Rattle.recording.specs.Recordings.{block, analysis, synthesis}
use Rattle.recording.specs.BlockLaws.{block-sample}
use Rattle.levels.specs.Levels.{level, back}
use Rattle.coarsest.specs.Coarsest.{stepped, returning, near, passes}
use Rattle.coarsest.specs.SteppedLaws.{Tried, inverse_of, stepped_long, stepped-at, stepped_small}

-- every entry is a sample
pub record Samples (x : List ℤ) : Type 0 where
  pub each : (i : ℕ) → i < length x → Sample (at x i)

-- a recording of H hops, and a step with its inverse that is tried on it
pub record Trying (N H : ℕ) (x : List ℤ) (step inverse : ℕ) : Type 0 where
  pub length_is : T (tabled N)
  pub some : 1 ≤ H
  pub most : H ≤ 4095
  pub long : length x ≡ H * (N / 2)
  pub samples : Samples x
  pub tried : Tried step
  pub inverse_is : inverse ≡ inverse_of step

-- the coefficients of block b of a recording, and the same by one step and back
abbrev pub block_of : ℕ → List ℤ → ℕ → List ℤ
block_of N x b = coefficients Direct N 0 0 (block N x b)

abbrev pub stepped_block : (step N : ℕ) → List ℤ → ℕ → List ℤ
stepped_block step N x b = stepped step (block_of N x b)

-- a hop that was made lies within D of hop h of the recording
abbrev pub hop_beside : ℕ → List ℤ → (h D : ℕ) → List ℤ → Bool
hop_beside N x h D made = all (N / 2) (λ n. leb (nat_abs (at made n -ℤ at x (h * (N / 2) + n))) D)

-- as the code has it, beside the recording's own hop
pub beside-own : (N : ℕ) (x : List ℤ) (h D : ℕ) (made own : List ℤ) → length own ≡ N / 2 → ((n : ℕ) → n < N / 2 → at own n ≡ at x (h * (N / 2) + n)) →
    all (length own) (λ n. leb (nat_abs (at made n -ℤ at own n)) D) ≡ hop_beside N x h D made
beside-own N x h D made own l f =
    ap (λ (m : ℕ). all m (λ n. leb (nat_abs (at made n -ℤ at own n)) D)) l
    ∙ all_same (N / 2) (λ n. leb (nat_abs (at made n -ℤ at own n)) D) (λ n. leb (nat_abs (at made n -ℤ at x (h * (N / 2) + n))) D)
    (λ n q. ap (λ (b : ℤ). leb (nat_abs (at made n -ℤ b)) D) (f n q))

-- ---- their sizes
module _ (N : ℕ) (t : T (tabled N)) (x : List ℤ) (h : Samples x) (b : ℕ) where
  coefficient_few : (k : ℕ) → k < N / 2 → nat_abs (at (block_of N x b) k) ≤ 216 * 2 ^ 21
  unfolding coefficients spectrum direct
  coefficient_few k p =
      rw (get_d_table (X N (y N (rising 0 N) (falling 0 N) (block N x b))) (pos 0) (N / 2) k p)
      (omega (
        arith,
        X-size N (y N (rising 0 N) (falling 0 N) (block N x b))
            (y-size N (rising 0 N) (falling 0 N) (part_of N t) (λ n q. rising-size 0 N n) (λ n q. falling-size 0 N n) (block N x b) (λ n q. sample_abs (block-sample N x h.each b n q)))
            k,
        (tabled_length N t).most,
      ))

  pub block-few : Small (block_of N x b) (216 * 2 ^ 21)
  block-few = record { small = λ k p. coefficient_few k (omega (arith, coefficients-length Direct N 0 0 (block N x b))) }

module _ (step N : ℕ) (x : List ℤ) where
  pub stepped_block_long : (b : ℕ) → length (stepped_block step N x b) ≡ N / 2
  stepped_block_long b = stepped_long step (block_of N x b) ∙ coefficients-length Direct N 0 0 (block N x b)

  -- the stream after b of them
  pub stepped_stream_fine : T (tabled N) → (b : ℕ) → Fine N (stream_after N (stepped_block step N x) b)
  stepped_stream_fine t b = S.stream_fine N (stepped_block step N x) t b (λ c less k q. (stepped_small step (block_of N x c)).small k (omega (arith, q, stepped_block_long c))) b (le_refl b)

-- ---- the whole recording's coefficients by one step and back, block by block
module _ (step N H : ℕ) (x : List ℤ) where
  abbrev M : ℕ
  M = N / 2

  abbrev all_of : List ℤ
  all_of = analysis Direct ByBlock N H x

  all_long : length all_of ≡ (H + 1) * M
  unfolding analysis
  all_long = laid_long M (H + 1) ByBlock (block_of N x)

  stepped-part : (b : ℕ) → b < H + 1 → part ByBlock M (H + 1) (stepped step all_of) b ≡ stepped_block step N x b
  unfolding part stepped analysis
  stepped-part b p =
      ap (λ (m : ℕ). table m (λ k. at (stepped step all_of) (place ByBlock M (H + 1) b k))) (sym (coefficients-length Direct N 0 0 (block N x b)))
      ∙ table_ext (length (block_of N x b)) (λ k. at (stepped step all_of) (place ByBlock M (H + 1) b k)) (λ k. back step (level step (at (block_of N x b) k)))
      (λ k q.
      let r : k < M = omega (arith, q, coefficients-length Direct N 0 0 (block N x b)) in
      stepped-at step all_of (place ByBlock M (H + 1) b k) (omega (arith, all_long, place-less M (H + 1) b k p r ByBlock))
      ∙ ap (λ (z : ℤ). back step (level step z)) (laid-at M (H + 1) ByBlock (block_of N x) b k p r))

  -- sample n of hop h as it returns
  pub returning-at : (h n : ℕ) → h < H → n < M → at (returning step N H x) (h * M + n) ≡ at (returned N (stepped_block step N x) (suc h)) n
  unfolding returning synthesis
  returning-at h n p q =
      let parts = part ByBlock M (H + 1) (stepped step all_of) in
      let made : List ℤ → List ℤ → ℤ = λ a b. clamp (rnd (V' N (rising 0 N) (falling 0 N) a (M + n) +ℤ V' N (rising 0 N) (falling 0 N) b n) (N * 2 ^ 30)) in
      joined_at (λ h. returned N parts (suc h)) M H (λ j l. returned_long N parts (suc j)) (pos 0) H h n (le_refl H) p q
      ∙ returned-at N parts h n q
      ∙ ap₂ made (stepped-part h (omega arith)) (stepped-part (suc h) (omega arith))
      ∙ sym (returned-at N (stepped_block step N x) h n q)

  -- ---- a trial, hop by hop
  module _ (D : ℕ) where
    -- every sample of hop h is near
    abbrev pub hop_near : ℕ → Bool
    hop_near h = hop_beside N x h D (returned N (stepped_block step N x) (suc h))

    same : (h n : ℕ) → h < H → n < M → leb (nat_abs (at (returned N (stepped_block step N x) (suc h)) n -ℤ at x (h * M + n))) D ≡ near N H x D step (h * M + n)
    same h n p q = ap (λ (z : ℤ). leb (nat_abs (z -ℤ at x (h * M + n))) D) (sym (returning-at h n p q))

    pub all_near : 0 < M → all H hop_near ≡ true → passes N H x D step ≡ true
    unfolding passes
    all_near some e = is_true (all_make (H * M) (near N H x D step) (λ i p. go i (place_of M H i some p)))
      where
        go : (i : ℕ) → Place M H i → T (near N H x D step i)
        go i o =
            let t : T (hop_near (i / M)) = all-at H hop_near (is_T e) (i / M) o.before in
            let u = all-at M (λ n. leb (nat_abs (at (returned N (stepped_block step N x) (suc (i / M))) n -ℤ at x (i / M * M + n))) D) t (i % M) o.less in
            rw (ap (near N H x D step) (sym o.is) ∙ sym (same (i / M) (i % M) o.before o.less)) u

    pub one_far : (h : ℕ) → h < H → hop_near h ≡ false → passes N H x D step ≡ false
    unfolding passes
    one_far h p e = is_false (λ (t : T (all (H * M) (near N H x D step))). far t)
      where
        far : T (all (H * M) (near N H x D step)) → ⊥
        far t =
            let each : (n : ℕ) → n < M → T (leb (nat_abs (at (returned N (stepped_block step N x) (suc h)) n -ℤ at x (h * M + n))) D) =
            λ n q. rw (same h n p q) (all-at (H * M) (near N H x D step) t (h * M + n) (omega (arith, q, within h H M p))) in
            let all_of_it : T (hop_near h) = all_make M (λ n. leb (nat_abs (at (returned N (stepped_block step N x) (suc h)) n -ℤ at x (h * M + n))) D) each in
            rw e at all_of_it
