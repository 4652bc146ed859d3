-- Laws of the blocks of a recording: two that follow each other share a hop, and what is brought for one is near its direct coefficients.
use Rattle.std.specs.Prelude.{◌≡◌, List, ℕ, suc, ◌+◌, ◌*◌, ◌/◌, ◌≤◌, ◌<◌, ◌^◌, max, T, ℤ, pos, nat_abs, ◌-ℤ◌, ◌+ℤ◌}
use Rattle.std.proofs.Common.{ap, ◌∙◌, le_trans, suc-mul, mul-le-mul_right, arith}
use Rattle.std.proofs.Math.Nat.{le-max_left, le-max_right}
use Rattle.arithmetic.specs.Lists.{at}
use Rattle.arithmetic.specs.Rounding.{rnd, clamp, Sample}
use Rattle.arithmetic.specs.ListLaws.{get_d_table}
use Rattle.arithmetic.specs.JoinLaws.{Place, place_of}
use Rattle.arithmetic.specs.OrderLaws.{abs_via}
use Rattle.arithmetic.specs.RoundingLaws.{sample_abs}
use Rattle.cosine.specs.Kernels.{tabled, rising, falling}
use Rattle.cosine.specs.LengthLaws.{tabled_length, Part, part_of}
use Rattle.transform.specs.Analysis.{y, X, direct}
use Rattle.split.specs.ShortRoute.{short_x, short}
use Rattle.double_route.specs.Double.{double_x, double}
use Rattle.double_route.specs.NearLaws.{within_14}
use Rattle.transform.specs.Synthesis.{V'}
use Rattle.transform.specs.SizeLaws.{y-size}
use Rattle.split.specs.ShortLaws.{within_7}
use Rattle.cosine.specs.KernelLaws.{rising-size, falling-size}
use Rattle.reconstruction.specs.Neighbours.{Neighbours}
use Rattle.reconstruction.specs.ReturnLaws.{by_asked}
use Rattle.reconstruction.specs.DistanceLaws.{joint_neighbours, returned-each, returned-same}
use Rattle.analysis.specs.declared.Route.{Route}
use Rattle.analysis.specs.declared.Route.TheVariants.{Direct, Short, Double}
use Rattle.analysis.specs.Analysis.{offered, spectrum, coefficients, units_of}
use Rattle.recording.specs.Recordings.{padded, block}
use Rattle.recording.specs.BlockLaws as B
use Rattle.recording.specs.BlockLaws.{padded-at, block_at}
use Rattle.demands.specs.Steps.{Recording, Brought, change, Restored, proved_units, proved_change}

-- ---- the change where two blocks meet is no less than that of each, and no more than what is asked
pub change-first : (Q Q' : ℕ) (r r' : Route) → Q + proved_units r ≤ proved_change Q Q' r r'
unfolding proved_change
change-first Q Q' r r' = le-max_left (Q + proved_units r) (Q' + proved_units r')

pub change-second : (Q Q' : ℕ) (r r' : Route) → Q' + proved_units r' ≤ proved_change Q Q' r r'
unfolding proved_change
change-second Q Q' r r' = le-max_right (Q + proved_units r) (Q' + proved_units r')

units_asked : (r : Route) → proved_units r ≤ units_of r
unfolding proved_units units_of
units_asked Direct = omega arith
units_asked Short = omega arith
units_asked Double = omega arith

pub change_asked : (Q Q' : ℕ) (r r' : Route) → proved_change Q Q' r r' ≤ change Q Q' r r'
unfolding proved_change change
change_asked Q Q' r r' = omega (arith, units_asked r, units_asked r')

pub change-direct : (Q Q' : ℕ) (r r' : Route) → r ≡ Direct → r' ≡ Direct → Q ≤ 9 → Q' ≤ 9 → proved_change Q Q' r r' ≤ 9
unfolding proved_change proved_units
change-direct Q Q' r r' e f q q' = rw (e, f) (omega arith)

-- ---- one Q for both blocks: the larger of their routes' units is added
pub change-one : (Q : ℕ) (r r' : Route) → change Q Q r r' ≡ Q + max (units_of r) (units_of r')
unfolding change
change-one Q r r' = omega arith

pub proved_one : (Q : ℕ) (r r' : Route) → proved_change Q Q r r' ≡ Q + max (proved_units r) (proved_units r')
unfolding proved_change
proved_one Q r r' = omega arith

pub restored : (Q : ℕ) (r r' : Route) {z a : ℤ} → nat_abs (z -ℤ a) ≤ (change Q Q r r' + 8) / 16 → (Q ≤ 7 → Q ≤ 7 → r ≡ Direct → r' ≡ Direct → z ≡ a) → Restored Q r r' z a
restored Q r r' near same = record { near = rw (change-one Q r r') at near; same = λ q. same q q }

-- the block x, windowed by joints of the shapes l and r
abbrev pub windowed : (N l r : ℕ) → List ℤ → ℕ → ℤ
windowed N l r x = y N (rising l N) (falling r N) x

-- the sample that comes back at place n of a hop from the coefficients c₁ and c₂ of the two blocks that share it, which meet in a joint of the shape j
abbrev pub overlapped : (N l j r : ℕ) → (c₁ c₂ : List ℤ) → ℕ → ℤ
overlapped N l j r c₁ c₂ n = clamp (rnd (V' N (rising l N) (falling j N) c₁ (N / 2 + n) +ℤ V' N (rising j N) (falling r N) c₂ n) (N * 2 ^ 30))

-- ---- sample i of a recording of H hops: its hop, and its place there
pub hop_of : (N : ℕ) → T (tabled N) → (H i : ℕ) → i < H * (N / 2) → Place (N / 2) H i
hop_of N t H i p = place_of (N / 2) H i (omega (arith, (tabled_length N t).twelve, (tabled_length N t).some)) p

-- ---- the coefficients by a route, against the direct ones
module _ (N l r : ℕ) (x : List ℤ) (k : ℕ) (p : k < N / 2) where
  pub by-direct : at (coefficients Direct N l r x) k ≡ X N (windowed N l r x) k
  unfolding coefficients spectrum direct
  by-direct = get_d_table (X N (windowed N l r x)) (pos 0) (N / 2) k p

  pub by-short : at (coefficients Short N l r x) k ≡ short_x N (windowed N l r x) k
  unfolding coefficients spectrum short
  by-short = get_d_table (short_x N (windowed N l r x)) (pos 0) (N / 2) k p

  pub by-double : at (coefficients Double N l r x) k ≡ double_x N (windowed N l r x) k
  unfolding coefficients spectrum double
  by-double = get_d_table (double_x N (windowed N l r x)) (pos 0) (N / 2) k p

pub near-direct : (N l r : ℕ) (x : List ℤ) → ((n : ℕ) → n < N → nat_abs (windowed N l r x n) ≤ 2 ^ 23) →
    (Q : ℕ) (route : Route) → T (offered route N) → (c : ℤ) (k : ℕ) → k < N / 2 → nat_abs (c -ℤ at (coefficients route N l r x) k) ≤ Q → nat_abs (c -ℤ X N (windowed N l r x) k) ≤ Q + proved_units route
unfolding proved_units offered
near-direct N l r x y≤ Q Direct o c k p h = omega (arith, rw (by-direct N l r x k p) at h)
near-direct N l r x y≤ Q Short o c k p h =
    abs_via c (short_x N (windowed N l r x) k) (X N (windowed N l r x) k) (rw (by-short N l r x k p) at h) (within_7 N o (windowed N l r x) y≤ k p)
near-direct N l r x y≤ Q Double o c k p h =
    abs_via c (double_x N (windowed N l r x) k) (X N (windowed N l r x) k) (rw (by-double N l r x k p) at h) (within_14 N o (windowed N l r x) y≤ k p)

module _ (N : ℕ) (t : T (tabled N)) (H : ℕ) (x : List ℤ) (rec : Recording N H x) where
  len : Part N
  len = part_of N t

  -- ---- the samples of a block
  pub block-sample : (b n : ℕ) → n < N → Sample (at (block N x b) n)
  block-sample = B.block-sample N x rec.sample

  -- the first hop of block b + 1 is hop b of the recording
  pub block-hop : (b n : ℕ) → suc b ≤ H → n < N / 2 → at (block N x (suc b)) n ≡ at x (b * (N / 2) + n)
  block-hop b n p q =
      let e : suc b * (N / 2) + n ≡ N / 2 + (b * (N / 2) + n) = omega (arith, suc-mul b (N / 2)) in
      block_at N x (suc b) n (omega arith) ∙ ap (at (padded N x)) e ∙ padded-at N x (b * (N / 2) + n) (omega (arith, rec.long, mul-le-mul_right (N / 2) p, suc-mul b (N / 2)))

  pub windowed-size : (b l r : ℕ) (n : ℕ) → n < N → nat_abs (windowed N l r (block N x b) n) ≤ 2 ^ 23
  windowed-size b l r = y-size N (rising l N) (falling r N) len (λ n q. rising-size l N n) (λ n q. falling-size r N n) (block N x b) (λ n q. sample_abs (block-sample b n q))

  -- blocks b and b + 1, which meet in a joint of the shape j
  pub neighbours : (b l j r : ℕ) → Neighbours N (rising l N) (falling j N) (rising j N) (falling r N) (block N x b) (block N x (suc b))
  neighbours b l j r = joint_neighbours N l j r t (block N x b) (block N x (suc b)) (block-sample b) (block-sample (suc b)) shared
    where
      shared : (n : ℕ) → n < N / 2 → at (block N x b) (N / 2 + n) ≡ at (block N x (suc b)) n
      shared n q =
          let e : b * (N / 2) + (N / 2 + n) ≡ suc b * (N / 2) + n = omega arith in
          rw (block_at N x b (N / 2 + n) (omega (arith, len.four)), block_at N x (suc b) n (omega (arith, len.four)), e)

  -- ---- the hop that they share
  module _ (Q : ℕ → ℕ) (routes : ℕ → Route) (b l j r : ℕ) (c₁ c₂ : List ℤ) (brought₁ : Brought N H Q routes x b l j c₁) (brought₂ : Brought N H Q routes x (suc b) j r c₂) where
    abbrev Q' : ℕ
    Q' = proved_change (Q b) (Q (suc b)) (routes b) (routes (suc b))

    nb : Neighbours N (rising l N) (falling j N) (rising j N) (falling r N) (block N x b) (block N x (suc b))
    nb = neighbours b l j r

    near₁ : (k : ℕ) → k < N / 2 → nat_abs (at c₁ k -ℤ X N (windowed N l j (block N x b)) k) ≤ Q'
    near₁ k p = le_trans (near-direct N l j (block N x b) (windowed-size b l j) (Q b) (routes b) brought₁.offers (at c₁ k) k p (brought₁.near k p)) (change-first (Q b) (Q (suc b)) (routes b) (routes (suc b)))

    near₂ : (k : ℕ) → k < N / 2 → nat_abs (at c₂ k -ℤ X N (windowed N j r (block N x (suc b))) k) ≤ Q'
    near₂ k p = le_trans (near-direct N j r (block N x (suc b)) (windowed-size (suc b) j r) (Q (suc b)) (routes (suc b)) brought₂.offers (at c₂ k) k p (brought₂.near k p)) (change-second (Q b) (Q (suc b)) (routes b) (routes (suc b)))

    pub back-near : (n : ℕ) → n < N / 2 → nat_abs (overlapped N l j r c₁ c₂ n -ℤ at x (b * (N / 2) + n)) ≤ (3 * Q' + 36) / 64
    back-near n p = rw (← (block-hop b n brought₂.exists p)) (returned-each N t nb Q' c₁ c₂ near₁ near₂ n p)

    pub back-same : Q b ≤ 9 → Q (suc b) ≤ 9 → routes b ≡ Direct → routes (suc b) ≡ Direct → (n : ℕ) → n < N / 2 → overlapped N l j r c₁ c₂ n ≡ at x (b * (N / 2) + n)
    back-same q q' e f n p =
        let g : Q' ≤ 9 = change-direct (Q b) (Q (suc b)) (routes b) (routes (suc b)) e f q q' in
        rw (← (block-hop b n brought₂.exists p)) (returned-same N t nb Q' c₁ c₂ near₁ near₂ g n p)

-- ---- the sharper claims give those that are asked
pub near_asked : (Q Q' : ℕ) (r r' : Route) {d : ℕ} → d ≤ (3 * proved_change Q Q' r r' + 36) / 64 → d ≤ (change Q Q' r r' + 8) / 16
near_asked Q Q' r r' h = le_trans h (by_asked (proved_change Q Q' r r') (change Q Q' r r') (change_asked Q Q' r r'))
