-- Laws of the bank on a listing's hops: the blocks of the recording that they are, and a stream that no step refuses.
use Rattle.std.specs.Prelude.{◌≡◌, T, get_or, drop, ℤ, pos, nat_abs}
use Rattle.std.proofs.Math.Path.{refl, ap}
use Rattle.std.proofs.Common.{sym, ◌∙◌, take_at, get_or-append-add}
use mathlib.Core.List.{List, [], ◌∷◌, ◌++◌, append_assoc, append-nil}
use Prim.Native.Nat.{ℕ, zero, suc, ◌+◌, ◌-◌, ◌*◌, ◌/◌, ◌^◌, ◌≤◌, ◌<◌}
use native.Mathlib.Omega.{arith}
use Rattle.std.proofs.Math.Decide.{dec_lt}
use Rattle.std.proofs.Math.ListN.{length, take, length-append, length-replicate, get_or-append}
use Rattle.std.proofs.lemmas.List.{get_or-replicate}
use Rattle.std.proofs.Math.Seq.{drop-append-add, take-append-add, get_or_at}
use Rattle.std.specs.Int.Signed.{le_z_yes}
use Rattle.arithmetic.specs.Lists.{at, Small}
use Rattle.arithmetic.specs.Rounding.{Sample}
use Rattle.arithmetic.specs.RoundingLaws.{sample_abs, clamp-sample}
use Rattle.arithmetic.specs.ListLaws.{length-table, get_d_table}
use Rattle.cosine.specs.Kernels.{tabled, rising, falling}
use Rattle.cosine.specs.LengthLaws.{tabled_length, part_of}
use Rattle.transform.specs.Analysis.{y, X, direct}
use Rattle.transform.specs.SizeLaws.{y-size, X-taken}
use Rattle.stream.specs.Steps.{stream_after, returned}
use Rattle.analysis.specs.declared.Route.TheVariants.{Direct}
use Rattle.analysis.specs.Analysis.{spectrum, coefficients}
use Rattle.recording.specs.Recordings.{silence, padded, standing, block}
use Rattle.cosine.specs.KernelLaws.{rising-size, falling-size}
use Rattle.stream.specs.NextLaws.{Fine, hop_entry, stream_n, stream_fine}
use Rattle.listing.specs.Listing.{recording, analysed}

-- ---- hops of M samples
pub record Hops (M : ℕ) (hs : List (List ℤ)) : Type 0 where
  pub long : (j : ℕ) → j < length hs → length (get_or hs j []) ≡ M
  pub sample : (j i : ℕ) → j < length hs → i < M → Sample (at (get_or hs j []) i)

pub hops-more : (M : ℕ) (h : List ℤ) (hs : List (List ℤ)) → Hops M (h ∷ hs) → Hops M hs
hops-more M h hs a = record { long = λ j p. a.long (suc j) (omega arith); sample = λ j i p q. a.sample (suc j) i (omega arith) q }

module _ (M : ℕ) where
  -- the recording that they are
  pub recording_long : (hs : List (List ℤ)) → Hops M hs → length (recording hs) ≡ length hs * M
  unfolding recording
  recording_long [] a = omega arith
  recording_long (h ∷ hs) a = length-append h (recording hs) ∙ omega (arith, a.long 0 (omega arith), recording_long hs (hops-more M h hs a))

  -- sample i of hop j
  pub recording-at : (hs : List (List ℤ)) → Hops M hs → (j i : ℕ) → j < length hs → i < M → at (recording hs) (j * M + i) ≡ at (get_or hs j []) i
  unfolding recording
  recording-at [] a j i p q = absurd (omega arith)
  recording-at (h ∷ hs) a zero i p q =
      let e : 0 * M + i ≡ i = omega arith in
      rw e (get_or-append h (recording hs) (pos 0) i (omega (arith, a.long 0 (omega arith))))
  recording-at (h ∷ hs) a (suc j) i p q =
      let e : suc j * M + i ≡ length h + (j * M + i) = omega (arith, a.long 0 (omega arith)) in
      rw e (get_or-append-add h (recording hs) (j * M + i) (pos 0) ∙ recording-at hs (hops-more M h hs a) j i (omega arith) q)

  -- from hop b on
  recording-from : (hs : List (List ℤ)) → Hops M hs → (b : ℕ) → suc b < length hs → (rest : List ℤ) × (drop (b * M) (recording hs) ≡ get_or hs b [] ++ (get_or hs (suc b) [] ++ rest))
  unfolding recording
  recording-from [] a b p = absurd (omega arith)
  recording-from (h ∷ []) a b p = absurd (omega arith)
  recording-from (h ∷ g ∷ hs) a zero p = let e : 0 * M ≡ 0 = omega arith in (recording hs, rw e)
  recording-from (h ∷ g ∷ hs) a (suc b) p =
      let r = recording-from (g ∷ hs) (hops-more M h (g ∷ hs) a) b (omega arith) in
      let e : suc b * M ≡ length h + b * M = omega (arith, a.long 0 (omega arith)) in
      (r.0, rw e (drop-append-add h (recording (g ∷ hs)) (b * M) ∙ r.1))

  -- one hop more, before them and after them
  hops-first : (h : List ℤ) → length h ≡ M → ((i : ℕ) → i < M → Sample (at h i)) → (hs : List (List ℤ)) → Hops M hs → Hops M (h ∷ hs)
  hops-first h l s hs a = record { long = long; sample = sample }
    where
      long : (j : ℕ) → j < length (h ∷ hs) → length (get_or (h ∷ hs) j []) ≡ M
      long zero p = l
      long (suc j) p = a.long j (omega arith)

      sample : (j i : ℕ) → j < length (h ∷ hs) → i < M → Sample (at (get_or (h ∷ hs) j []) i)
      sample zero i p q = s i q
      sample (suc j) i p q = a.sample j i (omega arith) q

  hops-none : Hops M []
  hops-none = record { long = λ j p. absurd (omega arith); sample = λ j i p q. absurd (omega arith) }

  hops-last : (h : List ℤ) → length h ≡ M → ((i : ℕ) → i < M → Sample (at h i)) → (hs : List (List ℤ)) → Hops M hs → Hops M (hs ++ (h ∷ []))
  hops-last h l s [] a = hops-first h l s [] hops-none
  hops-last h l s (g ∷ hs) a =
      hops-first g (a.long 0 (omega arith)) (λ i q. a.sample 0 i (omega arith) q) (hs ++ (h ∷ [])) (hops-last h l s hs (hops-more M g hs a))

recording-last : (hs : List (List ℤ)) (h : List ℤ) → recording (hs ++ (h ∷ [])) ≡ recording hs ++ h
unfolding recording
recording-last [] h = append-nil h
recording-last (g ∷ hs) h = ap (λ (l : List ℤ). g ++ l) (recording-last hs h) ∙ sym (append_assoc g (recording hs) h)

-- ---- with a hop of zeros before them and one after
unfoldable pub around : ℕ → List (List ℤ) → List (List ℤ)
around N hs = silence N ∷ (hs ++ (silence N ∷ []))

module _ (N : ℕ) where
  silence_long : length (silence N) ≡ N / 2
  unfolding silence
  silence_long = length-replicate (N / 2) (pos 0)

  silence-sample : (i : ℕ) → i < N / 2 → Sample (at (silence N) i)
  unfolding silence
  silence-sample i p = rw (get_or-replicate (N / 2) i (pos 0) (pos 0) p) (record { low = le_z_yes tt; high = le_z_yes tt })

  module _ (hs : List (List ℤ)) where
    around-recording : recording (around N hs) ≡ padded N (recording hs)
    unfolding around padded recording
    around-recording = ap (λ (l : List ℤ). silence N ++ l) (recording-last hs (silence N))

    around-hops : Hops (N / 2) hs → Hops (N / 2) (around N hs)
    unfolding around
    around-hops a = hops-first (N / 2) (silence N) silence_long silence-sample (hs ++ (silence N ∷ [])) (hops-last (N / 2) (silence N) silence_long silence-sample hs a)

    around_long : length (around N hs) ≡ suc (suc (length hs))
    unfolding around
    around_long = omega (arith, length-append hs (silence N ∷ []))

    pub around-first : get_or (around N hs) 0 [] ≡ silence N
    unfolding around
    around-first = refl

    pub around-hop : (j : ℕ) → j < length hs → get_or (around N hs) (suc j) [] ≡ get_or hs j []
    unfolding around
    around-hop j p = get_or-append hs (silence N ∷ []) [] j p

    pub around-last : (j : ℕ) → j ≡ length hs → get_or (around N hs) (suc j) [] ≡ silence N
    unfolding around
    around-last j e = get_or_at hs (silence N) [] [] j (sym e)

-- block b is hop b - 1 and hop b, the first of which is the zeros before where b is 0, and the second those after where b is the number of hops
module _ (N : ℕ) (t : T (tabled N)) (hs : List (List ℤ)) (a : Hops (N / 2) hs) (b : ℕ) (p : b ≤ length hs) where
  abbrev first : List ℤ
  first = get_or (around N hs) b []

  abbrev second : List ℤ
  second = get_or (around N hs) (suc b) []

  both : suc b < length (around N hs)
  both = omega (arith, around_long N hs)

  pub first_long : length first ≡ N / 2
  first_long = (around-hops N hs a).long b (omega (arith, both))

  second_long : length second ≡ N / 2
  second_long = (around-hops N hs a).long (suc b) both

  pub block_is : block N (recording hs) b ≡ first ++ second
  unfolding block standing
  block_is =
      let r = recording-from (N / 2) (around N hs) (around-hops N hs a) b both in
      let e : N ≡ length first + N / 2 = omega (arith, first_long, (part_of N t).four) in
      rw (sym (around-recording N hs), r.1)
      (ap (λ (k : ℕ). take k (first ++ (second ++ r.0))) e ∙ take-append-add first (second ++ r.0) (N / 2) ∙ ap (λ (l : List ℤ). first ++ l) (take_at second r.0 (N / 2) second_long))

-- ---- samples of a block, its coefficients, and the stream
-- N samples
pub record Block (N : ℕ) (xs : List ℤ) : Type 0 where
  pub long : length xs ≡ N
  pub sample : (n : ℕ) → n < N → Sample (at xs n)

block_of : (N : ℕ) → T (tabled N) → (h g : List ℤ) → length h ≡ N / 2 → length g ≡ N / 2 → ((i : ℕ) → i < N / 2 → Sample (at h i)) → ((i : ℕ) → i < N / 2 → Sample (at g i)) → Block N (h ++ g)
block_of N t h g hl gl hs gs = record { long = length-append h g ∙ omega (arith, (part_of N t).four); sample = λ n p. go n p (dec_lt n (N / 2)) }
  where
    go : (n : ℕ) → n < N → Dec (n < N / 2) → Sample (at (h ++ g) n)
    go n p (yes q) = rw (get_or-append h g (pos 0) n (omega arith)) (hs n q)
    go n p (no q) =
        let m = n - N / 2 in
        let e : n ≡ length h + m = omega arith in
        rw (ap (λ (k : ℕ). at (h ++ g) k) e ∙ get_or-append-add h g m (pos 0)) (gs m (omega (arith, (part_of N t).four)))

module _ (N : ℕ) (t : T (tabled N)) where
  -- what analysis gives is taken
  module _ (xs : List ℤ) (B : Block N xs) where
    pub coefficients_long : length (coefficients Direct N 0 0 xs) ≡ N / 2
    unfolding coefficients spectrum direct
    coefficients_long = length-table (X N (y N (rising 0 N) (falling 0 N) xs)) (N / 2)

    coefficient : (k : ℕ) → k < N / 2 → nat_abs (at (coefficients Direct N 0 0 xs) k) ≤ 2 ^ 29
    unfolding coefficients spectrum direct
    coefficient k p =
        rw (get_d_table (X N (y N (rising 0 N) (falling 0 N) xs)) (pos 0) (N / 2) k p)
        (X-taken N (y N (rising 0 N) (falling 0 N) xs)
        (y-size N (rising 0 N) (falling 0 N) (part_of N t) (λ n q. rising-size 0 N n) (λ n q. falling-size 0 N n) xs (λ n q. sample_abs (B.sample n q)))
        (tabled_length N t) k)

    pub coefficients_small : Small (coefficients Direct N 0 0 xs) (2 ^ 29)
    coefficients_small = record { small = λ k p. coefficient k (omega (arith, coefficients_long)) }

  -- the blocks of a listing, and the stream that step b is handed
  module _ (hs : List (List ℤ)) (a : Hops (N / 2) hs) where
    pub blocks : (b : ℕ) → b ≤ length hs → Block N (block N (recording hs) b)
    blocks b p =
        let A = around-hops N hs a in
        let q = both N t hs a b p in
        rw (block_is N t hs a b p)
        (block_of N t (get_or (around N hs) b []) (get_or (around N hs) (suc b) []) (A.long b (omega arith)) (A.long (suc b) q) (λ i r. A.sample b i (omega arith) r) (λ i r. A.sample (suc b) i q r))

    pub hops_fine : (b : ℕ) → b ≤ length hs → Fine N (stream_after N (analysed N (recording hs)) b)
    unfolding analysed
    hops_fine b p = stream_fine N (analysed N (recording hs)) t b (λ c q. coefficient (block N (recording hs) c) (blocks c (omega arith))) b (omega arith)

-- ---- what a step returns are samples
pub returned-sample : (N : ℕ) (x : ℕ → List ℤ) (b i : ℕ) → i < N / 2 → Sample (at (returned N x b) i)
unfolding returned
returned-sample N x b i p = rw (hop_entry N (stream_after N x b) (stream_n N x b) 0 0 (x b) i p) (clamp-sample _)
