-- Laws of hops: M samples each, and where a taken listing has them.
use Rattle.std.specs.Prelude.{◌≡◌, refl, ◌&&◌, T, eqb, length, drop, ℤ, pos}
use Rattle.std.proofs.Common.{sym, ◌∙◌, get_or-drop, ext_get_or}
use Rattle.std.proofs.Math.Path.{ap}
use mathlib.Core.List.{List, [], ◌∷◌, map}
use Prim.Native.Nat.{ℕ, zero, suc, ◌+◌, ◌/◌, ◌≤◌, ◌<◌}
use native.Mathlib.Omega.{arith}
use Rattle.std.proofs.Math.Dec.{eqb→eq}
use Rattle.std.proofs.Math.ListN.{get_or, length-drop, length-map}
use Rattle.std.specs.Int.Signed.{le_z, le_z_yes}
use Rattle.arithmetic.specs.Lists.{at, table, every}
use Rattle.arithmetic.specs.Rounding.{least, largest, Sample}
use Rattle.arithmetic.specs.ListLaws.{length-table, get_d_table}
use Rattle.arithmetic.specs.TestLaws.{every-at}
use Rattle.text.specs.Number.{most_digits, is_number, value}
use Rattle.text.specs.NumberLaws.{and_left, and_right, number_wider}
use Rattle.text.specs.Bytes.{line_feed}
use Rattle.text.specs.Lines.{index_of, lines, remainder, line_at, line_start, fields}
use Rattle.text.specs.LineLaws.{lines_from, line_is, lines-few, line-found, remainder-found, remainder-none, next-is, end-most}
use Rattle.listing.specs.Hops.{digits, is_sample, is_hop, samples}
use Rattle.listing.specs.Verdicts.{hops_of, hop_of}
use Rattle.listing.specs.VerdictLaws.{Taken}

map_at : {A B : Type 0} (f : A → B) (xs : List A) (i : ℕ) (d : A) (e : B) → i < length xs → get_or (map f xs) i e ≡ f (get_or xs i d)
map_at f [] i d e h = absurd (omega arith)
map_at f (x ∷ xs) zero d e h = refl
map_at f (x ∷ xs) (suc i) d e h = map_at f xs i d e (omega arith)

-- a number of the listing fits 64 bits
pub number_fits : (f : List ℕ) → T (is_number digits f) → T (is_number most_digits f)
number_fits f t = number_wider digits most_digits f (omega arith) t

-- ---- a field that is a sample
pub sample-number : (f : List ℕ) → T (is_sample f) → T (is_number digits f)
unfolding is_sample
sample-number f t = and_left (is_number digits f) (le_z least (value f)) (and_left (is_number digits f && le_z least (value f)) (le_z (value f) largest) t)

pub sample-is : (f : List ℕ) → T (is_sample f) → Sample (value f)
unfolding is_sample
sample-is f t =
    let a = is_number digits f in
    let b = le_z least (value f) in
    let c = le_z (value f) largest in
    record { low = le_z_yes (and_right a b (and_left (a && b) c t)); high = le_z_yes (and_right (a && b) c t) }

-- ---- a line that is a hop
module _ (M : ℕ) (l : List ℕ) (t : T (is_hop M l)) where
  pub hop-fields : length (fields l) ≡ M
  unfolding is_hop
  hop-fields = eqb→eq (length (fields l)) M (and_left (eqb (length (fields l)) M) (every is_sample (fields l)) t)

  pub hop_field : (i : ℕ) → i < M → T (is_sample (get_or (fields l) i []))
  unfolding is_hop
  hop_field i h = every-at is_sample [] (fields l) (and_right (eqb (length (fields l)) M) (every is_sample (fields l)) t) i (omega (arith, hop-fields))

  hop-length : length (samples l) ≡ M
  unfolding samples
  hop-length = length-map (fields l) value ∙ hop-fields

  pub hop_entry : (i : ℕ) → i < M → at (samples l) i ≡ value (get_or (fields l) i [])
  unfolding samples
  hop_entry i h = map_at value (fields l) i [] (pos 0) (omega (arith, hop-fields))

  hop-sample : (i : ℕ) → i < M → Sample (at (samples l) i)
  hop-sample i h = rw (hop_entry i h) (sample-is (get_or (fields l) i []) (hop_field i h))

  -- as the values of its fields, one by one
  pub hop-samples : samples l ≡ table M (λ i. value (get_or (fields l) i []))
  hop-samples = ext_get_or (pos 0) (samples l) (table M f) (hop-length ∙ sym (length-table f M)) (λ i h. hop_entry i (omega (arith, hop-length)) ∙ sym (get_d_table f (pos 0) M i (omega (arith, hop-length))))
    where
      f : ℕ → ℤ
      f i = value (get_or (fields l) i [])

-- ---- behind k lines the same remainder is left
remainder-from : (s : List ℕ) (k : ℕ) → k ≤ length (lines s) → remainder (drop (line_start s k) s) ≡ remainder s
unfolding line_start
remainder-from s zero h = refl
remainder-from s (suc k) h =
    let i = line_start s k in
    let e = i + index_of line_feed (drop i s) in
    let n = next-is s i e refl in
    rw n (sym (remainder-found s i e (lines_from s k (omega arith)).0 refl (omega (arith, n, (lines_from s (suc k) h).0))) ∙ remainder-from s k (omega arith))

-- so behind the last line nothing stands, where the remainder is empty
lines_end : (s : List ℕ) → length (remainder s) ≡ 0 → line_start s (length (lines s)) ≡ length s
lines_end s r =
    let k = length (lines s) in
    let i = line_start s k in
    let e = i + index_of line_feed (drop i s) in
    let q = lines_from s k (omega arith) in
    let none : ¬ (e < length s) = λ p. omega (arith, ap length (sym (line-found s i e q.0 refl p) ∙ q.1), length-drop k (lines s)) in
    let all = remainder-none s i e q.0 refl (omega (arith, none, end-most line_feed s i e q.0 refl)) in
    omega (arith, ap length (sym all ∙ remainder-from s k (omega arith)), length-drop i s, q.0)

-- ---- the hops of a taken listing
module _ {text : List ℕ} {N H : ℕ} (K : Taken text N H) where
  pub hops-counted : length (hops_of text) ≡ H
  unfolding hops_of
  hops-counted = length-map (drop 1 (lines text)) samples ∙ omega (arith, length-drop 1 (lines text), K.counted)

  -- hop j stands in the line behind line 1 and the j hops in front of it
  pub hops-at : (j : ℕ) → j < H → hop_of text j ≡ samples (get_or (lines text) (suc j) [])
  unfolding hops_of
  hops-at j h =
      let e : 1 + j ≡ suc j = omega arith in
      map_at samples (drop 1 (lines text)) j [] [] (omega (arith, length-drop 1 (lines text), K.counted)) ∙ ap samples (get_or-drop 1 (lines text) j [] ∙ ap (λ (k : ℕ). get_or (lines text) k []) e)

  -- hop j, of M samples
  pub hops-length : (j : ℕ) → j < H → length (hop_of text j) ≡ N / 2
  hops-length j h = ap length (hops-at j h) ∙ hop-length (N / 2) (get_or (lines text) (suc j) []) (K.hop j h)

  pub hops-sample : (j i : ℕ) → j < H → i < N / 2 → Sample (at (hop_of text j) i)
  hops-sample j i h k = rw (hops-at j h) (hop-sample (N / 2) (get_or (lines text) (suc j) []) (K.hop j h) i k)

  -- its line starts behind line 1 and the j hops in front of it
  pub hops-start : (j : ℕ) → j ≤ H → line_start text (suc j) ≤ length text
  hops-start j h = (lines_from text (suc j) (omega (arith, K.counted))).0

  pub hops-line : (j : ℕ) → j < H → T (is_hop (N / 2) (line_at text (line_start text (suc j))))
  hops-line j h = rw (line_is text (suc j) (omega (arith, K.counted))) (K.hop j h)

  pub hops-read : (j : ℕ) → j < H → samples (line_at text (line_start text (suc j))) ≡ hop_of text j
  hops-read j h = rw (line_is text (suc j) (omega (arith, K.counted))) (sym (hops-at j h))

  -- behind the last hop no line is left
  pub hops-end : line_start text (suc H) ≡ length text
  hops-end = rw (sym K.counted) (lines_end text K.ended)

  pub hops-left : (j : ℕ) → j < H → line_start text (suc j) < length text
  hops-left j h =
      let i = line_start text (suc j) in
      let q = lines_from text (suc j) (omega (arith, K.counted)) in
      omega (arith, ap length q.1, length-drop (suc j) (lines text), lines-few (drop i text), length-drop i text, K.counted)
