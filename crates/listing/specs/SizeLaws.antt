-- Laws of size: how many hops a listing can have, and how many bytes are printed of it.
use Rattle.std.specs.Prelude.{◌≡◌, refl, List, [], ◌∷◌, ◌++◌, map, ℕ, zero, suc, ◌+◌, ◌*◌, ◌/◌, ◌≤◌, ◌<◌, T, length, get_or, ℤ, nat_abs}
use Rattle.std.proofs.Common.{sym, ap, ◌∙◌, mul-le-mul_left, arith, add-one}
use Rattle.std.proofs.Math.ListN.{length-append}
use Rattle.arithmetic.specs.Lists as Entries
use Rattle.arithmetic.specs.Lists.{at}
use Rattle.cosine.specs.Kernels.{tabled}
use Rattle.cosine.specs.LengthLaws.{tabled_length}
use Rattle.text.specs.Bytes.{line_feed, comma}
use Rattle.text.specs.Number.{decimal, printed}
use Rattle.text.specs.NumberLaws.{number_long}
use Rattle.text.specs.Lines.{lines, fields, more, line}
use Rattle.text.specs.LineLaws.{split-weight, lines-weight, parts-weight, behind-weight}
use Rattle.text.specs.Refusal.{word_refused, refusal}
use Rattle.listing.specs.Print.{word_hop, word_s, header, row}
use Rattle.listing.specs.Hops.{digits, is_hop}
use Rattle.listing.specs.HopLaws.{sample-number, hop-fields, hop_field, hops-counted, hops-length, hops-sample}
use Rattle.listing.specs.Verdicts.{limit, hops_of}
use Rattle.listing.specs.VerdictLaws.{Taken}
use Rattle.listing.specs.PrintLaws.{decimal-most, decimal-short, printed-most, names-next}
use Rattle.listing.specs.Listing.{rows}
use Rattle.listing.specs.BankLaws.{Hops}

-- ---- a hop of M samples takes at least 2M bytes, its line feed among them
hop_bytes : (M : ℕ) (l : List ℕ) → T (is_hop M l) → M * 2 ≤ suc (length l)
unfolding fields
hop_bytes M l t = omega (arith, parts-weight 2 (fields l) (λ i p. field i (omega (arith, hop-fields M l t))), hop-fields M l t, split-weight comma l)
  where
    field : (i : ℕ) → i < M → 2 ≤ suc (length (get_or (fields l) i []))
    field i p = omega (arith, number_long digits (get_or (fields l) i []) (sample-number (get_or (fields l) i []) (hop_field M l t i p)))

-- so few hops fit
module _ {text : List ℕ} {N H : ℕ} (K : Taken text N H) where
  pub hops_bytes : H * (N / 2 * 2) ≤ limit
  hops_bytes = omega (arith, behind-weight (N / 2 * 2) H (lines text) K.counted (λ i p. hop_bytes (N / 2) (get_or (lines text) (suc i) []) (K.hop i p)), lines-weight text, K.small)

  -- and a hop's number has four digits at most
  pub hops-most : H ≤ 9999
  hops-most =
      let twelve : 12 ≤ N / 2 * 2 = omega (arith, (tabled_length N K.length-tabled).twelve, (tabled_length N K.length-tabled).some) in
      omega (arith, mul-le-mul_left H twelve, hops_bytes)

  pub taken-hops : Hops (N / 2) (hops_of text)
  taken-hops = record {
    long = λ j p. hops-length K j (omega (arith, hops-counted K));
    sample = λ j i p q. hops-sample K j i (omega (arith, hops-counted K)) q;
  }

-- ---- what is printed, with M = N / 2
abbrev name : ℕ → List ℕ
name i = word_s ++ decimal i

names-none : length (more (Entries.table 0 name)) ≡ 0
unfolding Entries.table more
names-none = refl

names-most : (m k : ℕ) → k ≤ m → m ≤ 99999 → length (more (Entries.table k name)) ≤ 7 * k
names-most m zero h l = omega (arith, names-none)
names-most m (suc k) h l =
    let e = ap length (ap (λ (n : ℕ). more (Entries.table n name)) (sym (add-one k)) ∙ names-next name k) in
    omega (arith, e, length-append (more (Entries.table k name)) (comma ∷ name k), length-append word_s (decimal k), decimal-most k (omega arith), names-most m k (omega arith) l)

pub header-most : (M : ℕ) → M ≤ 99999 → length (header M) ≤ 7 * M + 4
unfolding header line
header-most M h =
    let names = more (Entries.table M name) in
    omega (arith, length-append (word_hop ++ names) (line_feed ∷ []), length-append word_hop names, names-most M M (omega arith) h)

fields-most : (xs : List ℤ) → ((i : ℕ) → i < length xs → nat_abs (at xs i) ≤ 99999) → length (more (map printed xs)) ≤ 7 * length xs
unfolding more
fields-most [] h = omega arith
fields-most (x ∷ xs) h =
    omega (arith, length-append (printed x) (more (map printed xs)), printed-most x (h 0 (omega arith)), fields-most xs (λ i p. h (suc i) (omega arith)))

pub row-most : (j : ℕ) (xs : List ℤ) → j ≤ 9999 → ((i : ℕ) → i < length xs → nat_abs (at xs i) ≤ 99999) → length (row j xs) ≤ 7 * length xs + 5
unfolding row line
row-most j xs p h =
    let samples = more (map printed xs) in
    omega (arith, length-append (decimal j ++ samples) (line_feed ∷ []), length-append (decimal j) samples, decimal-short j p, fields-most xs h)

pub refusal-most : (code at : ℕ) → code ≤ 99999 → at ≤ 99999 → length (refusal code at) ≤ 20
unfolding refusal line more
refusal-most code at p q =
    let fs = comma ∷ (decimal code ++ (comma ∷ (decimal at ++ []))) in
    omega (arith, length-append (word_refused ++ fs) (line_feed ∷ []), length-append word_refused fs, length-append (decimal code) (comma ∷ (decimal at ++ [])), length-append (decimal at) [], decimal-most code p, decimal-most at q)

pub rows-most : (hops : ℕ → List ℤ) (c k : ℕ) → ((j : ℕ) → j < k → length (row j (hops j)) ≤ c) → length (rows hops k) ≤ k * c
unfolding rows
rows-most hops c zero h = omega arith
rows-most hops c (suc k) h =
    omega (arith, length-append (rows hops k) (row k (hops k)), h k (omega arith), rows-most hops c k (λ j p. h j (omega arith)))

-- the most bytes that are printed
abbrev pub room : ℕ
room = 262144

-- a header and H rows
pub table-room : (N H : ℕ) → T (tabled N) → H * (N / 2 * 2) ≤ limit → 7 * (N / 2) + 4 + H * (7 * (N / 2) + 5) ≤ room
table-room N H t h =
    let l = tabled_length N t in
    let m = N / 12 in
    let e : N / 2 ≡ 6 * m = omega (arith, l.twelve) in
    let few : m ≤ 18 = omega (arith, l.most) in
    let some : 1 ≤ m = omega (arith, l.twelve, l.some) in
    rw e (go m few some (rw e at h))
  where
    -- by the multiples of 12: H × 12m bytes at least for the hops
    go : (m : ℕ) → m ≤ 18 → 1 ≤ m → H * (6 * m * 2) ≤ limit → 7 * (6 * m) + 4 + H * (7 * (6 * m) + 5) ≤ room
    go m few some h = omega (arith, mul-le-mul_left H some)
