-- The listing returns its own hops, `listing_returns`: what follows from demand 3 with unchanged coefficients. So each line behind the first comes back
-- as it was, behind its number, `row_returns`. Document 01's example is `document-listing`.
use Rattle.std.specs.Prelude.{◌≡◌, refl, List, [], ◌∷◌, ◌++◌, map, ℕ, zero, suc, ◌+◌, ◌-◌, ◌/◌, ◌≤◌, ◌<◌, T, eqb, length, get_or, ℤ, pos}
use Rattle.std.proofs.Common.{sym, ap, ◌∙◌, arith, length-append, get_or-append-add, ext_get_or, eq-eqb}
use Rattle.std.proofs.Math.Decide.{dec_lt}
use Rattle.std.proofs.Math.ListN.{get_or-append}
use Rattle.arithmetic.specs.Lists.{at, every}
use Rattle.arithmetic.specs.TestLaws.{both_left, both_right}
use Rattle.arithmetic.specs.Rounding.{Sample}
use Rattle.cosine.specs.Kernels.{tabled}
use Rattle.analysis.specs.declared.Route.{Route}
use Rattle.analysis.specs.declared.Route.TheVariants.{Direct}
use Rattle.analysis.specs.Analysis.{offered, coefficients}
use Rattle.stream.specs.Steps.{returned}
use Rattle.stream.specs.NextLaws.{returned_long, returned-at}
use Rattle.recording.specs.Recordings.{block}
use Rattle.text.specs.Bytes.{line_feed, comma, ascii}
use Rattle.text.specs.Number.{value, decimal, printed}
use Rattle.text.specs.NumberLaws.{and_right, printed_only}
use Rattle.text.specs.Lines.{lines, fields, line}
use Rattle.text.specs.LineLaws.{more-fields}
use Rattle.listing.specs.Verdicts.{Verdict, verdict, hops_of, hop_of}
use Rattle.listing.specs.Hops.{digits, is_sample, is_hop, samples}
use Rattle.listing.specs.VerdictLaws.{Taken, verdict-taken}
use Rattle.listing.specs.HopLaws.{sample-number, hops-counted, hops-at}
use Rattle.listing.specs.Print.{row}
use Rattle.listing.specs.Listing.{recording, analysed, returned_hops, rows, table, listing}
use Rattle.listing.specs.BankLaws.{Hops, hops-more, recording_long, recording-at, blocks, coefficients_long}
use Rattle.listing.specs.SizeLaws.{taken-hops}
use Rattle.listing.specs.Examples.{document, document-taken, document-table}
use Rattle.demands.specs.Steps.{Recording, Brought}
use Rattle.demands.proofs.RecordingLaws.{back-same}
use Rattle.demands.proofs.UnchangedLaws.{unchanged}

recording-sample : (M : ℕ) (hs : List (List ℤ)) → Hops M hs → (i : ℕ) → i < length (recording hs) → Sample (at (recording hs) i)
unfolding recording
recording-sample M [] a i p = absurd (omega arith)
recording-sample M (h ∷ hs) a i p = go (dec_lt i (length h)) (recording-sample M hs (hops-more M h hs a))
  where
    go : Dec (i < length h) → ((i : ℕ) → i < length (recording hs) → Sample (at (recording hs) i)) → Sample (at (h ++ recording hs) i)
    go (yes q) ih = rw (get_or-append h (recording hs) (pos 0) i q) (a.sample 0 i (omega arith) (omega (arith, a.long 0 (omega arith))))
    go (no q) ih =
        let k = i - length h in
        let e : i ≡ length h + k = omega arith in
        rw (ap (at (h ++ recording hs)) e ∙ get_or-append-add h (recording hs) k (pos 0)) (ih k (omega (arith, length-append h (recording hs))))

-- ---- the bank on hops of M samples
module _ (N : ℕ) (t : T (tabled N)) (hs : List (List ℤ)) (a : Hops (N / 2) hs) where
  abbrev x : List ℤ
  x = recording hs

  recorded : 1 ≤ length hs → Recording N (length hs) x
  recorded h = record { hops = h; long = recording_long (N / 2) hs a; sample = recording-sample (N / 2) hs a }

  -- every block is brought as it was analysed
  abbrev routes : ℕ → Route
  routes b = Direct

  brought : (b : ℕ) → b ≤ length hs → Brought N (length hs) (λ b. 0) routes x b 0 0 (analysed N x b)
  unfolding analysed offered
  brought b p = record {
    exists = p;
    offers = t;
    long = coefficients_long N t (block N x b) (blocks N t hs a b p);
    near = λ k q. unchanged (at (coefficients Direct N 0 0 (block N x b)) k);
  }

  -- so the step of block b + 1 returns the hop b that was read
  returned-is : (b : ℕ) → b < length hs → returned N (analysed N x) (suc b) ≡ get_or hs b []
  returned-is b p = ext_get_or (pos 0) (returned N (analysed N x) (suc b)) (get_or hs b []) (long ∙ sym (a.long b p)) (λ n q. same n (omega (arith, long)))
    where
      long : length (returned N (analysed N x) (suc b)) ≡ N / 2
      long = returned_long N (analysed N x) (suc b)

      same : (n : ℕ) → n < N / 2 → at (returned N (analysed N x) (suc b)) n ≡ at (get_or hs b []) n
      same n q =
          returned-at N (analysed N x) b n q
          ∙ back-same N t (length hs) x (recorded (omega arith)) (λ b. 0) routes b 0 0 0 (analysed N x b) (analysed N x (suc b)) (brought b (omega arith)) (brought (suc b) p) (omega arith) (omega arith) refl refl n q
          ∙ recording-at (N / 2) hs a b n p q

-- ---- the listing
rows_same : (f g : ℕ → List ℤ) (k : ℕ) → ((j : ℕ) → j < k → f j ≡ g j) → rows f k ≡ rows g k
unfolding rows
rows_same f g zero h = refl
rows_same f g (suc k) h = rw (rows_same f g k (λ j p. h j (omega arith)), h k (omega arith))

-- every listing that is taken comes back: the header, then each hop's number with the samples of its own line
pub listing_returns : (text : List ℕ) → (verdict text).code ≡ 0 → listing text ≡ table (verdict text).n (verdict text).hops (hop_of text)
unfolding listing table
listing_returns text e =
    let K = verdict-taken text e in
    let N = (verdict text).n in
    let hs = hops_of text in
    rw (
      eq-eqb (verdict text).code 0 e,
      rows_same (returned_hops N text) (hop_of text) (verdict text).hops (λ j p. returned-is N K.length-tabled hs (taken-hops K) j (omega (arith, hops-counted K))),
    )

-- ---- a hop's row, in the bytes of its line: a well-formed number is printed as it was
printed-all : (fs : List (List ℕ)) → T (every is_sample fs) → map printed (map value fs) ≡ fs
unfolding every
printed-all [] t = refl
printed-all (f ∷ fs) t =
    let p = printed_only digits f (sample-number f (both_left (is_sample f) (every is_sample fs) t)) in
    let ps = printed-all fs (both_right (is_sample f) (every is_sample fs) t) in
    cc

pub row_returns : {text : List ℕ} {N H : ℕ} → Taken text N H → (j : ℕ) → j < H →
    row j (hop_of text j) ≡ decimal j ++ (comma ∷ get_or (lines text) (suc j) []) ++ (line_feed ∷ [])
unfolding row line samples is_hop
row_returns {text} {N} K j h =
    let l = get_or (lines text) (suc j) [] in
    let t = and_right (eqb (length (fields l)) (N / 2)) (every is_sample (fields l)) (K.hop j h) in
    rw (hops-at K j h, printed-all (fields l) t, more-fields l)

-- ---- the whole of document 01's example
pub document-listing : listing document ≡ ascii "hop,s0,s1,s2,s3,s4,s5\n0,0,0,0,0,0,0\n1,7,-8,32767,-32768,1,0\n2,5,5,5,5,5,5\n"
document-listing = listing_returns document (ap (λ (v : Verdict). v.code) document-taken) ∙ rw document-taken document-table
