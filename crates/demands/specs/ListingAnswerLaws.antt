-- Laws of what the listing program prints: by size, by its first line, by its first faulty line.
use Rattle.std.specs.Prelude.{◌≡◌, ◌≢◌, Bool, List, [], ◌∷◌, ℕ, zero, suc, ◌+◌, ◌/◌, ◌≤◌, ◌<◌, T, length, get_or, ℤ, pos, negsuc}
use Rattle.std.proofs.Math.Path.{refl}
use Rattle.std.proofs.Common.{ap, ◌∙◌, not-suc-le-zero, zero-add, arith}
use Rattle.std.proofs.Math.Bool.{true, false}
use borrow.Author.Tests.{lt-ltb, le-ltb, eq-eqb, ne_eqb}
use Rattle.arithmetic.specs.TestLaws.{is_true, is_false}
use Rattle.cosine.specs.Kernels.{tabled}
use Rattle.text.specs.Number.{is_number, value}
use Rattle.text.specs.Lines.{lines, remainder}
use Rattle.listing.specs.Hops.{digits, is_hop}
use Rattle.listing.specs.Verdicts.{Verdict, limit, refused, taken, by_hops, by_length, by_lines, verdict}
use Rattle.listing.specs.VerdictLaws.{Taken, verdict-taken}
use Rattle.text.specs.Refusal.{refusal}
use Rattle.listing.specs.Listing.{returned_hops, table, listing}
use Rattle.listing.proofs.RowLaws.{listing-most}
use Rattle.demands.specs.Answers.{Tabled, Begun, Hops, Listed, ListingAnswers}

-- ---- the lines behind the first, H₀ hops being read
hops-first : (N H : ℕ) (l : List ℕ) (ls : List (List ℕ)) → Hops N (suc H) (l ∷ ls) → T (is_hop (N / 2) l)
hops-first N H l ls h = h.each 0 (omega arith)

hops-later : (N H : ℕ) (l : List ℕ) (ls : List (List ℕ)) → Hops N (suc H) (l ∷ ls) → Hops N H ls
hops-later N H l ls h = record { each = λ j p. h.each (suc j) (omega arith) }

by-bad : (N H₀ H : ℕ) (ls : List (List ℕ)) (rest : List ℕ) → Hops N H ls → H < length ls → ¬ T (is_hop (N / 2) (get_or ls H [])) → by_hops N H₀ ls rest ≡ refused 5 (H₀ + H + 2)
unfolding by_hops
by-bad N H₀ H [] rest h p n = absurd (not-suc-le-zero p)
by-bad N H₀ zero (l ∷ ls) rest h p n =
    let e : H₀ + 0 + 2 ≡ H₀ + 2 = omega arith in
    let b : is_hop (N / 2) l ≡ false = is_false n in
    rw (b, e)
by-bad N H₀ (suc H) (l ∷ ls) rest h p n =
    let e : H₀ + suc H + 2 ≡ suc H₀ + H + 2 = omega arith in
    let b : is_hop (N / 2) l ≡ true = is_true (hops-first N H l ls h) in
    rw (b, e) (by-bad N (suc H₀) H ls rest (hops-later N H l ls h) (omega arith) n)

by-rest : (N H₀ : ℕ) (ls : List (List ℕ)) (rest : List ℕ) → Hops N (length ls) ls → length rest ≢ 0 → by_hops N H₀ ls rest ≡ refused 5 (H₀ + length ls + 2)
unfolding by_hops
by-rest N H₀ [] rest h n = let e : H₀ + 0 + 2 ≡ H₀ + 2 = omega arith in rw (ne_eqb (length rest) 0 n, e)
by-rest N H₀ (l ∷ ls) rest h n =
    let e : H₀ + suc (length ls) + 2 ≡ suc H₀ + length ls + 2 = omega arith in
    let b : is_hop (N / 2) l ≡ true = is_true (hops-first N (length ls) l ls h) in
    rw (b, e) (by-rest N (suc H₀) ls rest (hops-later N (length ls) l ls h) n)

by_all : (N H₀ : ℕ) (ls : List (List ℕ)) (rest : List ℕ) → Hops N (length ls) ls → length rest ≡ 0 → by_hops N H₀ ls rest ≡ taken N (H₀ + length ls)
unfolding by_hops
by_all N H₀ [] rest h z = let e : H₀ + 0 ≡ H₀ = omega arith in rw (eq-eqb (length rest) 0 z, e)
by_all N H₀ (l ∷ ls) rest h z =
    let e : H₀ + suc (length ls) ≡ suc H₀ + length ls = omega arith in
    let b : is_hop (N / 2) l ≡ true = is_true (hops-first N (length ls) l ls h) in
    rw (b, e) (by_all N (suc H₀) ls rest (hops-later N (length ls) l ls h) z)

-- ---- the verdict
module _ (text : List ℕ) where
  small_verdict : length text ≤ limit → verdict text ≡ by_lines (lines text) (remainder text)
  unfolding verdict
  small_verdict p = rw (le-ltb limit (length text) p)

  begun-verdict : (N : ℕ) (hops : List (List ℕ)) → Begun text N hops → verdict text ≡ by_hops N 0 hops (remainder text)
  unfolding by_lines by_length
  begun-verdict N hops g =
      let b : is_number digits g.first ≡ true = is_true g.number in
      let c : tabled N ≡ true = is_true g.length_is in
      small_verdict g.small ∙ rw (g.are, b, g.named, c)

  refuses : (k l : ℕ) → verdict text ≡ refused (suc k) l → listing text ≡ refusal (suc k) l
  unfolding listing
  refuses k l e = rw (e, ne_eqb (suc k) 0 (λ z. omega arith))

  -- a number that names no tabled length
  untabled : (z : ℤ) (ls : List (List ℕ)) (rest : List ℕ) → ((N : ℕ) → z ≡ pos N → ¬ Tabled N) → by_length z ls rest ≡ refused 1 1
  unfolding by_length
  untabled (pos N) ls rest n = let c : tabled N ≡ false = is_false (n N refl) in rw c
  untabled (negsuc N) ls rest n = refl

  first-line : (first : List ℕ) (hops : List (List ℕ)) → length text ≤ limit → lines text ≡ first ∷ hops → T (is_number digits first) → verdict text ≡ by_length (value first) hops (remainder text)
  unfolding by_lines
  first-line first hops p e t = let b : is_number digits first ≡ true = is_true t in small_verdict p ∙ rw (e, b)

  first-bad : (first : List ℕ) (hops : List (List ℕ)) → length text ≤ limit → lines text ≡ first ∷ hops → ¬ T (is_number digits first) → verdict text ≡ refused 5 1
  unfolding by_lines
  first-bad first hops p e n = let b : is_number digits first ≡ false = is_false n in small_verdict p ∙ rw (e, b)

  none : length text ≤ limit → lines text ≡ [] → verdict text ≡ refused 5 1
  unfolding by_lines
  none p e = small_verdict p ∙ rw e

  too_long : limit < length text → verdict text ≡ refused 6 0
  unfolding verdict
  too_long p = rw (lt-ltb limit (length text) p)

  -- a listing that is taken
  pub taken-verdict : (N : ℕ) (hops : List (List ℕ)) → Listed text N hops → verdict text ≡ taken N (length hops)
  taken-verdict N hops l = begun-verdict N hops l.begun ∙ rw zero-add at (by_all N 0 hops (remainder text) l.each l.ended)

  -- and what is not refused is one
  pub verdict-listed : (verdict text).code ≡ 0 → (N : ℕ) × (hops : List (List ℕ)) × Listed text N hops
  verdict-listed z = by (lines text) refl
    where
      K : Taken text (verdict text).n (verdict text).hops
      K = verdict-taken text z

      number_by : (first : List ℕ) (hops : List (List ℕ)) → lines text ≡ first ∷ hops → (b : Bool) → is_number digits first ≡ b → T b
      number_by first hops e true f = tt
      number_by first hops e false f = absurd (omega (arith, z, ap (λ (v : Verdict). v.code) (first-bad first hops K.small e (λ t. rw f at t))))

      by : (ls : List (List ℕ)) → lines text ≡ ls → (N : ℕ) × (hops : List (List ℕ)) × Listed text N hops
      by [] e = absurd (omega (arith, z, ap (λ (v : Verdict). v.code) (none K.small e)))
      by (first ∷ hops) e =
          let c : length hops ≡ (verdict text).hops = omega (arith, rw e at K.counted) in (
            (verdict text).n,
            hops,
            record {
              begun = record { small = K.small; first = first; are = e; number = number_by first hops e (is_number digits first) refl; named = rw e at K.first; length_is = K.length-tabled };
              each = record { each = λ j p. rw e at (K.hop j (omega (arith, p, c))) };
              ended = K.ended;
            },
          )

  prints : (N H : ℕ) → verdict text ≡ taken N H → listing text ≡ table N H (returned_hops N text)
  unfolding listing
  prints N H e = rw e

  pub listing-answers : ListingAnswers text
  listing-answers = record {
    six = λ p. refuses 5 0 (too_long p);
    five_none = λ p e. refuses 4 1 (none p e);
    five_first = λ p first hops e n. refuses 4 1 (first-bad first hops p e n);
    one = λ p first hops e t n. refuses 0 1 (first-line first hops p e t ∙ untabled (value first) hops (remainder text) n);
    five = λ N H hops g h p n. refuses 4 (H + 2) (begun-verdict N hops g ∙ rw zero-add at (by-bad N 0 H hops (remainder text) h p n));
    five_last = λ N hops g h n. refuses 4 (length hops + 2) (begun-verdict N hops g ∙ rw zero-add at (by-rest N 0 hops (remainder text) h n));
    taken = λ N hops l. prints N (length hops) (taken-verdict N hops l);
    fits = listing-most text;
  }
