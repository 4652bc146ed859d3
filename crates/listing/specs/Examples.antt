-- Listings and their verdicts, and document 01's example with its lines: computed.
use Rattle.std.specs.Prelude.{◌≡◌, refl, Bool, ◌&&◌, List, [], ◌∷◌, ℕ, ◌<◌, T, eqb, length, get_or}
use Rattle.std.proofs.Common.{eqb→eq}
use Rattle.arithmetic.specs.Lists.{table, every}
use Rattle.arithmetic.specs.TestLaws.{every-at}
use Rattle.cosine.specs.Kernels.{lengths, tabled}
use Rattle.text.specs.Bytes.{ascii}
use Rattle.text.specs.Number.{is_digit, leading_zero, is_natural, natural_from, natural, is_signed, is_number, value, digits_by, decimal, printed}
use Rattle.text.specs.NumberLaws.{and_left, and_right}
use Rattle.text.specs.Lines.{in_front, split, ended, unended, lines, remainder, fields, more, line}
use Rattle.listing.specs.Verdicts.{Verdict}
use Rattle.listing.specs.Hops.{is_sample, is_hop, samples}
use Rattle.listing.specs.Verdicts.{refused, taken, by_hops, by_length, by_lines, verdict, hops_of, hop_of}
use Rattle.text.specs.Refusal.{refusal}
use Rattle.listing.specs.Print.{header, row}
use Rattle.listing.specs.Listing as L
use Rattle.listing.specs.Listing.{rows}

-- ---- verdicts
pub record Example : Type 0 where
  pub text : List ℕ
  pub is : Verdict

infix 10 ◌gives◌
abbrev ◌gives◌ : List ℕ → Verdict → Example
t gives v = record { text = t; is = v }

-- the example of document 01
abbrev pub document : List ℕ
document = ascii "12\n0,0,0,0,0,0\n7,-8,32767,-32768,1,0\n5,5,5,5,5,5\n"

unfoldable pub examples : List Example
examples =
    (document gives taken 12 3) ∷
    (ascii "72\n" gives taken 72 0) ∷
    (ascii "108\n" gives taken 108 0) ∷
    (ascii "216\n" gives taken 216 0) ∷
    -- line 1 is no number, or lacks its line feed
    (ascii "" gives refused 5 1) ∷
    (ascii "\n" gives refused 5 1) ∷
    (ascii "12" gives refused 5 1) ∷
    (ascii "12,12\n" gives refused 5 1) ∷
    (ascii "12\r\n" gives refused 5 1) ∷
    (ascii " 12\n" gives refused 5 1) ∷
    (ascii "012\n" gives refused 5 1) ∷
    (ascii "-0\n" gives refused 5 1) ∷
    (ascii "123456\n" gives refused 5 1) ∷
    -- a well-formed length that is not tabled, whatever stands behind it
    (ascii "-12\n" gives refused 1 1) ∷
    (ascii "0\n" gives refused 1 1) ∷
    (ascii "107\n" gives refused 1 1) ∷
    (ascii "144\n" gives refused 1 1) ∷
    (ascii "217\n" gives refused 1 1) ∷
    (ascii "432\n" gives refused 1 1) ∷
    (ascii "99999\n" gives refused 1 1) ∷
    (ascii "11\nx" gives refused 1 1) ∷
    -- a further line that is no hop
    (ascii "12\n1,2,3,4,5\n" gives refused 5 2) ∷
    (ascii "12\n1,2,3,4,5,6,7\n" gives refused 5 2) ∷
    (ascii "12\n1,2,3,4,5,\n" gives refused 5 2) ∷
    (ascii "12\n1,2,3,4,5,06\n" gives refused 5 2) ∷
    (ascii "12\n1,2,3,4,5,32768\n" gives refused 5 2) ∷
    (ascii "12\n1,2,3,4,5,-32769\n" gives refused 5 2) ∷
    (ascii "12\n\n" gives refused 5 2) ∷
    (ascii "12\n1,2,3,4,5,6" gives refused 5 2) ∷
    (ascii "12\n1,2,3,4,5,6\n1,2,3,4,5,6\n1" gives refused 5 4) ∷
    []

same : Verdict → Verdict → Bool
same v w = eqb v.code w.code && eqb v.line w.line && eqb v.n w.n && eqb v.hops w.hops

same-is : (v w : Verdict) → T (same v w) → v ≡ w
unfolding same
same-is v w t =
    let a = eqb v.code w.code in
    let b = eqb v.line w.line in
    let c = eqb v.n w.n in
    let d = eqb v.hops w.hops in
    let u = and_left (a && b && c) d t in
    let x = and_left (a && b) c u in
    let code = eqb→eq v.code w.code (and_left a b x) in
    let line = eqb→eq v.line w.line (and_right a b x) in
    let n = eqb→eq v.n w.n (and_right (a && b) c u) in
    let hops = eqb→eq v.hops w.hops (and_right (a && b && c) d t) in
    λ i. record { code = code i; line = line i; n = n i; hops = hops i }

right : Example → Bool
right e = same (verdict e.text) e.is

test : T (every right examples)
unfolding every right same examples verdict by_lines by_length by_hops lines remainder split in_front ended unended fields is_sample is_hop is_number value is_signed natural natural_from is_natural leading_zero is_digit tabled lengths
test = tt

-- each line of the table holds
pub examples_hold : (k : ℕ) → k < length examples → verdict (get_or examples k ([] gives refused 0 0)).text ≡ (get_or examples k ([] gives refused 0 0)).is
unfolding right
examples_hold k h =
    let e = get_or examples k ([] gives refused 0 0) in
    same-is (verdict e.text) e.is (every-at right ([] gives refused 0 0) examples test k h)

-- ---- what is printed
pub document-header : header 6 ≡ ascii "hop,s0,s1,s2,s3,s4,s5\n"
unfolding header line more table decimal digits_by
document-header = refl

-- hop 1 of the example as it was read
pub document-row : row 1 (hop_of document 1) ≡ ascii "1,7,-8,32767,-32768,1,0\n"
unfolding row line more printed decimal digits_by hops_of lines split in_front ended samples fields value is_signed natural natural_from
document-row = refl

pub empty_refusal : refusal 5 1 ≡ ascii "refused,5,1\n"
unfolding refusal line more decimal digits_by
empty_refusal = refl

-- ---- document 01's example: its verdict, and its own hops behind the header
pub document-taken : verdict document ≡ taken 12 3
unfolding every verdict by_lines by_length by_hops lines remainder split in_front ended unended fields is_sample is_hop is_number value is_signed natural natural_from is_natural leading_zero is_digit tabled lengths
document-taken = refl

pub document-table : L.table 12 3 (hop_of document) ≡ ascii "hop,s0,s1,s2,s3,s4,s5\n0,0,0,0,0,0,0\n1,7,-8,32767,-32768,1,0\n2,5,5,5,5,5,5\n"
unfolding L.table rows header row line more table printed decimal digits_by hops_of lines split in_front ended samples fields value is_signed natural natural_from
document-table = refl
