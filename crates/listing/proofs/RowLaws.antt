-- Laws of size that rest on what is printed of a hop: the rows, the table and the listing have room.
use Rattle.std.specs.Prelude.{◌≡◌, refl, Bool, true, false, cond, List, ℕ, suc, ◌+◌, ◌*◌, ◌/◌, ◌≤◌, ◌<◌, eqb, length}
use Rattle.std.proofs.Common.{mul-le-mul_right, arith, eqb-true}
use Rattle.std.proofs.Math.ListN.{length-append}
use Rattle.arithmetic.specs.Lists.{at}
use Rattle.arithmetic.specs.RoundingLaws.{sample_abs}
use Rattle.cosine.specs.LengthLaws.{tabled_length}
use Rattle.stream.specs.NextLaws.{returned_long}
use Rattle.text.specs.Refusal.{refusal}
use Rattle.listing.specs.Print.{header, row}
use Rattle.listing.specs.Verdicts.{verdict, hops_of}
use Rattle.listing.specs.VerdictLaws.{Taken, verdict-taken, verdict-code, verdict-line}
use Rattle.listing.specs.Listing.{recording, analysed, returned_hops, rows, table, listing}
use Rattle.listing.specs.BankLaws.{returned-sample}
use Rattle.listing.specs.SizeLaws.{room, table-room, row-most, rows-most, refusal-most, header-most, hops-most, hops_bytes}

module _ {text : List ℕ} {N H : ℕ} (K : Taken text N H) where
  -- the row of a hop
  taken-row : (j : ℕ) → j < H → length (row j (returned_hops N text j)) ≤ 7 * (N / 2) + 5
  taken-row j p =
      let h = returned_hops N text j in
      let l = returned_long N (analysed N (recording (hops_of text))) (suc j) in
      omega (
        arith,
        l,
        row-most j h (omega (arith, hops-most K))
            (λ i r. omega (arith, sample_abs (returned-sample N (analysed N (recording (hops_of text))) (suc j) i (omega (arith, l))))),
      )

  -- behind the rows of the first k hops there is room for another
  pub row_room : (k from at most : ℕ) → k < H → at ≡ from + length (rows (returned_hops N text) k) → from + H * (7 * (N / 2) + 5) ≤ most → at + (7 * (N / 2) + 5) ≤ most
  row_room k from at most p is h =
      let c = 7 * (N / 2) + 5 in
      let l = rows-most (returned_hops N text) c k (λ j q. taken-row j (omega arith)) in
      let m : suc k * c ≤ H * c = mul-le-mul_right c p in
      omega arith

  taken-most : length (table N H (returned_hops N text)) ≤ room
  unfolding table
  taken-most =
      let f = returned_hops N text in
      omega (arith, length-append (header (N / 2)) (rows f H), header-most (N / 2) (omega (arith, (tabled_length N K.length-tabled).most)), rows-most f (7 * (N / 2) + 5) H taken-row, table-room N H K.length-tabled (hops_bytes K))

-- whatever the text is
pub listing-most : (text : List ℕ) → length (listing text) ≤ room
unfolding listing
listing-most text = go (eqb (verdict text).code 0) refl
  where
    taken : List ℕ
    taken = table (verdict text).n (verdict text).hops (returned_hops (verdict text).n text)

    go : (b : Bool) → eqb (verdict text).code 0 ≡ b → length (cond b taken (refusal (verdict text).code (verdict text).line)) ≤ room
    go true e = taken-most (verdict-taken text (eqb-true (verdict text).code 0 e))
    go false e = omega (arith, refusal-most (verdict text).code (verdict text).line (omega (arith, verdict-code text)) (omega (arith, verdict-line text)))
