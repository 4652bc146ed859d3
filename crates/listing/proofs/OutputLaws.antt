-- Laws of the whole output: what the code has put into the buffer, by its verdict, is the listing.
use Rattle.std.specs.Prelude.{◌≡◌, List, ℕ, ◌+◌, ◌*◌, ◌/◌, ◌≤◌, length}
use Rattle.std.proofs.Common.{arith}
use borrow.Author.Tests.{eq-eqb, ne_eqb}
use Rattle.cosine.specs.LengthLaws.{tabled_length}
use Rattle.text.specs.Buffers.{Put, Written}
use Rattle.text.specs.BufferLaws.{put_then, put_length, written}
use Rattle.listing.specs.Verdicts.{Verdict}
use Rattle.listing.specs.Verdicts.{verdict}
use Rattle.listing.specs.VerdictLaws.{Taken, verdict-taken}
use Rattle.text.specs.Refusal.{refusal}
use Rattle.listing.specs.Print.{header}
use Rattle.listing.specs.Listing.{returned_hops, rows, table, listing}
use Rattle.listing.specs.SizeLaws.{room, hops_bytes, header-most, table-room}
use Rattle.listing.proofs.RowLaws.{listing-most}

-- v is the verdict on the text, and the buffer has room for whatever is printed
module _ (before text : List ℕ) (v : Verdict) (is : v ≡ verdict text) (fits : room ≡ length before) where
  listed : {after : List ℕ} {r : ℕ} → Put (listing text) before 0 after r → Written (listing text) before after r
  listed p = written (omega (arith, listing-most text)) p

  refused_is : ¬ (v.code ≡ 0) → listing text ≡ refusal v.code v.line
  unfolding listing
  refused_is e = rw (← is, ne_eqb v.code 0 e)

  pub refused-written : ¬ (v.code ≡ 0) → {after : List ℕ} {r : ℕ} → Put (refusal v.code v.line) before 0 after r → Written (listing text) before after r
  refused-written e {after} {r} p = listed (rw (refused_is e) p)

  module _ (e : v.code ≡ 0) where
    pub taken : Taken text v.n v.hops
    taken = let f : (verdict text).code ≡ 0 = rw is at e in rw is (verdict-taken text f)

    taken_is : listing text ≡ table v.n v.hops (returned_hops v.n text)
    unfolding listing
    taken_is = rw (← is, eq-eqb v.code 0 e)

    pub half-few : v.n / 2 ≤ 99999
    half-few = omega (arith, (tabled_length v.n taken.length-tabled).most)

    rows_fit : 7 * (v.n / 2) + 4 + v.hops * (7 * (v.n / 2) + 5) ≤ room
    rows_fit = table-room v.n v.hops taken.length-tabled (hops_bytes taken)

    pub header-room : 0 + (7 * (v.n / 2) + 4) ≤ length before
    header-room = omega (arith, rows_fit)

    module _ {mid : List ℕ} {a : ℕ} (p : Put (header (v.n / 2)) before 0 mid a) where
      pub rows-room : a + v.hops * (7 * (v.n / 2) + 5) ≤ length mid
      rows-room = omega (arith, p.behind, put_length p, header-most (v.n / 2) half-few, rows_fit)

      pub rows_written : {after : List ℕ} {r : ℕ} → Put (rows (returned_hops v.n text) v.hops) mid a after r → Written (listing text) before after r
      unfolding table
      rows_written {after} {r} q = listed (rw taken_is (put_then p q))
