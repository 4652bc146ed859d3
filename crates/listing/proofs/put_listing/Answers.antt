-- A refusal's line, or the header and the rows.
use Rattle.std.specs.Prelude.{◌≡◌, refl, List, ℕ, ◌+◌, ◌*◌, ◌/◌, ◌≤◌}
use Rattle.std.proofs.Common.{arith, sym, subst}
use Rattle.cosine.specs.LengthLaws.{tabled_length}
use Rattle.text.specs.Refusal.{refusal}
use Rattle.text.proofs.OutputLaws.{puts_then}
use Rattle.listing.specs.declared.verdict.Fault.{Fault}
use Rattle.listing.specs.declared.verdict.Fault.TheVariants.{Length, Form, Size}
use Rattle.listing.specs.Verdicts.{Verdict, number_of, line_of, refused, taken, verdict}
use Rattle.listing.specs.VerdictLaws.{Taken, verdict-taken}
use Rattle.listing.specs.Listing.{returned_hops, table, listing}
use Rattle.listing.specs.SizeLaws.{room, hops_bytes, header-most, table-room}
use Rattle.listing.proofs.put_listing.Goals as goal

-- a text that is taken
module _ (text : List ℕ) (N H : ℕ) (is : taken N H ≡ verdict text) where
  hops : Taken text N H
  hops = subst (λ (v : Verdict). v.code ≡ 0 → Taken text v.n v.hops) (sym is) (verdict-taken text) refl

  printed : table N H (returned_hops N text) ≡ listing text
  unfolding listing
  printed = rw (← is)

  half_few : N / 2 ≤ 99999
  half_few = omega (arith, (tabled_length N hops.length-tabled).most)

  fits : 7 * (N / 2) + 4 + H * (7 * (N / 2) + 5) ≤ room
  fits = table-room N H hops.length-tabled (hops_bytes hops)

-- a text that is turned away
turned_away : (text : List ℕ) (fault : Fault) → refused (number_of fault) (line_of fault) ≡ verdict text → refusal (number_of fault) (line_of fault) ≡ listing text
unfolding listing
turned_away text Length is = rw (← is)
turned_away text (Form at) is = rw (← is)
turned_away text Size is = rw (← is)

pub put_header-requires : goal.put_header-requires
put_header-requires c = (half_few c.args.input.now c.in-Ok.listing.n c.in-Ok.listing.hops c.in-Ok.ensures, omega (arith, fits c.args.input.now c.in-Ok.listing.n c.in-Ok.listing.hops c.in-Ok.ensures))

pub put_rows-requires : goal.put_rows-requires
put_rows-requires c =
    let text = c.args.input.now in
    let n = c.in-Ok.listing.n in
    let H = c.in-Ok.listing.hops in
    (hops text n H c.in-Ok.ensures, omega (arith, c.put_header.ensures.put.behind, c.put_header.ensures.long, header-most (n / 2) (half_few text n H c.in-Ok.ensures), fits text n H c.in-Ok.ensures))

pub returns-in-Ok : goal.returns-in-Ok
unfolding table
returns-in-Ok c = rw (← (printed c.args.input.now c.in-Ok.listing.n c.in-Ok.listing.hops c.in-Ok.ensures)) (puts_then c.put_header.ensures c.put_rows.ensures)

pub returns-in-Err : goal.returns-in-Err
returns-in-Err c = rw (← (turned_away c.args.input.now c.in-Err.fault c.in-Err.ensures)) (rw (c.number.ensures, c.line.ensures) at c.refusal.ensures.puts)
