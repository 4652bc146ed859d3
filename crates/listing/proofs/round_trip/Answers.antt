use Rattle.std.proofs.Common.{arith}
use Rattle.text.specs.BufferLaws.{written}
use Rattle.listing.proofs.RowLaws.{listing-most}
use Rattle.listing.proofs.round_trip.Goals as goal

pub returns : goal.returns
returns c = written (omega (arith, listing-most c.args.input.now)) c.put_listing.ensures.put
