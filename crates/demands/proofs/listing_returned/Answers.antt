use Rattle.demands.proofs.ListingLaws.{listing_returns, row_returns}
use Rattle.demands.proofs.listing_returned.Goals as goal

pub returns : goal.returns
returns c = record { listed = listing_returns; row_is = row_returns }
