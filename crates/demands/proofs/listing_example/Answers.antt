use Rattle.demands.proofs.ListingLaws.{document-listing}
use Rattle.demands.proofs.listing_example.Goals as goal

pub returns : goal.returns
returns c = document-listing
