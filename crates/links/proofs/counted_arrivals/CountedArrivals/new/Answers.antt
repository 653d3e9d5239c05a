use Rattle.links.proofs.CountLemmas.{same_everywhere}
use Rattle.links.proofs.counted_arrivals.CountedArrivals.new.Goals as goal

pub returns-clause-links : goal.returns-clause-links
returns-clause-links g c p = same_everywhere 0 256 p

pub returns-clause-refusals : goal.returns-clause-refusals
returns-clause-refusals g c p = same_everywhere 0 256 p
