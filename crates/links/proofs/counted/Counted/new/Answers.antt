use Rattle.links.proofs.CountLemmas.{same_everywhere}
use Rattle.links.proofs.counted.Counted.new.Goals as goal

pub returns-clause-refused : goal.returns-clause-refused
returns-clause-refused g c p = same_everywhere 0 65 p
