use Rattle.receipts.proofs.LawLemmas.{covered_closed}
use Rattle.receipts.proofs.laws.covered_leaves_are_closed.Goals as goal

pub returns : goal.returns
returns c = covered_closed
