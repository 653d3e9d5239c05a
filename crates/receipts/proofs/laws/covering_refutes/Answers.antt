use Rattle.receipts.proofs.LawLemmas.{covering}
use Rattle.receipts.proofs.laws.covering_refutes.Goals as goal

pub returns : goal.returns
returns c = covering
