use Rattle.receipts.proofs.LawLemmas.{covered_closed}
use Rattle.cover_laws.proofs.TextLogLemmas.{joined}
use Rattle.cover_laws.proofs.laws.covered_leaves_are_joined.Goals as goal

pub returns : goal.returns
returns c = λ F cubes texts files covered are. joined F cubes files (covered_closed F cubes texts files covered are)
