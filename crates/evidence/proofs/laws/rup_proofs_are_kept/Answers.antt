use Rattle.evidence.proofs.KeptVerdictLemmas.{rup_kept}
use Rattle.evidence.proofs.laws.rup_proofs_are_kept.Goals as goal

pub returns : goal.returns
returns c = rup_kept
