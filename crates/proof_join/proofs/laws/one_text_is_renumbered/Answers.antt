use Rattle.proof_join.proofs.KeptLemmas.{renumbered_once, renumbered_spells}
use Rattle.proof_join.proofs.laws.one_text_is_renumbered.Goals as goal

pub returns-clause-one : goal.returns-clause-one
returns-clause-one c = renumbered_once

pub returns-clause-spelled : goal.returns-clause-spelled
returns-clause-spelled c = renumbered_spells
