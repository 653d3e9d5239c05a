use Rattle.lrat_check.proofs.Sound.{refuted_sound}
use Rattle.proof_check.proofs.laws.accepted_binary_proofs_are_sound.Goals as goal

pub returns : goal.returns
returns c = λ F bytes accepted. refuted_sound F accepted.0 accepted.2
