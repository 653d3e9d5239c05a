use Rattle.proof_lift.proofs.SoundLemmas.{texts_close}
use Rattle.proof_lift.proofs.laws.lifted_texts_close.Goals as goal

pub returns : goal.returns
returns c = texts_close
