use Rattle.dimacs.specs.logic.Limits.{written}
use Rattle.proof_check.proofs.CheckLemmas.{verified_true}
use Rattle.proof_check.proofs.text_check.run_check.Goals as goal

pub returns-clause-truth : goal.returns-clause-truth
returns-clause-truth c = verified_true c.accepted_proofs_are_sound.ensures written c.args.input.now c.args.proof.now c.check_text.result c.check_text.ensures
