use Rattle.commands.proofs.DecideLemmas.{all_told_true}
use Rattle.commands.proofs.decide.decide_files.Goals as goal

pub returns-clause-truth : goal.returns-clause-truth
returns-clause-truth g c =
    all_told_true c.accepted_proofs_are_sound.ensures c.args.limits c.vars.ensures.valid c.args.files.now _ _ c.read_and_decide.result c.read_and_decide.ensures.tells
