use Rattle.dimacs.specs.logic.Limits.{written}
use Rattle.dimacs.proofs.SpellingLemmas.{written_is_large}
use Rattle.node_main.proofs.StartLemmas.{read_works, spelled}
use Rattle.node_main.proofs.TruthLemmas.{works_true}
use Rattle.node_main.proofs.commands.work.run_work_of.Goals as goal

pub returns-in-Ok-work-clause-report : goal.returns-in-Ok-work-clause-report
returns-in-Ok-work-clause-report g c = λ input given.
    read_works c.decided.result written input c.args.options.now c.in-Ok.formula (spelled written input c.args.found c.in-Ok.formula written_is_large c.in-Ok.is given)
    (c.decided.ensures.decides c.in-Ok.formula c.in-Ok-work.ensures.right)

pub returns-in-Ok-work-clause-truth : goal.returns-in-Ok-work-clause-truth
returns-in-Ok-work-clause-truth g c = λ input given.
    works_true c.accepted_proofs_are_sound.ensures written input c.args.options.now c.decided.result (returns-in-Ok-work-clause-report g c input given)
