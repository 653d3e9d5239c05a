use Rattle.dimacs.specs.logic.Limits.{written}
use Rattle.node_main.proofs.StartLemmas.{started_inside, started_narrow, started_solves}
use Rattle.node_main.proofs.TruthLemmas.{solves_true}
use Rattle.node_main.proofs.commands.serve.run_serve_from.Goals as goal

pub serve_of-requires-clause-inside : goal.serve_of-requires-clause-inside
serve_of-requires-clause-inside g c =
    let at = c.in-With in
    started_inside c.args.options.now c.args.start at.opened at.tree at.is c.requires.start

pub serve_of-requires-clause-narrow : goal.serve_of-requires-clause-narrow
serve_of-requires-clause-narrow g c =
    let at = c.in-With in
    started_narrow c.args.options.now c.args.start at.opened at.tree at.is c.requires.start

pub returns-in-Ok-clause-report : goal.returns-in-Ok-clause-report
returns-in-Ok-clause-report g c = λ input cubes starts.
    let at = c.in-With in
    started_solves c.decided.result written input cubes c.args.options.now c.args.start at.opened at.tree at.is starts
    (c.decided.ensures.decides at.opened.formula c.in-Ok.ensures.right)

pub returns-in-Ok-clause-truth : goal.returns-in-Ok-clause-truth
returns-in-Ok-clause-truth g c = λ input cubes starts.
    solves_true c.accepted_proofs_are_sound.ensures written input cubes c.args.options.now c.decided.result (returns-in-Ok-clause-report g c input cubes starts)
