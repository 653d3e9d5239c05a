use Rattle.node_main.proofs.StartLemmas.{started_inside, started_narrow, started_solves}
use Rattle.node_main.proofs.TruthLemmas.{solves_true}
use Rattle.node_main.proofs.commands.solve.run_solve_within.Goals as goal

pub solve_of-requires-clause-inside : goal.solve_of-requires-clause-inside
solve_of-requires-clause-inside g c =
    let at = c.in-Ok-With in
    started_inside c.args.options.now at.field-0 at.opened at.tree at.field-0-is at.ensures.start

pub solve_of-requires-clause-narrow : goal.solve_of-requires-clause-narrow
solve_of-requires-clause-narrow g c =
    let at = c.in-Ok-With in
    started_narrow c.args.options.now at.field-0 at.opened at.tree at.field-0-is at.ensures.start

pub returns-in-Ok-clause-report : goal.returns-in-Ok-clause-report
returns-in-Ok-clause-report g c = λ input given.
    let at = c.in-Ok-With in
    started_solves c.decided.result c.args.limits input _ c.args.options.now at.field-0 at.opened at.tree at.field-0-is (at.ensures.starts input given)
    (c.decided.ensures.decides at.opened.formula c.in-Ok.ensures.right)

pub returns-in-Ok-clause-truth : goal.returns-in-Ok-clause-truth
returns-in-Ok-clause-truth g c = λ input given.
    solves_true c.accepted_proofs_are_sound.ensures c.args.limits input _ c.args.options.now c.decided.result (returns-in-Ok-clause-report g c input given)
