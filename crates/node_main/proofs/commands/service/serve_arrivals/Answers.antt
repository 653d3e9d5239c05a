use Rattle.dimacs.specs.logic.Limits.{written}
use Rattle.node_main.proofs.ServiceLemmas.{serving_solves, serving_true}
use Rattle.node_main.proofs.StartLemmas.{started_inside, started_narrow}
use Rattle.node_main.proofs.commands.service.serve_arrivals.Goals as goal

pub decide_arrivals-requires-clause-inside : goal.decide_arrivals-requires-clause-inside
decide_arrivals-requires-clause-inside g c =
    let at = c.in-With in
    started_inside c.args.options.now c.args.start at.opened at.tree at.is c.requires.start

pub decide_arrivals-requires-clause-narrow : goal.decide_arrivals-requires-clause-narrow
decide_arrivals-requires-clause-narrow g c =
    let at = c.in-With in
    started_narrow c.args.options.now c.args.start at.opened at.tree at.is c.requires.start

pub returns-clause-report : goal.returns-clause-report
returns-clause-report g c = λ input cubes starts.
    let at = c.in-With in
    serving_solves c.decide_arrivals.result written input cubes c.args.options.now c.args.start at.opened at.tree at.is starts c.decide_arrivals.ensures.decides

pub returns-clause-truth : goal.returns-clause-truth
returns-clause-truth g c = λ input cubes starts.
    serving_true c.accepted_proofs_are_sound.ensures written input cubes c.args.options.now c.decide_arrivals.result (returns-clause-report g c input cubes starts)
