use Rattle.node_main.proofs.StartLemmas.{opened_starts}
use Rattle.node_main.proofs.start.begin_within.Goals as goal

pub returns-in-By-clause-start : goal.returns-in-By-clause-start
returns-in-By-clause-start c =
    let split = c.in_ok-tree in
    opened_starts c.args.options.now c.in_ok-opened.opened split.field-0 c.in-By.tree c.in-By.is c.in_ok-opened.ensures.wanted split.ensures.inside split.ensures.narrow
