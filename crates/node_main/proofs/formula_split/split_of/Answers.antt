use Rattle.std.proofs.Common.{IfOk, subst}
use Rattle.dimacs.specs.logic.Cnf.{Cnf}
use Rattle.node_main.specs.FormulaSplit.{StaysInside, StaysNarrow}
use Rattle.node_main.proofs.formula_split.split_of.Goals as goal

pub returns-in-Some-clause-inside : goal.returns-in-Some-clause-inside
returns-in-Some-clause-inside c =
    let wanted = c.args.opened.now.definitions.wanted in
    subst (λ (F : Cnf). IfOk c.read_split.result (StaysInside F wanted)) c.formula.ensures (c.read_split.ensures.inside wanted)

pub returns-in-Some-clause-narrow : goal.returns-in-Some-clause-narrow
returns-in-Some-clause-narrow c = subst (λ (F : Cnf). IfOk c.read_split.result (StaysNarrow F)) c.formula.ensures c.read_split.ensures.narrow
