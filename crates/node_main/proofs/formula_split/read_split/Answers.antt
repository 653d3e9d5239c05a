use Rattle.std.proofs.Common.{refl}
use Rattle.node_main.proofs.SplitLemmas.{formula_inside, taken_narrow, taken_within, text_within}
use Rattle.node_main.proofs.formula_split.read_split.Goals as goal

pub returns-then-has_clauses_of-clause-splits : goal.returns-then-has_clauses_of-clause-splits
returns-then-has_clauses_of-clause-splits c = (c.in-Ok.found.0, c.in-Ok.found.1, c.in-Ok.ensures.found, c.if-has_clauses_of.ensures.0 refl, c.in_ok-leaves.ensures)

pub returns-then-has_clauses_of-clause-inside : goal.returns-then-has_clauses_of-clause-inside
returns-then-has_clauses_of-clause-inside c = λ defs B base.
    let F = c.args.formula.now in
    let within = text_within c.args.limits F c.in-Ok.found.0 c.args.cubes.now c.in-Ok.found.1 c.vars.ensures.valid c.in-Ok.ensures.found (c.if-has_clauses_of.ensures.0 refl) in
    formula_inside F B defs c.in_ok-leaves.leaves (taken_within F c.in-Ok.found.1 c.in_ok-leaves.leaves c.in_ok-leaves.ensures within) base

pub returns-then-has_clauses_of-clause-narrow : goal.returns-then-has_clauses_of-clause-narrow
returns-then-has_clauses_of-clause-narrow c = taken_narrow c.args.formula.now c.in-Ok.found.1 c.in_ok-leaves.leaves c.in_ok-leaves.ensures
