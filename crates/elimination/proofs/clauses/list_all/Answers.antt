use Rattle.std.proofs.Common.{◌+◌, ◌*◌, ◌∙◌, ap, arith}
use Rattle.elimination.specs.inner.Indexed.{lists_in}
use Rattle.elimination.proofs.IndexLemmas.{list_of_none, list_of_step, some_by}
use Rattle.elimination.proofs.clauses.list_all.Goals as goal

pub loop-i-init : goal.loop-i-init
loop-i-init c =
    list_of_none c.args.all.now.vars c.in_ok-occurs.occurs.items (c.in_ok-occurs.ensures.len ∙ ap (λ n. 2 * n + 2) c.vars.ensures.value) c.in_ok-occurs.ensures.empty

pub loop-i-preserved : goal.loop-i-preserved
loop-i-preserved c =
    let C = c.clause-clause.result.now in
    list_of_step c.args.all.now c.loop-i.i C (lists_in c.loop-i.occurs.items) (lists_in c.list_clause.new.occurs.items) (omega arith) c.clause-clause.ensures.clause
    (some_by C c.is_empty.result c.is_empty.ensures c.if-is_empty.false) c.loop-i.invariant c.in_ok-list_clause.ensures
