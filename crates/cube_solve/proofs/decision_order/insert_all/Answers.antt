use Rattle.std.proofs.Common.{◌≡◌, ap, sym, subst, true}
use Rattle.decide_heap.specs.Decisions.{Decisions, is_in}
use Rattle.cube_solve.proofs.DecisionOrderLemmas.{inserted_more, member_kept}
use Rattle.cube_solve.proofs.decision_order.insert_all.Goals as goal

pub loop-literal-preserved : goal.loop-literal-preserved
loop-literal-preserved c =
    let e = c.insert.ensures in
    inserted_more c.args.clause.now c.loop-literal.literal-index c.literal-item.result c.args.heap.now c.loop-literal.heap c.insert.new.self c.loop-literal-test.true c.literal-item.is c.loop-literal.invariant
    (ap (λ (d : Decisions). d.vars) e.member) (λ v h. subst (λ (d : Decisions). is_in d v ≡ true) (sym e.member) (member_kept c.loop-literal.heap c.var.result v h))
    (subst (λ n. is_in c.insert.new.self n ≡ true) c.var.ensures e.inside)
