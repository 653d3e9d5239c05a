use Rattle.std.proofs.Common.{◌≡◌, ◌+◌, List, [], ◌∷◌, ◌++◌, arith, rules, subst, sym, ap, ◌∙◌}
use Rattle.dimacs.specs.logic.Cnf.{Cnf}
use Rattle.cube_split.specs.Pairs.{IsBaseWith}
use Rattle.worker_core.specs.Worker.{WorkerState}
use Rattle.honest_cluster.specs.ClosedSchedule.{first_worker}
use Rattle.cluster.specs.inner.Members.{new_workers}
use Rattle.cluster.proofs.MemberLemmas.{new_workers_more, same_base, same_worker}
use Rattle.cluster.proofs.members.workers_of.Goals as goal

pub loop-i-preserved : goal.loop-i-preserved
loop-i-preserved c = λ d defined wanted.
    let F : Cnf = c.args.formula.now in
    let w : WorkerState = c.in_ok-worker.worker in
    let made = c.in_ok-worker.ensures in
    let items : c.push.new.self.items ≡ c.loop-i.workers.items ++ w ∷ [] = search rules in
    let of_formula : IsBaseWith F c.args.defs made.0 = subst (λ (G : Cnf). IsBaseWith G c.args.defs made.0) c.in_ok-formula.ensures made.1 in
    let last : w ≡ first_worker F d (c.loop-i.i + 1) =
    made.2 ∙ same_worker _ _ _ _ _ _ _ _ _ _ c.in_ok-formula.ensures c.new-number.ensures (omega (arith, c.from-incarnation.ensures)) (sym wanted)
    (same_base c.definitions_are_settled.ensures.pairs F made.0 c.args.defs d of_formula defined wanted) in
    items ∙ ap (λ (ws : List WorkerState). ws ++ w ∷ []) (c.loop-i.invariant d defined wanted) ∙ ap (λ (v : WorkerState). new_workers F d c.loop-i.i ++ v ∷ []) last
    ∙ sym (new_workers_more F d c.loop-i.i)
