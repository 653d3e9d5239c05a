use Rattle.std.proofs.Common.{◌≡◌, ◌-◌, subst, arith}
use Rattle.std.specs.FinMap.{insert}
use Rattle.cube_solve.specs.Session.{last_of}
use Rattle.cell_worker.specs.inner.KeptSession.{KnowsAll}
use Rattle.cell_worker.proofs.KeptLemmas.{knows_given, knows_skipped}
use Rattle.cell_worker.proofs.kept_session.give_as.Goals as goal

pub returns-clause-known : goal.returns-clause-known
returns-clause-known g c = λ M h.
    let s = c.args.search.now in
    let u = c.skip_to.new.self in
    let w = c.give.new.self in
    let number = c.args.number in
    let C = c.args.clause.now in
    let above = c.requires.above in
    let at = c.in_ok-skip_to.ensures.last in
    let next = c.in_ok-give.ensures.last in
    let is : last_of w ≡ number = omega arith in
    subst (λ n. KnowsAll (insert M n C) w) is (knows_given M C u w next c.in_ok-give.ensures.known (knows_skipped M s u (number - 1) at c.in_ok-skip_to.ensures.known h))
