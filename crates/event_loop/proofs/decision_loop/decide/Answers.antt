use Rattle.std.proofs.Common.{ℕ, ◌<◌, subst}
use Rattle.cube_split.specs.Pairs.{IsBaseWith}
use Rattle.dimacs.specs.logic.Cnf.{Cnf}
use Rattle.event_loop.proofs.decision_loop.decide.Goals as goal

pub decide_of-requires-clause-inside : goal.decide_of-requires-clause-inside
decide_of-requires-clause-inside g c = λ B base.
    let is = c.in_ok-opened.ensures in
    c.requires.inside B (subst (λ (F : Cnf). IsBaseWith F c.args.plan.now.defs B) is.formula (subst (λ (n : ℕ). IsBaseWith c.in_ok-opened.opened.formula n B) is.wanted base))

pub decide_of-requires-clause-narrow : goal.decide_of-requires-clause-narrow
decide_of-requires-clause-narrow g c = λ more. c.requires.narrow (subst (λ (F : Cnf). 1000000 < F.vars) c.in_ok-opened.ensures.formula more)
