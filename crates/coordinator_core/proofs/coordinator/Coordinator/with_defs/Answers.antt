use Rattle.std.proofs.Common.{ℕ, ◌<◌, subst}
use Rattle.cube_split.specs.Pairs.{IsBaseWith}
use Rattle.dimacs.specs.logic.Cnf.{Cnf}
use Rattle.coordinator_core.proofs.coordinator.Coordinator.with_defs.Goals as goal

pub of-requires-2-clause-inside : goal.of-requires-2-clause-inside
of-requires-2-clause-inside c = λ B base.
    let is = c.in_ok-opened.ensures in
    c.requires.inside B (subst (λ (F : Cnf). IsBaseWith F c.args.defs B) is.formula (subst (λ (n : ℕ). IsBaseWith c.in_ok-opened.opened.formula n B) is.wanted base))

pub of-requires-2-clause-narrow : goal.of-requires-2-clause-narrow
of-requires-2-clause-narrow c = λ more. c.requires.narrow (subst (λ (F : Cnf). 1000000 < F.vars) c.in_ok-opened.ensures.formula more)
