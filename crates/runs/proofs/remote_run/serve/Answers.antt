use Rattle.std.proofs.Common.{ℕ, ◌<◌, subst}
use Rattle.cube_split.specs.Pairs.{IsBaseWith}
use Rattle.dimacs.specs.logic.Cnf.{Cnf}
use Rattle.runs.proofs.remote_run.serve.Goals as goal

pub serve_of-requires-clause-inside : goal.serve_of-requires-clause-inside
serve_of-requires-clause-inside g c = λ B base.
    let is = c.in_ok-opened.ensures in
    c.requires.inside B (subst (λ (F : Cnf). IsBaseWith F c.args.plan.now.defs B) is.formula (subst (λ (n : ℕ). IsBaseWith c.in_ok-opened.opened.formula n B) is.wanted base))

pub serve_of-requires-clause-narrow : goal.serve_of-requires-clause-narrow
serve_of-requires-clause-narrow g c = λ more. c.requires.narrow (subst (λ (F : Cnf). 1000000 < F.vars) c.in_ok-opened.ensures.formula more)
