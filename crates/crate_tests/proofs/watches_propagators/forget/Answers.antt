use Rattle.std.proofs.Common.{ap, ◌∙◌}
use Rattle.std.specs.FinMap as fin
use Rattle.clause_arena.specs.Clauses.{Clauses}
use Rattle.watches.proofs.Added.{still}
use Rattle.crate_tests.proofs.watches_propagators.forget.Goals as goal

pub returns : goal.returns
returns g c = g.met.P.Propagator.elsewhere c.detach.new.self c.args.arena.now c.remove.new.self c.args.trail.now (c.detach.ensures.ready c.args.trail.now c.requires.ready)
    (λ n i. ap (λ (m : Clauses). fin.get m n) c.remove.ensures ∙ still c.args.arena.now c.in-Some.at.number n ((c.detach.ensures.attached n).0 i).1)
