use Rattle.std.proofs.Common.{arith, ap}
use Rattle.dimacs.specs.layout.BuilderState.{BuilderState}
use Rattle.dimacs.proofs.BuilderLemmas.{builder_push, laid_push}
use Rattle.dimacs.proofs.builder.Builder.push.Goals as goal

pub invariant_of-self-2 : goal.invariant_of-self-2
invariant_of-self-2 c =
    let b = c.self.inside in
    let total = ap (λ (s : BuilderState). s.total) c.self.view_is in
    laid_push b.literals.items c.push.new.self.items b.places.items c.args.literal b.greatest c.max-self-inside.result c.self.invariant
    (omega (arith, b.literals.ok.0, total, c.requires)) (omega arith) (omega arith) (omega arith) c.in_ok-push.ensures.items

pub returns-clause-ok : goal.returns-clause-ok
returns-clause-ok c =
    let b = c.self.inside in
    rw (← c.self.view_is) (builder_push _ _ b.literals.items c.push.new.self.items b.places.items c.args.literal b.literals.ok.0 c.in_ok-push.ensures.len c.in_ok-push.ensures.items (rw (b.literals.ok.0) c.self.invariant.rise))
