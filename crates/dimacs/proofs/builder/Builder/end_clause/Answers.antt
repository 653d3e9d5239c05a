use Rattle.std.proofs.Common.{arith, length, ap}
use Rattle.dimacs.specs.layout.BuilderState.{BuilderState}
use Rattle.dimacs.proofs.FlatLemmas.{length_parts}
use Rattle.dimacs.proofs.BuilderLemmas.{builder_end, laid_end}
use Rattle.dimacs.proofs.builder.Builder.end_clause.Goals as goal

pub invariant_of-self-2 : goal.invariant_of-self-2
invariant_of-self-2 c =
    let b = c.self.inside in
    let done = ap (λ (s : BuilderState). length s.done) c.self.view_is in
    let n = length_parts b.literals.items b.places.items in
    laid_end b.literals.items b.places.items c.push.new.self.items b.greatest c.len-end.result c.self.invariant
    (omega (arith, c.requires, b.places.ok.0)) (omega (arith, b.literals.ok.0)) c.in_ok-push.ensures.items

pub returns-clause-ok : goal.returns-clause-ok
returns-clause-ok c =
    let b = c.self.inside in
    let end = c.len-end.ensures in
    rw (← c.self.view_is) (builder_end _ b.literals.items b.places.items c.push.new.self.items b.literals.ok.0 (rw (← end) c.in_ok-push.ensures.items) (rw (b.literals.ok.0) c.self.invariant.rise))
