use Rattle.std.proofs.Common.{ap, subst, ◌∙◌, sym}
use Rattle.dimacs.specs.layout.BuilderState.{BuilderState}
use Rattle.dimacs.specs.logic.Cnf.{AreWithin}
use Rattle.dimacs.proofs.BuilderLemmas.{closed_fills, closed_within}
use Rattle.dimacs.proofs.builder.Builder.finish_extension.Goals as goal

pub from_parts-requires-clause-within : goal.from_parts-requires-clause-within
from_parts-requires-clause-within c =
    let b = c.self.inside in
    let closed = ap (λ (s : BuilderState). s.open_clause) c.self.view_is ∙ c.requires.closed in
    let within = subst (λ (s : BuilderState). AreWithin c.args.vars s.done) (sym c.self.view_is) c.requires.within in
    closed_within b.literals.items b.places.items b.greatest c.args.vars c.self.invariant closed within

pub from_parts-requires-clause-places : goal.from_parts-requires-clause-places
from_parts-requires-clause-places c =
    let b = c.self.inside in
    closed_fills b.literals.items b.places.items b.greatest c.self.invariant (ap (λ (s : BuilderState). s.open_clause) c.self.view_is ∙ c.requires.closed)
