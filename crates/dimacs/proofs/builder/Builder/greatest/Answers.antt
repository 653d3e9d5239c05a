use Rattle.std.proofs.Common.{ap, max, ◌∙◌}
use Rattle.dimacs.specs.layout.BuilderState.{BuilderState}
use Rattle.dimacs.specs.logic.Cnf.{greatest_of, greatest_in}
use Rattle.dimacs.specs.logic.Literal.{IsWithin}
use Rattle.dimacs.proofs.BuilderLemmas.{greatest_is}
use Rattle.dimacs.proofs.FormulaLemmas.{parts_within}
use Rattle.dimacs.proofs.builder.Builder.greatest.Goals as goal

pub returns-clause-value : goal.returns-clause-value
returns-clause-value c =
    let b = c.self.inside in
    greatest_is b.literals.items b.places.items b.greatest c.self.invariant
    ∙ ap (λ (s : BuilderState). max (greatest_in s.done) (greatest_of s.open_clause)) c.self.view_is

pub returns-clause-within : goal.returns-clause-within
returns-clause-within c =
    let b = c.self.inside in
    rw (← c.self.view_is) (parts_within (IsWithin b.greatest) b.literals.items b.places.items c.self.invariant.within)

pub returns-clause-limit : goal.returns-clause-limit
returns-clause-limit c = c.self.invariant.limit
