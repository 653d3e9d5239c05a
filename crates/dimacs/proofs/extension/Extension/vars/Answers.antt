use Rattle.dimacs.specs.logic.Literal.{IsWithin}
use Rattle.dimacs.proofs.FormulaLemmas.{parts_within}
use Rattle.dimacs.proofs.extension.Extension.vars.Goals as goal

pub returns-clause-within : goal.returns-clause-within
returns-clause-within c =
    let x = c.self.inside in
    rw (← c.self.view_is) (parts_within (IsWithin x.vars) x.literals.items x.places.items c.self.invariant.1)
