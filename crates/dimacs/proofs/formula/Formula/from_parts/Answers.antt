use Rattle.std.proofs.Common.{refl, arith, length, ◌∙◌}
use Rattle.dimacs.specs.logic.Cnf.{Cnf, IsFormula, IsBase}
use Rattle.dimacs.specs.layout.Flat.{parts}
use Rattle.dimacs.proofs.FormulaLemmas.{is_formula}
use Rattle.dimacs.proofs.formula.Formula.from_parts.Goals as goal

wide : (f : Cnf) → IsFormula f → IsBase f
wide f h = record { vars = omega (arith, h.vars); clauses = omega (arith, h.clauses); literals = omega (arith, h.literals); within = h.within }

pub from_parts-requires-clause-valid : goal.from_parts-requires-clause-valid
from_parts-requires-clause-valid c =
    let f : Cnf = record { vars = c.args.vars; clauses = parts c.args.literals.items c.args.places.items } in
    wide f (is_formula c.args.vars (length c.args.literals.items) c.args.literals.items c.args.places.items refl c.requires.limit c.requires.places.rise (omega (arith, c.requires.count, c.args.places.ok.0)) (omega (arith, c.requires.total, c.args.literals.ok.0)) c.requires.within)

pub invariant_of-result : goal.invariant_of-result
invariant_of-result c =
    rw (c.in_ok-base.ensures.ok ∙ c.from_parts.ensures) (is_formula c.args.vars (length c.args.literals.items) c.args.literals.items c.args.places.items refl c.requires.limit c.requires.places.rise (omega (arith, c.requires.count, c.args.places.ok.0)) (omega (arith, c.requires.total, c.args.literals.ok.0)) c.requires.within)
