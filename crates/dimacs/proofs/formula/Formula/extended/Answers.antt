use Rattle.std.proofs.Common.{◌≡◌, subst}
use Rattle.std.specs.Prelude.{IfOk, MatchOption, OnErr}
use Rattle.dimacs.specs.logic.Cnf.{FitsIn, IsFormula}
use Rattle.dimacs.specs.logic.Extension.{extended}
use Rattle.dimacs.specs.logic.Limits.{Limits}
use Rattle.dimacs.proofs.formula.Formula.extended.Goals as goal

pub returns-clause-found : goal.returns-clause-found
returns-clause-found c =
    subst (λ (L : Limits). IfOk c.extended_within.result (λ found. MatchOption found
    (¬ (FitsIn L (extended c.args.self.now c.args.extension.now)))
    (λ f. (f ≡ extended c.args.self.now c.args.extension.now) × FitsIn L (extended c.args.self.now c.args.extension.now))))
    c.written.ensures c.extended_within.ensures.found

pub returns-clause-limits : goal.returns-clause-limits
returns-clause-limits c = subst (λ (L : Limits). OnErr c.extended_within.result (FitsIn L (extended c.args.self.now c.args.extension.now))) c.written.ensures c.extended_within.ensures.limits

pub returns-clause-formula : goal.returns-clause-formula
returns-clause-formula c =
    subst (λ (L : Limits). FitsIn L (extended c.args.self.now c.args.extension.now) → IsFormula (extended c.args.self.now c.args.extension.now)) c.written.ensures c.extended_within.ensures.formula
