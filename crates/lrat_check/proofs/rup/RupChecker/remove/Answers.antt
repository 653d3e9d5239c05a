use Rattle.std.proofs.Common.{sym, subst}
use Rattle.std.specs.Vec.{vec_len}
use Rattle.dimacs.specs.logic.ClauseMap.{ClauseMap}
use Rattle.lrat_check.specs.inner.LiteralTable.{AllFit}
use Rattle.lrat_check.proofs.Tables.{AllFit-remove}
use Rattle.lrat_check.proofs.rup.RupChecker.remove.Goals as goal

pub invariant_of-self : goal.invariant_of-self
invariant_of-self c =
    subst (λ (M : ClauseMap). AllFit (vec_len c.self.inside.marks.table) M) (sym c.remove.ensures.after)
    (AllFit-remove (vec_len c.self.inside.marks.table) c.self.inside.clauses c.args.number c.self.invariant)
