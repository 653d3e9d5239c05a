use Rattle.std.proofs.Common.{refl, sym, subst}
use Rattle.lrat_check.specs.Logs.{LogState, HoldsFormula}
use Rattle.lrat_check.proofs.Behind.{cleared}
use Rattle.lrat_check.proofs.log_checker.LogChecker.begin.Goals as goal

pub returns-clause-begun : goal.returns-clause-begun
returns-clause-begun c = λ F h.
    cleared F _ _ (subst (λ (s : LogState). HoldsFormula F s) (sym c.self.view_is) h) c.begin.ensures.base c.begin.ensures.top refl c.begin.ensures.cut refl c.begin.ensures.behind
