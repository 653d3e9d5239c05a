use Rattle.std.proofs.Common.{◌≡◌, subst, sym}
use Rattle.dimacs.specs.logic.Cnf.{Cnf, FitsIn}
use Rattle.dimacs.specs.logic.Extension.{extended}
use Rattle.dimacs.specs.logic.Limits.{written}
use Rattle.lrat_check.specs.Verdicts.{Right}
use Rattle.evidence.proofs.KeptVerdictLemmas.{of_some, stays_right}
use Rattle.evidence.proofs.kept_verdict.grow.Goals as goal

pub returns-clause-kept : goal.returns-clause-kept
returns-clause-kept c =
    let F : Cnf = extended c.args.formula.now c.args.extension.now in
    let found : (c.in-Some.grown ≡ F) × FitsIn written F = of_some (¬ (FitsIn written F)) (λ f. (f ≡ F) × FitsIn written F) c.in_ok-grown.field-0 c.in-Some.grown c.in-Some.is c.in_ok-grown.ensures.found in
    record { formula = found.0; limits = c.extended.ensures.formula found.1; fits = found.1; stays = c.in_ok-verdict.ensures }

pub returns-clause-right : goal.returns-clause-right
returns-clause-right c =
    let F : Cnf = extended c.args.formula.now c.args.extension.now in
    let found : (c.in-Some.grown ≡ F) × FitsIn written F = of_some (¬ (FitsIn written F)) (λ f. (f ≡ F) × FitsIn written F) c.in_ok-grown.field-0 c.in-Some.grown c.in-Some.is c.in_ok-grown.ensures.found in
    subst (λ (G : Cnf). Right G c.in_ok-verdict.verdict) (sym found.0) (stays_right c.args.formula.now c.args.extension.now c.args.verdict.now c.in_ok-verdict.verdict c.requires c.in_ok-verdict.ensures)
