use Rattle.std.proofs.Common.{ap, refl}
use Rattle.std.proofs.lemmas.Result.{err_from_is_err_and}
use Rattle.lrat_check.specs.Logs.{LogState}
use Rattle.lrat_check.proofs.Cuts.{uncut}
use Rattle.lrat_check.proofs.log_checker.LogChecker.take.Goals as goal

-- the line's number has no room
pub returns-in_err-next-clause-cut : goal.returns-in_err-next-clause-cut
returns-in_err-next-clause-cut c =
    let is = c.self.view_is in
    let p = err_from_is_err_and c.from_residual.result c.from_residual.ensures.1 in
    rw p.1 (uncut _ _ (ap (λ (s : LogState). s.base) is) (ap (λ (s : LogState). s.top) is) (ap (λ (s : LogState). s.line) is) (ap (λ (s : LogState). s.most) is) refl (ap (λ (s : LogState). s.live) is))
