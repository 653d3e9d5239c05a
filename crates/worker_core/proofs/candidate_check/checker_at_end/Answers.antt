use Rattle.std.proofs.Common.{◌≡◌, [], length, Some, arith}
use Rattle.std.proofs.lemmas.Result.{IfOk-weaker}
use Rattle.dimacs.specs.logic.Cnf.{Cnf}
use Rattle.lrat_check.specs.Stream.{HasTaken}
use Rattle.worker_core.specs.inner.Invariant.{HasTakenPrefix}
use Rattle.worker_core.proofs.ProofCheckerLemmas.{follows_longer}
use Rattle.worker_core.proofs.candidate_check.checker_at_end.Goals as goal

pub caught_up-requires : goal.caught_up-requires
caught_up-requires c = (c.args.formula.now, c.requires)

pub catch_up-requires : goal.catch_up-requires
catch_up-requires c = let begun : HasTakenPrefix c.args.formula.now c.in_ok-new.field-0 [] = c.in_ok-new.ensures in omega (arith, begun.within)

pub returns : goal.returns
returns c =
    let F = c.args.formula.now in
    let text = c.args.text.now in
    let begun : HasTakenPrefix F c.in_ok-new.field-0 [] = c.in_ok-new.ensures in
    IfOk-weaker c.catch_up.result (λ f. (f.taken ≡ length text) × ((G : Cnf) → HasTakenPrefix G c.in_ok-new.field-0 text → HasTaken G f.stream text))
    (λ f. HasTaken F f.stream text) (λ f taken. taken.1 F (follows_longer F (Some c.in_ok-new.field-0) [] text begun)) c.catch_up.ensures
