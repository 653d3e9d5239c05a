use Rattle.lrat_text.specs.Proof.{Accepts}
use Rattle.lrat_check.specs.ProofFaults.{check_of}
use Rattle.lrat_check.proofs.Lines.{checked_accepted, accepted_checked}
use Rattle.lrat_check.proofs.Passing.{given_ok, given_complete}
use Rattle.lrat_check.proofs.Streams.{finished}
use Rattle.worker_core.proofs.candidate_check.check_proof.Goals as goal

pub returns-clause-accepted : goal.returns-clause-accepted
returns-clause-accepted c =
    let F = c.args.formula.now in
    let text = c.args.text.now in
    given_ok c.finish.result (check_of F text) (Accepts F text)
    (finished F c.in_ok-checker.checker.stream text c.finish.result c.in_ok-checker.ensures c.finish.ensures)
    (checked_accepted c.reading_within_is_spelling.ensures.found c.reading_within_is_spelling.ensures.only F text)

pub returns-clause-complete : goal.returns-clause-complete
returns-clause-complete c = λ accepts.
    let F = c.args.formula.now in
    let text = c.args.text.now in
    given_complete c.finish.result (check_of F text)
    (finished F c.in_ok-checker.checker.stream text c.finish.result c.in_ok-checker.ensures c.finish.ensures)
    (accepted_checked c.reading_within_is_spelling.ensures.found c.reading_within_is_spelling.ensures.only F text (c.vars.ensures.valid).vars accepts)
