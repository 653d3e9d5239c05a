use Rattle.std.proofs.Common.{[], arith}
use Rattle.std.proofs.lemmas.Result.{err_from_is_err_and}
use Rattle.lrat_trim.specs.TrimmedProof.{HasTaken, Trims}
use Rattle.lrat_trim.proofs.FeedLemmas.{trims_ok, trims_accepted, trims_complete, trims_err, piece_fault, no_fault}
use Rattle.lrat_trim.proofs.trimmer.trim.Goals as goal

pub returns-clause-trims : goal.returns-clause-trims
returns-clause-trims c =
    let F = c.args.formula in
    let proof = c.args.proof.now in
    trims_ok F proof c.finish.result (c.finish.ensures F proof (c.feed.ensures.taken F [] c.in_ok-trimming.ensures))

pub returns-clause-accepted : goal.returns-clause-accepted
returns-clause-accepted c =
    let F = c.args.formula in
    let proof = c.args.proof.now in
    trims_accepted F proof c.finish.result (c.finish.ensures F proof (c.feed.ensures.taken F [] c.in_ok-trimming.ensures))

pub returns-clause-complete : goal.returns-clause-complete
returns-clause-complete c =
    let F = c.args.formula in
    let proof = c.args.proof.now in
    trims_complete F proof c.finish.result (c.proof_fault_is_exact.ensures.none F proof (omega (arith, c.vars.ensures.valid.vars))) (c.finish.ensures F proof (c.feed.ensures.taken F [] c.in_ok-trimming.ensures))

pub returns-clause-refused : goal.returns-clause-refused
returns-clause-refused c =
    let F = c.args.formula in
    let proof = c.args.proof.now in
    trims_err F proof c.finish.result (c.finish.ensures F proof (c.feed.ensures.taken F [] c.in_ok-trimming.ensures))

pub returns-in_err-feed-clause-complete : goal.returns-in_err-feed-clause-complete
returns-in_err-feed-clause-complete c =
    let p = err_from_is_err_and c.from_residual-in_err-feed.result c.from_residual-in_err-feed.ensures.1 in
    rw (p.1, p.2) (λ accepts.
    let F = c.args.formula in
    let proof = c.args.proof.now in
    no_fault F proof c.in_err-feed.field-0.0 (c.proof_fault_is_exact.ensures.none F proof (omega (arith, c.vars.ensures.valid.vars))) accepts
    (piece_fault F proof c.feed.new.self c.in_err-feed.field-0.0 (c.feed.ensures.taken F [] c.in_ok-trimming.ensures) c.in_err-feed.ensures.answers))

pub returns-in_err-feed-clause-refused : goal.returns-in_err-feed-clause-refused
returns-in_err-feed-clause-refused c =
    let F = c.args.formula in
    let proof = c.args.proof.now in
    let p = err_from_is_err_and c.from_residual-in_err-feed.result c.from_residual-in_err-feed.ensures.1 in
    rw (p.1, p.2) (piece_fault F proof c.feed.new.self c.in_err-feed.field-0.0 (c.feed.ensures.taken F [] c.in_ok-trimming.ensures) c.in_err-feed.ensures.answers)
